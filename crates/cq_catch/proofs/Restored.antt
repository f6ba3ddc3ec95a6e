-- Copies that are put on a heap under new variables, one after another.
use Rattle.std.proofs.Common.{◌≡◌, ◌<◌, ◌+◌, ℕ, zero, suc, List, [], ◌∷◌, ◌++◌, length, map, refl, sym, ap, ap₂, ◌∙◌, arith, append_assoc}
use Rattle.std.specs.Prelude.{All}
use Rattle.std.proofs.lemmas.List.{map-append}
use Rattle.std.proofs.lemmas.List.Elements.{All-head, All-tail, All-push}
use Rattle.spec_numbers.specs.Prefixes.{IsPrefix}
use Rattle.spec_numbers.proofs.Prefixes.{prefix_get_or, prefix_all_within}
use Rattle.spec_numbers.specs.Texts.{Text}
use Rattle.spec_terms.specs.Term.{Var, apply, named}
use Rattle.spec_terms.specs.Variables.{variables, counted_from}
use Rattle.spec_syntax.specs.Trees.{Tree}
use Rattle.cq_term.specs.Texts.{text_of}
use Rattle.cq_resolve.specs.Building.{moved_by}
use Rattle.cq_resolve.specs.StoredValue.{StoredValue}
use Rattle.cq_term.specs.HeapValue.{Terms}
use Rattle.cq_term.specs.Meaning.{HeapTerm, at, blank}
use Rattle.cq_term.specs.Trees.{tree, trees}
use Rattle.cq_unify.specs.Copied.{unbound_from}
use Rattle.cq_unify.proofs.Places.{variables_now}
use Rattle.spec_engine.specs.Trying.{moved_on, placed, variables_of}
use Rattle.cq_branch.specs.Stored.{IsCountedTerm, stored_tree, stored_trees}
use Rattle.cq_catch.proofs.Moved.{moved_named, count_is}

-- ---- lists with one more behind

variables_of-push : (ts : List Tree) (t : Tree) → variables_of (ts ++ t ∷ []) ≡ variables_of ts + length (variables t)
variables_of-push [] t = omega arith
variables_of-push (u ∷ ts) t = omega (arith, variables_of-push ts t)

placed-push : (n : ℕ) (ts : List Tree) (t : Tree) → placed n (ts ++ t ∷ []) ≡ placed n ts ++ apply (moved_on (n + variables_of ts)) t ∷ []
placed-push n [] t = (let e : n ≡ n + 0 = omega arith in ap (λ (m : ℕ). apply (moved_on m) t ∷ []) e)
placed-push n (u ∷ ts) t =
    let k = length (variables u) in
    let e : n + k + variables_of ts ≡ n + (k + variables_of ts) = omega arith in
    ap (λ (us : List Tree). apply (moved_on n) u ∷ us) (placed-push (n + k) ts t ∙ ap (λ (m : ℕ). placed (n + k) ts ++ apply (moved_on m) t ∷ []) e)

counted-append : (n a b : ℕ) → counted_from n a ++ counted_from (n + a) b ≡ counted_from n (a + b)
counted-append n zero b = (let e : n + 0 ≡ n = omega arith in let f : b ≡ 0 + b = omega arith in ap (λ (m : ℕ). counted_from m b) e ∙ ap (counted_from n) f)
counted-append n (suc a) b =
    let e : n + suc a ≡ suc n + a = omega arith in
    let f : suc (a + b) ≡ suc a + b = omega arith in
    ap (λ (m : ℕ). n ∷ (counted_from (suc n) a ++ counted_from m b)) e ∙ ap (λ (vs : List ℕ). n ∷ vs) (counted-append (suc n) a b) ∙ ap (counted_from n) f

unbound-append : (n a b : ℕ) → unbound_from n a ++ unbound_from (n + a) b ≡ unbound_from n (a + b)
unbound-append n a b =
    let f : ℕ → HeapTerm = λ v. Var v in
    sym (map-append f (counted_from n a) (counted_from (n + a) b)) ∙ ap (λ (vs : List ℕ). map f vs) (counted-append n a b)

-- ---- one more copy

module _ (texts : List Text) (start old new : Terms) (ids : List ℕ) (id : ℕ) (done : List StoredValue) (s : StoredValue) (counted : IsCountedTerm (length texts) s) where
  abbrev so_many : ℕ
  so_many = variables_of (stored_trees texts done)

  stored-push : stored_trees texts (done ++ s ∷ []) ≡ stored_trees texts done ++ stored_tree texts s ∷ []
  stored-push = map-append (stored_tree texts) done (s ∷ [])

  module _ (images : old.images ≡ start.images ++ unbound_from (length start.images) so_many) where
    many : length old.images ≡ length start.images + so_many
    many = variables_now start.images old.images so_many images

    pub images_more : new.images ≡ old.images ++ unbound_from (length old.images) s.variables
        → new.images ≡ start.images ++ unbound_from (length start.images) (variables_of (stored_trees texts (done ++ s ∷ [])))
    images_more e =
        let n = length start.images in
        let all : so_many + s.variables ≡ variables_of (stored_trees texts (done ++ s ∷ [])) =
        omega (arith, ap variables_of stored-push, variables_of-push (stored_trees texts done) (stored_tree texts s), count_is texts (length texts) s counted) in
        e ∙ ap₂ (λ (xs : List HeapTerm) (m : ℕ). xs ++ unbound_from m s.variables) images many
        ∙ append_assoc start.images (unbound_from n so_many) (unbound_from (n + so_many) s.variables)
        ∙ ap (λ (xs : List HeapTerm). start.images ++ xs) (unbound-append n so_many s.variables)
        ∙ ap (λ (m : ℕ). start.images ++ unbound_from n m) all

    module _ (terms : IsPrefix old.terms new.terms) (live : All (λ (i : ℕ). i < length old.terms) ids) where
      trees_same : (is : List ℕ) → All (λ (i : ℕ). i < length old.terms) is → trees texts new.terms is ≡ trees texts old.terms is
      trees_same [] l = refl
      trees_same (i ∷ is) l =
          ap₂ (λ (t : Tree) (ts : List Tree). t ∷ ts)
          (ap (named (text_of texts)) (prefix_get_or old.terms new.terms i blank terms (All-head (λ (j : ℕ). j < length old.terms) i is l)))
          (trees_same is (All-tail (λ (j : ℕ). j < length old.terms) i is l))

      pub placed_more : at new.terms id ≡ apply (moved_by (length old.images)) s.term
          → trees texts old.terms ids ≡ placed (length start.images) (stored_trees texts done)
          → trees texts new.terms (ids ++ id ∷ []) ≡ placed (length start.images) (stored_trees texts (done ++ s ∷ []))
      placed_more moved before =
          let n = length start.images in
          let last : tree texts new.terms id ≡ apply (moved_on (n + so_many)) (stored_tree texts s) =
          ap (named (text_of texts)) moved ∙ moved_named (text_of texts) (length old.images) s.term
          ∙ ap (λ (m : ℕ). apply (moved_on m) (stored_tree texts s)) many in
          map-append (tree texts new.terms) ids (id ∷ [])
          ∙ ap₂ (λ (ts : List Tree) (t : Tree). ts ++ t ∷ []) (trees_same ids live ∙ before) last
          ∙ sym (placed-push n (stored_trees texts done) (stored_tree texts s)) ∙ ap (placed n) (sym stored-push)

-- the older ids are of terms on
pub live_more : (old new : List HeapTerm) (ids : List ℕ) (id : ℕ) → IsPrefix old new → All (λ (i : ℕ). i < length old) ids → id < length new
    → All (λ (i : ℕ). i < length new) (ids ++ id ∷ [])
live_more old new ids id p live l =
    All-push (λ (i : ℕ). i < length new) ids id
    (prefix_all_within old new ids p live) l
