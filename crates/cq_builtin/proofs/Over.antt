-- What is offered over new variables, and what grows with them.
use Rattle.std.proofs.Common.{◌≡◌, ℕ, zero, suc, ◌+◌, ◌-◌, ◌<◌, ◌≤◌, List, [], ◌∷◌, ◌++◌, map, length, take, Some, refl, ap, sym, ◌∙◌, append-nil, add-one, length-append, zero-add, arith}
use Rattle.std.specs.Prelude.{slice_get}
use Rattle.std.proofs.lemmas.Option.{same_Some}
use Rattle.std.proofs.lemmas.List.{take_at}
use Rattle.std.proofs.lemmas.List.Elements.{All-same}
use Rattle.cq_term.specs.Names.{HasNamesBelow}
use Rattle.spec_numbers.specs.Texts.{Text}
use Rattle.spec_numbers.proofs.Prefixes.{prefix_same, prefix_both}
use Rattle.spec_terms.specs.Term.{Terms, Var, Number, Name, Compound, one, more, count, apply, named, named_all}
use Rattle.spec_terms.specs.Variables.{variables, numbered_from, renamed_from, counted_from}
use Rattle.spec_terms.specs.Unifier.{Equation}
use Rattle.spec_terms.proofs.Substitution.{apply-followed_by, apply_agree}
use Rattle.spec_syntax.specs.Trees.{Tree, natural}
use Rattle.spec_builtins.specs.Alternatives.{Solutions, ◌≐◌, one_way}
use Rattle.spec_builtins.specs.Terms.{functor_row}
use Rattle.cq_term.specs.HeapValue.{HeapValue}
use Rattle.cq_term.specs.HeapValue as heap
use Rattle.cq_term.specs.Meaning.{HeapTerm, at}
use Rattle.cq_term.specs.Shown.{view_of}
use Rattle.cq_term.specs.declared.view.View.TheVariants as view
use Rattle.cq_term.proofs.Kept.{get_last}
use Rattle.cq_unify.specs.Copied.{unbound_from}
use Rattle.cq_resolve.specs.Building.{moved_by}
use Rattle.cq_resolve.proofs.Renamed.{new_image}
use Rattle.cq_term.specs.declared.walk.pairs.Pair.{Pair}
use Rattle.cq_built.specs.Growing.{Grows}
use Rattle.cq_built.specs.Offered.{equation_of}
use Rattle.cq_builtin.specs.Over.{OffersOver, GrowsWithVariables}

-- ---- what grows

pub grows_alone : (texts : List Text) (old new : HeapValue) → Grows texts old texts new → GrowsWithVariables texts old new
grows_alone texts old new g = record {
  terms = g.terms;
  images = prefix_same old.now.images new.now.images g.images;
  names = g.names;
  saved = g.saved;
  room = g.room;
}

pub grows_then : (texts : List Text) (g h k : HeapValue) → GrowsWithVariables texts g h → GrowsWithVariables texts h k → GrowsWithVariables texts g k
grows_then texts g h k p q = record {
  terms = prefix_both g.now.terms h.now.terms k.now.terms p.terms q.terms;
  images = prefix_both g.now.images h.now.images k.now.images p.images q.images;
  names = λ all. q.names (p.names all);
  saved = q.saved ∙ p.saved;
  room = omega (arith, p.room, q.room);
}

module _ (texts : List Text) (old marked grown undone : HeapValue) (m : ℕ) (number : m ≡ length old.saved) (saved : marked.saved ≡ old.saved ++ old.now ∷ [])
    (room : old.room ≤ marked.room + 1) (grows : GrowsWithVariables texts marked grown) (back : slice_get grown.saved m ≡ Some undone.now)
    (rest : undone.saved ≡ take m grown.saved) (room_back : grown.room + (length grown.saved - m) ≤ undone.room) where
  pub undone_now : undone.now ≡ old.now
  undone_now =
      same_Some undone.now old.now
      (sym back ∙ ap (λ l. slice_get l m) (grows.saved ∙ saved) ∙ ap (slice_get (old.saved ++ old.now ∷ [])) number ∙ get_last old.saved old.now)

  pub undone_grows : GrowsWithVariables texts old undone
  undone_grows = record {
    terms = prefix_same old.now.terms undone.now.terms (ap (λ t. t.terms) undone_now);
    images = prefix_same old.now.images undone.now.images (ap (λ t. t.images) undone_now);
    names = λ all. All-same (HasNamesBelow (length texts)) undone.now.terms old.now.terms (ap (λ t. t.terms) undone_now) all;
    saved = rest ∙ ap (take m) (grows.saved ∙ saved) ∙ take_at old.saved (old.now ∷ []) m (sym number);
    room = omega (arith, room, grows.room, room_back, number, ap length (grows.saved ∙ saved), length-append old.saved (old.now ∷ []));
  }

-- ---- what is offered

pub offers_alone : (texts : List Text) (old new : heap.Terms) (s : Solutions) (pairs : List Pair) (es : List (Equation Text)) → s ≡ one_way es → map (equation_of texts new.terms) pairs ≡ es → new.images ≡ old.images →
    OffersOver texts old new s pairs
offers_alone texts old new s pairs es row same images = record {
  count = 0;
  offered = row ∙ ap one_way (sym same);
  images = images ∙ sym (append-nil old.images);
}

-- ---- functor
module _ (g : ℕ → Text) where
  count-named_all : (ts : Terms ℕ) → count (named_all g ts) ≡ count ts
  count-named_all (one t) = refl
  count-named_all (more t ts) = ap suc (count-named_all ts)

  pub functor-compound : (t : HeapTerm) (f k fresh : ℕ) (n a : Tree) → view_of t ≡ view.Compound f k → functor_row fresh (named g t) n a ≡ one_way ((n ≐ Name (g f)) ∷ (a ≐ natural k) ∷ [])
  functor-compound (Var v) f k fresh n a e = cc
  functor-compound (Number q) f k fresh n a e = cc
  functor-compound (Name b) f k fresh n a e = cc
  functor-compound (Compound h ts) f k fresh n a e =
      let name : h ≡ f = cc in
      let size : count ts ≡ k = cc in
      λ i. one_way ((n ≐ Name (g (name i))) ∷ (a ≐ natural ((count-named_all ts ∙ size) i)) ∷ [])

  pub named-variables : (vs : List ℕ) → map (named g) (map Var vs) ≡ map Var vs
  named-variables [] = refl
  named-variables (v ∷ vs) = ap (λ (ts : List Tree). Var v ∷ ts) (named-variables vs)

-- ---- new variables

map_counted : (f g : ℕ → HeapTerm) (n k : ℕ) → ((j : ℕ) → j < k → f (n + j) ≡ g (n + j)) → map f (counted_from n k) ≡ map g (counted_from n k)
map_counted f g n zero h = refl
map_counted f g n (suc k) h =
    let here : n + 0 ≡ n = omega arith in
    let first : f n ≡ g n = ap f (sym here) ∙ h 0 (omega arith) ∙ ap g here in
    λ i. first i ∷ map_counted f g (suc n) k (λ j lt. (let next : suc n + j ≡ n + suc j = omega arith in ap f next ∙ h (suc j) (omega arith) ∙ ap g (sym next))) i

pub counted_more : (n k : ℕ) → counted_from n (k + 1) ≡ counted_from n k ++ (n + k) ∷ []
counted_more n k = ap (counted_from n) (add-one k) ∙ more n k
  where
    more : (n k : ℕ) → counted_from n (suc k) ≡ counted_from n k ++ (n + k) ∷ []
    more n zero = (let here : n ≡ n + 0 = omega arith in ap (λ m. m ∷ []) here)
    more n (suc k) = (let next : suc n + k ≡ n + suc k = omega arith in ap (λ ms. n ∷ ms) (more (suc n) k ∙ ap (λ m. counted_from (suc n) k ++ m ∷ []) next))

pub variables_there : (older images : List HeapTerm) (first count : ℕ) → images ≡ older ++ unbound_from (length older) count → (0 < count → first ≡ length older) → map (at images) (counted_from first count) ≡ map Var (counted_from (length older) count)
variables_there older images first zero e begins = refl
variables_there older images first (suc k) e begins =
    ap (λ n. map (at images) (counted_from n (suc k))) (begins (omega arith))
    ∙ map_counted (at images) Var (length older) (suc k) (λ j lt. new_image older images (suc k) j e lt)

-- ---- copies

pub renamed_moved : (n : ℕ) (t : HeapTerm) → apply (moved_by n) (renamed_from 0 t) ≡ renamed_from n t
renamed_moved n t =
    sym (apply-followed_by (numbered_from 0 (variables t)) (moved_by n) t)
    ∙ apply_agree _ (numbered_from n (variables t)) t (λ v o. ap (λ k. Var (n + k)) (zero-add _))
