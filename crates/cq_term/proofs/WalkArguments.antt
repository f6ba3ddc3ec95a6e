-- The arguments of a compound that come to the end of a list of work, in place of the compound.
use Rattle.std.proofs.Common.{◌≡◌, ℕ, zero, suc, ◌+◌, ◌<◌, List, [], ◌∷◌, ◌++◌, length, map, reverse, drop, get_or, Some, ap, sym, ◌∙◌, arith, append_assoc}
use Rattle.std.specs.Prelude.{All, slice_get}
use Rattle.std.specs.List.{sum_by}
use Rattle.std.proofs.lemmas.List.{length-map, map-append, reverse-append}
use Rattle.std.proofs.lemmas.Option.{none-some, same_Some}
use Rattle.std.proofs.lemmas.List.Elements.{All-push, All-append, All-same}
use Rattle.std.proofs.lemmas.List.Sums.{sum_by-append}
use Rattle.spec_terms.specs.Term.{Terms, Var, Number, Name, Compound, one, more, size, total_size, list_of}
use Rattle.spec_terms.proofs.Substitution.{size_positive}
use Rattle.cq_term.specs.Meaning.{HeapTerm, at}
use Rattle.cq_term.specs.Shown.{view_of, arguments}
use Rattle.cq_term.specs.declared.view.View.TheVariants as view
use Rattle.cq_term.proofs.Kept.{arg_is}
use Rattle.cq_term.specs.Arguments.{PushesArguments}

-- ---- how much there is to visit
sizes-reverse : (us : Terms ℕ) → sum_by size (reverse (list_of us)) ≡ total_size us
sizes-reverse (one t) = omega arith
sizes-reverse (more t us) = omega (arith, ap (sum_by size) (reverse-append (t ∷ []) (list_of us)), sum_by-append size (reverse (list_of us)) (t ∷ []), sizes-reverse us)

pub sizes_arguments : (t : HeapTerm) (f n : ℕ) → view_of t ≡ view.Compound f n → sum_by size (reverse (arguments t)) < size t
sizes_arguments (Var v) f n e = cc
sizes_arguments (Number q) f n e = cc
sizes_arguments (Name a) f n e = cc
sizes_arguments (Compound g us) f n e = omega (arith, sizes-reverse us)

-- ---- the last id is taken off, and its arguments are added
pub terms_pop : (ts : List HeapTerm) (old work : List ℕ) (id : ℕ) → old ≡ work ++ id ∷ [] → map (at ts) old ≡ map (at ts) work ++ at ts id ∷ []
terms_pop ts old work id e = ap (map (at ts)) e ∙ map-append (at ts) work (id ∷ [])

pub terms_push : (ts : List HeapTerm) (t : HeapTerm) (work new : List ℕ) → PushesArguments ts t 0 work new → map (at ts) new ≡ map (at ts) work ++ reverse (arguments t)
terms_push ts t work new p = ap (map (at ts)) p.1 ∙ map-append (at ts) work p.0 ∙ ap (λ us. map (at ts) work ++ us) p.2.terms

pub live_push : (ts : List HeapTerm) (t : HeapTerm) (work new : List ℕ) → All (λ id. id < length ts) work → PushesArguments ts t 0 work new → All (λ id. id < length ts) new
live_push ts t work new live p = All-same (λ id. id < length ts) new (work ++ p.0) p.1 (All-append (λ id. id < length ts) work p.0 live p.2.live)

pub sizes_pop : (ts : List HeapTerm) (old work : List ℕ) (id : ℕ) → old ≡ work ++ id ∷ [] → sum_by size (map (at ts) work) < sum_by size (map (at ts) old)
sizes_pop ts old work id e =
    omega (arith, ap (sum_by size) (terms_pop ts old work id e), sum_by-append size (map (at ts) work) (at ts id ∷ []), size_positive (at ts id))

pub sizes_push : (ts : List HeapTerm) (old work new : List ℕ) (id f n : ℕ) → old ≡ work ++ id ∷ [] → view_of (at ts id) ≡ view.Compound f n → PushesArguments ts (at ts id) 0 work new →
    sum_by size (map (at ts) new) < sum_by size (map (at ts) old)
sizes_push ts old work new id f n e shown p =
    let more : sum_by size (map (at ts) new) ≡ sum_by size (map (at ts) work) + sum_by size (reverse (arguments (at ts id))) =
    ap (sum_by size) (terms_push ts (at ts id) work new p)
    ∙ sum_by-append size (map (at ts) work) (reverse (arguments (at ts id))) in
    let less : sum_by size (map (at ts) old) ≡ sum_by size (map (at ts) work) + (0 + size (at ts id)) =
    ap (sum_by size) (terms_pop ts old work id e)
    ∙ sum_by-append size (map (at ts) work) (at ts id ∷ []) in
    omega (arith, more, less, sizes_arguments (at ts id) f n shown)

-- ---- an id that is read from those of all arguments
module _ (ts us : List HeapTerm) (ids : List ℕ) (n j id : ℕ) (all : map (at ts) ids ≡ us) (count : length us ≡ n) (lt : j < n) (is : id ≡ get_or ids j id) where
  within : j < length ids
  within = omega (arith, lt, count, ap length all, length-map ids (at ts))

  pub argument_at : slice_get us j ≡ Some (at ts id)
  argument_at = arg_is ts us ids j id (sym all) within is

  pub live_at : All (λ k. k < length ts) ids → id < length ts
  live_at live = omega (arith, live j id within, is)

-- ---- one more argument on the list
drop_get : {A : Type 0} (xs : List A) (j : ℕ) (x : A) → slice_get xs j ≡ Some x → drop j xs ≡ x ∷ drop (suc j) xs
drop_get [] j x e = absurd (none-some x e)
drop_get (y ∷ xs) zero x e = ap (λ z. z ∷ xs) (same_Some y x e)
drop_get (y ∷ xs) (suc j) x e = drop_get xs j x e

pub pushes_more : (ts : List HeapTerm) (t : HeapTerm) (i j : ℕ) (old work new : List ℕ) (id : ℕ) → i ≡ suc j → PushesArguments ts t i old work → id < length ts → slice_get (arguments t) j ≡ Some (at ts id) → new ≡ work ++ id ∷ [] → PushesArguments ts t j old new
pushes_more ts t i j old work new id e p live is n = (
  p.0 ++ id ∷ [],
  n ∙ ap (λ ids. ids ++ id ∷ []) p.1 ∙ append_assoc old p.0 (id ∷ []),
  record {
    live = All-push (λ k. k < length ts) p.0 id p.2.live live;
    terms = map-append (at ts) p.0 (id ∷ [])
        ∙ ap (λ us. us ++ at ts id ∷ []) (p.2.terms ∙ ap (λ k. reverse (drop k (arguments t))) e)
        ∙ sym (reverse-append (at ts id ∷ []) (drop (suc j) (arguments t))) ∙ ap reverse (sym (drop_get (arguments t) j (at ts id) is));
  },
)
