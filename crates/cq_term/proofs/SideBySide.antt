-- Pairs of terms that come to the end of a list and are taken from there.
use Rattle.std.proofs.Common.{◌≡◌, ℕ, zero, suc, ◌+◌, ◌<◌, ◌≤◌, List, [], ◌∷◌, ◌++◌, length, reverse, drop, Some, refl, ap, sym, ◌∙◌, arith, append_assoc, append-nil}
use Rattle.std.specs.Prelude.{All, slice_get}
use Rattle.std.proofs.lemmas.List.{map-append, reverse-append}
use Rattle.std.proofs.lemmas.Option.{none-some, same_Some}
use Rattle.std.proofs.lemmas.List.Elements.{All-push, All-append, All-same, All-pop}
use Rattle.spec_terms.specs.Term.{Terms, Var, Number, Name, Compound, one, more, list_of, size, total_size}
use Rattle.spec_terms.specs.Unifier.{Equation}
use Rattle.spec_terms.proofs.Substitution.{size_positive}
use Rattle.cq_term.specs.Meaning.{HeapTerm, at}
use Rattle.cq_term.specs.Shown.{view_of, arguments}
use Rattle.cq_term.specs.declared.view.View.TheVariants as view
use Rattle.cq_term.specs.Pairs.{IsLive, equation_of, equations, pairwise, PushesPairs}
use Rattle.cq_term.specs.declared.walk.pairs.Pair.{Pair}

-- ---- how much there is to look at
abbrev pub left_sizes : List (Equation ℕ) → ℕ
left_sizes [] = 0
left_sizes (e ∷ es) = size e.left + left_sizes es

abbrev pub weight : List HeapTerm → List Pair → ℕ
weight ts ps = left_sizes (equations ts ps)

left_sizes-append : (ds es : List (Equation ℕ)) → left_sizes (ds ++ es) ≡ left_sizes ds + left_sizes es
left_sizes-append [] es = omega arith
left_sizes-append (d ∷ ds) es = omega (arith, left_sizes-append ds es)

left_sizes-reverse : (es : List (Equation ℕ)) → left_sizes (reverse es) ≡ left_sizes es
left_sizes-reverse [] = refl
left_sizes-reverse (e ∷ es) = omega (arith, ap left_sizes (reverse-append (e ∷ []) es), left_sizes-append (reverse es) (e ∷ []), left_sizes-reverse es)

left_sizes-pairwise : (ts : Terms ℕ) (us : List HeapTerm) → left_sizes (pairwise (list_of ts) us) ≤ total_size ts
left_sizes-pairwise (one t) [] = omega arith
left_sizes-pairwise (one t) (u ∷ us) = omega arith
left_sizes-pairwise (more t ts) [] = omega arith
left_sizes-pairwise (more t ts) (u ∷ us) = omega (arith, left_sizes-pairwise ts us)

left_sizes_arguments : (t u : HeapTerm) (f n : ℕ) → view_of t ≡ view.Compound f n → left_sizes (reverse (pairwise (arguments t) (arguments u))) < size t
left_sizes_arguments (Compound g ts) u f n e = omega (arith, left_sizes-reverse (pairwise (list_of ts) (arguments u)), left_sizes-pairwise ts (arguments u))
left_sizes_arguments (Var x) u f n e = cc
left_sizes_arguments (Number x) u f n e = cc
left_sizes_arguments (Name x) u f n e = cc

-- ---- one pair, a pair that is taken off, and pairs that are added
pub live_one : (ts : List HeapTerm) (p : Pair) → IsLive ts p → All (IsLive ts) (p ∷ [])
live_one ts p h zero d lt = h
live_one ts p h (suc k) d lt = absurd (omega arith)

module _ (ts : List HeapTerm) (old work : List Pair) (p : Pair) (is : old ≡ work ++ p ∷ []) where
  pub equations_pop : equations ts old ≡ equations ts work ++ equation_of ts p ∷ []
  equations_pop = ap (equations ts) is ∙ map-append (equation_of ts) work (p ∷ [])

  weight_pop : weight ts old ≡ weight ts work + size (at ts p.left)
  weight_pop = omega (arith, ap left_sizes equations_pop, left_sizes-append (equations ts work) (equation_of ts p ∷ []))

  pub pop_less : weight ts work < weight ts old
  pop_less = omega (arith, weight_pop, size_positive (at ts p.left))

  pub live_pop : All (IsLive ts) old → All (IsLive ts) work × IsLive ts p
  live_pop live = All-pop (IsLive ts) old work (Some p) is live

  module _ (new : List Pair) (pushes : PushesPairs ts p.left p.right 0 work new) where
    abbrev added : List (Equation ℕ)
    added = pairwise (arguments (at ts p.left)) (arguments (at ts p.right))

    pub equations_push : equations ts new ≡ equations ts work ++ reverse (pairwise (arguments (at ts p.left)) (arguments (at ts p.right)))
    equations_push = ap (equations ts) pushes.pushed ∙ map-append (equation_of ts) work pushes.pairs ∙ ap (λ es. equations ts work ++ es) pushes.equal

    pub live_push : All (IsLive ts) work → All (IsLive ts) new
    live_push live = All-same (IsLive ts) new (work ++ pushes.pairs) pushes.pushed (All-append (IsLive ts) work pushes.pairs live pushes.live)

    pub push_less : (f n : ℕ) → view_of (at ts p.left) ≡ view.Compound f n → weight ts new < weight ts old
    push_less f n e = omega (arith, weight_pop, ap left_sizes equations_push, left_sizes-append (equations ts work) (reverse added), left_sizes_arguments (at ts p.left) (at ts p.right) f n e)

-- ---- one more pair of arguments
drop_pairwise : (xs ys : List HeapTerm) (j : ℕ) (t u : HeapTerm) → slice_get xs j ≡ Some t → slice_get ys j ≡ Some u → drop j (pairwise xs ys) ≡ record { left = t; right = u } ∷ drop (suc j) (pairwise xs ys)
drop_pairwise [] ys j t u p q = absurd (none-some t p)
drop_pairwise (x ∷ xs) [] j t u p q = absurd (none-some u q)
drop_pairwise (x ∷ xs) (y ∷ ys) zero t u p q = (let e : x ≡ t = same_Some x t p in let d : y ≡ u = same_Some y u q in λ i. record { left = e i; right = d i } ∷ pairwise xs ys)
drop_pairwise (x ∷ xs) (y ∷ ys) (suc j) t u p q = drop_pairwise xs ys j t u p q

drop_past : (ts us : List HeapTerm) (i : ℕ) → length ts ≤ i → drop i (pairwise ts us) ≡ []
drop_past [] us zero h = refl
drop_past [] us (suc i) h = refl
drop_past (t ∷ ts) us zero h = absurd (omega arith)
drop_past (t ∷ ts) [] (suc i) h = refl
drop_past (t ∷ ts) (u ∷ us) (suc i) h = drop_past ts us i (omega arith)

module _ (ts : List HeapTerm) (a b : ℕ) where
  abbrev pairs_of : List (Equation ℕ)
  pairs_of = pairwise (arguments (at ts a)) (arguments (at ts b))

  pub pushes_none : (i : ℕ) (old : List Pair) → length (arguments (at ts a)) ≤ i → PushesPairs ts a b i old old
  pushes_none i old h = record {
    pairs = [];
    pushed = sym (append-nil old);
    live = λ k d lt. absurd (omega arith);
    equal = sym (ap reverse (drop_past (arguments (at ts a)) (arguments (at ts b)) i h));
  }

  pub pushes_more : (i j : ℕ) (old work new : List Pair) (p : Pair) → i ≡ suc j → PushesPairs ts a b i old work → IsLive ts p →
      slice_get (arguments (at ts a)) j ≡ Some (at ts p.left) → slice_get (arguments (at ts b)) j ≡ Some (at ts p.right) → new ≡ work ++ p ∷ [] → PushesPairs ts a b j old new
  pushes_more i j old work new p e h live left right n = record {
    pairs = h.pairs ++ p ∷ [];
    pushed = n ∙ ap (λ ps. ps ++ p ∷ []) h.pushed ∙ append_assoc old h.pairs (p ∷ []);
    live = All-push (IsLive ts) h.pairs p h.live live;
    equal = map-append (equation_of ts) h.pairs (p ∷ [])
        ∙ ap (λ es. es ++ equation_of ts p ∷ []) (h.equal ∙ ap (λ k. reverse (drop k pairs_of)) e)
        ∙ sym (reverse-append (equation_of ts p ∷ []) (drop (suc j) pairs_of))
        ∙ ap reverse (sym (drop_pairwise (arguments (at ts a)) (arguments (at ts b)) j (at ts p.left) (at ts p.right) left right));
  }
