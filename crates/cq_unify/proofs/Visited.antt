-- Compounds that were visited before. Each variable of theirs was met, or it stands on top of the work that is left: in a
-- term that is smaller than the compound, as are all terms that are visited before that one. So a compound that is on
-- top itself has no variable that was not met.
use Rattle.std.proofs.Common.{◌≡◌, ℕ, ◌+◌, ◌<◌, List, [], ◌∷◌, ◌++◌, map, reverse, length, get_or, ap, ◌∙◌, sym, subst, inl, inr, arith}
use Rattle.std.specs.Prelude.{All, Contains, ◌⊎◌, ⊤}
use Rattle.std.specs.List.{sum_by}
use Rattle.std.proofs.lemmas.List.Elements.{All-contains, All-push, All-same}
use Rattle.std.proofs.lemmas.List.Sums.{sum_by-append}
use Rattle.spec_terms.specs.Term.{size, Occurs}
use Rattle.cq_term.specs.Meaning.{HeapTerm, at}
use Rattle.cq_term.specs.Shown.{view_of, arguments}
use Rattle.cq_term.specs.declared.view.View.TheVariants as view
use Rattle.cq_term.specs.Arguments.{PushesArguments}
use Rattle.cq_term.specs.Visits.{Visits, VisitsArguments}
use Rattle.cq_term.specs.Ground.{IsGround}
use Rattle.cq_term.proofs.WalkArguments.{live_push, sizes_arguments, sizes_pop, sizes_push, terms_pop, terms_push}
use Rattle.cq_unify.specs.Listing.{variables_through}
use Rattle.cq_unify.proofs.Listing.{through_known, through_push}
use Rattle.cq_unify.proofs.Occurrences.{StandsAmong, among_arguments, Looks, looks_past, looks_push}

-- each of the terms has a size below n
abbrev pub AreBelow : ℕ → List HeapTerm → Type 0
AreBelow n [] = ⊤
AreBelow n (t ∷ ts) = (size t < n) × AreBelow n ts

-- the variable stands in a term that has, like all behind it, a size below n
abbrev pub StandsOnTop : ℕ → ℕ → List HeapTerm → Type 0
StandsOnTop v n [] = ⊥
StandsOnTop v n (t ∷ ts) = (Occurs v t × AreBelow n (t ∷ ts)) ⊎ StandsOnTop v n ts

below_total : (n : ℕ) (ts : List HeapTerm) → sum_by size ts < n → AreBelow n ts
below_total n [] lt = tt
below_total n (t ∷ ts) lt = (let both = sum_by-append size (t ∷ []) ts in (omega arith, below_total n ts (omega arith)))

below-append : (n : ℕ) (ts us : List HeapTerm) → AreBelow n ts → AreBelow n us → AreBelow n (ts ++ us)
below-append n [] us h k = k
below-append n (t ∷ ts) us h k = (h.0, below-append n ts us h.1 k)

below_pop : (n : ℕ) (ts : List HeapTerm) (t : HeapTerm) → AreBelow n (ts ++ t ∷ []) → AreBelow n ts × (size t < n)
below_pop n [] t h = (tt, h.0)
below_pop n (u ∷ ts) t h = (let k = below_pop n ts t h.1 in ((h.0, k.0), k.1))

top_pop : (v n : ℕ) (ts : List HeapTerm) (t : HeapTerm) → StandsOnTop v n (ts ++ t ∷ []) → (size t < n) × (StandsOnTop v n ts ⊎ Occurs v t)
top_pop v n [] t h = elim h [ inl a ↦ (a.1.0, inr a.0) | inr b ↦ absurd b ]
top_pop v n (u ∷ ts) t h = elim h [
  | inl a ↦ (let k = below_pop n ts t a.1.1 in (k.1, inl (inl (a.0, (a.1.0, k.0)))))
  | inr b ↦ (let k = top_pop v n ts t b in (k.0, elim k.1 [ inl c ↦ inl (inr c) | inr o ↦ inr o ]))
]

top_push : (v n : ℕ) (ts us : List HeapTerm) → StandsOnTop v n ts → AreBelow n us → StandsOnTop v n (ts ++ us)
top_push v n [] us h k = absurd h
top_push v n (t ∷ ts) us h k = elim h [
  | inl a ↦ inl (a.0, (a.1.0, below-append n ts us a.1.1 k))
  | inr b ↦ inr (top_push v n ts us b k)
]

top_among : (v n : ℕ) (us : List HeapTerm) → StandsAmong v us → AreBelow n us → StandsOnTop v n us
top_among v n [] h k = h
top_among v n (u ∷ us) h k = elim h [ inl a ↦ inl (a, k) | inr b ↦ inr (top_among v n us b k.1) ]

top_behind : (v n : ℕ) (ts us : List HeapTerm) → StandsOnTop v n us → StandsOnTop v n (ts ++ us)
top_behind v n [] us h = h
top_behind v n (t ∷ ts) us h = inr (top_behind v n ts us h)

-- ---- a term that was visited
abbrev pub IsVisited : Type 0 → ℕ → List HeapTerm → HeapTerm → Type 0
IsVisited met v work t = Occurs v t → met ⊎ StandsOnTop v (size t) work

visited_again : (met : Type 0) (v : ℕ) (work : List HeapTerm) (t : HeapTerm) → IsVisited met v (work ++ t ∷ []) t → Occurs v t → met
visited_again met v work t h o = elim (h o) [ inl m ↦ m | inr top ↦ (let less = (top_pop v (size t) work t top).0 in absurd (omega arith)) ]

visited_past : (met now : Type 0) (v : ℕ) (work : List HeapTerm) (t u : HeapTerm) → (met → now) → (Occurs v t → now) → IsVisited met v (work ++ t ∷ []) u → IsVisited now v work u
visited_past met now v work t u stays here h o = elim (h o) [
  | inl m ↦ inl (stays m)
  | inr top ↦ elim ((top_pop v (size u) work t top).1) [ inl k ↦ inr k | inr k ↦ inl (here k) ]
]

module _ (met : Type 0) (v : ℕ) (work : List HeapTerm) (t : HeapTerm) (f n : ℕ) (shown : view_of t ≡ view.Compound f n) where
  arguments_on_top : (k : ℕ) → size t < k + 1 → Occurs v t → StandsOnTop v k (work ++ reverse (arguments t))
  arguments_on_top k lt o =
      top_behind v k work (reverse (arguments t))
      (top_among v k (reverse (arguments t)) ((among_arguments v t f n shown).1 o) (below_total k (reverse (arguments t)) (omega (arith, sizes_arguments t f n shown))))

  visited_first : IsVisited met v (work ++ reverse (arguments t)) t
  visited_first o = inr (arguments_on_top (size t) (omega arith) o)

  visited_spread : (u : HeapTerm) → IsVisited met v (work ++ t ∷ []) u → IsVisited met v (work ++ reverse (arguments t)) u
  visited_spread u h o = elim (h o) [
    | inl m ↦ inl m
    | inr top ↦ (let k = top_pop v (size u) work t top in let less : size t < size u = k.0 in inr (elim k.1 [
      | inl c ↦ top_push v (size u) work (reverse (arguments t)) c (below_total (size u) (reverse (arguments t)) (omega (arith, sizes_arguments t f n shown)))
      | inr c ↦ arguments_on_top (size u) (omega arith) c
    ]))
  ]

-- ---- the ids that were recorded
abbrev pub AreVisited : List HeapTerm → Type 0 → ℕ → List ℕ → List ℕ → Type 0
AreVisited ts met v work known = All (λ (id : ℕ). IsVisited met v (map (at ts) work) (at ts id)) known

module _ (ts : List HeapTerm) (met : Type 0) (v : ℕ) (old work : List ℕ) (id : ℕ) (is : old ≡ work ++ id ∷ []) (before : Visits) (all : AreVisited ts met v old before.known) where
  read_pop : (u : HeapTerm) → IsVisited met v (map (at ts) old) u → IsVisited met v (map (at ts) work ++ at ts id ∷ []) u
  read_pop u h = subst (λ us. IsVisited met v us u) (terms_pop ts old work id is) h

  pub all_past : (now : Type 0) → (met → now) → (Occurs v (at ts id) → now) → AreVisited ts now v work before.known
  all_past now stays here k d lt = visited_past met now v (map (at ts) work) (at ts id) (at ts (get_or before.known k d)) stays here (read_pop (at ts (get_or before.known k d)) (all k d lt))

  pub met_before : IsGround (at ts id) ⊎ Contains before.known id → Occurs v (at ts id) → met
  met_before passed o = elim passed [
    | inl none ↦ absurd (none v o)
    | inr known ↦ visited_again met v (map (at ts) work) (at ts id) (read_pop (at ts id) (All-contains (λ (i : ℕ). IsVisited met v (map (at ts) old) (at ts i)) before.known id all known)) o
  ]

  module _ (f n : ℕ) (shown : view_of (at ts id) ≡ view.Compound f n) (new : List ℕ) where
    module _ (pushes : PushesArguments ts (at ts id) 0 work new) where
      read_push : (u : HeapTerm) → IsVisited met v (map (at ts) work ++ reverse (arguments (at ts id))) u → IsVisited met v (map (at ts) new) u
      read_push u h = subst (λ us. IsVisited met v us u) (sym (terms_push ts (at ts id) work new pushes)) h

      all_spread : AreVisited ts met v new before.known
      all_spread k d lt = read_push (at ts (get_or before.known k d)) (visited_spread met v (map (at ts) work) (at ts id) f n shown (at ts (get_or before.known k d)) (read_pop (at ts (get_or before.known k d)) (all k d lt)))

      all_record : AreVisited ts met v new (before.known ++ id ∷ [])
      all_record =
          All-push (λ (i : ℕ). IsVisited met v (map (at ts) new) (at ts i)) before.known id all_spread
          (read_push (at ts id) (visited_first met v (map (at ts) work) (at ts id) f n shown))

    pub all_visit : (after : Visits) → VisitsArguments ts id before after work new → AreVisited ts met v new after.known
    all_visit after visits = elim visits [
      | inl k ↦ subst (λ (ids : List ℕ). AreVisited ts met v ids after.known) (sym k.2) (subst (λ (w : Visits). AreVisited ts met v work w.known) (sym k.1) (all_past met (λ m. m) (met_before k.0)))
      | inr k ↦ elim k.0 [
        | inl first ↦ subst (AreVisited ts met v new) (sym first.1) (all_spread k.1)
        | inr later ↦ subst (AreVisited ts met v new) (sym later.2) (all_record k.1)
      ]
    ]

-- the work gets smaller, whether the arguments are added or not
pub sizes_visit : (ts : List HeapTerm) (old work new : List ℕ) (before after : Visits) (id f n : ℕ) → old ≡ work ++ id ∷ [] → view_of (at ts id) ≡ view.Compound f n → VisitsArguments ts id before after work new →
    sum_by size (map (at ts) new) < sum_by size (map (at ts) old)
sizes_visit ts old work new before after id f n is shown visits = elim visits [
  | inl k ↦ subst (λ (ids : List ℕ). sum_by size (map (at ts) ids) < sum_by size (map (at ts) old)) (sym k.2) (sizes_pop ts old work id is)
  | inr k ↦ sizes_push ts old work new id f n is shown k.1
]

pub looks_visit : (ts : List HeapTerm) (v : ℕ) (t : HeapTerm) (old work new : List ℕ) (before after : Visits) (id f n : ℕ) → old ≡ work ++ id ∷ [] → view_of (at ts id) ≡ view.Compound f n → VisitsArguments ts id before after work new →
    AreVisited ts ⊥ v old before.known → Looks ts v t old → Looks ts v t new
looks_visit ts v t old work new before after id f n is shown visits all looks = elim visits [
  | inl k ↦ subst (λ (ids : List ℕ). Looks ts v t ids) (sym k.2) (looks_past ts v t old work id is looks (met_before ts ⊥ v old work id is before all k.0))
  | inr k ↦ looks_push ts v t old work id is looks f n shown new k.1
]

pub through_visits : (ts : List HeapTerm) (vs old work new : List ℕ) (before after : Visits) (id f n : ℕ) → old ≡ work ++ id ∷ [] → view_of (at ts id) ≡ view.Compound f n → VisitsArguments ts id before after work new →
    ((v : ℕ) → AreVisited ts (Contains vs v) v old before.known) → variables_through vs (map (at ts) new) ≡ variables_through vs (map (at ts) old)
through_visits ts vs old work new before after id f n is shown visits all = elim visits [
  | inl k ↦ ap (λ (ids : List ℕ). variables_through vs (map (at ts) ids)) k.2 ∙ through_known ts vs old work id is (λ v. met_before ts (Contains vs v) v old work id is before (all v) k.0)
  | inr k ↦ through_push ts vs old work new id f n is shown k.1
]

pub live_visit : (ts : List HeapTerm) (work new : List ℕ) (before after : Visits) (id : ℕ) → VisitsArguments ts id before after work new → All (λ (i : ℕ). i < length ts) work → All (λ (i : ℕ). i < length ts) new
live_visit ts work new before after id visits live = elim visits [
  | inl k ↦ All-same (λ (i : ℕ). i < length ts) new work k.2 live
  | inr k ↦ live_push ts (at ts id) work new live k.1
]
