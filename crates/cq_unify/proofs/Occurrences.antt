-- Whether a variable stands in one of the terms that are still to be visited.
use Rattle.std.proofs.Common.{◌≡◌, ◌≢◌, ℕ, zero, suc, ◌+◌, ◌<◌, List, [], ◌∷◌, ◌++◌, length, map, take, get_or, reverse, Some, refl, ap, sym, ◌∙◌, subst, inl, inr, arith}
use Rattle.std.specs.Prelude.{All, ◌↔◌, ◌⊎◌, slice_get}
use Rattle.std.proofs.lemmas.List.{reverse-append, take_more}
use Rattle.std.proofs.lemmas.List.Elements.{All-append, All-push, All-same, All-pop}
use Rattle.std.proofs.lemmas.Option.{none-some, same_Some}
use Rattle.spec_numbers.specs.Rational.{ℚ}
use Rattle.spec_terms.specs.Term.{Var, Number, Name, Compound, one, more, list_of, Occurs, OccursIn, Terms, with_arguments}
use Rattle.cq_term.specs.Meaning.{HeapTerm, at}
use Rattle.cq_term.specs.Shown.{view_of, arguments}
use Rattle.cq_term.specs.declared.view.View.{View}
use Rattle.cq_term.specs.declared.view.View.TheVariants as view
use Rattle.cq_term.proofs.Arguments.{absent_with_arguments, with_arguments-list_of}
use Rattle.cq_term.proofs.Kept.{arg_is}
use Rattle.cq_frac.specs.declared.VarId.{VarId}
use Rattle.cq_term.specs.Arguments.{PushesArguments}
use Rattle.cq_term.specs.Visits.{Visits, VisitsArguments}
use Rattle.cq_term.proofs.WalkArguments.{terms_pop, terms_push}
use Rattle.cq_unify.specs.Work.{HasInnerCompound}

-- the variable stands in one of the terms
abbrev pub StandsAmong : ℕ → List HeapTerm → Type 0
StandsAmong v [] = ⊥
StandsAmong v (t ∷ ts) = Occurs v t ⊎ StandsAmong v ts

among-append : (v : ℕ) (ts us : List HeapTerm) → StandsAmong v (ts ++ us) ↔ (StandsAmong v ts ⊎ StandsAmong v us)
among-append v [] us = (λ h. inr h, λ h. elim h [ inl p ↦ absurd p | inr q ↦ q ])
among-append v (t ∷ ts) us = (
  λ h. elim h [
    | inl p ↦ inl (inl p)
    | inr q ↦ elim ((among-append v ts us).0 q) [ inl a ↦ inl (inr a) | inr b ↦ inr b ]
  ],
  λ h. elim h [
    | inl p ↦ elim p [ inl a ↦ inl a | inr b ↦ inr ((among-append v ts us).1 (inl b)) ]
    | inr q ↦ inr ((among-append v ts us).1 (inr q))
  ],
)

among-reverse : (v : ℕ) (ts : List HeapTerm) → StandsAmong v (reverse ts) ↔ StandsAmong v ts
among-reverse v [] = (λ h. h, λ h. h)
among-reverse v (t ∷ ts) = (
  λ h. elim ((among-append v (reverse ts) (t ∷ [])).0 (subst (StandsAmong v) (reverse-append (t ∷ []) ts) h)) [
    | inl p ↦ inr ((among-reverse v ts).0 p)
    | inr q ↦ elim q [ inl a ↦ inl a | inr b ↦ absurd b ]
  ],
  λ h. subst (StandsAmong v) (sym (reverse-append (t ∷ []) ts)) ((among-append v (reverse ts) (t ∷ [])).1 (elim h [ inl a ↦ inr (inl a) | inr b ↦ inl ((among-reverse v ts).1 b) ])),
)

among-list_of : (v : ℕ) (us : Terms ℕ) → StandsAmong v (list_of us) ↔ OccursIn v us
among-list_of v (one t) = (λ h. elim h [ inl a ↦ a | inr b ↦ absurd b ], λ h. inl h)
among-list_of v (more t us) = (
  λ h. elim h [ inl a ↦ inl a | inr b ↦ inr ((among-list_of v us).0 b) ],
  λ h. elim h [ inl a ↦ inl a | inr b ↦ inr ((among-list_of v us).1 b) ],
)

-- the arguments of a compound in place of the compound
pub among_arguments : (v : ℕ) (t : HeapTerm) (f n : ℕ) → view_of t ≡ view.Compound f n → StandsAmong v (reverse (arguments t)) ↔ Occurs v t
among_arguments v (Compound g us) f n e = (
  λ h. (among-list_of v us).0 ((among-reverse v (list_of us)).0 h),
  λ h. (among-reverse v (list_of us)).1 ((among-list_of v us).1 h),
)
among_arguments v (Var x) f n e = cc
among_arguments v (Number x) f n e = cc
among_arguments v (Name x) f n e = cc

-- ---- a term is visited
pub record Looks (ts : List HeapTerm) (v : ℕ) (t : HeapTerm) (work : List ℕ) : Type 0 where
  pub live : All (λ (id : ℕ). id < length ts) work
  pub same : Occurs v t ↔ StandsAmong v (map (at ts) work)

module _ (ts : List HeapTerm) (v : ℕ) (t : HeapTerm) (old work : List ℕ) (id : ℕ) (is : old ≡ work ++ id ∷ []) where
  popped : map (at ts) old ≡ map (at ts) work ++ at ts id ∷ []
  popped = terms_pop ts old work id is

  pub among_pop : StandsAmong v (map (at ts) old) ↔ (StandsAmong v (map (at ts) work) ⊎ Occurs v (at ts id))
  among_pop =
      let k = among-append v (map (at ts) work) (at ts id ∷ []) in (
        λ h. elim (k.0 (subst (StandsAmong v) popped h)) [
          | inl a ↦ inl a
          | inr b ↦ elim b [ inl c ↦ inr c | inr d ↦ absurd d ]
        ],
        λ h. subst (StandsAmong v) (sym popped) (k.1 (elim h [ inl a ↦ inl a | inr b ↦ inr (inl b) ])),
      )

  module _ (looks : Looks ts v t old) where
    pub live_front : All (λ (k : ℕ). k < length ts) work × (id < length ts)
    live_front = All-pop (λ (k : ℕ). k < length ts) old work (Some id) is looks.live

    pub looks_found : at ts id ≡ Var v → Occurs v t
    looks_found e = looks.same.1 (among_pop.1 (inr (subst (Occurs v) (sym e) refl)))

    pub looks_past : (Occurs v (at ts id) → ⊥) → Looks ts v t work
    looks_past absent = record {
      live = live_front.0;
      same = (λ o. elim (among_pop.0 (looks.same.0 o)) [ inl a ↦ a | inr b ↦ absurd (absent b) ], λ h. looks.same.1 (among_pop.1 (inl h)));
    }

    module _ (f n : ℕ) (shown : view_of (at ts id) ≡ view.Compound f n) (new : List ℕ) (pushes : PushesArguments ts (at ts id) 0 work new) where
      pushed : map (at ts) new ≡ map (at ts) work ++ reverse (arguments (at ts id))
      pushed = terms_push ts (at ts id) work new pushes

      pub looks_push : Looks ts v t new
      looks_push =
          let k = among-append v (map (at ts) work) (reverse (arguments (at ts id))) in
          let r = among_arguments v (at ts id) f n shown in record {
            live = All-same (λ (k : ℕ). k < length ts) new (work ++ pushes.0) pushes.1 (All-append (λ (k : ℕ). k < length ts) work pushes.0 live_front.0 pushes.2.live);
            same = (
              λ o. subst (StandsAmong v) (sym pushed) (k.1 (elim (among_pop.0 (looks.same.0 o)) [ inl a ↦ inl a | inr b ↦ inr (r.1 b) ])),
              λ h. looks.same.1 (among_pop.1 (elim (k.0 (subst (StandsAmong v) pushed h)) [ inl a ↦ inl a | inr b ↦ inr (r.0 b) ])),
            );
          }

-- what stands among the work after a compound was visited
pub among_visit : (ts : List HeapTerm) (v : ℕ) (t : HeapTerm) (old work : List ℕ) (id : ℕ) → old ≡ work ++ id ∷ [] → (f n : ℕ) → view_of (at ts id) ≡ view.Compound f n → (before after : Visits) (new : List ℕ) → VisitsArguments ts id before after work new →
    StandsAmong v (map (at ts) new) → StandsAmong v (map (at ts) work) ⊎ Occurs v (at ts id)
among_visit ts v t old work id is f n shown before after new visits h = elim visits [
  | inl k ↦ inl (subst (λ (l : List ℕ). StandsAmong v (map (at ts) l)) k.2 h)
  | inr k ↦
      let both = (among-append v (map (at ts) work) (reverse (arguments (at ts id)))).0 (subst (StandsAmong v) (terms_push ts (at ts id) work new k.1) h) in
      elim both [ inl a ↦ inl a | inr b ↦ inr ((among_arguments v (at ts id) f n shown).0 b) ]
]

-- ---- a variable in a term that shows its head
pub not_another : (t : HeapTerm) (v : ℕ) (w : VarId) → view_of t ≡ view.Var w → w.0 ≢ v → Occurs v t → ⊥
not_another (Var x) v w e n o = (let h : ◌≡◌ {A = VarId} (record { 0 = x }) w = cc in n (sym (ap (λ (y : VarId). y.0) h) ∙ sym o))
not_another (Number x) v w e n o = cc
not_another (Name x) v w e n o = cc
not_another (Compound g us) v w e n o = cc

pub not_in_constant : (t : HeapTerm) (v : ℕ) (shown : View) → ((q : ℚ) × (shown ≡ view.Number q)) ⊎ ((a : ℕ) × (shown ≡ view.Name a)) → shown ≡ view_of t → Occurs v t → ⊥
not_in_constant (Number p) v shown h e o = o
not_in_constant (Name b) v shown h e o = o
not_in_constant (Var x) v shown h e o = elim h [ inl k ↦ (let d = k.1 in cc) | inr k ↦ (let d = k.1 in cc) ]
not_in_constant (Compound g us) v shown h e o = elim h [ inl k ↦ (let d = k.1 in cc) | inr k ↦ (let d = k.1 in cc) ]

-- ---- arguments of a compound that are looked at at their heads
abbrev pub IsAbsent : List HeapTerm → ℕ → ℕ → Type 0
IsAbsent ts v id = Occurs v (at ts id) → ⊥

stands_in_list : (v : ℕ) (us : Terms ℕ) (u : HeapTerm) (i : ℕ) → slice_get (list_of us) i ≡ Some u → Occurs v u → OccursIn v us
stands_in_list v (one t) u zero e o = subst (Occurs v) (sym (same_Some t u e)) o
stands_in_list v (one t) u (suc i) e o = absurd (none-some u e)
stands_in_list v (more t us) u zero e o = inl (subst (Occurs v) (sym (same_Some t u e)) o)
stands_in_list v (more t us) u (suc i) e o = inr (stands_in_list v us u i e o)

stands_in_argument : (v : ℕ) (t u : HeapTerm) (i : ℕ) → slice_get (arguments t) i ≡ Some u → Occurs v u → Occurs v t
stands_in_argument v (Compound g us) u i e o = stands_in_list v us u i e o
stands_in_argument v (Var x) u i e o = absurd (none-some u e)
stands_in_argument v (Number x) u i e o = absurd (none-some u e)
stands_in_argument v (Name x) u i e o = absurd (none-some u e)

-- the arguments by their ids
module _ (ts : List HeapTerm) (v : ℕ) (t : HeapTerm) (ids : List ℕ) (all : map (at ts) ids ≡ arguments t) where
  module _ (i id : ℕ) (within : i < length ids) (is : id ≡ get_or ids i id) where
    stands_here : slice_get (arguments t) i ≡ Some (at ts id)
    stands_here = arg_is ts (arguments t) ids i id (sym all) within is

    pub flat_found : at ts id ≡ Var v → Occurs v t
    flat_found e = stands_in_argument v t (at ts id) i stands_here (subst (Occurs v) (sym e) refl)

    pub flat_compound : (f n : ℕ) → view_of (at ts id) ≡ view.Compound f n → HasInnerCompound t
    flat_compound f n e = record { place = i; argument = at ts id; stands = stands_here; name = f; arity = n; shown = e }

    pub flat_past : All (IsAbsent ts v) (take i ids) → IsAbsent ts v id → All (IsAbsent ts v) (take (i + 1) ids)
    flat_past before absent =
        All-same (IsAbsent ts v) (take (i + 1) ids) (take i ids ++ id ∷ []) (take_more ids i id within ∙ ap (λ k. take i ids ++ k ∷ []) (sym is)) (All-push (IsAbsent ts v) (take i ids) id before absent)

pub flat_absent : (ts : List HeapTerm) (v : ℕ) (t : HeapTerm) (ids : List ℕ) → map (at ts) ids ≡ arguments t → 0 < length (arguments t) → All (IsAbsent ts v) ids → Occurs v t → ⊥
flat_absent ts v (Compound g us) ids all some absent o = absent_with_arguments ts g ids v absent (subst (Occurs v) (sym (ap (with_arguments g) all ∙ with_arguments-list_of g us)) o)
flat_absent ts v (Var x) ids all some absent o = absurd (omega arith)
flat_absent ts v (Number x) ids all some absent o = o
flat_absent ts v (Name x) ids all some absent o = o
