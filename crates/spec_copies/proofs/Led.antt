-- Where links lead to, from some variables: a list of all.
use Rattle.std.proofs.Common.{◌≡◌, ◌⊎◌, inl, inr, ℕ, zero, suc, ◌≤◌, List, [], ◌∷◌, ◌++◌, length, arith, refl, sym, subst}
use Rattle.spec_linear.specs.Solution.{Has}
use Rattle.spec_linear.proofs.Denominators.{has_left, has_right}
use Rattle.spec_projection.proofs.Members.{has_either}
use Rattle.spec_projection.proofs.Standing.{has_or_not}

-- from one of the first variables to all of the second
pub record Edge : Type 0 where
  pub from : List ℕ
  pub to : List ℕ

pub data Led (xs : List ℕ) (es : List Edge) : ℕ → Type 0 where
  starts : {v : ℕ} → Has v xs → Led xs es v
  goes : {v w : ℕ} (e : Edge) → Has e es → Led xs es w → Has w e.from → Has v e.to → Led xs es v

-- a variable that is in both lists, or none is
pub both_or_none : (vs ws : List ℕ) → ((v : ℕ) × Has v vs × Has v ws) ⊎ ((v : ℕ) → Has v vs → Has v ws → ⊥)
both_or_none [] ws = inr (λ v h k. h)
both_or_none (x ∷ vs) ws = go (has_or_not x ws) (both_or_none vs ws)
  where
    go : Has x ws ⊎ (Has x ws → ⊥) → ((v : ℕ) × Has v vs × Has v ws) ⊎ ((v : ℕ) → Has v vs → Has v ws → ⊥)
        → ((v : ℕ) × Has v (x ∷ vs) × Has v ws) ⊎ ((v : ℕ) → Has v (x ∷ vs) → Has v ws → ⊥)
    go (inl h) r = inl (x, inl refl, h)
    go (inr n) (inl r) = inl (r.0, inr r.1, r.2)
    go (inr n) (inr k) = inr (λ v h i. elim h [ inl e ↦ n (subst (λ z. Has z ws) e i) | inr j ↦ k v j i ])

-- an edge that leaves the variables, among the others; or none does
record Leaving (vs : List ℕ) (es : List Edge) : Type 0 where
  edge : Edge
  among : Has edge es
  at : ℕ
  here : Has at vs
  there : Has at edge.from
  others : List Edge
  shorter : suc (length others) ≡ length es
  each : (e : Edge) → Has e es → (e ≡ edge) ⊎ Has e others
  only : (e : Edge) → Has e others → Has e es

leaving_or_none : (vs : List ℕ) (es : List Edge) → Leaving vs es ⊎ ((e : Edge) → Has e es → (w : ℕ) → Has w vs → Has w e.from → ⊥)
leaving_or_none vs [] = inr (λ e h w i j. h)
leaving_or_none vs (d ∷ es) = go (both_or_none vs d.from) (leaving_or_none vs es)
  where
    go : ((v : ℕ) × Has v vs × Has v d.from) ⊎ ((v : ℕ) → Has v vs → Has v d.from → ⊥)
        → Leaving vs es ⊎ ((e : Edge) → Has e es → (w : ℕ) → Has w vs → Has w e.from → ⊥)
        → Leaving vs (d ∷ es) ⊎ ((e : Edge) → Has e (d ∷ es) → (w : ℕ) → Has w vs → Has w e.from → ⊥)
    go (inl b) r = inl (record {
      edge = d;
      among = inl refl;
      at = b.0;
      here = b.1;
      there = b.2;
      others = es;
      shorter = refl;
      each = λ e h. h;
      only = λ e h. inr h;
    })
    go (inr n) (inl r) = inl (record {
      edge = r.edge;
      among = inr r.among;
      at = r.at;
      here = r.here;
      there = r.there;
      others = d ∷ r.others;
      shorter = (let s = r.shorter in omega (arith, s));
      each = λ e h. elim h [ inl i ↦ inr (inl i) | inr k ↦ elim (r.each e k) [ inl i ↦ inl i | inr j ↦ inr (inr j) ] ];
      only = λ e h. elim h [ inl i ↦ inl i | inr k ↦ inr (r.only e k) ];
    })
    go (inr n) (inr k) = inr (λ e h w i j. elim h [ inl c ↦ n w i (subst (λ (z : Edge). Has w z.from) c j) | inr m ↦ k e m w i j ])

-- all variables that edges lead to
pub record AllLed (xs : List ℕ) (es : List Edge) : Type 0 where
  pub all : List ℕ
  pub led : (v : ℕ) → Has v all → Led xs es v
  pub complete : (v : ℕ) → Led xs es v → Has v all

abbrev NoneLeaves : List ℕ → List Edge → Type 0
NoneLeaves vs es = (e : Edge) → Has e es → (w : ℕ) → Has w vs → Has w e.from → ⊥

module _ (xs : List ℕ) (es : List Edge) where
  -- each edge has been gone, or is left
  record Going (left : List Edge) (vs : List ℕ) : Type 0 where
    first : (v : ℕ) → Has v xs → Has v vs
    led : (v : ℕ) → Has v vs → Led xs es v
    gone : (e : Edge) → Has e es → ((v : ℕ) → Has v e.to → Has v vs) ⊎ Has e left
    of_all : (e : Edge) → Has e left → Has e es

  reached : (left : List Edge) (vs : List ℕ) → Going left vs → NoneLeaves vs left → (v : ℕ) → Led xs es v → Has v vs
  reached left vs g none v (starts h) = g.first v h
  reached left vs g none v (goes {w = w} e h l f t) = elim (g.gone e h) [
    | inl k ↦ k v t
    | inr j ↦ absurd (none e j w (reached left vs g none w l) f)
  ]

  ended : (left : List Edge) (vs : List ℕ) → Going left vs → NoneLeaves vs left → AllLed xs es
  ended left vs g none = record { all = vs; led = g.led; complete = reached left vs g none }

  gone_one : (left : List Edge) (vs : List ℕ) → Going left vs → (r : Leaving vs left) → Going r.others (vs ++ r.edge.to)
  gone_one left vs g r = record {
    first = λ v h. has_left v vs r.edge.to (g.first v h);
    led = λ v h. elim (has_either v vs r.edge.to h) [
      | inl k ↦ g.led v k
      | inr t ↦ goes r.edge (g.of_all r.edge r.among) (g.led r.at r.here) r.there t
    ];
    gone = λ e h. elim (g.gone e h) [
      | inl k ↦ inl (λ v t. has_left v vs r.edge.to (k v t))
      | inr j ↦ elim (r.each e j) [
        | inl d ↦ inl (λ v t. has_right v vs r.edge.to (subst (λ (z : Edge). Has v z.to) d t))
        | inr o ↦ inr o
      ]
    ];
    of_all = λ e h. g.of_all e (r.only e h);
  }

  closing : (n : ℕ) (left : List Edge) (vs : List ℕ) → length left ≤ n → Going left vs → AllLed xs es
  closing zero left vs short g = go (leaving_or_none vs left)
    where
      go : Leaving vs left ⊎ NoneLeaves vs left → AllLed xs es
      go (inl r) = let k = r.shorter in absurd (omega (arith, short, k))
      go (inr none) = ended left vs g none
  closing (suc n) left vs short g = go (leaving_or_none vs left) (λ r. closing n r.others (vs ++ r.edge.to) (let k = r.shorter in omega (arith, short, k)) (gone_one left vs g r))
    where
      go : Leaving vs left ⊎ NoneLeaves vs left → (Leaving vs left → AllLed xs es) → AllLed xs es
      go (inl r) next = next r
      go (inr none) next = ended left vs g none

  pub all_led : AllLed xs es
  all_led = closing (length es) es xs (omega arith) (record { first = λ v h. h; led = λ v h. starts h; gone = λ e h. inr h; of_all = λ e h. h })
