-- What waits under a number is one.
use Rattle.std.proofs.Common.{◌≡◌, ℕ, List, [], ◌∷◌, ◌++◌, Bool, true, false, cond, Some, refl, sym, ap, ◌∙◌, subst, inl, inr, ◌⊎◌, arith}
use Rattle.std.specs.Prelude.{Contains, filter, not, ◌==◌, if◌then◌else◌}
use Rattle.spec_numbers.proofs.Tests.{nat_eq-same, nat_eq-self, nat_eq-apart}
use Rattle.cq_attr.specs.Attributes.{Waiting, Ascends, numbers, find}
use Rattle.cq_attr.specs.declared.susp.Susp.{Susp}
use Rattle.cq_attr.proofs.Elements.{contains_here, contains_later, contains_cases, contains_none}
use Rattle.cq_settle.proofs.Permuted.{IsOnce, once_rest, once_head, once_cons}

pub once_ascending : (ns : List ℕ) → Ascends ns → IsOnce ns
once_ascending ns h i j d l m = λ e. omega (arith, h i j d l m, e)

pub number_in : (ws : List Waiting) (k : Waiting) → Contains ws k → Contains (numbers ws) k.number
number_in [] k h = absurd (contains_none k h)
number_in (w ∷ ws) k h =
    elim (contains_cases w ws k h) [
      | inl e ↦ contains_here w.number (numbers ws) k.number (ap (λ (x : Waiting). x.number) e)
      | inr m ↦ contains_later w.number (numbers ws) k.number (number_in ws k m)
    ]

-- two that wait under one number
same_or_rest : (w : Waiting) (ws : List Waiting) (k m : Waiting) → IsOnce (numbers (w ∷ ws)) → k.number ≡ m.number → (Contains ws k → Contains ws m → k ≡ m)
    → (w ≡ k) ⊎ Contains ws k → (w ≡ m) ⊎ Contains ws m → k ≡ m
same_or_rest w ws k m o e f (inl a) (inl b) = sym a ∙ b
same_or_rest w ws k m o e f (inl a) (inr b) =
    absurd (once_head w.number (numbers ws) o (subst (λ (n : ℕ). Contains (numbers ws) n) (sym e ∙ sym (ap (λ (x : Waiting). x.number) a)) (number_in ws m b)))
same_or_rest w ws k m o e f (inr a) (inl b) =
    absurd (once_head w.number (numbers ws) o (subst (λ (n : ℕ). Contains (numbers ws) n) (e ∙ sym (ap (λ (x : Waiting). x.number) b)) (number_in ws k a)))
same_or_rest w ws k m o e f (inr a) (inr b) = f a b

pub one_number : (ws : List Waiting) (k m : Waiting) → IsOnce (numbers ws) → Contains ws k → Contains ws m → k.number ≡ m.number → k ≡ m
one_number [] k m o h g e = absurd (contains_none k h)
one_number (w ∷ ws) k m o h g e =
    same_or_rest w ws k m o e (λ a b. one_number ws k m (once_rest w.number (numbers ws) o) a b e) (contains_cases w ws k h) (contains_cases w ws m g)

-- what is found under a number
pub record WaitsUnder (ws : List Waiting) (n : ℕ) (s : Susp) : Type 0 where
  pub waiting : Waiting
  pub waits : Contains ws waiting
  pub number : waiting.number ≡ n
  pub is : waiting.susp ≡ s

found_here : (w : Waiting) (ws : List Waiting) (n : ℕ) (s : Susp) (b : Bool) → (w.number == n) ≡ b → (if b then Some w.susp else find ws n) ≡ Some s
    → (find ws n ≡ Some s → WaitsUnder ws n s) → WaitsUnder (w ∷ ws) n s
found_here w ws n s true i e f = let h : w.susp ≡ s = cc in record { waiting = w; waits = contains_here w ws w refl; number = nat_eq-same w.number n i; is = h }
found_here w ws n s false i e f =
    let r = f e in
    record { waiting = r.waiting; waits = contains_later w ws r.waiting r.waits; number = r.number; is = r.is }

pub found_waits : (ws : List Waiting) (n : ℕ) (s : Susp) → find ws n ≡ Some s → WaitsUnder ws n s
found_waits [] n s e = cc
found_waits (w ∷ ws) n s e = found_here w ws n s (w.number == n) refl e (λ i. found_waits ws n s i)

pub susp_under : (ws : List Waiting) (n : ℕ) (s : Susp) (k : Waiting) → IsOnce (numbers ws) → find ws n ≡ Some s → Contains ws k → k.number ≡ n → k.susp ≡ s
susp_under ws n s k o e h i =
    let r = found_waits ws n s e in
    let same : k ≡ r.waiting = one_number ws k r.waiting o h r.waits (i ∙ sym r.number) in
    ap (λ (x : Waiting). x.susp) same ∙ r.is

-- those that are kept are still one each
kept_once : (b : Bool) (w : Waiting) (ws : List Waiting) → IsOnce (numbers ws) → (Contains (numbers ws) w.number → ⊥) → IsOnce (numbers (cond b (w ∷ ws) ws))
kept_once true w ws o n = once_cons w.number (numbers ws) o n
kept_once false w ws o n = o

number_kept : (b : Bool) (w : Waiting) (vs : List Waiting) (n : ℕ) → Contains (numbers (cond b (w ∷ vs) vs)) n → (w.number ≡ n) ⊎ Contains (numbers vs) n
number_kept true w vs n h = contains_cases w.number (numbers vs) n h
number_kept false w vs n h = inr h

pub numbers_unfiltered : (p : Waiting → Bool) (ws : List Waiting) (n : ℕ) → Contains (numbers (filter p ws)) n → Contains (numbers ws) n
numbers_unfiltered p [] n h = h
numbers_unfiltered p (w ∷ ws) n h =
    elim (number_kept (p w) w (filter p ws) n h) [
      | inl e ↦ contains_here w.number (numbers ws) n e
      | inr m ↦ contains_later w.number (numbers ws) n (numbers_unfiltered p ws n m)
    ]

pub once_filtered : (p : Waiting → Bool) (ws : List Waiting) → IsOnce (numbers ws) → IsOnce (numbers (filter p ws))
once_filtered p [] o = o
once_filtered p (w ∷ ws) o =
    kept_once (p w) w (filter p ws) (once_filtered p ws (once_rest w.number (numbers ws) o))
    (λ h. once_head w.number (numbers ws) o (numbers_unfiltered p ws w.number h))

-- ---- without a number

abbrev pub is_other : ℕ → Waiting → Bool
is_other n w = not (w.number == n)

pub others_stay : (n : ℕ) (ws : List Waiting) → ((k : Waiting) → Contains ws k → k.number ≡ n → ⊥) → filter (is_other n) ws ≡ ws
others_stay n [] f = refl
others_stay n (w ∷ ws) f =
    ap (λ (b : Bool). cond (not b) (w ∷ filter (is_other n) ws) (filter (is_other n) ws)) (nat_eq-apart w.number n (f w (contains_here w ws w refl)))
    ∙ ap (λ (vs : List Waiting). w ∷ vs) (others_stay n ws (λ k h. f k (contains_later w ws k h)))

pub one_taken : (n : ℕ) (before after : List Waiting) (k : Waiting) → k.number ≡ n → ((m : Waiting) → Contains (before ++ after) m → m.number ≡ n → ⊥)
    → filter (is_other n) (before ++ k ∷ after) ≡ before ++ after
one_taken n [] after k e f =
    ap (λ (b : Bool). cond (not b) (k ∷ filter (is_other n) after) (filter (is_other n) after)) (ap (λ (x : ℕ). x == n) e ∙ nat_eq-self n)
    ∙ others_stay n after f
one_taken n (w ∷ before) after k e f =
    ap (λ (b : Bool). cond (not b) (w ∷ filter (is_other n) (before ++ k ∷ after)) (filter (is_other n) (before ++ k ∷ after)))
    (nat_eq-apart w.number n (f w (contains_here w (before ++ after) w refl)))
    ∙ ap (λ (vs : List Waiting). w ∷ vs) (one_taken n before after k e (λ m h. f m (contains_later w (before ++ after) m h)))
