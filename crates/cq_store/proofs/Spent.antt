-- A call makes fewer exchanges than there are sets of the list's inequalities and one more.
use Rattle.std.proofs.Common.{◌≡◌, ℕ, ◌+◌, ◌^◌, ◌<◌, ◌≤◌, Bool, true, false, cond, List, [], ◌∷◌, ◌++◌, length, length-append, Option, Some, None, IfSome, SomeIff, arith, refl, ap, sym, subst, ◌∙◌}
use Rattle.std.proofs.Math.Nat.{pow-le-pow_right}
use Rattle.std.proofs.lemmas.List.Elements.{filter-append}
use Rattle.spec_linear.specs.Weak.{at_least_zero}
use Rattle.spec_linear.specs.Opposite.{opposite}
use Rattle.spec_linear.specs.Solution.{Constraint}
use Rattle.spec_projection.specs.Projection.{is_inequality, inequalities_of}
use Rattle.spec_simplex.specs.Asked.{IsInForce, NoQuestion, alone, while_joining, while_asked, while_asked_unequal}
use Rattle.spec_simplex.proofs.BudgetsEnds.{chain_short}
use Rattle.cq_store.specs.StoreValue.{IsCallList, in_force, joined, MayTake, Only}
use Rattle.cq_store.specs.Enough.{enough_for, IsEnough}

-- one more constraint, which counts if it is an inequality
last_counts : (c : Constraint) (b : Bool) → length (cond b (c ∷ []) []) ≡ cond b 1 0
last_counts c true = refl
last_counts c false = refl

pub counted_next : (l : List Constraint) (c : Constraint) → length (inequalities_of (l ++ c ∷ [])) ≡ length (inequalities_of l) + cond (is_inequality c.relation) 1 0
counted_next l c =
    ap length (filter-append (λ (k : Constraint). is_inequality k.relation) l (c ∷ []))
    ∙ length-append (inequalities_of l) (inequalities_of (c ∷ []))
    ∙ ap (λ n. length (inequalities_of l) + n) (last_counts c (is_inequality c.relation))

at_most_one : (b : Bool) → cond b 1 0 ≤ 1
at_most_one true = omega arith
at_most_one false = omega arith

one_more : (l : List Constraint) (c : Constraint) → length (inequalities_of (l ++ c ∷ [])) ≤ length (inequalities_of l) + 1
one_more l c = omega (arith, counted_next l c, at_most_one (is_inequality c.relation))

module _ (l : List Constraint) (Joins Questions : Constraint → Type 0) where
  in_force_short : {m : List Constraint} → IsInForce l Joins Questions m → length (inequalities_of m) ≤ length (inequalities_of l) + 1
  in_force_short alone = omega arith
  in_force_short (while_joining f g j e) = one_more l (at_least_zero g)
  in_force_short (while_asked c a) = one_more l (opposite c)
  in_force_short (while_asked_unequal f g a e) = one_more l (at_least_zero g)

  list_short : {m : List Constraint} → IsCallList l Joins Questions m → length (inequalities_of m) ≤ length (inequalities_of l) + 1
  list_short (in_force i) = in_force_short i
  list_short (joined c j) = one_more l c

  takes_fewer : (n : ℕ) → MayTake l Joins Questions n → n < enough_for l
  takes_fewer n t =
      let fewer : n < 2 ^ length (inequalities_of t.moment.list) = chain_short t.moment n t.chain in
      let most : 2 ^ length (inequalities_of t.moment.list) ≤ 2 ^ (length (inequalities_of l) + 1) =
      pow-le-pow_right {n = 2} (omega arith) {i = length (inequalities_of t.moment.list)} {j = length (inequalities_of l) + 1} (list_short t.of_call.list) in
      omega (arith, fewer, most)

  -- a budget that is enough is not spent
  pub not_spent : (budget n : ℕ) → enough_for l ≤ budget → n ≡ budget → MayTake l Joins Questions n → ⊥
  not_spent budget n h e t = omega (arith, h, e, takes_fewer n t)

pub is_enough : (l : List Constraint) → IsEnough l (enough_for l)
is_enough l = record {
  told = λ k h c t. not_spent l (Only c) NoQuestion k k h (λ i. k) t;
  asked = λ k h c t. not_spent l NoQuestion (Only c) k k h (λ i. k) t;
}

-- a power that is that number is enough
pub power_enough : (l : List Constraint) (o : Option ℕ) (n : ℕ) → n ≡ length (inequalities_of l) + 1 → SomeIff o (2 ^ n < 2 ^ 64) (2 ^ n) → IfSome o (IsEnough l)
power_enough l None n e s = tt
power_enough l (Some k) n e s = subst (IsEnough l) (ap (λ m. 2 ^ m) (sym e) ∙ sym s.1) (is_enough l)
