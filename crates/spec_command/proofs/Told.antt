-- The query's constraints are told as they are: none is an error, no disjunction splits them, and each is a member.
use Rattle.std.proofs.Common.{◌≡◌, ◌∙◌, ℕ, zero, suc, [], ◌∷◌, ◌++◌, None, refl, ap, ap₂}
use Rattle.spec_syntax.specs.Trees.{Tree}
use Rattle.spec_builtins.specs.Errors.{or_error}
use Rattle.spec_branch.specs.Checks.{constraint_error, halves, in_conjunction, members}
use Rattle.spec_command.specs.Query.{before, constraints, lower, lowers, upper, uppers}

lower_right : (k : ℕ) → constraint_error (lower k) ≡ None
lower_right zero = refl
lower_right (suc k) = refl

lower_whole : (k : ℕ) → halves (lower k) ≡ None
lower_whole zero = refl
lower_whole (suc k) = refl

lower_single : (k : ℕ) → members (lower k) ≡ lower k ∷ []
lower_single zero = refl
lower_single (suc k) = refl

-- in front of a constraint that is right, whole, and of these members
module _ (rest : Tree) where
  lowers_right : (c k : ℕ) → constraint_error rest ≡ None → constraint_error (before (lowers k c) rest) ≡ None
  lowers_right zero k h = h
  lowers_right (suc c) k h = ap₂ or_error (lower_right k) (lowers_right c (suc k) h)

  uppers_right : (c k : ℕ) → constraint_error rest ≡ None → constraint_error (before (uppers k c) rest) ≡ None
  uppers_right zero k h = h
  uppers_right (suc c) k h = uppers_right c (suc k) h

  lowers_whole : (c k : ℕ) → halves rest ≡ None → halves (before (lowers k c) rest) ≡ None
  lowers_whole zero k h = h
  lowers_whole (suc c) k h = ap₂ (in_conjunction (lower k) (before (lowers (suc k) c) rest)) (lower_whole k) (lowers_whole c (suc k) h)

  uppers_whole : (c k : ℕ) → halves rest ≡ None → halves (before (uppers k c) rest) ≡ None
  uppers_whole zero k h = h
  uppers_whole (suc c) k h = λ i. in_conjunction (upper k) (before (uppers (suc k) c) rest) None (uppers_whole c (suc k) h i)

  lowers_members : (c k : ℕ) → members (before (lowers k c) rest) ≡ lowers k c ++ members rest
  lowers_members zero k = refl
  lowers_members (suc c) k = ap₂ (λ x y. x ++ y) (lower_single k) (lowers_members c (suc k))

  uppers_members : (c k : ℕ) → members (before (uppers k c) rest) ≡ uppers k c ++ members rest
  uppers_members zero k = refl
  uppers_members (suc c) k = λ i. upper k ∷ uppers_members c (suc k) i

pub right : (k : ℕ) → constraint_error (constraints (suc k)) ≡ None
right k = lowers_right (before (uppers 0 k) (upper k)) (suc k) 0 (uppers_right (upper k) k 0 refl)

pub whole : (k : ℕ) → halves (constraints (suc k)) ≡ None
whole k = lowers_whole (before (uppers 0 k) (upper k)) (suc k) 0 (uppers_whole (upper k) k 0 refl)

pub each : (k : ℕ) → members (constraints (suc k)) ≡ lowers 0 (suc k) ++ (uppers 0 k ++ upper k ∷ [])
each k = lowers_members (before (uppers 0 k) (upper k)) (suc k) 0 ∙ ap (λ x. lowers 0 (suc k) ++ x) (uppers_members (upper k) k 0)
