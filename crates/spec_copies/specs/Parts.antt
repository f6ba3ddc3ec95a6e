-- The part of a list of linear constraints that is connected with some variables.
use Rattle.std.specs.Prelude.{ℕ, List, [], ◌∷◌}
use Rattle.spec_numbers.specs.Sums.{Mentions}
use Rattle.spec_linear.specs.Solution.{Constraint, Has, SomeMentions}

-- each member of the list is in the first part or in the second, and both keep its order
pub data IsSplit : List Constraint → List Constraint → List Constraint → Type 0 where
  nothing : IsSplit [] [] []
  into_first : {c : Constraint} {l part rest : List Constraint} → IsSplit l part rest
      → IsSplit (c ∷ l) (c ∷ part) rest
  into_second : {c : Constraint} {l part rest : List Constraint} → IsSplit l part rest
      → IsSplit (c ∷ l) part (c ∷ rest)

-- the member mentions one of the variables, or shares a variable with a member that is connected with them
pub data IsConnected (xs : List ℕ) (l : List Constraint) : Constraint → Type 0 where
  at_variable : {c : Constraint} (x : ℕ) → Has c l → Has x xs → Mentions x c.form.products → IsConnected xs l c
  at_member : {c d : Constraint} (x : ℕ) → Has c l → IsConnected xs l d → Mentions x d.form.products
      → Mentions x c.form.products → IsConnected xs l c

-- The members that are connected with the variables, in order. The rest mentions none of the variables, and shares none
-- with the part.
pub record IsPart (xs : List ℕ) (l part : List Constraint) : Type 0 where
  pub rest : List Constraint
  pub split : IsSplit l part rest
  pub connected : (c : Constraint) → Has c part → IsConnected xs l c
  pub elsewhere : (x : ℕ) → Has x xs → SomeMentions x rest → ⊥
  pub apart : (x : ℕ) → SomeMentions x part → SomeMentions x rest → ⊥
