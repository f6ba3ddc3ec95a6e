-- What the rows before and after a call that tells a constraint say of a variable.
use Rattle.std.specs.Prelude.{◌≡◌, ◌≢◌, ℕ, List, [], ◌∷◌}
use Rattle.spec_numbers.specs.Rational.{ℚ, 0ℚ}
use Rattle.spec_numbers.specs.Sums.{factor_of}
use Rattle.spec_linear.specs.Form.{variable_form}
use Rattle.spec_linear.specs.Solution.{Constraint, Fixed, SomeMentions}
use Rattle.spec_simplex.specs.Tableau.{Tableau, Place}

-- m fixes x, and l does not
pub record NewlyFixed (l m : List Constraint) (x : ℕ) : Type 0 where
  pub value : ℚ
  pub fixed : Fixed m x value
  pub not_before : (r : ℚ) → Fixed l x r → ⊥

-- its row has a live entry before, and none after
pub record BecomesFixed (d e : Tableau) (x : ℕ) : Type 0 where
  pub before : Place d (variable_form x)
  pub column : ℕ
  pub entry : factor_of column (d.row before.quantity).live ≢ 0ℚ
  pub after : Place e (variable_form x)
  pub no_entry : (e.row after.quantity).live ≡ []

-- its row has no live entry before, or one after, or no member mentions it
pub data StaysAsItIs (d e : Tableau) (l : List Constraint) (c : Constraint) (x : ℕ) : Type 0 where
  was_fixed : (p : Place d (variable_form x)) → (d.row p.quantity).live ≡ [] → StaysAsItIs d e l c x
  is_free : (p : Place e (variable_form x)) (k : ℕ) → factor_of k (e.row p.quantity).live ≢ 0ℚ → StaysAsItIs d e l c x
  is_unmentioned : (SomeMentions x (c ∷ l) → ⊥) → StaysAsItIs d e l c x
