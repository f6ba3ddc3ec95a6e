-- What the calls of a dictionary say.
use Rattle.std.specs.Prelude.{◌≡◌, ◌↔◌, ℕ, List, [], ◌∷◌, ◌++◌, length}
use Rattle.spec_numbers.specs.Rational.{ℚ, ◌+ℚ◌}
use Rattle.cq_frac.specs.declared.Operation.{Operation}
use Rattle.cq_frac.specs.declared.Pair.{Pair}
use Rattle.cq_frac.specs.Refused.{Refuses, IsRefused}
use Rattle.cq_frac.specs.declared.row.Entry.{Entry}
use Rattle.cq_frac.specs.Row.{Row}
use Rattle.cq_frac.specs.Rows.{sum_at}
use Rattle.cq_dict.specs.declared.table.Role.{Role}
use Rattle.cq_dict.specs.declared.table.Role.TheVariants.{Basic}
use Rattle.cq_dict.specs.Roles.{IsMet, Expresses, PivotPair, FormPair}

-- the same assignments meet the rows of both
abbrev pub SameMeaning : List Role → List Role → Type 0
SameMeaning old new = (x : ℕ → ℚ) → IsMet x old ↔ IsMet x new

-- a row that expresses the form is the role of a new quantity
pub record AddsRow (old : List Role) (form : List Entry) (constant : ℚ) (new : List Role) : Type 0 where
  pub row : Row
  pub last : new ≡ old ++ Basic row ∷ []
  pub expresses : Expresses old (λ x. constant +ℚ sum_at x form) row

-- the same assignments, where the last quantity has the form's value
abbrev pub DefinesLast : List Role → List Entry → ℚ → List Role → Type 0
DefinesLast old form constant new = (x : ℕ → ℚ) → IsMet x new ↔ (IsMet x old × (x (length old) ≡ constant +ℚ sum_at x form))

-- an operation of the exchange, of the form, refuses the pair
abbrev pub RefusesPivot : List Role → ℕ → ℕ → Pair → Type 0
RefusesPivot roles row column pair = PivotPair roles row column pair.operation pair.left pair.right × IsRefused pair

abbrev pub RefusesForm : List Role → List Entry → ℚ → Pair → Type 0
RefusesForm roles form constant pair = FormPair roles form constant pair.operation pair.left pair.right × IsRefused pair

-- none of them refuses its pair
abbrev pub NoPivotPair : List Role → ℕ → ℕ → Type 0
NoPivotPair roles row column = (o : Operation) (a b : ℚ) → PivotPair roles row column o a b → Refuses o a b → ⊥

abbrev pub NoFormPair : List Role → List Entry → ℚ → Type 0
NoFormPair roles form constant = (o : Operation) (a b : ℚ) → FormPair roles form constant o a b → Refuses o a b → ⊥
