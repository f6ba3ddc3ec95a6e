-- The variable that is eliminated next.
use Rattle.std.specs.Prelude.{◌≡◌, ◌⊎◌, ℕ, ◌+◌, ◌*◌, ◌<◌, ◌≤◌, List, length, Option, None, Some}
use Rattle.spec_linear.specs.Solution.{Constraint, Has, SomeMentions}
use Rattle.spec_projection.specs.Elimination.{lower_rows, upper_rows, other_rows}
use Rattle.spec_projection.specs.Partial.{ComesBefore}
use Rattle.cq_elimination.specs.declared.fourier.Side.{Side}
use Rattle.cq_elimination.specs.declared.fourier.Side.TheVariants.{Lower, Upper, Other}
use Rattle.cq_elimination.specs.declared.fourier.next.Elimination.{Elimination}

-- it counts the rows of its variable
pub record Counts (l : List Constraint) (e : Elimination) : Type 0 where
  pub lower_is : e.lower ≡ length (lower_rows e.variable.0 l)
  pub upper_is : e.upper ≡ length (upper_rows e.variable.0 l)
  pub others_are : e.others ≡ length (other_rows e.variable.0 l)
  -- where it has none on either side, it stands nowhere
  pub idle : e.lower ≡ 0 → e.upper ≡ 0 → SomeMentions e.variable.0 l → ⊥

-- with one more row on this side
abbrev pub HasOneMore : Side → Elimination → Elimination → Type 0
HasOneMore (Lower k) e f = f ≡ record e { lower = e.lower + 1 }
HasOneMore (Upper k) e f = f ≡ record e { upper = e.upper + 1 }
HasOneMore Other e f = f ≡ record e { others = e.others + 1 }

-- it has fewer pairs of a lower and an upper row than the other, or as many and the older variable
abbrev pub IsBefore : Elimination → Elimination → Type 0
IsBefore e f = (e.lower * e.upper < f.lower * f.upper)
    ⊎ ((e.lower * e.upper ≡ f.lower * f.upper) × (e.variable.0 ≤ f.variable.0))

-- it is the one of the two that is made first
abbrev pub IsFirstOf : Option Elimination → Elimination → Elimination → Type 0
IsFirstOf None other r = r ≡ other
IsFirstOf (Some found) other r = ((r ≡ found) × IsBefore found other) ⊎ ((r ≡ other) × IsBefore other found)

-- one of the variables, which stands in the list, and comes before each other one that does
pub record IsFirst (xs : List ℕ) (l : List Constraint) (e : Elimination) : Type 0 where
  pub counts : Counts l e
  pub among : Has e.variable.0 xs
  pub mentioned : SomeMentions e.variable.0 l
  pub least : (y : ℕ) → Has y xs → SomeMentions y l → ComesBefore l e.variable.0 y

-- none of the variables stands in the list
abbrev pub NoneStands : List ℕ → List Constraint → Type 0
NoneStands xs l = (x : ℕ) → Has x xs → SomeMentions x l → ⊥

-- no variable is in both
abbrev pub AreApart : List ℕ → List ℕ → Type 0
AreApart xs ys = (x : ℕ) → Has x xs → Has x ys → ⊥
