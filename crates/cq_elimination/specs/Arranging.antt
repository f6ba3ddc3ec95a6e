-- Rows scaled and sorted as an answer has them.
use Rattle.std.specs.Prelude.{◌≡◌, ◌≢◌, ◌⊎◌, ℕ, ◌-◌, ◌<◌, ◌≤◌, List, [], ◌∷◌, ◌++◌, map, length, slice_index_or, nat_eq, ⊤}
use Rattle.std.specs.List.{AllByRecursion}
use Rattle.spec_numbers.specs.Rational.{ℚ, 0ℚ, ◌<ℚ◌, ◌/ℚ◌}
use Rattle.spec_numbers.specs.Sums.{Monomial, factor_of, when}
use Rattle.spec_linear.specs.declared.Relation.TheVariants.{Eq}
use Rattle.spec_linear.specs.Form.{in_front}
use Rattle.spec_linear.specs.Solution.{Constraint, Has}
use Rattle.spec_linear.specs.Echelon.{InOrder, variables}
use Rattle.spec_projection.specs.Strict.{IsMultiple}
use Rattle.spec_projection.specs.Arranged.{IsArranged}
use Rattle.spec_answers.specs.Rows.{Inequality, Disequation, inequality, disequation}
use Rattle.spec_answers.specs.Forms.{IsScaled, Before, InequalityBefore, DisequationBefore, IsSorted}
use Rattle.cq_frac.specs.declared.Operation.TheVariants.{Quotient}
use Rattle.cq_frac.specs.declared.Pair.{Pair}
use Rattle.cq_frac.specs.Refused.{Tells}
use Rattle.cq_elimination.specs.declared.arrange.PrintedRow.{PrintedRow}
use Rattle.cq_elimination.specs.Lines.{Line, line_of, said, rank_of}

-- ---- what is arranged, and how it ends

-- no row is an equation
abbrev pub HasNoEquation : List Constraint → Type 0
HasNoEquation l = (c : Constraint) → Has c l → c.relation ≢ Eq

-- they are the rows, scaled and sorted
pub record AreInequalityRows (order : List ℕ) (rows : List Constraint) (is : List Inequality) : Type 0 where
  pub arranged : IsArranged rows (map inequality is)
  pub scaled : AllByRecursion (λ i. IsScaled order i.products) is
  pub sorted : IsSorted (InequalityBefore order) is

pub record AreDisequationRows (order : List ℕ) (rows : List Constraint) (ds : List Disequation) : Type 0 where
  pub arranged : IsArranged rows (map disequation ds)
  pub scaled : AllByRecursion (λ d. IsScaled order d.products) ds
  pub sorted : IsSorted (DisequationBefore order) ds

-- ---- one row

-- the products of the variables in their order
abbrev pub picked : List ℕ → List Monomial → List Monomial
picked [] s = []
picked (x ∷ order) s = in_front (record { variable = x; factor = factor_of x s }) (picked order s)

-- the product by a number
abbrev pub over_lead : ℚ → Monomial → Monomial
over_lead k m = record { variable = m.variable; factor = m.factor /ℚ k }

-- a factor by the number is refused
pub record DividesProduct (s : List Monomial) (k : ℚ) (pair : Pair) : Type 0 where
  pub product : Monomial
  pub member : Has product s
  pub told : Tells Quotient product.factor k pair

-- the line says a multiple of the row, and is scaled
pub record Prints (order : List ℕ) (c : Constraint) (l : Line) : Type 0 where
  pub multiple : IsMultiple c (said l)
  pub scaled : IsScaled order l.products

-- ---- order

-- products of the variables in this order, no factor zero
pub record IsPlaced (order : List ℕ) (s : List Monomial) : Type 0 where
  pub ordered : InOrder order (variables s)
  pub nonzero : AllByRecursion (λ m. m.factor ≢ 0ℚ) s

abbrev pub IsLine : List ℕ → Line → Type 0
IsLine order l = IsPlaced order l.products

abbrev pub AreLines : List ℕ → List Line → Type 0
AreLines order lines = (l : Line) → Has l lines → IsLine order l

-- the factor of the first product, if it is one of x
abbrev pub first_factor : ℕ → List Monomial → ℚ
first_factor x [] = 0ℚ
first_factor x (m ∷ s) = when (nat_eq x m.variable) m.factor

-- by coefficients, then by comparison, then the lesser number first
abbrev pub LineBefore : List ℕ → Line → Line → Type 0
LineBefore order k l = Before order k.products l.products ((rank_of k.comparison < rank_of l.comparison)
    ⊎ ((k.comparison ≡ l.comparison) × (k.bound <ℚ l.bound)))

-- ---- a line among others

-- the row before the place comes before this one, and this one before the row at the place
pub record IsPlace (order : List ℕ) (rows : List PrintedRow) (row : PrintedRow) (i : ℕ) : Type 0 where
  pub within : i ≤ length rows
  pub behind : (d : PrintedRow) → 0 < i → LineBefore order (line_of (slice_index_or rows (i - 1) d)) (line_of row)
  pub front : (d : PrintedRow) → i < length rows → LineBefore order (line_of row) (line_of (slice_index_or rows i d))

-- the last of the lines comes before this one
abbrev pub LastBefore : List ℕ → List Line → Line → Type 0
LastBefore order [] l = ⊤
LastBefore order (k ∷ []) l = LineBefore order k l
LastBefore order (j ∷ k ∷ ks) l = LastBefore order (k ∷ ks) l

-- it comes before the first of the lines
abbrev pub BeforeFirst : List ℕ → Line → List Line → Type 0
BeforeFirst order l [] = ⊤
BeforeFirst order l (k ∷ ks) = LineBefore order l k

-- the line stands among the others, behind lines that come before it and in front of lines that come after it
pub record JoinsAt (order : List ℕ) (old : List Line) (l : Line) (new : List Line) : Type 0 where
  pub front : List Line
  pub back : List Line
  pub old_is : old ≡ front ++ back
  pub new_is : new ≡ front ++ l ∷ back
  pub behind_last : LastBefore order front l
  pub before_first : BeforeFirst order l back
