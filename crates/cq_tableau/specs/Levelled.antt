-- What became of a row that is to be zero.
use Rattle.std.specs.Prelude.{◌≡◌, ◌⊎◌, ℕ, List, Bool, true, false, Option, None, Some}
use Rattle.spec_numbers.specs.Rational.{ℚ, 0ℚ, neg_ℚ, IsPositive, ◌<ℚ◌}
use Rattle.spec_linear.specs.Form.{Linear, negated_form}
use Rattle.spec_linear.specs.Solution.{Constraint}
use Rattle.spec_simplex.specs.Rule.{Raises, Leaves, IsDue, IsUnlimited, IsFree}
use Rattle.spec_simplex.specs.Reach.{Rises}
use Rattle.spec_simplex.specs.Tableau.{HasFeasibleNumbers}
use Rattle.cq_frac.specs.declared.Pair.{Pair}
use Rattle.cq_frac.specs.Refused.{IsRefused}
use Rattle.cq_frac.specs.declared.row.Entry.{Entry}
use Rattle.cq_frac.specs.Row.{Row}
use Rattle.cq_frac.specs.Rows.{Has}
use Rattle.cq_dict.specs.declared.table.Role.{Role}
use Rattle.cq_dict.specs.declared.table.Role.TheVariants.{Basic}
use Rattle.cq_dict.specs.Roles.{IsAt, IsRow, AreOverColumns, HasEntry, IsExchanged, IsEliminated, PivotPair, is_restricted, constant_at}
use Rattle.cq_dict.specs.Dict.{SameMeaning}
use Rattle.cq_simplex.specs.Climbs.{IsCarried}
use Rattle.cq_simplex.specs.declared.Aim.TheVariants.{Positive}
use Rattle.cq_simplex.specs.Answers.{AreSpent}
use Rattle.cq_simplex.specs.Dictionary.{dictionary}
use Rattle.cq_simplex.specs.Turns.{IsEntering}
use Rattle.cq_tableau.specs.Forms.{form_at, tableau}
use Rattle.cq_tableau.specs.Keeps.{Keeps, StillKeeps, SameDropped}
use Rattle.cq_tableau.specs.Raised.{HasNoFreeColumn}
use Rattle.cq_tableau.specs.declared.level.levelling.Levelled.{Levelled}
use Rattle.cq_tableau.specs.declared.level.levelling.Levelled.TheVariants.{Level, Crossing, Short}
use Rattle.cq_tableau.specs.declared.level.levelling.Step.{Step}
use Rattle.cq_tableau.specs.declared.level.levelling.Step.TheVariants.{Ends, Exchange}
use Rattle.cq_tableau.specs.Turned.{towards}

-- ---- in one dictionary
-- the row is below zero and is to rise, or above zero and is to fall
abbrev pub IsOff : Bool → List Role → ℕ → Type 0
IsOff up roles q = constant_at (towards up roles q) q <ℚ 0ℚ

-- it is above zero, or below
abbrev pub IsPassed : Bool → ℚ → Bool → Type 0
IsPassed true number passed = (passed ≡ true → IsPositive number) × (passed ≡ false → IsPositive number → ⊥)
IsPassed false number passed = (passed ≡ true → number <ℚ 0ℚ) × (passed ≡ false → number <ℚ 0ℚ → ⊥)

-- the column that enters so that the row goes towards zero, or there is none
abbrev pub IsSloping : List Role → List Bool → ℕ → Bool → Option ℕ → Type 0
IsSloping roles flags q up found = IsEntering (towards up roles q) flags q found

-- a column that may take any value, or one that no row limits on the way to zero
abbrev pub CrossesBy : List Role → List Bool → ℕ → Bool → ℕ → Type 0
CrossesBy roles flags q up c =
    IsFree (is_restricted flags) (dictionary roles q) c
    ⊎ (HasNoFreeColumn roles flags q × IsUnlimited (is_restricted flags) (dictionary (towards up roles q) q) c)

-- no column brings it nearer to zero
abbrev pub NoneNearer : List Role → List Bool → ℕ → Bool → Type 0
NoneNearer roles flags q up =
    HasNoFreeColumn roles flags q × ((c : ℕ) → Raises (is_restricted flags) (dictionary (towards up roles q) q) c → ⊥)

abbrev pub IsNext : List Role → List Bool → ℕ → Bool → Step → Type 0
IsNext roles flags q up (Ends Level) = ⊥
IsNext roles flags q up (Ends (Crossing c)) = CrossesBy roles flags q up c
IsNext roles flags q up (Ends Short) = NoneNearer roles flags q up
IsNext roles flags q up (Exchange r c) =
    HasNoFreeColumn roles flags q × IsDue (is_restricted flags) (dictionary (towards up roles q) q) c r

-- the row has no unrestricted column, this column brings it nearer to zero, and this row limits the column first
pub record IsNearing (roles : List Role) (flags : List Bool) (q : ℕ) (up : Bool) (r c : ℕ) : Type 0 where
  pub none : HasNoFreeColumn roles flags q
  pub raises : Raises (is_restricted flags) (dictionary (towards up roles q) q) c
  pub leaves : Leaves (is_restricted flags) (dictionary (towards up roles q) q) c r

-- an operation of an exchange refuses the pair
pub record RefusesSome (roles : List Role) (pair : Pair) : Type 0 where
  pub row : ℕ
  pub column : ℕ
  pub made : PivotPair roles row column pair.operation pair.left pair.right
  pub refused : IsRefused pair

-- ---- where it has come to
-- the row is a row still, and what was kept is kept
pub record StaysRow (q : ℕ) (old : List Role) (flags : List Bool) (new : List Role) : Type 0 where
  pub keeps : StillKeeps old new flags
  pub dropped : SameDropped old new
  pub row : IsRow new q

-- the row has values on both sides of zero, and where it is zero the column may take its place
pub record CrossesAt (roles : List Role) (flags : List Bool) (q c : ℕ) : Type 0 where
  pub entry : HasEntry roles q c
  pub rises : (forms : List Linear) (l : List Constraint) → Keeps forms l roles flags → Rises l (form_at forms q)
  pub falls : (forms : List Linear) (l : List Constraint) → Keeps forms l roles flags → Rises l (negated_form (form_at forms q))
  pub feasible : (forms : List Linear) (l : List Constraint) → Keeps forms l roles flags → (new : List Role) → IsEliminated roles q c new
      → SameMeaning roles new → AreOverColumns new → HasFeasibleNumbers (tableau new flags forms)

-- it is not zero, and its columns, which are restricted, can bring it no nearer
abbrev pub HoldBelow : List Bool → Row → Type 0
HoldBelow flags own = (own.constant <ℚ 0ℚ) × ((m : Entry) → Has m own.live → IsPositive (neg_ℚ m.factor) × (is_restricted flags m.quantity ≡ true))

abbrev pub HoldAbove : List Bool → Row → Type 0
HoldAbove flags own = IsPositive own.constant × ((m : Entry) → Has m own.live → IsPositive m.factor × (is_restricted flags m.quantity ≡ true))

abbrev pub IsShort : List Role → List Bool → ℕ → Type 0
IsShort roles flags q = (own : Row) → IsAt roles q (Basic own) → HoldBelow flags own ⊎ HoldAbove flags own

abbrev pub IsLevelled : ℕ → List Role → List Bool → List Role → Levelled → Type 0
IsLevelled q old flags new Level = StaysRow q old flags new × (constant_at new q ≡ 0ℚ)
IsLevelled q old flags new (Crossing c) = StaysRow q old flags new × CrossesAt new flags q c
IsLevelled q old flags new Short = StaysRow q old flags new × IsShort new flags q

-- the two are exchanged, and the row is off zero still
pub record GoesOn (q : ℕ) (up : Bool) (old : List Role) (flags : List Bool) (r c : ℕ) (new : List Role) : Type 0 where
  pub same : SameMeaning (towards up old q) (towards up new q)
  pub exchanged : IsExchanged (towards up old q) r c (towards up new q)
  pub table : AreOverColumns (towards up new q)
  pub carried : IsCarried old flags q new
  pub off : IsOff up new q

-- what an exchange came to: the row is off zero still, or it is zero, or the exchange is not made, since the row passes zero by it
abbrev pub IsGone : ℕ → Bool → List Role → List Bool → ℕ → ℕ → List Role → Option Levelled → Type 0
IsGone q up old flags r c new None = GoesOn q up old flags r c new
IsGone q up old flags r c new (Some Level) = StaysRow q old flags new × (constant_at new q ≡ 0ℚ)
IsGone q up old flags r c new (Some (Crossing d)) = StaysRow q old flags new × CrossesAt new flags q d
IsGone q up old flags r c new (Some Short) = ⊥

-- the row is off zero still, in a feasible dictionary of the same solutions
pub record StaysOff (q : ℕ) (up : Bool) (old : List Role) (flags : List Bool) (new : List Role) : Type 0 where
  pub carried : IsCarried old flags q new
  pub off : IsOff up new q

-- what a climb came to
abbrev pub IsClimbed : ℕ → Bool → List Role → List Bool → List Role → Option Levelled → Type 0
IsClimbed q up old flags new None = StaysOff q up old flags new
IsClimbed q up old flags new (Some l) = IsLevelled q old flags new l

-- ---- stops
-- an operation of an exchange refuses the pair, where the row has come to
pub record RefusesLevel (q : ℕ) (old : List Role) (flags : List Bool) (pair : Pair) : Type 0 where
  pub roles : List Role
  pub stays : StaysRow q old flags roles
  pub refuses : RefusesSome roles pair

-- from some feasible dictionary of the same solutions so many exchanges are made by the rule for the row, or for its negative, and another
-- is due
pub record SpendsLevel (q : ℕ) (old : List Role) (flags : List Bool) (n : ℕ) : Type 0 where
  pub from : List Role
  pub carried : IsCarried old flags q from
  pub up : Bool
  pub last : List Role
  pub spent : AreSpent (towards up from q) flags q Positive n last
