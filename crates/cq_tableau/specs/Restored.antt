-- Restricted columns that were dropped are live again, and a row is at its greatest value over what is live then.
use Rattle.std.specs.Prelude.{◌≡◌, ◌⊎◌, ℕ, ◌<◌, List, [], ◌∷◌, ◌++◌, Bool, true, false, length}
use Rattle.spec_numbers.specs.Rational.{ℚ, 1ℚ, neg_ℚ, IsPositive}
use Rattle.spec_numbers.specs.Sums.{Mentions}
use Rattle.spec_linear.specs.Form.{Linear, IsForm, negated_form}
use Rattle.spec_linear.specs.Solution.{Constraint}
use Rattle.spec_simplex.specs.Entries.{entries}
use Rattle.spec_simplex.specs.Reach.{IsGreatest}
use Rattle.cq_form.specs.Entries.{products_of}
use Rattle.cq_frac.specs.declared.Pair.{Pair}
use Rattle.cq_frac.specs.Refused.{IsRefused}
use Rattle.cq_frac.specs.declared.row.Entry.{Entry}
use Rattle.cq_frac.specs.Row.{Row}
use Rattle.cq_frac.specs.Rows.{Has, negated}
use Rattle.cq_dict.specs.declared.table.Role.{Role}
use Rattle.cq_dict.specs.declared.table.Role.TheVariants.{Basic}
use Rattle.cq_dict.specs.Roles.{Quantities, IsAt, IsRow, AreOverColumns, PivotPair, is_live, is_dropped, is_restricted}
use Rattle.cq_dict.specs.Dict.{SameMeaning, AddsRow, DefinesLast, RefusesForm}
use Rattle.cq_simplex.specs.declared.Aim.TheVariants.{Best}
use Rattle.cq_simplex.specs.Answers.{AreSpent}
use Rattle.cq_tableau.specs.declared.names.Name.{Name}
use Rattle.cq_tableau.specs.Forms.{form_at}
use Rattle.cq_tableau.specs.Keeps.{Speaks, StillSpeaks}
use Rattle.cq_tableau.specs.Refuted.{number_in}
use Rattle.cq_tableau.specs.Stored.{IsKnown, IsBetween, IsPlaced}

-- the same assignments meet the rows, and some restricted columns that were dropped are live
pub record Restores (flags : List Bool) (old new : List Role) : Type 0 where
  pub table : AreOverColumns new
  pub size : length new ≡ length old
  pub same : SameMeaning old new
  pub rows : (z : ℕ) → IsRow old z → IsRow new z
  pub live : (z : ℕ) → is_live old z ≡ true → is_live new z ≡ true
  pub only : (z : ℕ) → is_dropped new z ≡ true → is_dropped old z ≡ true
  pub turned : (z : ℕ) → is_dropped old z ≡ true → (is_dropped new z ≡ true) ⊎ ((is_live new z ≡ true) × (is_restricted flags z ≡ true))

-- no dropped column below a number is restricted
abbrev pub NoneBelow : List Bool → ℕ → List Role → Type 0
NoneBelow flags count roles = (z : ℕ) → z < count → is_dropped roles z ≡ true → is_restricted flags z ≡ false

-- ---- a row
-- the quantity's form has a greatest value on a list of which the quantities speak
pub record HasGreatest (roles : List Role) (flags : List Bool) (q : ℕ) : Type 0 where
  pub forms : List Linear
  pub list : List Constraint
  pub speaks : Speaks forms list roles flags
  pub value : ℚ
  pub greatest : IsGreatest list (form_at forms q) value

-- the row's constant is its greatest value, and no restricted column is dropped
pub record IsHighest (flags : List Bool) (q : ℕ) (old new : List Role) (own : Row) : Type 0 where
  pub speaks : StillSpeaks old new flags
  pub none : (z : ℕ) → is_dropped new z ≡ true → is_restricted flags z ≡ false
  pub only : (z : ℕ) → is_dropped new z ≡ true → is_dropped old z ≡ true
  pub is_row : IsAt new q (Basic own)
  pub positive : (m : Entry) → Has m (negated own.live) → IsPositive m.factor
  pub restricted : (m : Entry) → Has m (negated own.live) → is_restricted flags m.quantity ≡ true

-- the numbers of the columns' members, each with the negative of the column's factor
abbrev pub members_of : List Name → Row → List (ℕ × ℚ)
members_of names own = entries (number_in names) (products_of own.live) ++ entries (number_in names) (products_of own.dropped)

pub record AreHighest (names : List Name) (q : ℕ) (old : List Role) (flags : List Bool) (found : List (ℕ × ℚ)) : Type 0 where
  pub new : List Role
  pub own : Row
  pub highest : IsHighest flags q old new own
  pub is : found ≡ members_of names own

-- an operation of an exchange refuses the pair, in roles that say what the old ones say
pub record RefusesRaised (q : ℕ) (old : List Role) (flags : List Bool) (pair : Pair) : Type 0 where
  pub roles : List Role
  pub speaks : StillSpeaks old roles flags
  pub is_row : IsRow roles q
  pub row : ℕ
  pub column : ℕ
  pub made : PivotPair roles row column pair.operation pair.left pair.right
  pub refused : IsRefused pair

-- so many exchanges are made for the row in such roles, and another is due
pub record SpendsRaised (q : ℕ) (old : List Role) (flags : List Bool) (n : ℕ) : Type 0 where
  pub roles : List Role
  pub speaks : StillSpeaks old roles flags
  pub is_row : IsRow roles q
  pub last : List Role
  pub spent : AreSpent roles flags q Best n last

-- ---- a form, for which a row is made
-- it has a greatest value on a list that is stored but for how its members stand
pub record AsksGreatest (names : List Name) (q : Quantities) (f : Linear) : Type 0 where
  pub list : List Constraint
  pub between : IsBetween list names q
  pub known : (x : ℕ) → Mentions x f.products → IsKnown names x
  pub value : ℚ
  pub greatest : IsGreatest list f value

-- it is the last quantity
pub record HasFormRow (names : List Name) (q : Quantities) (f : Linear) (new : Quantities) : Type 0 where
  pub entries : List Entry
  pub placed : IsPlaced names f.products entries
  pub row : AddsRow q.roles entries f.constant new.roles
  pub defines : DefinesLast q.roles entries f.constant new.roles
  pub table : AreOverColumns new.roles
  pub flags : new.restricted ≡ q.restricted ++ false ∷ []

pub record AreFormEntries (names : List Name) (q : Quantities) (f : Linear) (found : List (ℕ × ℚ)) : Type 0 where
  pub mid : Quantities
  pub has_row : HasFormRow names q f mid
  pub highest : AreHighest names (length q.roles) mid.roles mid.restricted found

-- an operation of making the row, or of raising it, refuses the pair
pub data RefusesFormEntries (names : List Name) (q : Quantities) (f : Linear) (pair : Pair) : Type 0 where
  making : (entries : List Entry) → IsPlaced names f.products entries → IsForm f → RefusesForm q.roles entries f.constant pair → RefusesFormEntries names q f pair
  raising : (mid : Quantities) → HasFormRow names q f mid → RefusesRaised (length q.roles) mid.roles mid.restricted pair → RefusesFormEntries names q f pair

pub record SpendsFormEntries (names : List Name) (q : Quantities) (f : Linear) (n : ℕ) : Type 0 where
  pub mid : Quantities
  pub has_row : HasFormRow names q f mid
  pub spends : SpendsRaised (length q.roles) mid.roles mid.restricted n

-- ---- certificates with such entries
-- the row's constraint of this number, once, and what holds it down
pub record IsRestoredCertificate (names : List Name) (q : ℕ) (old : List Role) (flags : List Bool) (number : ℕ) (cert : List (ℕ × ℚ)) : Type 0 where
  pub found : List (ℕ × ℚ)
  pub highest : AreHighest names q old flags found
  pub is : cert ≡ (number, 1ℚ) ∷ found

-- the same of a form
pub record IsFormCertificate (names : List Name) (q : Quantities) (f : Linear) (number : ℕ) (cert : List (ℕ × ℚ)) : Type 0 where
  pub found : List (ℕ × ℚ)
  pub entries : AreFormEntries names q f found
  pub is : cert ≡ (number, 1ℚ) ∷ found

-- of a form and of its negative
pub record IsApartCertificate (names : List Name) (q : Quantities) (f : Linear) (number : ℕ) (cert : List (ℕ × ℚ)) : Type 0 where
  pub up : List (ℕ × ℚ)
  pub down : List (ℕ × ℚ)
  pub rises : AreFormEntries names q f up
  pub falls : AreFormEntries names q (negated_form f) down
  pub is : cert ≡ (number, 1ℚ) ∷ up ++ (number, neg_ℚ 1ℚ) ∷ down

-- an operation for the form or for its negative refuses the pair
abbrev pub RefusesEither : List Name → Quantities → Linear → Pair → Type 0
RefusesEither names q f pair = RefusesFormEntries names q f pair ⊎ RefusesFormEntries names q (negated_form f) pair

abbrev pub SpendsEither : List Name → Quantities → Linear → ℕ → Type 0
SpendsEither names q f n = SpendsFormEntries names q f n ⊎ SpendsFormEntries names q (negated_form f) n
