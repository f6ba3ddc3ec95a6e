-- What a store holds: the told list, and a table of its quantities with their names.
use Rattle.std.specs.Prelude.{◌≡◌, ℕ, zero, suc, List, [], ◌∷◌, length, map, Option, None, Some, slice_get, nat_eq, option_and_then, true}
use Rattle.spec_numbers.specs.Rational.{ℚ}
use Rattle.spec_numbers.specs.Sums.{Monomial}
use Rattle.spec_linear.specs.Form.{Linear, variable_form}
use Rattle.spec_linear.specs.Solution.{Constraint, Has, MentionsOnly}
use Rattle.spec_simplex.specs.LimitsDictionary.{Quantity, variable, member}
use Rattle.spec_linear.specs.Echelon.{AreDistinct}
use Rattle.cq_frac.specs.declared.VarId.{VarId}
use Rattle.cq_frac.specs.declared.row.Entry.{Entry}
use Rattle.cq_frac.specs.Rows.{choose}
use Rattle.cq_dict.specs.declared.table.Role.{Role}
use Rattle.cq_dict.specs.declared.table.Role.TheVariants.{Live, Dropped, Basic}
use Rattle.cq_dict.specs.Roles.{AreOverColumns, is_live}
use Rattle.cq_equations.specs.declared.table.Name.{Name}
use Rattle.cq_equations.specs.declared.table.Name.TheVariants.{Variable, Member}
use Rattle.cq_equations.specs.Describes.{Describes, IsSolved, NoOtherRows, ReachesBehind}

-- the quantities by their numbers: what each stands for, and what it is in the table
pub record Named : Type 0 where
  pub names : List Name
  pub roles : List Role

pub record Contents : Type 0 where
  -- how many exchanges a call may make
  pub pivots : ℕ
  pub told : List Constraint
  pub table : Named

-- ---- names

-- the variables, in the order in which their columns were made
abbrev pub variables_of : List Name → List ℕ
variables_of [] = []
variables_of (Variable x ∷ names) = x.0 ∷ variables_of names
variables_of (Member ∷ names) = variables_of names

-- the variable of a number, or 0 where that is a member's form
abbrev pub variable_in : Option Name → ℕ
variable_in None = 0
variable_in (Some (Variable x)) = x.0
variable_in (Some Member) = 0

-- the number of a variable, or that of a new quantity
abbrev pub place_of_variable : List Name → ℕ → ℕ
place_of_variable [] x = 0
place_of_variable (Variable y ∷ names) x = choose (nat_eq y.0 x) 0 (suc (place_of_variable names x))
place_of_variable (Member ∷ names) x = suc (place_of_variable names x)

-- x is one of the variables, and n is its number
abbrev pub IsNumberOf : List Name → ℕ → ℕ → Type 0
IsNumberOf names x n = Has x (variables_of names) × (n ≡ place_of_variable names x)

-- the number of the form of the member at a place, or that of a new quantity
abbrev pub place_of_member : List Name → ℕ → ℕ
place_of_member [] i = 0
place_of_member (Variable y ∷ names) i = suc (place_of_member names i)
place_of_member (Member ∷ names) zero = 0
place_of_member (Member ∷ names) (suc i) = suc (place_of_member names i)

abbrev pub place_of : List Name → Quantity → ℕ
place_of names (variable x) = place_of_variable names x
place_of names (member i) = place_of_member names i

-- how many members' forms there are
abbrev pub members_in : List Name → ℕ
members_in [] = 0
members_in (Variable x ∷ names) = members_in names
members_in (Member ∷ names) = suc (members_in names)

-- ---- rows

-- entries of variables, as products
abbrev pub products_of : List Name → List Entry → List Monomial
products_of names s = map (λ m. record { variable = variable_in (slice_get names m.quantity); factor = m.factor }) s

-- a row's constant and its live entries, as a form; columns have none
abbrev pub form_of_role : List Name → Role → Option Linear
form_of_role names Live = None
form_of_role names Dropped = None
form_of_role names (Basic r) = Some (record { products = products_of names r.live; constant = r.constant })

-- ---- what the contents say

abbrev pub told_of : Contents → List Constraint
told_of s = s.told

-- the variables, in the order in which their columns were made
abbrev pub order_of : Contents → List ℕ
order_of s = variables_of s.table.names

-- the form of free variables that a variable is; none for a free or an unknown one
abbrev pub solved_in : Named → ℕ → Option Linear
solved_in t x = option_and_then (form_of_role t.names) (slice_get t.roles (place_of_variable t.names x))

-- the number that a form is
abbrev pub number_if_empty : List Monomial → ℚ → Option ℚ
number_if_empty [] q = Some q
number_if_empty (m ∷ s) q = None

abbrev pub number_in : Option Linear → Option ℚ
number_in None = None
number_in (Some f) = number_if_empty f.products f.constant

abbrev pub solved_of : Contents → ℕ → Option Linear
solved_of s = solved_in s.table

-- the forms of variables
abbrev pub variable_forms : List ℕ → List Linear
variable_forms order = map variable_form order

-- ---- what always holds of them

-- the quantity of number n is the variable
pub record IsNamed (names : List Name) (n : ℕ) (x : VarId) : Type 0 where
  pub get : slice_get names n ≡ Some (Variable x)

-- each quantity has a name, no variable has two, and live columns are variables
pub record AreNamed (t : Named) : Type 0 where
  pub table : AreOverColumns t.roles
  pub size : length t.names ≡ length t.roles
  pub distinct : AreDistinct (variables_of t.names)
  pub columns : (c : ℕ) → is_live t.roles c ≡ true → (x : VarId) × IsNamed t.names c x

-- the told list is one of equations, which the table speaks of and is solved for
pub record IsStored (told : List Constraint) (t : Named) : Type 0 where
  pub named : AreNamed t
  pub live : List Quantity
  pub gone : List Quantity
  pub describes : Describes told (variable_forms (variables_of t.names)) t.roles (place_of t.names) live gone
  pub solved : IsSolved told t.roles (place_of t.names) gone
  pub rows : NoOtherRows told (variable_forms (variables_of t.names)) t.roles (place_of t.names)
  pub behind : ReachesBehind t.roles
  pub known : MentionsOnly (variables_of t.names) told
  pub members : members_in t.names ≡ length told
