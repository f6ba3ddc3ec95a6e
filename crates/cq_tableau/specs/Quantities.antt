-- Names as quantities of the told list, and forms of the named variables.
use Rattle.std.specs.Prelude.{ℕ, suc, pred, List, [], ◌∷◌, length, Bool, true, false, nat_eq, Option, None, Some, slice_get}
use Rattle.spec_linear.specs.Solution.{Constraint}
use Rattle.spec_linear.specs.Form.{Linear, variable_form}
use Rattle.spec_simplex.specs.LimitsDictionary.{Quantity, variable, member, member_at}
use Rattle.spec_projection.specs.Interior.{is_equation}
use Rattle.cq_frac.specs.Rows.{choose}
use Rattle.cq_tableau.specs.declared.names.Name.{Name}
use Rattle.cq_tableau.specs.declared.names.Name.TheVariants.{Variable, Member}

-- the name of a quantity, and the quantity of a name; told constraints are numbered from 1, and members from 0
abbrev pub name_of : Quantity → Name
name_of (variable x) = Variable (record { 0 = x })
name_of (member i) = Member (suc i)

abbrev pub quantity_of : Name → Quantity
quantity_of (Variable x) = variable x.0
quantity_of (Member i) = member (pred i)

abbrev pub stands_for : Name → Quantity → Bool
stands_for (Variable x) (variable y) = nat_eq x.0 y
stands_for (Variable x) (member i) = false
stands_for (Member j) (variable y) = false
stands_for (Member j) (member i) = nat_eq j (suc i)

-- the number of a quantity
abbrev pub place : List Name → Quantity → ℕ
place [] q = 0
place (t ∷ names) q = choose (stands_for t q) 0 (suc (place names q))

-- the quantities whose numbers, from i on, p picks
abbrev pub picked : (ℕ → Bool) → ℕ → List Name → List Quantity
picked p i [] = []
picked p i (t ∷ names) = choose (p i) (quantity_of t ∷ picked p (suc i) names) (picked p (suc i) names)

-- the forms of the variables
abbrev pub variable_forms : List Name → List Linear
variable_forms [] = []
variable_forms (Variable x ∷ names) = variable_form x.0 ∷ variable_forms names
variable_forms (Member i ∷ names) = variable_forms names

-- the quantity of a number; past the names one that the list does not have
abbrev pub quantity_here : List Constraint → Option Name → Quantity
quantity_here told None = member (length told)
quantity_here told (Some t) = quantity_of t

abbrev pub numbered : List Constraint → List Name → ℕ → Quantity
numbered told names i = quantity_here told (slice_get names i)

-- an equation's form, or a form without a name
abbrev pub stands_apart : List Constraint → Option Name → Bool
stands_apart told None = true
stands_apart told (Some (Variable x)) = false
stands_apart told (Some (Member j)) = is_equation (member_at told (pred j)).relation
