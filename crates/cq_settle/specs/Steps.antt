-- What the steps of a settling do to a world.
use Rattle.std.specs.Prelude.{◌≡◌, ◌≢◌, ℕ, ◌<◌, ◌≤◌, List, [], ◌∷◌, ◌++◌, map, filter, length, All, Contains, Bool, true, false, not, ◌&&◌, ◌==◌, if◌then◌else◌, Option, None, Some, is_some}
use Rattle.std.specs.List.{AllZip, list_any, filter_map, cons_option}
use Rattle.spec_numbers.specs.Rational.{ℚ}
use Rattle.spec_linear.specs.declared.Relation.TheVariants.{Eq}
use Rattle.spec_linear.specs.Form.{Linear, constant_form, variable_form, difference_form}
use Rattle.spec_linear.specs.Solution.{Constraint, Solvable, Unsolvable, Fixed}
use Rattle.spec_simplex.specs.Asked.{NoQuestion}
use Rattle.spec_terms.specs.Term.{Subst, Var, Number, apply}
use Rattle.cq_frac.specs.declared.Pair.{Pair}
use Rattle.cq_frac.specs.declared.VarId.{VarId}
use Rattle.cq_term.specs.HeapValue.{Terms}
use Rattle.cq_term.specs.Meaning.{HeapTerm, at}
use Rattle.cq_term.specs.Names.{KeepsNames}
use Rattle.cq_term.specs.Places.{numbers_of}
use Rattle.cq_attr.specs.Attributes.{Waiting, Attributes, is_numeric, find, without, IsWokenBy}
use Rattle.cq_attr.specs.declared.susp.Susp.{Susp}
use Rattle.cq_attr.specs.declared.susp.Susp.TheVariants as susp
use Rattle.cq_store.specs.StoreValue.{MayRefuse, MayTake, Only}
use Rattle.cq_settle.specs.Contents.{Contents}
use Rattle.cq_settle.specs.Standing.{constraints}

-- ---- variables that were bound

-- an atom or a compound
abbrev pub is_neither : HeapTerm → Bool
is_neither (Var v) = false
is_neither (Number q) = false
is_neither t = true

-- a numeric variable is an atom or a compound
abbrev pub ClashesAt : Contents → ℕ → Type 0
ClashesAt c v = (is_numeric c.attrs v ≡ true) × (is_neither (at c.heap.images v) ≡ true)

-- the variables are there
abbrev pub AreThere : List HeapTerm → List VarId → Type 0
AreThere images vs = All (λ (v : VarId). v.0 < length images) vs

-- and are bound
abbrev pub AreBoundThere : List HeapTerm → List VarId → Type 0
AreBoundThere images vs = All (λ (v : VarId). (v.0 < length images) × (at images v.0 ≢ Var v.0)) vs

-- what waits goes on to wait for what it waited for, and for the variables that those became
pub record WaitsOn (images : List HeapTerm) (newly : List ℕ) (k m : Waiting) : Type 0 where
  pub number : m.number ≡ k.number
  pub susp : m.susp ≡ k.susp
  pub still : (v : ℕ) → Contains k.watched v → Contains m.watched v
  pub image : (v w : ℕ) → Contains newly v → at images v ≡ Var w → Contains k.watched v → Contains m.watched w

pub record Follows (images : List HeapTerm) (newly : List ℕ) (old new : Attributes) : Type 0 where
  pub numeric : new.numeric ≡ old.numeric
  pub next : new.next ≡ old.next
  pub waiting : AllZip (WaitsOn images newly) old.waiting new.waiting

-- what waits under one of the numbers waits for the variable too
pub record WatchesToo (ns : List ℕ) (x : ℕ) (k m : Waiting) : Type 0 where
  pub number : m.number ≡ k.number
  pub susp : m.susp ≡ k.susp
  pub still : (v : ℕ) → Contains k.watched v → Contains m.watched v
  pub too : Contains ns k.number → Contains m.watched x

pub record AllWatch (ns : List ℕ) (x : ℕ) (old new : Attributes) : Type 0 where
  pub numeric : new.numeric ≡ old.numeric
  pub next : new.next ≡ old.next
  pub waiting : AllZip (WatchesToo ns x) old.waiting new.waiting

-- ---- constraints that join

-- the form of a number or a variable
abbrev pub form_of_image : HeapTerm → Linear
form_of_image (Var w) = variable_form w
form_of_image (Number q) = constant_form q
form_of_image t = variable_form 0

-- the variable less the form is zero
abbrev pub zero_difference : ℕ → Linear → Constraint
zero_difference v f = record { relation = Eq; form = difference_form (variable_form v) f }

-- the variable less its image is zero
abbrev pub equation_at : List HeapTerm → ℕ → Constraint
equation_at images v = zero_difference v (form_of_image (at images v))

-- the numeric ones of the variables
abbrev pub numeric_ones : Attributes → List VarId → List ℕ
numeric_ones a newly = filter (is_numeric a) (numbers_of newly)

-- their equations
abbrev pub equations_of : Contents → List VarId → List Constraint
equations_of c newly = map (equation_at c.heap.images) (numeric_ones c.attrs newly)

-- the constraints have joined the list, which keeps a solution, and the variables that they fix are told behind the others
pub record HaveJoined (old more new : List Constraint) (before after : List VarId) : Type 0 where
  pub list : new ≡ old ++ more
  pub solvable : Solvable old → Solvable new
  pub still : (v : ℕ) → Contains (numbers_of before) v → Contains (numbers_of after) v
  pub told : (v : ℕ) (q : ℚ) → Fixed new v q → ((r : ℚ) → Fixed old v r → ⊥) → Contains (numbers_of after) v

-- some have joined, and of the list and the next one this is a fact
pub record StopsAt (P : List Constraint → Constraint → Type 0) (old more : List Constraint) : Type 0 where
  pub done : List Constraint
  pub next : Constraint
  pub left : List Constraint
  pub split : more ≡ done ++ next ∷ left
  pub here : P (old ++ done) next

abbrev pub CannotJoin : List Constraint → Constraint → Type 0
CannotJoin l c = Unsolvable (l ++ c ∷ [])

abbrev pub Refuses : Pair → List Constraint → Constraint → Type 0
Refuses pair l c = MayRefuse l (Only c) NoQuestion pair

abbrev pub Takes : ℕ → List Constraint → Constraint → Type 0
Takes n l c = MayTake l (Only c) NoQuestion n

-- the term is the variable
abbrev pub is_the_variable : ℕ → HeapTerm → Bool
is_the_variable w (Var v) = v == w
is_the_variable w t = false

-- the variable is the image of one of the variables
abbrev pub is_image_of : List HeapTerm → List ℕ → ℕ → Bool
is_image_of images vs w = list_any (λ v. is_the_variable w (at images v)) vs

-- ---- values that are bound

abbrev pub value_or_variable : Option ℚ → ℕ → HeapTerm
value_or_variable None v = Var v
value_or_variable (Some q) v = Number q

abbrev pub valued : (ℕ → Option ℚ) → Subst ℕ
valued values v = value_or_variable (values v) v

-- Numeric variables that were unbound are bound to the values that the list gives them, and are told behind the others. All older
-- terms are read so, and each name that was known is known.
pub record BindsValues (a : Attributes) (told : List Constraint) (old new : Terms) (before after : List VarId) (values : ℕ → Option ℚ) : Type 0 where
  pub sound : (v : ℕ) (q : ℚ) → values v ≡ Some q → (is_numeric a v ≡ true) × (at old.images v ≡ Var v) × Fixed told v q
  pub longer : length old.terms ≤ length new.terms
  pub terms : (id : ℕ) → id < length old.terms → at new.terms id ≡ apply (valued values) (at old.terms id)
  pub images : new.images ≡ map (apply (valued values)) old.images
  pub more : List VarId
  pub list : after ≡ before ++ more
  pub newly : (v : ℕ) (q : ℚ) → values v ≡ Some q → Contains (numbers_of more) v
  pub names : (n : ℕ) → KeepsNames n old new

-- the constraint has joined the list, and the numeric variables that it fixes and that were unbound are bound
pub record JoinsAndBinds (c : Contents) (joins : Constraint) (d : Contents) (before after : List VarId) : Type 0 where
  pub list : d.told ≡ c.told ++ joins ∷ []
  pub solvable : Solvable d.told
  pub attrs : d.attrs ≡ c.attrs
  pub values : ℕ → Option ℚ
  pub binds : BindsValues c.attrs d.told c.heap d.heap before after values
  pub complete : (v : ℕ) (q : ℚ) → is_numeric c.attrs v ≡ true → at c.heap.images v ≡ Var v → Fixed d.told v q
      → ((r : ℚ) → Fixed c.told v r → ⊥) → values v ≡ Some q

-- variables were bound behind the others, and none where no fewer constraints wait
pub record HasFewer (c d : Contents) (before after : List VarId) : Type 0 where
  pub more : List VarId
  pub list : after ≡ before ++ more
  pub fewer : length (constraints d.attrs) ≤ length (constraints c.attrs)
  pub none : length (constraints d.attrs) ≡ length (constraints c.attrs) → after ≡ before

-- ---- goals that wake

abbrev pub is_unbound_term : HeapTerm → Bool
is_unbound_term (Var v) = true
is_unbound_term t = false

abbrev pub goal_that_wakes : List HeapTerm → Susp → Option ℕ
goal_that_wakes images (susp.Delayed t) = None
goal_that_wakes images (susp.Goal v t) = if is_unbound_term (at images v.0) then None else Some t

-- it waits for one of the variables
abbrev pub waits_for_one : List ℕ → Waiting → Bool
waits_for_one bound k = list_any (λ v. list_any (λ w. w == v) k.watched) bound

abbrev pub wakes : List HeapTerm → Waiting → Bool
wakes images k = is_some (goal_that_wakes images k.susp)

-- nothing waits under the number any more, where a goal is given
abbrev pub unless_given : Option ℕ → ℕ → Attributes → Attributes
unless_given None n a = a
unless_given (Some g) n a = without a n

-- what waits under the number, where it is a goal that wakes, is given and waits no more
pub record WakesOne (images : List HeapTerm) (n : ℕ) (old new : Attributes) (before after : List ℕ) : Type 0 where
  pub susp : Susp
  pub found : find old.waiting n ≡ Some susp
  pub attrs : new ≡ unless_given (goal_that_wakes images susp) n old
  pub given : after ≡ before ++ cons_option (goal_that_wakes images susp) []

-- of what waits for one of the bound variables, the goals of variables that are none any more are given and wait no more
pub record WakesAll (c : Contents) (bound : List ℕ) (a : Attributes) (goals : List ℕ) : Type 0 where
  pub numeric : a.numeric ≡ c.attrs.numeric
  pub next : a.next ≡ c.attrs.next
  pub given : goals ≡ filter_map (λ k. if waits_for_one bound k then goal_that_wakes c.heap.images k.susp else None) c.attrs.waiting
  pub waiting : a.waiting ≡ filter (λ k. not (waits_for_one bound k && wakes c.heap.images k)) c.attrs.waiting

-- nothing was told, no numeric variable was bound, and nothing waits for those that were
pub record IsIdle (c : Contents) (newly : List VarId) (told : List ℕ) (rows : List Constraint) : Type 0 where
  pub nothing_told : told ≡ []
  pub no_rows : rows ≡ []
  pub numeric : (v : ℕ) → Contains (numbers_of newly) v → is_numeric c.attrs v ≡ false
  pub awaited : (n : ℕ) → IsWokenBy c.attrs (numbers_of newly) n → ⊥
