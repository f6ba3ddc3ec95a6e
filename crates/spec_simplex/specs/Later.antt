-- A moment with the list and the asked forms of another.
use Rattle.std.specs.Prelude.{◌≡◌, List}
use Rattle.spec_linear.specs.Form.{Linear}
use Rattle.spec_linear.specs.Solution.{Has}
use Rattle.spec_simplex.specs.Overflow.{Stage, answering, Operands, Moment}

-- the moment at another stage, with other operations and rows
abbrev pub in_place_of : Moment → Stage → List Operands → List Linear → Moment
in_place_of m stage operations rows = record { stage = stage; list = m.list; asked = m.asked; operations = operations; rows = rows }

-- it has the moment's operations and rows, and where that is one of an answer, it is so too
pub record HasAll (m : Moment) (stage : Stage) (operations : List Operands) (rows : List Linear) : Type 0 where
  pub answers : m.stage ≡ answering → stage ≡ answering
  pub each_operation : (o : Operands) → Has o m.operations → Has o operations
  pub each_row : (f : Linear) → Has f m.rows → Has f rows
