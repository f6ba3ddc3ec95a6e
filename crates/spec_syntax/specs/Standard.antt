-- The operators at the start.
use Rattle.std.specs.Prelude.{ℕ, List, [], ◌∷◌, codes, None}
use Rattle.spec_syntax.specs.declared.operators.OpKind.{OpKind}
use Rattle.spec_syntax.specs.declared.operators.OpKind.TheVariants.{Xfx, Xfy, Yfx, Fy, Fx}
use Rattle.spec_numbers.specs.Texts.{Text}
use Rattle.spec_syntax.specs.Operators.{Ops, put}

-- names of one priority and kind
pub record Row : Type 0 where
  pub priority : ℕ
  pub kind : OpKind
  pub names : List Text

-- a row of the table: these names have this kind and priority
abbrev pub row : ℕ → OpKind → List Text → Row
row priority kind names = record { priority = priority; kind = kind; names = names }

-- priority, kind and names
abbrev pub rows : List Row
rows =
    row 1200 Xfx (codes ":-" ∷ codes "-->" ∷ [])
    ∷ row 1200 Fx (codes ":-" ∷ codes "?-" ∷ [])
    ∷ row 1150 Fx (codes "dynamic" ∷ codes "discontiguous" ∷ codes "initialization" ∷ [])
    ∷ row 1100 Xfy (codes ";" ∷ [])
    ∷ row 1050 Xfy (codes "->" ∷ [])
    ∷ row 1000 Xfy (codes "," ∷ [])
    ∷ row 900 Fy (codes "\\+" ∷ [])
    ∷ row 700 Xfx (codes "=" ∷ codes "\\=" ∷ codes "==" ∷ codes "\\==" ∷ codes "@<" ∷ codes "@=<" ∷ codes "@>" ∷ codes "@>=" ∷ codes "=.."
    ∷ codes "is" ∷ codes "=:=" ∷ codes "=\\=" ∷ codes "<" ∷ codes "=<" ∷ codes ">" ∷ codes ">=" ∷ [])
    ∷ row 500 Yfx (codes "+" ∷ codes "-" ∷ codes "/\\" ∷ codes "\\/" ∷ [])
    ∷ row 400 Yfx (codes "*" ∷ codes "/" ∷ codes "//" ∷ codes "rem" ∷ codes "mod" ∷ codes "<<" ∷ codes ">>" ∷ [])
    ∷ row 200 Xfx (codes "**" ∷ [])
    ∷ row 200 Xfy (codes "^" ∷ [])
    ∷ row 200 Fy (codes "-" ∷ codes "\\" ∷ codes "+" ∷ [])
    ∷ []

-- the table with each of these names set
abbrev pub put_names : Ops → ℕ → OpKind → List Text → Ops
put_names ops priority kind [] = ops
put_names ops priority kind (name ∷ names) = put_names (put ops priority kind name) priority kind names

-- the table with each of these rows set
abbrev pub put_rows : Ops → List Row → Ops
put_rows ops [] = ops
put_rows ops (r ∷ rs) = put_rows (put_names ops r.priority r.kind r.names) rs

-- no operators
abbrev pub empty : Ops
empty = record { prefix = λ name. None; infixed = λ name. None; postfix = λ name. None }

-- the operators at the start
abbrev pub standard : Ops
standard = put_rows empty rows
