-- The operator table: a finite map from a name and a position to a priority and a kind, and what `op/3` does to it.
use Rattle.std.specs.Prelude.{ℕ, ◌≡◌, ◌-◌, ◌≤◌, ℤ, pos, negsuc, Bool, false, not, ◌&&◌, ◌||◌, ◌==◌, nat_le, bytes_eq, codes, Option, Some, None, is_some, Result, Ok, Err, if◌then◌else◌}
use Rattle.spec_syntax.specs.declared.operators.OpKind.{OpKind}
use Rattle.spec_syntax.specs.declared.operators.OpKind.TheVariants.{Xfx, Xfy, Yfx, Fy, Fx, Xf, Yf}
use Rattle.spec_syntax.specs.declared.operators.OpDef.{OpDef}
use Rattle.spec_numbers.specs.Texts.{Text}

-- where an operator stands: before its operand, between two, or behind one
pub data Position : Type 0 where
  Prefix : Position
  Infix : Position
  Postfix : Position

-- where an operator of this kind stands
abbrev pub position_of : OpKind → Position
position_of Xfx = Infix
position_of Xfy = Infix
position_of Yfx = Infix
position_of Fy = Prefix
position_of Fx = Prefix
position_of Xf = Postfix
position_of Yf = Postfix

-- the most that the priority of its left operand may be: its own at a y, one less at an x
abbrev pub left_most : OpDef → ℕ
left_most op = elim op.kind [ Xfx ↦ op.priority - 1 | Xfy ↦ op.priority - 1 | Yfx ↦ op.priority | Fy ↦ 0 | Fx ↦ 0 | Xf ↦ op.priority - 1 | Yf ↦ op.priority ]

-- the most that the priority of its right operand may be
abbrev pub right_most : OpDef → ℕ
right_most op = elim op.kind [ Xfx ↦ op.priority - 1 | Xfy ↦ op.priority | Yfx ↦ op.priority - 1 | Fy ↦ op.priority | Fx ↦ op.priority - 1 | Xf ↦ 0 | Yf ↦ 0 ]

-- the operator that a name is in each position
pub record Ops : Type 0 where
  pub prefix : Text → Option OpDef
  pub infixed : Text → Option OpDef
  pub postfix : Text → Option OpDef

-- an operator that may stand in the table in this position
pub record Fits (position : Position) (op : OpDef) : Type 0 where
  pub at_least : 1 ≤ op.priority
  pub at_most : op.priority ≤ 1200
  pub placed : position_of op.kind ≡ position

-- a name that is an operator in some position
abbrev pub is_operator : Ops → Text → Bool
is_operator ops name = is_some (ops.prefix name) || is_some (ops.infixed name) || is_some (ops.postfix name)

-- what a name is with this priority: priority 0 takes the operator away
abbrev pub entry : ℕ → OpKind → Option OpDef
entry priority kind = if priority == 0 then None else Some (record { priority = priority; kind = kind })

-- the operators of a position, with another entry for one name
abbrev pub changed : (Text → Option OpDef) → Text → Option OpDef → Text → Option OpDef
changed table name op other = if bytes_eq other name then op else table other

-- the table with a change in one position
abbrev pub put_at : Position → Ops → Text → Option OpDef → Ops
put_at Prefix ops name op = record ops { prefix = changed ops.prefix name op }
put_at Infix ops name op = record ops { infixed = changed ops.infixed name op }
put_at Postfix ops name op = record ops { postfix = changed ops.postfix name op }

-- the table with an operator set, or taken away
abbrev pub put : Ops → ℕ → OpKind → Text → Ops
put ops priority kind name = put_at (position_of kind) ops name (entry priority kind)

-- why `op/3` refuses, in the order in which it is looked for
pub data Refusal : Type 0 where
  BadPriority : Refusal
  BadKind : Refusal
  Comma : Refusal
  Clash : Refusal

-- a kind by its name
abbrev pub kind_named : Text → Option OpKind
kind_named name =
    if bytes_eq name (codes "xfx") then Some Xfx
    else if bytes_eq name (codes "xfy") then Some Xfy
    else if bytes_eq name (codes "yfx") then Some Yfx
    else if bytes_eq name (codes "fy") then Some Fy
    else if bytes_eq name (codes "fx") then Some Fx
    else if bytes_eq name (codes "xf") then Some Xf
    else if bytes_eq name (codes "yf") then Some Yf
    else None

-- the names that are never operators
abbrev pub is_bracket : Text → Bool
is_bracket name = bytes_eq name (codes "[]") || bytes_eq name (codes "{}") || bytes_eq name (codes "|")

-- the name is an infix operator and would be a postfix one, or the other way round
abbrev pub is_at_odds : Position → Ops → Text → Bool
is_at_odds Prefix ops name = false
is_at_odds Infix ops name = is_some (ops.postfix name)
is_at_odds Postfix ops name = is_some (ops.infixed name)

-- the name may not be set so; an operator that is taken away is at odds with nothing
abbrev pub clashes : Ops → ℕ → OpKind → Text → Bool
clashes ops priority kind name = is_bracket name || (not (priority == 0) && is_at_odds (position_of kind) ops name)

-- the priority, where it is from 0 to 1200
abbrev pub in_range : ℤ → Option ℕ
in_range (negsuc n) = None
in_range (pos priority) = if nat_le priority 1200 then Some priority else None

-- the table with an operator set, or the first refusal, of a priority and a kind that may be none
abbrev pub set_checked : Ops → Option ℕ → Option OpKind → Text → Result Ops Refusal
set_checked ops None kind name = Err BadPriority
set_checked ops (Some priority) None name = Err BadKind
set_checked ops (Some priority) (Some kind) name =
    if bytes_eq name (codes ",") then Err Comma
    else if clashes ops priority kind name then Err Clash
    else Ok (put ops priority kind name)

-- op(priority, kind, name): the table after it, or the first refusal
abbrev pub set : Ops → ℤ → Text → Text → Result Ops Refusal
set ops priority kind name = set_checked ops (in_range priority) (kind_named kind) name
