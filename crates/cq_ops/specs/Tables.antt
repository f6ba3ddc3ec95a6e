-- The operator table as the program holds it, by numbers of names, and what it means by their texts.
use Rattle.std.specs.Prelude.{◌≡◌, ℕ, ◌<◌, List, length, Option, Some, None, is_some, Bool, false, position, slice_get, bytes_eq}
use Rattle.std.specs.Ordering.{nat_cmp}
use Rattle.std.specs.Option.{option_and_then}
use Rattle.std.specs.FinMap.{FinMap, get, insert, remove}
use Rattle.spec_syntax.specs.declared.operators.OpDef.{OpDef}
use Rattle.spec_syntax.specs.declared.operators.OpKind.{OpKind}
use Rattle.spec_numbers.specs.Texts.{Text}
use Rattle.cq_term.specs.Texts.{AreDifferent, KeepsTexts}
use Rattle.spec_syntax.specs.Operators.{Ops, Position, Prefix, Infix, Postfix, Fits, position_of, entry}

-- the operators of each position, by the numbers of their names
pub record Tables : Type 0 where
  pub prefix : FinMap nat_cmp OpDef
  pub infixed : FinMap nat_cmp OpDef
  pub postfix : FinMap nat_cmp OpDef

-- each operator fits the table at this position
pub record AllFit (position : Position) (operators : FinMap nat_cmp OpDef) : Type 0 where
  pub each : (name : ℕ) (op : OpDef) → get operators name ≡ Some op → Fits position op

-- each operator fits its position
pub record AreFit (tables : Tables) : Type 0 where
  pub prefix : AllFit Prefix tables.prefix
  pub infixed : AllFit Infix tables.infixed
  pub postfix : AllFit Postfix tables.postfix

-- the operator that a text is: that of its number, where it has one
abbrev pub entry_of : List Text → FinMap nat_cmp OpDef → Text → Option OpDef
entry_of texts operators text = option_and_then (get operators) (position (bytes_eq text) texts)

-- the table by the texts of the names
abbrev pub named : List Text → Tables → Ops
named texts tables = record { prefix = entry_of texts tables.prefix; infixed = entry_of texts tables.infixed; postfix = entry_of texts tables.postfix }

-- the operator that a text is in this position
abbrev pub operator_at : Position → Ops → Text → Option OpDef
operator_at Prefix ops text = ops.prefix text
operator_at Infix ops text = ops.infixed text
operator_at Postfix ops text = ops.postfix text

-- whatever texts the names have, all of them different, this is what the name's text is in this position
abbrev pub IsByText : Position → Tables → ℕ → Option OpDef → Type 0
IsByText position tables name op = (texts : List Text) (text : Text) → AreDifferent texts → slice_get texts name ≡ Some text → op ≡ operator_at position (named texts tables) text

-- each operator's name is one of so many
pub record AllBelow (count : ℕ) (operators : FinMap nat_cmp OpDef) : Type 0 where
  pub each : (name : ℕ) (op : OpDef) → get operators name ≡ Some op → name < count

-- each operator has a name
pub record AreNamed (texts : List Text) (tables : Tables) : Type 0 where
  pub prefix : AllBelow (length texts) tables.prefix
  pub infixed : AllBelow (length texts) tables.infixed
  pub postfix : AllBelow (length texts) tables.postfix

-- there are more names: each old one keeps its text, and no two have the same
pub record GainsNames (old new : List Text) : Type 0 where
  pub before : AreDifferent old
  pub after : AreDifferent new
  pub kept : KeepsTexts old new

-- the operators with another entry for one name
abbrev pub change : FinMap nat_cmp OpDef → ℕ → Option OpDef → FinMap nat_cmp OpDef
change operators name None = remove operators name
change operators name (Some op) = insert operators name op

-- the tables with a change in one position
abbrev pub put_number_at : Position → Tables → ℕ → Option OpDef → Tables
put_number_at Prefix tables name op = record tables { prefix = change tables.prefix name op }
put_number_at Infix tables name op = record tables { infixed = change tables.infixed name op }
put_number_at Postfix tables name op = record tables { postfix = change tables.postfix name op }

-- the tables with an operator set, or taken away
abbrev pub put_number : Tables → ℕ → OpKind → ℕ → Tables
put_number tables priority kind name = put_number_at (position_of kind) tables name (entry priority kind)

-- the name is an infix operator and would be a postfix one, or the other way round
abbrev pub is_number_at_odds : Position → Tables → ℕ → Bool
is_number_at_odds Prefix tables name = false
is_number_at_odds Infix tables name = is_some (get tables.postfix name)
is_number_at_odds Postfix tables name = is_some (get tables.infixed name)
