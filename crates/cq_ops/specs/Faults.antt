-- Why `set` refuses, and what it takes.
use Rattle.std.specs.Prelude.{◌≡◌, ℕ, ℤ, ◌≤◌, ◌&&◌, ◌||◌, ◌==◌, not, false, List, codes, bytes_eq, Some, Result, Err}
use Rattle.spec_numbers.specs.Texts.{Text}
use Rattle.spec_syntax.specs.declared.operators.OpKind.{OpKind}
use Rattle.spec_syntax.specs.Operators.{Ops, Refusal, BadPriority, BadKind, Comma, Clash, in_range, kind_named, is_bracket, position_of}
use Rattle.cq_term.specs.Texts.{AreDifferent, text_of}
use Rattle.cq_ops.specs.Tables.{Tables, is_number_at_odds}
use Rattle.cq_ops.specs.declared.OpFault.{OpFault}
use Rattle.cq_ops.specs.declared.OpFault.TheVariants as fault

-- the fault is the refusal that there is; for want of memory nothing is said
abbrev pub Explains : OpFault → Result Ops Refusal → Type 0
Explains fault.BadPriority r = r ≡ Err BadPriority
Explains fault.BadKind r = r ≡ Err BadKind
Explains fault.Comma r = r ≡ Err Comma
Explains fault.Clash r = r ≡ Err Clash
Explains fault.NoMemory r = Unit {0}

-- the priority and the kind are these, and the name may be such an operator
pub record IsAdmitted (texts : List Text) (tables : Tables) (priority : ℤ) (kind : Text) (name p : ℕ) (k : OpKind) : Type 0 where
  pub different : AreDifferent texts
  pub priority_is : Some p ≡ in_range priority
  pub low : p ≤ 1200
  pub kind_is : Some k ≡ kind_named kind
  pub no_comma : bytes_eq (text_of texts name) (codes ",") ≡ false
  pub no_clash : (is_bracket (text_of texts name) || (not (p == 0) && is_number_at_odds (position_of k) tables name)) ≡ false
