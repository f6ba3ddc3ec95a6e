use Rattle.std.proofs.Common.{◌≡◌, ◌≤◌, ℕ, ◌||◌, ◌++◌, take}
use Rattle.std.specs.Prelude.{◌==◌}
use Rattle.std.specs.List.{list_any}
use Rattle.cq_attr.specs.Attributes.{is_numeric}
use Rattle.cq_term.specs.Places.{numbers_of}
use Rattle.cq_settle.proofs.joining.make_each_numeric.Given as goal

abbrev pub invariant-loop-variable : goal.invariant-loop-variable
invariant-loop-variable l = record {
  numeric : (v : ℕ) → is_numeric l.attrs.now v ≡ (is_numeric l.fn.attrs.now v || list_any (λ w. w == v) (numbers_of (take l.variable-index l.variables)));
  told : l.fixed.items ≡ l.fn.fixed.items ++ take l.variable-index l.variables;
  waiting : l.attrs.now.waiting ≡ l.fn.attrs.now.waiting;
  saved : l.attrs.saved ≡ l.fn.attrs.saved;
  room : l.fn.attrs.room ≤ l.attrs.room;
}
