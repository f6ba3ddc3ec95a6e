-- Rows of operators that are set one after another.
use Rattle.std.proofs.Common.{◌≡◌, ap, ◌∙◌}
use Rattle.spec_syntax.specs.Operators.{Ops}
use Rattle.spec_syntax.specs.Standard.{Row, put_names}

-- the table after one more row
pub next : (now before so_far : Ops) (r : Row) → now ≡ put_names before r.priority r.kind r.names → before ≡ so_far → now ≡ put_names so_far r.priority r.kind r.names
next now before so_far r e f = e ∙ ap (λ ops. put_names ops r.priority r.kind r.names) f
