use Rattle.std.proofs.Common.{ap, sym, ◌∙◌}
use Rattle.std.specs.Prelude.{nat_lt}
use Rattle.cq_attr.proofs.Newest.{any_newest}
use Rattle.cq_attr.proofs.notes.Notes.contains.Goals as goal

pub returns : goal.returns
returns g c = ap (nat_lt 0) c.newest.ensures ∙ sym (any_newest c.args.variable.0 c.args.self.now.now)
