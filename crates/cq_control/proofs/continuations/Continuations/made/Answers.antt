use Rattle.std.proofs.Common.{◌+◌, length, ap, sym, ◌∙◌}
use Rattle.cq_control.specs.Items.{ContinuationsValue}
use Rattle.cq_control.proofs.Lists.{length-lists}
use Rattle.cq_control.proofs.continuations.Continuations.made.Goals as goal

pub returns : goal.returns
returns g c =
    ap (λ n. n + 1) c.len.ensures ∙ sym (length-lists c.self.inside.cells.now) ∙ ap (λ (v : ContinuationsValue g.row.T.Denot). length v.now) c.self.view_is
