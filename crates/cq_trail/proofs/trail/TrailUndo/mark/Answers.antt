use Rattle.std.proofs.Common.{◌∙◌}
use Rattle.cq_trail.proofs.Kept.{is_trail_mark}
use Rattle.cq_trail.proofs.trail.TrailUndo.mark.Goals as goal

pub invariant_of-self-2 : goal.invariant_of-self-2
invariant_of-self-2 g c = rw c.in_ok-push.ensures.items (is_trail_mark c.self.inside.items.items c.self.inside.stamps.items c.self.inside.log.items c.self.inside.marks.items c.len.result c.len-2.result (c.len.ensures ∙ c.self.inside.items.ok.0) (c.len-2.ensures ∙ c.self.inside.log.ok.0) c.self.invariant)
