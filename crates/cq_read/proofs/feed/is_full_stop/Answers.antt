use Rattle.std.proofs.Common.{◌∙◌}
use Rattle.cq_read.proofs.Feeding.{full_stop_ends}
use Rattle.cq_read.proofs.feed.is_full_stop.Goals as goal

pub returns-then-text-at-eq46 : goal.returns-then-text-at-eq46
returns-then-text-at-eq46 c is = c.ends_clause.ensures ∙ full_stop_ends c.args.text.now c.args.at is
