use Rattle.std.proofs.Common.{◌∙◌}
use Rattle.cq_cert.proofs.Reading.{is_head_line}
use Rattle.cq_cert.proofs.lines.is_head.Goals as goal

pub returns : goal.returns
returns c = c.is.ensures ∙ is_head_line c.args.line.now
