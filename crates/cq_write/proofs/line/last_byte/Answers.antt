use Rattle.std.proofs.Common.{Some, ap, sym, ◌∙◌}
use Rattle.spec_text.specs.Texts.{last_of}
use Rattle.cq_write.proofs.Steps.{last_of-snoc}
use Rattle.cq_write.proofs.line.last_byte.Goals as goal

pub returns-in-Some : goal.returns-in-Some
returns-in-Some c = ap Some c.from.ensures ∙ sym (ap last_of c.in-Some.ensures.cases.0 ∙ last_of-snoc c.in-Some.field-0-1.now c.in-Some.field-0-0.now)
