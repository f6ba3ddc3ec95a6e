use Rattle.std.proofs.Common.{◌∙◌, ap, slice_get}
use Rattle.std.specs.Str.{chars}
use Rattle.cq_predicates.proofs.codes.characters.first.Goals as goal

pub returns : goal.returns
returns c = c.next.ensures.steps.2 ∙ ap (λ bs. slice_get (chars bs) 0) c.chars.ensures.rest
