use Rattle.std.proofs.Common.{ap, ◌∙◌}
use Rattle.cq_ops.specs.Tables.{entry_of}
use Rattle.cq_ops.proofs.Named.{entry_of-text}
use Rattle.cq_ops.proofs.Ops.postfix.Goals as goal

pub returns-clause-by_text : goal.returns-clause-by_text
returns-clause-by_text c = λ texts text different there. c.get.ensures ∙ entry_of-text texts c.self.inside.postfix text c.args.name different there ∙ ap (λ tables. entry_of texts tables.postfix text) c.self.view_is
