use Rattle.cq_ops.proofs.Named.{named-kept, are_named-kept}
use Rattle.cq_ops.proofs.more_names_keep_the_table.Goals as goal

pub returns-clause-table : goal.returns-clause-table
returns-clause-table c = λ old new tables gains known. named-kept old new gains.before gains.after gains.kept tables known

pub returns-clause-known : goal.returns-clause-known
returns-clause-known c = λ old new tables kept known. are_named-kept old new kept tables known
