use Rattle.std.proofs.Common.{codes, ap, ◌∙◌}
use Rattle.spec_syntax.specs.Grammar.{may_begin, begins_term}
use Rattle.cq_ops.specs.Tables.{named}
use Rattle.cq_term.proofs.Named.{text_is}
use Rattle.cq_read.proofs.Trees.{is_known}
use Rattle.cq_read.proofs.parse.operators.begins_term.Goals as goal

pub returns-in-Minus : goal.returns-in-Minus
unfolding begins_term
returns-in-Minus c texts known =
    let minus = known.grammar.minus in
    rw c.in-Minus.is (c.may_begin-in-Minus.ensures texts known.different (is_known texts c.args.grammar.now.names.now.minus (codes "-") minus)
    ∙ ap (may_begin (named texts c.args.grammar.now.ops.now)) (text_is texts c.args.grammar.now.names.now.minus (codes "-") minus))
