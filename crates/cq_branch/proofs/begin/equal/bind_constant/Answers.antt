use Rattle.std.proofs.Common.{sym}
use Rattle.cq_term.specs.Meaning.{at}
use Rattle.cq_term.proofs.Arguments.{shown_variable}
use Rattle.cq_branch.proofs.Constants.{constant_free}
use Rattle.cq_branch.proofs.begin.equal.bind_constant.Goals as goal

pub bind-requires-clause-unbound : goal.bind-requires-clause-unbound
bind-requires-clause-unbound c =
    c.in-Var.ensures.unbound c.in-Var.variable.0 (shown_variable (at c.args.heap.now.now.terms c.args.pair.left) c.in-Var.variable (sym c.in-Var.ensures.view))

pub returns-in_ok-bind-clause-bound : goal.returns-in_ok-bind-clause-bound
returns-in_ok-bind-clause-bound c = λ _.
    constant_free c.args.heap.now.now c.bind.new.self.now c.args.pair c.requires c.in-Var.variable (sym c.in-Var.ensures.view) (c.is_constant.ensures c.if-is_constant.true)
    c.in_ok-bind.ensures.terms c.in_ok-bind.ensures.images c.args.attrs.now.now (c.is_free.ensures c.if-is_free.true)
