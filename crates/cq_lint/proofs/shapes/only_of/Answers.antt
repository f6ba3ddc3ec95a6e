use Rattle.std.proofs.Common.{◌∙◌, sym, arith}
use Rattle.cq_term.specs.Meaning.{at}
use Rattle.cq_goals.proofs.Libraries.{has_one, one_argument}
use Rattle.cq_lint.proofs.Heads.{not_unary, no_unary}
use Rattle.cq_lint.proofs.shapes.only_of.Goals as goal

pub returns-then-arity-ne1-clause-none : goal.returns-then-arity-ne1-clause-none
returns-then-arity-ne1-clause-none c = λ none. not_unary (at c.args.heap.now.now.terms c.args.id) c.in-Compound.name c.in-Compound.arity (sym c.view.ensures.view ∙ c.in-Compound.is) c.if-arity-ne1.true

pub arg-argument-requires-clause-within : goal.arg-argument-requires-clause-within
arg-argument-requires-clause-within c = has_one (at c.args.heap.now.now.terms c.args.id) c.in-Compound.name c.in-Compound.arity (sym c.view.ensures.view ∙ c.in-Compound.is) (omega arith)

pub returns-else-arity-ne1-clause-some : goal.returns-else-arity-ne1-clause-some
returns-else-arity-ne1-clause-some c =
    let ts = c.args.heap.now.now.terms in
    record {
      live = c.arg-argument.ensures.live;
      term = one_argument (at ts c.args.id) (at ts c.arg-argument.result) c.in-Compound.name c.in-Compound.arity (sym c.view.ensures.view ∙ c.in-Compound.is) (omega arith) c.arg-argument.ensures.arg;
    }

pub returns-in_default-clause-none : goal.returns-in_default-clause-none
returns-in_default-clause-none c = λ none. no_unary (at c.args.heap.now.now.terms c.args.id) (λ f n e. c.in_default.not-Compound f n (c.view.ensures.view ∙ e))
