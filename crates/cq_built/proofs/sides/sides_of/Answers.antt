use Rattle.std.proofs.Common.{◌<◌, ◌∙◌, length, sym, arith}
use Rattle.cq_term.specs.Meaning.{at}
use Rattle.cq_term.specs.Shown.{arguments}
use Rattle.cq_built.proofs.Arguments.{has_two, two_arguments}
use Rattle.cq_built.proofs.Heads.{not_two_arguments, no_compound}
use Rattle.cq_built.proofs.sides.sides_of.Goals as goal

pub returns-then-arity-ne2-clause-none : goal.returns-then-arity-ne2-clause-none
returns-then-arity-ne2-clause-none c = λ none. not_two_arguments (at c.args.heap.now.now.terms c.args.id) c.in-Compound.name c.in-Compound.arity (sym c.view.ensures.view ∙ c.in-Compound.is) c.if-arity-ne2.true

pub arg-left-requires-clause-within : goal.arg-left-requires-clause-within
arg-left-requires-clause-within c =
    let two : 1 < length (arguments (at c.args.heap.now.now.terms c.args.id)) = has_two (at c.args.heap.now.now.terms c.args.id) c.in-Compound.name c.in-Compound.arity (sym c.view.ensures.view ∙ c.in-Compound.is) (omega arith) in
    omega (arith, two)

pub arg-right-requires-clause-within : goal.arg-right-requires-clause-within
arg-right-requires-clause-within c =
    has_two (at c.args.heap.now.now.terms c.args.id) c.in-Compound.name c.in-Compound.arity (sym c.view.ensures.view ∙ c.in-Compound.is) (omega arith)

pub returns-else-arity-ne2-clause-some : goal.returns-else-arity-ne2-clause-some
returns-else-arity-ne2-clause-some c =
    let ts = c.args.heap.now.now.terms in
    record {
      left = c.arg-left.ensures.live;
      right = c.arg-right.ensures.live;
      term = two_arguments (at ts c.args.id) (at ts c.arg-left.result) (at ts c.arg-right.result) c.in-Compound.name c.in-Compound.arity (sym c.view.ensures.view ∙ c.in-Compound.is) (omega arith)
          c.arg-left.ensures.arg c.arg-right.ensures.arg;
    }

pub returns-in_default-clause-none : goal.returns-in_default-clause-none
returns-in_default-clause-none c = λ none. no_compound (at c.args.heap.now.now.terms c.args.id) (λ f n e. c.in_default.not-Compound f n (c.view.ensures.view ∙ e))
