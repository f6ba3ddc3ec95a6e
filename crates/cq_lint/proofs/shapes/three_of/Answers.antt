use Rattle.std.proofs.Common.{◌<◌, ◌∙◌, length, sym, arith}
use Rattle.cq_term.specs.Meaning.{at}
use Rattle.cq_term.specs.Shown.{arguments}
use Rattle.cq_lint.proofs.Heads.{not_ternary, no_ternary, has_three, three_arguments}
use Rattle.cq_lint.proofs.shapes.three_of.Goals as goal

pub returns-then-arity-ne3-clause-none : goal.returns-then-arity-ne3-clause-none
returns-then-arity-ne3-clause-none c = λ none. not_ternary (at c.args.heap.now.now.terms c.args.id) c.in-Compound.name c.in-Compound.arity (sym c.view.ensures.view ∙ c.in-Compound.is) c.if-arity-ne3.true

pub arg-first-requires-clause-within : goal.arg-first-requires-clause-within
arg-first-requires-clause-within c =
    let three : 2 < length (arguments (at c.args.heap.now.now.terms c.args.id)) = has_three (at c.args.heap.now.now.terms c.args.id) c.in-Compound.name c.in-Compound.arity (sym c.view.ensures.view ∙ c.in-Compound.is) (omega arith) in
    omega (arith, three)

pub arg-second-requires-clause-within : goal.arg-second-requires-clause-within
arg-second-requires-clause-within c =
    let three : 2 < length (arguments (at c.args.heap.now.now.terms c.args.id)) = has_three (at c.args.heap.now.now.terms c.args.id) c.in-Compound.name c.in-Compound.arity (sym c.view.ensures.view ∙ c.in-Compound.is) (omega arith) in
    omega (arith, three)

pub arg-third-requires-clause-within : goal.arg-third-requires-clause-within
arg-third-requires-clause-within c = has_three (at c.args.heap.now.now.terms c.args.id) c.in-Compound.name c.in-Compound.arity (sym c.view.ensures.view ∙ c.in-Compound.is) (omega arith)

pub returns-else-arity-ne3-clause-some : goal.returns-else-arity-ne3-clause-some
returns-else-arity-ne3-clause-some c =
    let ts = c.args.heap.now.now.terms in
    record {
      first = c.arg-first.ensures.live;
      second = c.arg-second.ensures.live;
      third = c.arg-third.ensures.live;
      term = three_arguments (at ts c.args.id) (at ts c.arg-first.result) (at ts c.arg-second.result) (at ts c.arg-third.result) c.in-Compound.name c.in-Compound.arity (sym c.view.ensures.view ∙ c.in-Compound.is) (omega arith)
          c.arg-first.ensures.arg c.arg-second.ensures.arg c.arg-third.ensures.arg;
    }

pub returns-in_default-clause-none : goal.returns-in_default-clause-none
returns-in_default-clause-none c = λ none. no_ternary (at c.args.heap.now.now.terms c.args.id) (λ f n e. c.in_default.not-Compound f n (c.view.ensures.view ∙ e))
