use Rattle.std.proofs.Common.{◌∙◌, sym, arith}
use Rattle.cq_term.specs.Meaning.{at}
use Rattle.cq_lint.proofs.Heads.{not_many, no_many, has_first, many_there}
use Rattle.cq_lint.proofs.shapes.many_of.Goals as goal

pub returns-then-arity-lt2-clause-none : goal.returns-then-arity-lt2-clause-none
returns-then-arity-lt2-clause-none c = λ none. not_many (at c.args.heap.now.now.terms c.args.id) c.in-Compound.name c.in-Compound.arity (sym c.view.ensures.view ∙ c.in-Compound.is) (omega arith)

pub arg-first-requires-clause-within : goal.arg-first-requires-clause-within
arg-first-requires-clause-within c = has_first (at c.args.heap.now.now.terms c.args.id) c.in-Compound.name c.in-Compound.arity (sym c.view.ensures.view ∙ c.in-Compound.is) (omega arith)

pub returns-else-arity-lt2-clause-some : goal.returns-else-arity-lt2-clause-some
returns-else-arity-lt2-clause-some c =
    many_there c.args.heap.now.now.terms c.args.id c.in-Compound.name c.in-Compound.arity c.arg-first.result (sym c.view.ensures.view ∙ c.in-Compound.is) (omega arith) c.arg-first.ensures.arg c.arg-first.ensures.live

pub returns-in_default-clause-none : goal.returns-in_default-clause-none
returns-in_default-clause-none c = λ none. no_many (at c.args.heap.now.now.terms c.args.id) (λ f n e. c.in_default.not-Compound f n (c.view.ensures.view ∙ e))
