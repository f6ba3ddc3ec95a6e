use Rattle.std.proofs.Common.{◌∙◌, ap}
use Rattle.spec_terms.specs.Term.{named}
use Rattle.cq_term.specs.Texts.{text_of}
use Rattle.cq_interpreter.proofs.generation.terms.variable.Goals as goal

pub returns-clause-variable : goal.returns-clause-variable
returns-clause-variable c = λ texts. ap (named (text_of texts)) (c.var_term.ensures.term ∙ c.requires.unbound c.args.number c.requires.there)
