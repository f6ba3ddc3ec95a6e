use Rattle.std.proofs.Common.{◌∙◌, sym}
use Rattle.cq_term.specs.Texts.{text_of}
use Rattle.cq_term.specs.Meaning.{at}
use Rattle.cq_goals.proofs.Heads.{unbound_constraint, no_constraint}
use Rattle.cq_goals.proofs.checks.no_sides_error.Goals as goal

pub returns-in-Var-clause-error : goal.returns-in-Var-clause-error
returns-in-Var-clause-error c = λ p texts. unbound_constraint (text_of texts) p (at c.args.heap.now.now.terms c.args.id) _ (sym c.view.ensures.view ∙ c.in-Var.is)

pub returns-in_default-clause-error : goal.returns-in_default-clause-error
returns-in_default-clause-error c = λ p texts. no_constraint (text_of texts) p (at c.args.heap.now.now.terms c.args.id) c.requires.other (λ v e. c.in_default.not-Var v (c.view.ensures.view ∙ e))
