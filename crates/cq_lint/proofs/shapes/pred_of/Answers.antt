use Rattle.std.proofs.Common.{◌∙◌, sym}
use Rattle.cq_term.specs.Meaning.{at}
use Rattle.cq_term.specs.Texts.{text_of}
use Rattle.cq_built.proofs.Trees.{known_at}
use Rattle.cq_lint.proofs.Heads.{predicate_from_view, predicate_from_name, no_predicate, name_known, compound_known}
use Rattle.cq_lint.proofs.shapes.pred_of.Goals as goal

pub returns-in-Name-clause-predicate : goal.returns-in-Name-clause-predicate
returns-in-Name-clause-predicate c = λ texts. sym (predicate_from_name (text_of texts) (at c.args.heap.now.now.terms c.args.id) c.in-Name.name (sym c.view.ensures.view ∙ c.in-Name.is))

pub returns-in-Name-clause-known : goal.returns-in-Name-clause-known
returns-in-Name-clause-known c = λ texts known. name_known (at c.args.heap.now.now.terms c.args.id) c.in-Name.name _ (sym c.view.ensures.view ∙ c.in-Name.is) (known_at texts c.args.heap.now.now.terms c.args.id known c.requires)

pub returns-in-Compound-clause-predicate : goal.returns-in-Compound-clause-predicate
returns-in-Compound-clause-predicate c = λ texts. sym (predicate_from_view (text_of texts) (at c.args.heap.now.now.terms c.args.id) c.in-Compound.name c.in-Compound.arity (sym c.view.ensures.view ∙ c.in-Compound.is))

pub returns-in-Compound-clause-known : goal.returns-in-Compound-clause-known
returns-in-Compound-clause-known c = λ texts known. compound_known (at c.args.heap.now.now.terms c.args.id) c.in-Compound.name c.in-Compound.arity _ (sym c.view.ensures.view ∙ c.in-Compound.is) (known_at texts c.args.heap.now.now.terms c.args.id known c.requires)

pub returns-in_default-clause-predicate : goal.returns-in_default-clause-predicate
returns-in_default-clause-predicate c = λ texts. sym (no_predicate (text_of texts) (at c.args.heap.now.now.terms c.args.id) (λ a e. c.in_default.not-Name a (c.view.ensures.view ∙ e)) (λ f n e. c.in_default.not-Compound f n (c.view.ensures.view ∙ e)))
