use Rattle.std.proofs.Common.{List, length, ap, subst, ◌∙◌}
use Rattle.spec_simplex.specs.Overflow.{Operands}
use Rattle.spec_syntax.specs.Trees.{Tree}
use Rattle.spec_branch.specs.Relations.{lin_expression}
use Rattle.spec_branch.specs.Alike.{no_values}
use Rattle.spec_transcript.specs.Operands.{expression_operands}
use Rattle.cq_cexpr.specs.Overflows.{ComesFrom}
use Rattle.cq_term.specs.Meaning.{blank}
use Rattle.cq_term.specs.Trees.{tree}
use Rattle.cq_settle.proofs.Operands.{expression_same}
use Rattle.cq_questions.proofs.Bound.{lin_expression_same}
use Rattle.cq_questions.proofs.terms.expression_with_values.Goals as goal

pub linearise_expression-requires-clause-names : goal.linearise_expression-requires-clause-names
linearise_expression-requires-clause-names c = c.in_ok-bind_values.ensures.names (length c.args.atoms.now) (c.requires.names c.args.term blank c.requires.live)

pub returns-in-Ok-clause-lin : goal.returns-in-Ok-clause-lin
returns-in-Ok-clause-lin c = λ fixed f.
    c.in-Ok.ensures.lin ∙ ap (λ (t : Tree). lin_expression no_values t) (c.in_ok-bind_values.ensures.values c.args.atoms.now fixed f)
    ∙ lin_expression_same fixed (tree c.args.atoms.now c.args.heap.now.now.terms c.args.term)

pub returns-in-Err-clause-overflow : goal.returns-in-Err-clause-overflow
returns-in-Err-clause-overflow c = λ pair e fixed f.
    subst (λ (o : List Operands). ComesFrom o pair)
    (ap (λ (t : Tree). expression_operands no_values t) (c.in_ok-bind_values.ensures.values c.args.atoms.now fixed f)
    ∙ expression_same fixed (tree c.args.atoms.now c.args.heap.now.now.terms c.args.term))
    (c.linearise_expression.ensures.overflow pair (c.in-Err.is ∙ e))
