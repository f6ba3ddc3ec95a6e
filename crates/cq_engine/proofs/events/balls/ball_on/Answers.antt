use Rattle.std.proofs.Common.{refl, ap₂, ◌∙◌, arith}
use Rattle.spec_syntax.specs.Trees.{Tree}
use Rattle.spec_builtins.specs.Built.{Indicator}
use Rattle.spec_builtins.specs.Errors.{error_ball}
use Rattle.cq_built.proofs.Growing.{known_longer, grows_both, grows_names}
use Rattle.cq_machine.proofs.Errors.{error_same, culprit_on}
use Rattle.cq_engine.proofs.events.balls.ball_on.Goals as goal

pub ball-requires-clause-names : goal.ball-requires-clause-names
ball-requires-clause-names c = known_longer c.args.atoms.now c.predicate_by.new.atoms c.args.heap.now.now.terms c.predicate_by.ensures.longer c.requires.names

pub ball-requires-clause-culprit : goal.ball-requires-clause-culprit
ball-requires-clause-culprit c =
    culprit_on c.args.atoms.now c.predicate_by.new.atoms c.predicate_by.ensures.longer c.args.heap.now.now.terms c.requires.names c.args.error c.requires.culprit

pub returns-in-Ok-clause-built : goal.returns-in-Ok-clause-built
returns-in-Ok-clause-built c =
    c.in-Ok.ensures.built
    ∙ ap₂ (λ (e : Tree) (i : Indicator). error_ball e i)
    (error_same c.args.atoms.now c.predicate_by.new.atoms c.predicate_by.ensures.longer c.args.heap.now.now.terms c.requires.names c.args.error c.requires.culprit)
    c.in_ok-predicate.ensures.predicate

pub returns-in-Ok-clause-grows : goal.returns-in-Ok-clause-grows
returns-in-Ok-clause-grows c =
    grows_both c.args.atoms.now c.predicate_by.new.atoms c.ball.new.atoms c.args.heap.now c.args.heap.now c.ball.new.heap
    (grows_names c.args.atoms.now c.predicate_by.new.atoms c.args.heap.now c.args.heap.now c.predicate_by.ensures.longer refl refl (omega arith)) c.ball.ensures.grows

pub returns-in-Err-clause-grows : goal.returns-in-Err-clause-grows
returns-in-Err-clause-grows c =
    grows_both c.args.atoms.now c.predicate_by.new.atoms c.ball.new.atoms c.args.heap.now c.args.heap.now c.ball.new.heap
    (grows_names c.args.atoms.now c.predicate_by.new.atoms c.args.heap.now c.args.heap.now c.predicate_by.ensures.longer refl refl (omega arith)) c.ball.ensures.grows

pub returns-in_err-predicate-clause-grows : goal.returns-in_err-predicate-clause-grows
returns-in_err-predicate-clause-grows c =
    grows_names c.args.atoms.now c.predicate_by.new.atoms c.args.heap.now c.args.heap.now c.predicate_by.ensures.longer refl refl (omega arith)
