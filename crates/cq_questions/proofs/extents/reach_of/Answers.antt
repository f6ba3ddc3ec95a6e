use Rattle.std.proofs.Common.{Err, ap, ◌∙◌, sym}
use Rattle.cq_frac.specs.declared.Refusal.{Refusal}
use Rattle.cq_store.specs.declared.store.StoreFault.{StoreFault}
use Rattle.cq_term.specs.Trees.{tree}
use Rattle.spec_search.specs.Replies.{WithExtent}
use Rattle.spec_transcript.specs.Questions.{IsQuestionMoment}
use Rattle.cq_questions.specs.Extents.{side_of}
use Rattle.cq_questions.proofs.Moments.{expression_refuses, reach_due, refusal_due}
use Rattle.cq_questions.proofs.extents.reach_of.Goals as goal

pub returns-in-Waits-clause-reach : goal.returns-in-Waits-clause-reach
returns-in-Waits-clause-reach c = λ fixed f. sym ((rw c.in-Waits.is at c.in-Ok.ensures.lin) fixed f)

pub returns-in-False-clause-reach : goal.returns-in-False-clause-reach
returns-in-False-clause-reach c = λ fixed f. sym ((rw c.in-False.is at c.in-Ok.ensures.lin) fixed f)

pub returns-in-Ok-extent_of-clause-reach : goal.returns-in-Ok-extent_of-clause-reach
returns-in-Ok-extent_of-clause-reach c = λ fixed f. record {
  form = c.in-Linear.form;
  is = sym ((rw c.in-Linear.is at c.in-Ok.ensures.lin) fixed f);
  reaches = c.in-Ok-extent_of.ensures.extent;
}

pub returns-in-Ok-clause-stop : goal.returns-in-Ok-clause-stop
returns-in-Ok-clause-stop c = λ st same next.
    let v = c.values_are_fixed.ensures in
    reach_due c.args.world.now.store.told v.0 v.1 st same (side_of c.args.side) (tree c.args.atoms.now c.args.world.now.heap.now.terms c.args.expression) next c.in-Linear.form
    (sym ((rw c.in-Linear.is at c.in-Ok.ensures.lin) v.0 v.1)) c.args.world.now.store.pivots c.in-Err-extent_of.fault
    (λ pair e. c.extent_of.ensures.overflow pair (c.in-Err-extent_of.is ∙ ap (λ (f : StoreFault). Err f) e))
    (λ n e. c.extent_of.ensures.pivots n (c.in-Err-extent_of.is ∙ ap (λ (f : StoreFault). Err f) e))

pub returns-clause-stop : goal.returns-clause-stop
returns-clause-stop c = λ st same next.
    let v = c.values_are_fixed.ensures in
    let e = tree c.args.atoms.now c.args.world.now.heap.now.terms c.args.expression in
    refusal_due (IsQuestionMoment st (WithExtent (side_of c.args.side) e next)) c.args.world.now.store.pivots c.in-Err.refusal c.from.result c.from.ensures
    (λ pair k. expression_refuses c.args.world.now.store.told v.0 v.1 st same (side_of c.args.side) e next pair
    (c.expression_now.ensures.overflow pair (c.in-Err.is ∙ ap (λ (f : Refusal). Err f) k) v.0 v.1))
