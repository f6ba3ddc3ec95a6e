use Rattle.std.proofs.Common.{subst}
use Rattle.cq_term.specs.Meaning.{at}
use Rattle.cq_clauses.specs.Walks.{HasNoneLeft}
use Rattle.cq_branch.specs.Worlds.{saved_values, value}
use Rattle.cq_calls.specs.Calling.{numbers_left}
use Rattle.cq_calls.specs.Matching.{all}
use Rattle.cq_calls.proofs.Left.{none_left}
use Rattle.cq_calls.proofs.Narrowing.{first_alone}
use Rattle.cq_calls.proofs.Waiting.{none_comes}
use Rattle.cq_calls.proofs.calling.call_clauses.Goals as goal

pub begin_only-requires-clause-only : goal.begin_only-requires-clause-only
begin_only-requires-clause-only c =
    first_alone c.args.clauses.now (at c.args.world.now.first.heap.now.terms c.args.goal) (numbers_left c.args.clauses.now c.args.walk.now) (numbers_left c.args.clauses.now c.step.new.walk)
    (numbers_left c.args.clauses.now c.step.new.walk) c.in-Some.number c.in-Some.ensures.some all
    (none_left c.args.clauses.now c.step.new.walk (subst (λ b. HasNoneLeft b c.step.new.walk) c.if-is_empty.true c.is_empty.ensures))

-- there is none
pub returns-in_default-clause-comes : goal.returns-in_default-clause-comes
returns-in_default-clause-comes c =
    none_comes c.args.atoms.now c.args.clauses.now (saved_values c.args.world.now.first c.args.world.now.second.saved) c.args.choices.now
    (value c.args.world.now.first c.args.world.now.second.now) c.args.goal c.args.rest c.args.walk.now c.in_default.ensures.none
