use Rattle.std.proofs.Common.{None, [], refl}
use Rattle.cq_term.specs.Meaning.{at}
use Rattle.cq_branch.specs.Worlds.{saved_values, value}
use Rattle.cq_calls.specs.Calling.{numbers_left}
use Rattle.cq_calls.proofs.Narrowing.{come_of, all_come_of, first_alone}
use Rattle.cq_calls.proofs.Waiting.{none_comes}
use Rattle.cq_calls.proofs.calling.begin_first.Goals as goal

-- no clause may match
pub returns-in_default-clause-comes : goal.returns-in_default-clause-comes
returns-in_default-clause-comes c =
    let texts = c.args.atoms.now in
    let v = c.args.clauses.now in
    let saved = saved_values c.args.world.now.first c.args.world.now.second.saved in
    let now = value c.args.world.now.first c.args.world.now.second.now in
    come_of texts v saved c.args.choices.now now c.args.goal c.args.walk.now c.next_clause.new.walk c.args.rest saved c.args.choices.now now None c.in_default.ensures.passed
    (none_comes texts v saved c.args.choices.now now c.args.goal c.args.rest c.next_clause.new.walk c.in_default.ensures.none)

-- none behind the first may
pub begin_only-requires-clause-only : goal.begin_only-requires-clause-only
begin_only-requires-clause-only c =
    let v = c.args.clauses.now in
    first_alone v (at c.args.world.now.first.heap.now.terms c.args.goal) (numbers_left v c.next_clause.new.walk) (numbers_left v c.in-Some.next.behind) [] c.in-Some.next.number
    c.in-Some.ensures.some (c.may_follow.ensures c.if-may_follow.false) refl

pub returns-else-may_follow-clause-comes : goal.returns-else-may_follow-clause-comes
returns-else-may_follow-clause-comes c =
    all_come_of c.args.atoms.now c.args.clauses.now (saved_values c.args.world.now.first c.args.world.now.second.saved) c.args.choices.now
    (value c.args.world.now.first c.args.world.now.second.now) c.args.goal c.args.walk.now c.next_clause.new.walk c.args.rest
    (saved_values c.begin_only.new.world.first c.begin_only.new.world.second.saved) c.begin_only.new.choices
    (value c.begin_only.new.world.first c.begin_only.new.world.second.now) c.begin_only.result c.in-Some.ensures.passed c.begin_only.ensures.comes

pub returns-then-may_follow-clause-comes : goal.returns-then-may_follow-clause-comes
returns-then-may_follow-clause-comes c =
    all_come_of c.args.atoms.now c.args.clauses.now (saved_values c.args.world.now.first c.args.world.now.second.saved) c.args.choices.now
    (value c.args.world.now.first c.args.world.now.second.now) c.args.goal c.args.walk.now c.next_clause.new.walk c.args.rest
    (saved_values c.begin_several.new.world.first c.begin_several.new.world.second.saved) c.begin_several.new.choices
    (value c.begin_several.new.world.first c.begin_several.new.world.second.now) c.begin_several.result c.in-Some.ensures.passed c.begin_several.ensures.comes
