use Rattle.std.proofs.Common.{arith, Some, None, refl, ◌∙◌}
use Rattle.cq_branch.specs.Worlds.{value, saved_values}
use Rattle.cq_branch.proofs.Older.{older_all, older_on, older_fewer}
use Rattle.cq_branch.proofs.Passing.{here, works_on, arrives_on}
use Rattle.cq_branch.proofs.marks.find_front.Goals as goal

pub choices-init : goal.choices-init
choices-init c = record {
  marked = c.requires.marked;
  arrives = λ steps texts v db n s j.
      here steps texts v db n s (saved_values c.args.world.now.first c.args.world.now.second.saved) c.args.choices.now (value c.args.world.now.first c.args.world.now.second.now) c.args.start j;
  older = older_all (saved_values c.args.world.now.first c.args.world.now.second.saved) c.args.choices.now;
  budget = refl;
}

pub pass_from-requires-clause-works : goal.pass_from-requires-clause-works
pass_from-requires-clause-works c =
    works_on (saved_values c.args.world.now.first c.args.world.now.second.saved) (saved_values c.choices.world.first c.choices.world.second.saved) c.args.choices.now c.choices.choices
    (value c.args.world.now.first c.args.world.now.second.now) (value c.choices.world.first c.choices.world.second.now) c.args.start c.choices.current c.requires.works c.choices.invariant.arrives

pub choices-preserved : goal.choices-preserved
choices-preserved c = record {
  marked = c.in-Back.ensures.marked;
  arrives = λ steps texts v db n s j.
      let i = c.choices.invariant in
      let passed = arrives_on (saved_values c.choices.world.first c.choices.world.second.saved) (saved_values c.pass_from.new.world.first c.pass_from.new.world.second.saved)
      c.choices.choices c.pass_from.new.choices (value c.choices.world.first c.choices.world.second.now) (value c.pass_from.new.world.first c.pass_from.new.world.second.now)
      c.choices.current None steps texts v db n s (i.arrives steps texts v db n s j) c.in_default.ensures.arrives in
      arrives_on (saved_values c.pass_from.new.world.first c.pass_from.new.world.second.saved) (saved_values c.come_back.new.world.first c.come_back.new.world.second.saved)
      c.pass_from.new.choices c.come_back.new.choices (value c.pass_from.new.world.first c.pass_from.new.world.second.now)
      (value c.come_back.new.world.first c.come_back.new.world.second.now) None c.in-Back.next steps texts v db n s passed c.in-Back.ensures.arrives;
  older = older_on _ _ _ _ _ _ (older_on _ _ _ _ _ _ c.choices.invariant.older c.in_default.ensures.older) c.in-Back.ensures.older;
  budget = c.in-Back.ensures.budget ∙ c.in_default.ensures.budget ∙ c.choices.invariant.budget;
}

pub returns-in-Some-clause-arrives : goal.returns-in-Some-clause-arrives
returns-in-Some-clause-arrives c = λ steps texts v db n s j.
    arrives_on (saved_values c.choices.world.first c.choices.world.second.saved) (saved_values c.pass_from.new.world.first c.pass_from.new.world.second.saved)
    c.choices.choices c.pass_from.new.choices (value c.choices.world.first c.choices.world.second.now) (value c.pass_from.new.world.first c.pass_from.new.world.second.now)
    c.choices.current (Some c.in-Some.front) steps texts v db n s (c.choices.invariant.arrives steps texts v db n s j) c.in-Some.ensures.arrives

pub returns-in-Some-clause-older : goal.returns-in-Some-clause-older
returns-in-Some-clause-older c = older_on _ _ _ _ _ _ c.choices.invariant.older c.in-Some.ensures.older

pub returns-in-Call-clause-arrives : goal.returns-in-Call-clause-arrives
returns-in-Call-clause-arrives c = λ steps texts v db n s j.
    let i = c.choices.invariant in
    let passed = arrives_on (saved_values c.choices.world.first c.choices.world.second.saved) (saved_values c.pass_from.new.world.first c.pass_from.new.world.second.saved)
    c.choices.choices c.pass_from.new.choices (value c.choices.world.first c.choices.world.second.now) (value c.pass_from.new.world.first c.pass_from.new.world.second.now)
    c.choices.current None steps texts v db n s (i.arrives steps texts v db n s j) c.in_default.ensures.arrives in
    arrives_on (saved_values c.pass_from.new.world.first c.pass_from.new.world.second.saved) (saved_values c.come_back.new.world.first c.come_back.new.world.second.saved)
    c.pass_from.new.choices c.come_back.new.choices (value c.pass_from.new.world.first c.pass_from.new.world.second.now)
    (value c.come_back.new.world.first c.come_back.new.world.second.now) None None steps texts v db n s passed c.in-Call.ensures.arrives

pub returns-in-Call-clause-older : goal.returns-in-Call-clause-older
returns-in-Call-clause-older c = older_on _ _ _ _ _ _ (older_on _ _ _ _ _ _ c.choices.invariant.older c.in_default.ensures.older) c.in-Call.ensures.older

pub choices-smaller : goal.choices-smaller
choices-smaller c =
    let fewer = older_fewer (saved_values c.choices.world.first c.choices.world.second.saved) (saved_values c.pass_from.new.world.first c.pass_from.new.world.second.saved)
    c.choices.choices c.pass_from.new.choices c.choices.invariant.marked c.in_default.ensures.marked c.in_default.ensures.older in
    let back = c.in-Back.ensures.back in
    omega (arith, fewer, back)

pub returns-in-Some-clause-budget : goal.returns-in-Some-clause-budget
returns-in-Some-clause-budget c = c.in-Some.ensures.budget ∙ c.choices.invariant.budget

pub returns-in-Call-clause-budget : goal.returns-in-Call-clause-budget
returns-in-Call-clause-budget c = c.in-Call.ensures.budget ∙ c.in_default.ensures.budget ∙ c.choices.invariant.budget
