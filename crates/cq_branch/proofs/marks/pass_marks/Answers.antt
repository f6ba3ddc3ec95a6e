use Rattle.std.proofs.Common.{Some, None, refl, ◌∙◌}
use Rattle.cq_branch.specs.Worlds.{value, saved_values}
use Rattle.cq_branch.proofs.Older.{older_all, older_on}
use Rattle.cq_branch.proofs.Passing.{here, works_on, arrives_on}
use Rattle.cq_branch.proofs.marks.pass_marks.Goals as goal

pub marks-init : goal.marks-init
marks-init c = record {
  marked = c.requires.marked;
  arrives = λ steps texts v db n s j.
      here steps texts v db n s (saved_values c.args.world.now.first c.args.world.now.second.saved) c.args.choices.now (value c.args.world.now.first c.args.world.now.second.now) (Some c.args.start) j;
  older = older_all (saved_values c.args.world.now.first c.args.world.now.second.saved) c.args.choices.now;
  budget = refl;
}

pub pass_mark-requires-clause-works : goal.pass_mark-requires-clause-works
pass_mark-requires-clause-works c =
    works_on (saved_values c.args.world.now.first c.args.world.now.second.saved) (saved_values c.marks.world.first c.marks.world.second.saved) c.args.choices.now c.marks.choices
    (value c.args.world.now.first c.args.world.now.second.now) (value c.marks.world.first c.marks.world.second.now) (Some c.args.start) (Some c.marks.current) c.requires.works c.marks.invariant.arrives

pub marks-preserved : goal.marks-preserved
marks-preserved c = record {
  marked = c.in-Passed.ensures.marked;
  arrives = λ steps texts v db n s j.
      arrives_on (saved_values c.marks.world.first c.marks.world.second.saved) (saved_values c.pass_mark.new.world.first c.pass_mark.new.world.second.saved) c.marks.choices c.pass_mark.new.choices
      (value c.marks.world.first c.marks.world.second.now) (value c.pass_mark.new.world.first c.pass_mark.new.world.second.now) (Some c.marks.current) (Some c.in-Passed.rest)
      steps texts v db n s (c.marks.invariant.arrives steps texts v db n s j) c.in-Passed.ensures.arrives;
  older = older_on _ _ _ _ _ _ c.marks.invariant.older c.in-Passed.ensures.older;
  budget = c.in-Passed.ensures.budget ∙ c.marks.invariant.budget;
}

pub returns-in-Clear-clause-arrives : goal.returns-in-Clear-clause-arrives
returns-in-Clear-clause-arrives c = λ steps texts v db n s j.
    arrives_on (saved_values c.marks.world.first c.marks.world.second.saved) (saved_values c.pass_mark.new.world.first c.pass_mark.new.world.second.saved) c.marks.choices c.pass_mark.new.choices
    (value c.marks.world.first c.marks.world.second.now) (value c.pass_mark.new.world.first c.pass_mark.new.world.second.now) (Some c.marks.current) (Some c.marks.current)
    steps texts v db n s (c.marks.invariant.arrives steps texts v db n s j) c.in-Clear.ensures.arrives

pub returns-in-Clear-clause-older : goal.returns-in-Clear-clause-older
returns-in-Clear-clause-older c = older_on _ _ _ _ _ _ c.marks.invariant.older c.in-Clear.ensures.older

pub returns-in-Back-clause-arrives : goal.returns-in-Back-clause-arrives
returns-in-Back-clause-arrives c = λ steps texts v db n s j.
    arrives_on (saved_values c.marks.world.first c.marks.world.second.saved) (saved_values c.pass_mark.new.world.first c.pass_mark.new.world.second.saved) c.marks.choices c.pass_mark.new.choices
    (value c.marks.world.first c.marks.world.second.now) (value c.pass_mark.new.world.first c.pass_mark.new.world.second.now) (Some c.marks.current) None
    steps texts v db n s (c.marks.invariant.arrives steps texts v db n s j) c.in-Back.ensures.arrives

pub returns-in-Back-clause-older : goal.returns-in-Back-clause-older
returns-in-Back-clause-older c = older_on _ _ _ _ _ _ c.marks.invariant.older c.in-Back.ensures.older

pub returns-in-Clear-clause-budget : goal.returns-in-Clear-clause-budget
returns-in-Clear-clause-budget c = c.in-Clear.ensures.budget ∙ c.marks.invariant.budget

pub returns-in-Back-clause-budget : goal.returns-in-Back-clause-budget
returns-in-Back-clause-budget c = c.in-Back.ensures.budget ∙ c.marks.invariant.budget
