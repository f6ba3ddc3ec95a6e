use Rattle.std.proofs.Common.{◌≡◌, List, take}
use Rattle.std.specs.Prelude.{fold}
use Rattle.spec_numbers.specs.Texts.{Text}
use Rattle.spec_terms.specs.Variables.{variables_after}
use Rattle.cq_term.specs.Places.{numbers_of}
use Rattle.cq_answer.specs.Shown.{goal_trees}
use Rattle.cq_answer.proofs.residual.wanted.add_goals.Given as goal

abbrev pub invariant-waiting : goal.invariant-waiting
invariant-waiting l = (texts : List Text) → numbers_of l.found.keys ≡ fold variables_after (numbers_of l.fn.found.keys) (goal_trees texts l.heap.now (take l.waits-index l.waiting))
