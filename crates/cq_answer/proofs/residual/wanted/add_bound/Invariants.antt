use Rattle.std.proofs.Common.{◌≡◌, List, take}
use Rattle.std.specs.Prelude.{fold}
use Rattle.spec_numbers.specs.Texts.{Text}
use Rattle.spec_terms.specs.Variables.{variables_after}
use Rattle.cq_term.specs.Trees.{tree}
use Rattle.cq_term.specs.Places.{numbers_of}
use Rattle.cq_answer.specs.Shown.{bound_trees}
use Rattle.cq_answer.proofs.residual.wanted.add_bound.Given as goal

abbrev pub invariant-names : goal.invariant-names
invariant-names l = (texts : List Text) → numbers_of l.found.keys ≡ fold variables_after (numbers_of l.fn.found.keys) (bound_trees (tree texts l.heap.now.images) (take l.named-index l.names))
