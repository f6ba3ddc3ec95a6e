use Rattle.std.proofs.Common.{◌≡◌, List, take}
use Rattle.spec_numbers.specs.Texts.{Text}
use Rattle.cq_term.specs.Trees.{tree}
use Rattle.cq_answer.specs.Shown.{free_in}
use Rattle.cq_answer.proofs.residual.queries.free_names.Given as goal

abbrev pub invariant-names : goal.invariant-names
invariant-names l = (texts : List Text) → l.free.items ≡ free_in (tree texts l.heap.now.images) (take l.named-index l.names)
