-- What a constraint is told as.
use Rattle.std.specs.Prelude.{◌≡◌, ◌<◌, List, Some, None, length}
use Rattle.spec_numbers.specs.Texts.{Text}
use Rattle.spec_syntax.specs.Trees.{Tree}
use Rattle.spec_branch.specs.Checks.{members, halves}
use Rattle.cq_term.specs.Meaning.{HeapTerm}
use Rattle.cq_term.specs.Trees.{tree, trees}
use Rattle.cq_built.specs.Splitting.{AreLive}
use Rattle.cq_goals.specs.declared.tellings.Telling.{Telling}
use Rattle.cq_goals.specs.declared.tellings.Telling.TheVariants as telling

-- its members, where it holds no disjunction, else its two halves
abbrev pub IsTelling : List Text → List HeapTerm → Tree → Telling → Type 0
IsTelling texts ts c (telling.Members ids) = (halves c ≡ None) × (trees texts ts ids.items ≡ members c)
IsTelling texts ts c (telling.Halves l r) = halves c ≡ Some (record { left = tree texts ts l; right = tree texts ts r })

abbrev pub IsLiveTelling : List HeapTerm → Telling → Type 0
IsLiveTelling ts (telling.Members ids) = AreLive ts ids.items
IsLiveTelling ts (telling.Halves l r) = (l < length ts) × (r < length ts)
