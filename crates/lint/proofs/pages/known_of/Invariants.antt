use Rattle.std.proofs.Common.{◌≡◌, take}
use Rattle.std.specs.Prelude.{fold}
use Rattle.cq_lint.specs.Knowledge.{nothing_known}
use Rattle.lint.specs.Pages.{known_with_page}
use Rattle.lint.proofs.pages.known_of.Given as goal

abbrev pub invariant-loop-page : goal.invariant-loop-page
invariant-loop-page l = l.known ≡ fold known_with_page nothing_known (take l.page-index l.pages)
