use Rattle.std.proofs.Common.{◌≡◌, take}
use Rattle.std.specs.Prelude.{flat_map}
use Rattle.lint.specs.Pages.{known_of, page_report}
use Rattle.lint.proofs.pages.report.Given as goal

abbrev pub invariant-loop-page : goal.invariant-loop-page
invariant-loop-page l = l.lines.items ≡ flat_map (page_report (known_of l.pages)) (take l.page-index l.pages)
