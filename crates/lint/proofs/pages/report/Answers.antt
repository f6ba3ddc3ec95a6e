use Rattle.std.proofs.Common.{◌++◌, ◌∙◌, ap, arith}
use Rattle.cq_lint.proofs.Lists.{flat_step}
use Rattle.lint.specs.Pages.{known_of, page_report}
use Rattle.lint.proofs.pages.report.Goals as goal

pub loop-page-preserved : goal.loop-page-preserved
loop-page-preserved c =
    let pages = c.args.pages.now in
    let page = c.page-item.result in
    c.in_ok-add_page.ensures
    ∙ ap (λ k. c.loop-page.lines.items ++ page_report k page) c.in_ok-known.ensures
    ∙ ap (λ ls. ls ++ page_report (known_of pages) page) c.loop-page.invariant
    ∙ flat_step (page_report (known_of pages)) pages c.loop-page.page-index page c.page-item.is (omega (arith, c.loop-page-test.true))
