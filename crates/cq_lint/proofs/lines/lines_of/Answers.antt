use Rattle.std.proofs.Common.{◌++◌, ◌∙◌, ap, sym, arith}
use Rattle.cq_lint.specs.Lines.{line_at, line_of, place_of}
use Rattle.cq_lint.proofs.Columns.{place_again}
use Rattle.cq_lint.proofs.Lists.{flat_step}
use Rattle.cq_lint.proofs.lines.lines_of.Goals as goal

pub loop-finding-preserved : goal.loop-finding-preserved
loop-finding-preserved c =
    let file = c.args.file.now in
    let text = c.args.text.now in
    let f = c.finding-item.result in
    record {
      lines =
          c.in_ok-add_line.ensures
          ∙ ap (λ p. c.loop-finding.lines.items ++ line_at file text p f) (c.of-place.ensures ∙ ap (place_of text) c.at_of.ensures)
          ∙ ap (λ ls. ls ++ line_of file text f) c.loop-finding.invariant.lines
          ∙ flat_step (line_of file text) c.args.findings.now c.loop-finding.finding-index f c.finding-item.is (omega (arith, c.loop-finding-test.true));
      place = c.of-place.ensures ∙ place_again text c.at_of.result ∙ ap (λ p. place_of text p.at) (sym c.of-place.ensures);
    }
