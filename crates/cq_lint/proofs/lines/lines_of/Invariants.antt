use Rattle.std.proofs.Common.{◌≡◌, take}
use Rattle.std.specs.Prelude.{flat_map}
use Rattle.cq_lint.specs.Lines.{line_of, place_of}
use Rattle.cq_lint.proofs.lines.lines_of.Given as goal

abbrev pub invariant-loop-finding : goal.invariant-loop-finding
invariant-loop-finding l = record {
  lines : l.lines.items ≡ flat_map (line_of l.file l.text) (take l.finding-index l.findings);
  place : l.place ≡ place_of l.text l.place.at;
}
