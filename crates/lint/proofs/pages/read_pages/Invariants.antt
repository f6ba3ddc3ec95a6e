use Rattle.std.proofs.Common.{◌≡◌, map, string_bytes, take}
use Rattle.cq_ops.specs.Tables.{AreNamed, named}
use Rattle.lint.proofs.Readings.{AreReadBefore}
use Rattle.lint.proofs.pages.read_pages.Given as goal

-- the pages so far are read, and no load failed
abbrev pub invariant-loop-name : goal.invariant-loop-name
invariant-loop-name g l = record {
  known : AreNamed l.atoms l.ops;
  read : AreReadBefore (g.F.Shelf.files l.fn.shelf) (named l.atoms l.ops) (map string_bytes (take l.name-index l.names)) l.pages.items;
  told : g.F.Shelf.files l.shelf ≡ g.F.Shelf.files l.fn.shelf;
  faults : g.F.Shelf.faults l.shelf ≡ g.F.Shelf.faults l.fn.shelf;
  refused : g.F.Shelf.refused l.shelf ≡ g.F.Shelf.refused l.fn.shelf;
}
