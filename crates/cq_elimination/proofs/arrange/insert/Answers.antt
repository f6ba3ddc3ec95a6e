use Rattle.std.proofs.Common.{List, sym, subst}
use Rattle.cq_equations.specs.Told.{numbers_of}
use Rattle.cq_elimination.specs.declared.arrange.PrintedRow.{PrintedRow}
use Rattle.cq_elimination.specs.Lines.{lines_of}
use Rattle.cq_elimination.specs.Arranging.{AreLines, IsPlace}
use Rattle.cq_elimination.proofs.Placed.{joins}
use Rattle.cq_elimination.proofs.arrange.insert.Goals as goal

pub place_of-place-requires-clause-placed : goal.place_of-place-requires-clause-placed
place_of-place-requires-clause-placed c =
    subst (λ (rows : List PrintedRow). AreLines (numbers_of c.args.order.now) (lines_of rows)) (sym c.deref.ensures.value) c.requires.placed

pub returns : goal.returns
returns c =
    joins (numbers_of c.args.order.now) c.args.row c.args.rows.now.items c.insert.new.self.items c.place_of-place.result
    (subst (λ (rows : List PrintedRow). IsPlace (numbers_of c.args.order.now) rows c.args.row c.place_of-place.result) c.deref.ensures.value c.place_of-place.ensures)
    c.in_ok-insert.ensures.items
