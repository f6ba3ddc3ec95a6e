use Rattle.std.proofs.Common.{◌+◌, arith}
use Rattle.std.proofs.lemmas.List.{length-map}
use Rattle.cq_resolve.specs.Marks.{shown}
use Rattle.cq_resolve.proofs.Marks.{part_ends, part_top, sized_left, below_here, some_read_at}
use Rattle.cq_resolve.proofs.matching.part_at.Goals as goal

pub top-requires : goal.top-requires
top-requires c = (c.requires.fits.0, c.requires.fits.1, below_here c.requires.fits.0 c.args.head.now c.args.place c.index-head-place.result c.requires.fits.2 c.requires.within c.index-head-place.is)

pub returns-clause-ends : goal.returns-clause-ends
returns-clause-ends c =
    part_ends c.args.head.now c.args.place c.requires.fits.0 c.requires.fits.2 (some_read_at c.args.head.now c.args.place c.requires.within) c.index-head-place.result c.index-head-place.is c.requires.within (sized_left c.args.place c.args.head.now c.requires.sized)
    (c.args.place + c.size.result) (omega (arith, c.size.ensures))

pub returns-clause-met : goal.returns-clause-met
returns-clause-met c =
    let high = part_top c.args.head.now c.args.place c.requires.fits.0 c.requires.fits.2 (some_read_at c.args.head.now c.args.place c.requires.within) c.index-head-place.result c.index-head-place.is c.requires.within (sized_left c.args.place c.args.head.now c.requires.sized) in
    omega (arith, high, c.top.ensures, c.max.ensures)

pub overflow_add-result : goal.overflow_add-result
overflow_add-result c =
    let ends =
    part_ends c.args.head.now c.args.place c.requires.fits.0 c.requires.fits.2 (some_read_at c.args.head.now c.args.place c.requires.within) c.index-head-place.result c.index-head-place.is c.requires.within (sized_left c.args.place c.args.head.now c.requires.sized)
    (c.args.place + c.size.result) (omega (arith, c.size.ensures)) in
    omega (arith, ends.within, length-map c.args.head.now shown)
