use Rattle.std.proofs.Common.{◌≡◌, ◌+◌, ◌∙◌, suc, map, take, drop, refl, ap, arith}
use Rattle.std.specs.Prelude.{max}
use Rattle.cq_resolve.specs.Pattern.{read}
use Rattle.cq_resolve.specs.Marks.{shown, widths, tops, top_of}
use Rattle.cq_resolve.proofs.Marks.{through_start, through_more, end_within, below_here}
use Rattle.cq_resolve.proofs.stored.marks.extent.Goals as goal

pub loop-init : goal.loop-init
loop-init c = through_start c.args.parts.now c.args.place c.requires.fits.0 c.requires.fits.2 c.requires.within c.requires.sized

pub bounds-parts-end : goal.bounds-parts-end
bounds-parts-end c = end_within c.args.parts.now c.args.place c.requires.fits.0 c.requires.fits.2 c.requires.within c.requires.sized c.loop.counter c.loop.end c.loop.top c.loop.invariant (omega (arith, c.loop-test.true, c.requires.enough))

pub top-requires : goal.top-requires
top-requires c =
    let lt = end_within c.args.parts.now c.args.place c.requires.fits.0 c.requires.fits.2 c.requires.within c.requires.sized c.loop.counter c.loop.end c.loop.top c.loop.invariant (omega (arith, c.loop-test.true, c.requires.enough)) in
    (c.requires.fits.0, c.requires.fits.1, below_here c.requires.fits.0 c.args.parts.now c.loop.end c.index-parts-end.result c.requires.fits.2 lt c.index-parts-end.is)

pub overflow_add-end : goal.overflow_add-end
overflow_add-end c =
    let more = through_more c.args.parts.now c.args.place c.requires.fits.0 c.requires.fits.2 c.requires.within c.requires.sized c.loop.counter c.loop.end c.loop.top c.loop.invariant (omega (arith, c.loop-test.true, c.requires.enough))
    c.index-parts-end.result c.index-parts-end.is (suc c.loop.counter) (omega arith) (c.loop.end + c.size-end.result) (max (top_of c.index-parts-end.result) c.loop.top) (omega (arith, c.size-end.ensures)) refl in
    omega (arith, more.within)

pub loop-preserved : goal.loop-preserved
loop-preserved c =
    through_more c.args.parts.now c.args.place c.requires.fits.0 c.requires.fits.2 c.requires.within c.requires.sized c.loop.counter c.loop.end c.loop.top c.loop.invariant (omega (arith, c.loop-test.true, c.requires.enough))
    c.index-parts-end.result c.index-parts-end.is (c.loop.counter + 1) (omega arith) (c.loop.end + c.size-end.result) c.max-top.result (omega (arith, c.size-end.ensures)) (omega (arith, c.top.ensures, c.max-top.ensures))

pub returns-clause-end : goal.returns-clause-end
returns-clause-end c =
    let last : c.loop.counter ≡ c.args.count = omega (arith, c.loop-test.false) in
    c.loop.invariant.at_end ∙ ap (λ n. c.args.place + widths (take n (read (drop c.args.place (map shown c.args.parts.now))))) last

pub returns-clause-top : goal.returns-clause-top
returns-clause-top c =
    let last : c.loop.counter ≡ c.args.count = omega (arith, c.loop-test.false) in
    c.loop.invariant.at_top ∙ ap (λ n. tops (take n (read (drop c.args.place (map shown c.args.parts.now))))) last

pub returns-clause-within : goal.returns-clause-within
returns-clause-within c = c.loop.invariant.within
