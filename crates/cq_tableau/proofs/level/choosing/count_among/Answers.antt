use Rattle.std.proofs.Common.{◌+◌, ◌<◌, length, arith, subst}
use Rattle.std.specs.Prelude.{slice_index}
use Rattle.std.proofs.lemmas.List.Elements.{Contains-get_or}
use Rattle.cq_tableau.proofs.Counts.{IsCounted, none_counted, one_counted, all_counted}
use Rattle.cq_tableau.proofs.level.choosing.count_among.Goals as goal
use Rattle.cq_tableau.proofs.level.choosing.count_among.Goals.{then-stands_in, else-stands_in}

pub loop-q-init : goal.loop-q-init
loop-q-init c = (none_counted c.args.dict.now.roles c.args.c c.args.touched.now c.requires.touched, omega arith)

pub stands_in-requires-clause-there : goal.stands_in-requires-clause-there
stands_in-requires-clause-there c =
    let l : c.loop-q.q-index < length c.args.touched.now = omega arith in
    c.requires.touched.within (slice_index c.args.touched.now c.loop-q.q-index) (Contains-get_or c.args.touched.now c.loop-q.q-index 0 l)

pub loop-q-preserved : goal.loop-q-preserved
loop-q-preserved c =
    let roles = c.args.dict.now.roles in
    let touched = c.args.touched.now in
    let k = c.loop-q.q-index in
    let l : c.loop-q.q-index < length c.args.touched.now = omega arith in
    let i = one_counted roles c.args.c touched c.requires.touched k c.loop-q.rows l c.loop-q.invariant.0 in
    let few = c.loop-q.invariant.1 in
    elim c.if-stands_in.branch [
      | then-stands_in w ↦ (let s = w.if-stands_in.ensures in let r = w.rows-is in (
        subst (IsCounted roles c.args.c touched (k + 1)) (omega (arith, s, r)) i,
        omega (arith, few, r),
      ))
      | else-stands_in w ↦ (let s = w.if-stands_in.ensures in let r = w.rows-is in (
        subst (IsCounted roles c.args.c touched (k + 1)) (omega (arith, s, r)) i,
        omega (arith, few, r),
      ))
    ]

pub returns : goal.returns
returns c =
    all_counted c.args.dict.now.roles c.args.c c.args.touched.now c.requires.touched c.loop-q.q-index c.loop-q.rows (omega arith) c.loop-q.invariant.0
