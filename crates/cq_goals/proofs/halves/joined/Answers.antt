use Rattle.std.proofs.Common.{Some, sym, arith}
use Rattle.cq_built.proofs.Growing.{grows_both}
use Rattle.cq_goals.specs.Splitting.{all_resumed, halves_at}
use Rattle.cq_goals.proofs.Splitting.{joining_starts, frame_live, joining, joined_ends}
use Rattle.cq_goals.proofs.halves.joined.Goals as goal

pub loop-frame-init : goal.loop-frame-init
loop-frame-init c = joining_starts c.args.atoms.now c.args.heap.now c.args.place.path.items c.args.place.halves c.requires.halves_live c.requires.live

pub within-requires-clause-names : goal.within-requires-clause-names
within-requires-clause-names c = c.loop-frame.invariant.grows.names c.requires.names

pub within-requires-clause-live : goal.within-requires-clause-live
within-requires-clause-live c =
    frame_live c.args.atoms.now c.args.heap.now c.loop-frame.heap c.loop-frame.heap c.requires.names _ c.loop-frame.path.items c.pop.new.self.items c.in-Some.frame
    c.loop-frame.halves c.loop-frame.halves c.loop-frame.invariant c.in-Some.ensures.items

pub loop-frame-preserved : goal.loop-frame-preserved
loop-frame-preserved c =
    joining c.args.atoms.now c.args.heap.now c.loop-frame.heap c.within.new.heap c.requires.names _ c.loop-frame.path.items c.pop.new.self.items c.in-Some.frame
    c.loop-frame.halves c.in_ok-halves.halves c.loop-frame.invariant c.in-Some.ensures.items c.within.ensures.grows c.in_ok-halves.ensures.joined c.in_ok-halves.ensures.live

pub returns-in_err-halves-clause-grows : goal.returns-in_err-halves-clause-grows
returns-in_err-halves-clause-grows c =
    grows_both c.args.atoms.now c.args.atoms.now c.args.atoms.now c.args.heap.now c.loop-frame.heap c.within.new.heap c.loop-frame.invariant.grows c.within.ensures.grows

pub returns-clause-joined : goal.returns-clause-joined
returns-clause-joined c =
    joined_ends c.args.atoms.now c.args.heap.now c.loop-frame.heap _ c.loop-frame.path.items c.loop-frame.halves c.loop-frame.invariant (omega (arith, c.in_default.ensures.cases.0, c.loop-frame.path.ok.0))
