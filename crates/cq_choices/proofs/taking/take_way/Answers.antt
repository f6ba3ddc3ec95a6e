use Rattle.std.proofs.Common.{◌≡◌, ◌-◌, ◌∷◌, ◌∙◌, suc, Option, length, sym, ap, arith}
use Rattle.cq_built.specs.declared.alternatives.Alternative.{Alternative}
use Rattle.cq_predicates.specs.Given.{then_these, ways_left}
use Rattle.cq_predicates.specs.declared.solutions.Solutions.{Solutions}
use Rattle.spec_engine.specs.Cells.{Value}
use Rattle.cq_settle.specs.Contents.{Contents}
use Rattle.cq_branch.specs.declared.alternatives.Alternatives.TheVariants.{Barrier, Ways}
use Rattle.cq_branch.specs.Worlds.{value, with_heap}
use Rattle.cq_choices.specs.Held.{Held, held}
use Rattle.cq_choices.proofs.Calling.{saved_with, open_with, marked_with}
use Rattle.cq_choices.proofs.Ending.{comes_ended, over_ended, comes_same, over_same}
use Rattle.cq_choices.proofs.Newest.{older_ones, other_newest}
use Rattle.cq_choices.proofs.Taken.{names_there, ready_then, over_barrier}
use Rattle.cq_choices.proofs.taking.take_way.Goals as goal

pub returns-in-Some-clause-ready : goal.returns-in-Some-clause-ready
returns-in-Some-clause-ready c =
    let old = held c.args.atoms.now c.args.world.now.first c.args.world.now.second c.args.choices.now in
    let start = value c.take_ways-others.new.world.first c.take_ways-others.new.world.second.now in
    let before = c.take_ways-others.result.0 in
    let rest = c.take_ways-others.result.1 in
    let older = c.take_ways-others.ensures.takes.0 in
    let was = c.take_ways-others.ensures.takes.1 in
    let longer = c.next-next.ensures.adds.longer in
    let saved = saved_with c.next-next.new.heap.saved c.take_ways-others.new.world.first c.take_ways-others.new.world.second.saved in
    let is = open_with c.next-next.new.heap.saved c.take_ways-others.new.world.first c.take_ways-others.new.world.second.saved c.take_ways-others.new.choices ((start, Barrier) ∷ older)
    c.next-next.ensures.adds.saved c.take_ways-others.ensures.takes.2 in
    let now : Value Contents = (with_heap c.next-next.new.heap.now start.0, start.1) in
    ready_then old c.requires.works start before rest older was c.names_are_of_terms.ensures.choices c.next-next.new.atoms longer c.next-next.new.heap.now c.next-next.ensures.adds.terms c.next-next.ensures.images
    (c.next-next.ensures.adds.names (names_there old c.requires.works start before rest older was))

pub returns-in-Some-clause-over : goal.returns-in-Some-clause-over
returns-in-Some-clause-over c =
    let old = held c.args.atoms.now c.args.world.now.first c.args.world.now.second c.args.choices.now in
    let start = value c.take_ways-others.new.world.first c.take_ways-others.new.world.second.now in
    let before = c.take_ways-others.result.0 in
    let rest = c.take_ways-others.result.1 in
    let older = c.take_ways-others.ensures.takes.0 in
    let was = c.take_ways-others.ensures.takes.1 in
    let longer = c.next-next.ensures.adds.longer in
    let saved = saved_with c.next-next.new.heap.saved c.take_ways-others.new.world.first c.take_ways-others.new.world.second.saved in
    let is = open_with c.next-next.new.heap.saved c.take_ways-others.new.world.first c.take_ways-others.new.world.second.saved c.take_ways-others.new.choices ((start, Barrier) ∷ older)
    c.next-next.ensures.adds.saved c.take_ways-others.ensures.takes.2 in
    let now : Value Contents = (with_heap c.next-next.new.heap.now start.0, start.1) in
    let taken : Held = record { texts = c.next-next.new.atoms; saved = saved; choices = c.take_ways-others.new.choices; now = now } in
    over_barrier old taken longer start before rest older was is

pub returns-in-None-clause-gone : goal.returns-in-None-clause-gone
returns-in-None-clause-gone c =
    let old = held c.args.atoms.now c.args.world.now.first c.args.world.now.second c.args.choices.now in
    let start = value c.take_ways-others.new.world.first c.take_ways-others.new.world.second.now in
    let before = c.take_ways-others.result.0 in
    let rest = c.take_ways-others.result.1 in
    let older = c.take_ways-others.ensures.takes.0 in
    let was = c.take_ways-others.ensures.takes.1 in
    let longer = c.next-next.ensures.adds.longer in
    let saved = saved_with c.next-next.new.heap.saved c.take_ways-others.new.world.first c.take_ways-others.new.world.second.saved in
    let is = open_with c.next-next.new.heap.saved c.take_ways-others.new.world.first c.take_ways-others.new.world.second.saved c.take_ways-others.new.choices ((start, Barrier) ∷ older)
    c.next-next.ensures.adds.saved c.take_ways-others.ensures.takes.2 in
    let now : Value Contents = (with_heap c.next-next.new.heap.now start.0, start.1) in
    let n = c.height-newest.result - 1 in
    let long : length c.take_ways-others.new.choices ≡ suc n = omega (arith, ap length c.requires.newest.3, c.take_ways-others.ensures.some, c.height-newest.ensures) in
    let end = held c.next-next.new.atoms c.cut.new.world.first c.cut.new.world.second c.cut.new.self in
    let gone = c.cut.ensures.open
    ∙ older_ones saved c.take_ways-others.new.choices n (start, Barrier) older
    (marked_with c.next-next.new.heap.saved c.take_ways-others.new.world.first c.take_ways-others.new.world.second.saved c.take_ways-others.new.choices c.next-next.ensures.adds.saved
    c.take_ways-others.ensures.marked) long is in
    comes_ended old end longer start before rest older was gone c.names_are_of_terms.ensures.choices
    (c.in-Ok.ensures.next
    ∙ ap (λ (o : Option Alternative). then_these c.next-next.new.atoms c.next-next.new.heap.now.terms o (ways_left c.next-next.new.atoms c.next-next.new.heap.now.terms c.next-next.new.self)) c.in-None.is)

pub returns-in-None-clause-over : goal.returns-in-None-clause-over
returns-in-None-clause-over c =
    let old = held c.args.atoms.now c.args.world.now.first c.args.world.now.second c.args.choices.now in
    let start = value c.take_ways-others.new.world.first c.take_ways-others.new.world.second.now in
    let before = c.take_ways-others.result.0 in
    let rest = c.take_ways-others.result.1 in
    let older = c.take_ways-others.ensures.takes.0 in
    let was = c.take_ways-others.ensures.takes.1 in
    let longer = c.next-next.ensures.adds.longer in
    let saved = saved_with c.next-next.new.heap.saved c.take_ways-others.new.world.first c.take_ways-others.new.world.second.saved in
    let is = open_with c.next-next.new.heap.saved c.take_ways-others.new.world.first c.take_ways-others.new.world.second.saved c.take_ways-others.new.choices ((start, Barrier) ∷ older)
    c.next-next.ensures.adds.saved c.take_ways-others.ensures.takes.2 in
    let now : Value Contents = (with_heap c.next-next.new.heap.now start.0, start.1) in
    let n = c.height-newest.result - 1 in
    let long : length c.take_ways-others.new.choices ≡ suc n = omega (arith, ap length c.requires.newest.3, c.take_ways-others.ensures.some, c.height-newest.ensures) in
    let end = held c.next-next.new.atoms c.cut.new.world.first c.cut.new.world.second c.cut.new.self in
    let gone = c.cut.ensures.open
    ∙ older_ones saved c.take_ways-others.new.choices n (start, Barrier) older
    (marked_with c.next-next.new.heap.saved c.take_ways-others.new.world.first c.take_ways-others.new.world.second.saved c.take_ways-others.new.choices c.next-next.ensures.adds.saved
    c.take_ways-others.ensures.marked) long is in
    over_ended old end longer start before rest older was gone

pub returns-in-Err-clause-err : goal.returns-in-Err-clause-err
returns-in-Err-clause-err c =
    let old = held c.args.atoms.now c.args.world.now.first c.args.world.now.second c.args.choices.now in
    let start = value c.take_ways-others.new.world.first c.take_ways-others.new.world.second.now in
    let before = c.take_ways-others.result.0 in
    let rest = c.take_ways-others.result.1 in
    let older = c.take_ways-others.ensures.takes.0 in
    let was = c.take_ways-others.ensures.takes.1 in
    let longer = c.next-next.ensures.adds.longer in
    let saved = saved_with c.next-next.new.heap.saved c.take_ways-others.new.world.first c.take_ways-others.new.world.second.saved in
    let is = open_with c.next-next.new.heap.saved c.take_ways-others.new.world.first c.take_ways-others.new.world.second.saved c.take_ways-others.new.choices ((start, Barrier) ∷ older)
    c.next-next.ensures.adds.saved c.take_ways-others.ensures.takes.2 in
    let now : Value Contents = (with_heap c.next-next.new.heap.now start.0, start.1) in
    let left : Held = record { texts = c.next-next.new.atoms; saved = saved; choices = c.replace_newest.new.choices; now = now } in
    let same = other_newest saved c.take_ways-others.new.choices c.replace_newest.new.choices (Ways c.next-next.new.self rest) (start, Barrier) older c.replace_newest.ensures is
    ∙ ap (λ (s : Solutions). (start, Ways s rest) ∷ older) c.in-Err.ensures.same ∙ sym was in
    comes_same old left c.names_are_of_terms.ensures.choices longer same

pub returns-in-Err-clause-over : goal.returns-in-Err-clause-over
returns-in-Err-clause-over c =
    let old = held c.args.atoms.now c.args.world.now.first c.args.world.now.second c.args.choices.now in
    let start = value c.take_ways-others.new.world.first c.take_ways-others.new.world.second.now in
    let before = c.take_ways-others.result.0 in
    let rest = c.take_ways-others.result.1 in
    let older = c.take_ways-others.ensures.takes.0 in
    let was = c.take_ways-others.ensures.takes.1 in
    let longer = c.next-next.ensures.adds.longer in
    let saved = saved_with c.next-next.new.heap.saved c.take_ways-others.new.world.first c.take_ways-others.new.world.second.saved in
    let is = open_with c.next-next.new.heap.saved c.take_ways-others.new.world.first c.take_ways-others.new.world.second.saved c.take_ways-others.new.choices ((start, Barrier) ∷ older)
    c.next-next.ensures.adds.saved c.take_ways-others.ensures.takes.2 in
    let now : Value Contents = (with_heap c.next-next.new.heap.now start.0, start.1) in
    let left : Held = record { texts = c.next-next.new.atoms; saved = saved; choices = c.replace_newest.new.choices; now = now } in
    let same = other_newest saved c.take_ways-others.new.choices c.replace_newest.new.choices (Ways c.next-next.new.self rest) (start, Barrier) older c.replace_newest.ensures is
    ∙ ap (λ (s : Solutions). (start, Ways s rest) ∷ older) c.in-Err.ensures.same ∙ sym was in
    λ v o. over_same old left v o longer same
