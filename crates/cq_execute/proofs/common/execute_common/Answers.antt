use Rattle.std.proofs.Common.{refl, sym, subst}
use Rattle.std.specs.Prelude.{Ok, IfOk}
use Rattle.std.specs.declared.result.Result.{Result}
use Rattle.spec_search.specs.Builtins.{True, And, Or, Cut, Unify, Is, Compare}
use Rattle.cq_term.specs.Texts.{text_of}
use Rattle.cq_builtin.specs.Rows.{comparison_of}
use Rattle.cq_store.specs.declared.store.StoreFault.{StoreFault}
use Rattle.cq_term.specs.Meaning.{at}
use Rattle.cq_machine.specs.declared.step.Step.{Step}
use Rattle.cq_machine.specs.Machines.{terms, StillStands}
use Rattle.cq_machine.specs.Stepping.{row_of, LeadsTo}
use Rattle.cq_machine.specs.Refusals.{OnRefuses}
use Rattle.cq_execute.specs.Rows.{IsRowDone}
use Rattle.cq_execute.proofs.Table.{so_many}
use Rattle.cq_execute.proofs.Done.{row_done, stop_done, none_raised, rows_at, stops_at, same_machine, somewhere, still_raised, still_stands}
use Rattle.cq_execute.proofs.Outcomes.{none_refused, refused_too, still_refused}
use Rattle.cq_execute.proofs.common.execute_common.Goals as goal

pub returns-in-True-clause-done : goal.returns-in-True-clause-done
returns-in-True-clause-done c =
    let m = c.args.m.now in
    let s = c.succeed_if.result in
    stop_done m m c.args.goal c.args.height c.args.rest True (rw c.in-True.is at c.requires.calls) (Ok s) (λ p behind g at. c.succeed_if.ensures.row m c.args.goal c.args.height p behind g at) tt
    (c.succeed_if.ensures.goes m c.requires.at.there) (still_raised {E = StoreFault} m (Ok s)) c.requires.at.sound (same_machine m) tt

pub returns-in-True-clause-refuses : goal.returns-in-True-clause-refuses
returns-in-True-clause-refuses c = still_refused {E = StoreFault} c.args.m.now (Ok c.succeed_if.result)

pub conjunction-requires-clause-two : goal.conjunction-requires-clause-two
conjunction-requires-clause-two c =
    so_many (text_of c.args.m.now.atoms) (at (terms c.args.m.now) c.args.goal) And 2 (rw c.in-And.is at c.requires.calls) (λ n. refl)

pub returns-in-And-clause-done : goal.returns-in-And-clause-done
returns-in-And-clause-done c =
    let m = c.args.m.now in
    let new = c.conjunction.new.m in
    let r = c.conjunction.result in
    let calls = rw c.in-And.is at c.requires.calls in
    subst (λ (q : Result Step StoreFault). IsRowDone m new c.args.goal c.args.height c.args.rest q) (sym c.or_stop.ensures)
    (row_done m new c.args.goal c.args.height c.args.rest And calls r c.conjunction.ensures.row c.conjunction.ensures.goes
    (none_raised m new c.args.goal c.args.height c.args.rest And calls c.requires.at.selected (λ p g e h. cc) (λ p g t h. cc) r c.conjunction.ensures.row)
    c.conjunction.ensures.sound c.conjunction.ensures.program c.conjunction.ensures.err)

pub returns-in-And-clause-refuses : goal.returns-in-And-clause-refuses
returns-in-And-clause-refuses c =
    let m = c.args.m.now in
    let new = c.conjunction.new.m in
    let r = c.conjunction.result in
    subst (λ (q : Result Step StoreFault). IfOk q (λ s. OnRefuses s (StillStands m new))) (sym c.or_stop.ensures)
    (refused_too (λ s. OnRefuses s (StillStands m new)) r (none_refused m new c.args.goal c.args.height c.args.rest And c.requires.at.selected (λ p g pair h. cc) r c.conjunction.ensures.row))

pub disjunction-requires-clause-two : goal.disjunction-requires-clause-two
disjunction-requires-clause-two c =
    so_many (text_of c.args.m.now.atoms) (at (terms c.args.m.now) c.args.goal) Or 2 (rw c.in-Or.is at c.requires.calls) (λ n. refl)

pub returns-in-Or-clause-done : goal.returns-in-Or-clause-done
returns-in-Or-clause-done c =
    let m = c.args.m.now in
    let new = c.disjunction.new.m in
    let r = c.disjunction.result in
    let calls = rw c.in-Or.is at c.requires.calls in
    subst (λ (q : Result Step StoreFault). IsRowDone m new c.args.goal c.args.height c.args.rest q) (sym c.or_stop-in-Or.ensures)
    (row_done m new c.args.goal c.args.height c.args.rest Or calls r c.disjunction.ensures.row c.disjunction.ensures.goes
    (none_raised m new c.args.goal c.args.height c.args.rest Or calls c.requires.at.selected (λ p g e h. cc) (λ p g t h. cc) r c.disjunction.ensures.row)
    c.disjunction.ensures.sound c.disjunction.ensures.program c.disjunction.ensures.err)

pub returns-in-Or-clause-refuses : goal.returns-in-Or-clause-refuses
returns-in-Or-clause-refuses c =
    let m = c.args.m.now in
    let new = c.disjunction.new.m in
    let r = c.disjunction.result in
    subst (λ (q : Result Step StoreFault). IfOk q (λ s. OnRefuses s (StillStands m new))) (sym c.or_stop-in-Or.ensures)
    (refused_too (λ s. OnRefuses s (StillStands m new)) r (none_refused m new c.args.goal c.args.height c.args.rest Or c.requires.at.selected (λ p g pair h. cc) r c.disjunction.ensures.row))

pub returns-in-Cut-clause-done : goal.returns-in-Cut-clause-done
returns-in-Cut-clause-done c =
    let m = c.args.m.now in
    let new = c.cut.new.m in
    let r = Ok c.cut.result in
    let calls = rw c.in-Cut.is at c.requires.calls in
    let row : IfOk r (LeadsTo m new c.args.goal c.args.height c.args.rest (row_of Cut)) = λ p behind g at. c.cut.ensures.row p behind c.args.goal g at in
    stop_done m new c.args.goal c.args.height c.args.rest Cut calls r row tt c.cut.ensures.goes (none_raised m new c.args.goal c.args.height c.args.rest Cut calls c.requires.at.selected (λ p g e h. cc) (λ p g t h. cc) r row)
    c.cut.ensures.sound c.cut.ensures.program tt

pub returns-in-Cut-clause-refuses : goal.returns-in-Cut-clause-refuses
returns-in-Cut-clause-refuses c =
    let m = c.args.m.now in
    let new = c.cut.new.m in
    let r : Result Step StoreFault = Ok c.cut.result in
    let row : IfOk r (LeadsTo m new c.args.goal c.args.height c.args.rest (row_of Cut)) = λ p behind g at. c.cut.ensures.row p behind c.args.goal g at in
    none_refused m new c.args.goal c.args.height c.args.rest Cut c.requires.at.selected (λ p g pair h. cc) r row

pub unify-requires-clause-two : goal.unify-requires-clause-two
unify-requires-clause-two c =
    so_many (text_of c.args.m.now.atoms) (at (terms c.args.m.now) c.args.goal) Unify 2 (rw c.in-Unify.is at c.requires.calls) (λ n. refl)

pub unify-requires-clause-selected : goal.unify-requires-clause-selected
unify-requires-clause-selected c = somewhere c.args.m.now c.args.goal c.args.height c.args.rest c.requires.at.selected

pub returns-in-Unify-clause-done : goal.returns-in-Unify-clause-done
returns-in-Unify-clause-done c =
    let m = c.args.m.now in
    let new = c.unify.new.m in
    let r = c.unify.result in
    let calls = rw c.in-Unify.is at c.requires.calls in
    let row = rows_at m new c.args.goal c.args.height c.args.rest Unify calls r c.unify.ensures.row in
    stop_done m new c.args.goal c.args.height c.args.rest Unify calls r row (stops_at m new c.args.goal c.args.height c.args.rest Unify calls r c.unify.ensures.stop) c.unify.ensures.goes
    (none_raised m new c.args.goal c.args.height c.args.rest Unify calls c.requires.at.selected (λ p g e h. cc) (λ p g t h. cc) r row)
    c.unify.ensures.sound c.unify.ensures.program c.unify.ensures.err

pub returns-in-Unify-clause-refuses : goal.returns-in-Unify-clause-refuses
returns-in-Unify-clause-refuses c =
    let m = c.args.m.now in
    let new = c.unify.new.m in
    let r = c.unify.result in
    let row = rows_at m new c.args.goal c.args.height c.args.rest Unify (rw c.in-Unify.is at c.requires.calls) r c.unify.ensures.row in
    none_refused m new c.args.goal c.args.height c.args.rest Unify c.requires.at.selected (λ p g pair h. cc) r row

pub evaluate_to-requires-clause-two : goal.evaluate_to-requires-clause-two
evaluate_to-requires-clause-two c =
    so_many (text_of c.args.m.now.atoms) (at (terms c.args.m.now) c.args.goal) Is 2 (rw c.in-Is.is at c.requires.calls) (λ n. refl)

pub evaluate_to-requires-clause-selected : goal.evaluate_to-requires-clause-selected
evaluate_to-requires-clause-selected c = somewhere c.args.m.now c.args.goal c.args.height c.args.rest c.requires.at.selected

pub returns-in-Is-clause-done : goal.returns-in-Is-clause-done
returns-in-Is-clause-done c =
    let m = c.args.m.now in
    let new = c.evaluate_to.new.m in
    let r = c.evaluate_to.result in
    let calls = rw c.in-Is.is at c.requires.calls in
    stop_done m new c.args.goal c.args.height c.args.rest Is calls r (rows_at m new c.args.goal c.args.height c.args.rest Is calls r c.evaluate_to.ensures.row) (stops_at m new c.args.goal c.args.height c.args.rest Is calls r c.evaluate_to.ensures.stop) c.evaluate_to.ensures.goes
    c.evaluate_to.ensures.raises c.evaluate_to.ensures.sound c.evaluate_to.ensures.program c.evaluate_to.ensures.err

pub returns-in-Is-clause-refuses : goal.returns-in-Is-clause-refuses
returns-in-Is-clause-refuses c = c.evaluate_to.ensures.refuses

pub compare-requires-clause-two : goal.compare-requires-clause-two
compare-requires-clause-two c =
    so_many (text_of c.args.m.now.atoms) (at (terms c.args.m.now) c.args.goal) (Compare (comparison_of c.in-Compare.comparison)) 2 (rw c.in-Compare.is at c.requires.calls) (λ n. refl)

pub returns-in-Compare-clause-done : goal.returns-in-Compare-clause-done
returns-in-Compare-clause-done c =
    let m = c.args.m.now in
    let r = c.compare.result in
    let b = Compare (comparison_of c.in-Compare.comparison) in
    let calls = rw c.in-Compare.is at c.requires.calls in
    subst (λ (q : Result Step StoreFault). IsRowDone m m c.args.goal c.args.height c.args.rest q) (sym c.or_stop-in-Compare.ensures)
    (row_done m m c.args.goal c.args.height c.args.rest b calls r (rows_at m m c.args.goal c.args.height c.args.rest b calls r c.compare.ensures.row) c.compare.ensures.goes
    (still_raised m r) c.requires.at.sound (same_machine m) (still_stands m r))

pub returns-in-Compare-clause-refuses : goal.returns-in-Compare-clause-refuses
returns-in-Compare-clause-refuses c =
    let m = c.args.m.now in
    subst (λ (q : Result Step StoreFault). IfOk q (λ s. OnRefuses s (StillStands m m))) (sym c.or_stop-in-Compare.ensures)
    (refused_too (λ s. OnRefuses s (StillStands m m)) c.compare.result (still_refused m c.compare.result))
