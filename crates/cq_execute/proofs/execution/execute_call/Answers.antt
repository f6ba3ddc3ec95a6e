use Rattle.std.proofs.Common.{[], Some, refl, sym, ap, subst, ◌∙◌}
use Rattle.spec_numbers.proofs.Prefixes.{prefix_same}
use Rattle.spec_builtins.specs.Built.{compound1}
use Rattle.spec_search.specs.Control.{call_row}
use Rattle.spec_search.specs.Replies.{Raises}
use Rattle.cq_built.specs.Errors.{error_tree, HasCulprit}
use Rattle.cq_settle.specs.Contents.{Contents}
use Rattle.cq_branch.proofs.Done.{length-stack}
use Rattle.cq_machine.specs.declared.step.Step.{Step}
use Rattle.cq_machine.specs.declared.step.Step.TheVariants as step
use Rattle.cq_machine.specs.Machines.{now, saved, holds, StillStands}
use Rattle.cq_machine.specs.Stepping.{CanGo, OnRaises}
use Rattle.cq_machine.proofs.Built.{stands_still}
use Rattle.cq_machine.proofs.Kept.{leads_over}
use Rattle.cq_calls.proofs.Waiting.{same_grown}
use Rattle.cq_machine.proofs.Reached.{names_same, sound_still, marked_still, open_still}
use Rattle.cq_execute.proofs.Reached.{reach, quietly}
use Rattle.cq_execute.proofs.execution.execute_call.Goals as goal

-- ---- rows

pub returns-in-Ok-clause-row : goal.returns-in-Ok-clause-row
returns-in-Ok-clause-row c = λ p behind t s.
    let m = c.args.m.now in
    let new = record m { world = c.call.new.world } in
    quietly new c.silent.result (step.Goes c.in-Ok.k) p behind (compound1 "call" t) c.silent.ensures.step c.silent.ensures.output
    (reach new p behind (compound1 "call" t) s.database (step.Goes c.in-Ok.k) (call_row p t []) refl
    (leads_over m.atoms m.clauses (saved m) (saved new) m.choices (now new) (Some c.in-Ok.k) p behind (call_row p t []) c.in-Ok.ensures.saved
    (c.in-Ok.ensures.row (holds m) p behind t (length-stack m.atoms m.clauses (saved m) m.choices c.requires.sound.marked) s.placed s.reads)))

pub returns-in-Error-clause-row : goal.returns-in-Error-clause-row
returns-in-Error-clause-row c = λ p behind t s.
    let m = c.args.m.now in
    let new = record m { world = c.call.new.world } in
    quietly new c.silent-in-Error.result (step.Raises c.in-Error.error) p behind (compound1 "call" t) c.silent-in-Error.ensures.step c.silent-in-Error.ensures.output
    (reach new p behind (compound1 "call" t) s.database (step.Raises c.in-Error.error) (call_row p t []) refl
    ((rw c.in-Error.is at c.in-Err.ensures.fault) p t s.reads ∙ ap (λ (w : Contents). Raises (error_tree m.atoms w.heap.terms c.in-Error.error)) (sym c.in-Err.ensures.world)))

-- ---- what it goes on with

pub returns-in-Ok-clause-goes : goal.returns-in-Ok-clause-goes
returns-in-Ok-clause-goes c = subst (CanGo (record c.args.m.now { world = c.call.new.world })) (sym c.silent.ensures.step) c.in-Ok.ensures.there

pub returns-in-Error-clause-goes : goal.returns-in-Error-clause-goes
returns-in-Error-clause-goes c =
    let m = c.args.m.now in
    subst (CanGo (record m { world = c.call.new.world })) (sym c.silent-in-Error.ensures.step)
    (subst (λ (w : Contents). HasCulprit m.atoms w.heap.terms c.in-Error.error) (sym c.in-Err.ensures.world) (rw c.in-Error.is at c.in-Err.ensures.culprit))

pub returns-in-Ok-clause-raises : goal.returns-in-Ok-clause-raises
returns-in-Ok-clause-raises c =
    let m = c.args.m.now in
    subst (λ (s : Step). OnRaises s (StillStands m (record m { world = c.call.new.world }))) (sym c.silent.ensures.step) tt

pub returns-in-Error-clause-raises : goal.returns-in-Error-clause-raises
returns-in-Error-clause-raises c =
    let m = c.args.m.now in
    let new = record m { world = c.call.new.world } in
    subst (λ (s : Step). OnRaises s (StillStands m new)) (sym c.silent-in-Error.ensures.step)
    (stands_still m new (record { atoms = refl; names = refl; ops = refl; clauses = refl; budget = ap (λ (w : Contents). w.pivots) c.in-Err.ensures.world }) refl c.in-Err.ensures.saved
    (same_grown m.atoms (now m).0 (now new).0 (now m).1 (now new).1 c.in-Err.ensures.world c.in-Err.ensures.keeps))

pub returns-in-NoMemory-clause-err : goal.returns-in-NoMemory-clause-err
returns-in-NoMemory-clause-err c =
    let m = c.args.m.now in
    let new = record m { world = c.call.new.world } in
    stands_still m new (record { atoms = refl; names = refl; ops = refl; clauses = refl; budget = ap (λ (w : Contents). w.pivots) c.in-Err.ensures.world }) refl c.in-Err.ensures.saved
    (same_grown m.atoms (now m).0 (now new).0 (now m).1 (now new).1 c.in-Err.ensures.world c.in-Err.ensures.keeps)

pub returns-in-Ok-clause-sound : goal.returns-in-Ok-clause-sound
returns-in-Ok-clause-sound c =
    let m = c.args.m.now in
    sound_still m _ c.requires.sound (record { atoms = refl; names = refl; ops = refl; clauses = refl; budget = ap (λ (w : Contents). w.pivots) c.in-Ok.ensures.world })
    (names_same m.atoms (now m).0 _ c.requires.sound.names c.in-Ok.ensures.world)
    (marked_still (saved m) _ m.choices c.in-Ok.ensures.saved c.requires.sound.marked) (open_still m.atoms m.clauses (saved m) _ m.choices c.in-Ok.ensures.saved c.requires.sound.untried)

pub returns-in-Ok-clause-program : goal.returns-in-Ok-clause-program
returns-in-Ok-clause-program c =
    let m = c.args.m.now in
    record { atoms = prefix_same m.atoms m.atoms refl; names = refl; clauses = refl; budget = ap (λ (w : Contents). w.pivots) c.in-Ok.ensures.world }

pub returns-in-Error-clause-sound : goal.returns-in-Error-clause-sound
returns-in-Error-clause-sound c =
    let m = c.args.m.now in
    sound_still m _ c.requires.sound (record { atoms = refl; names = refl; ops = refl; clauses = refl; budget = ap (λ (w : Contents). w.pivots) c.in-Err.ensures.world })
    (names_same m.atoms (now m).0 _ c.requires.sound.names c.in-Err.ensures.world)
    (marked_still (saved m) _ m.choices c.in-Err.ensures.saved c.requires.sound.marked) (open_still m.atoms m.clauses (saved m) _ m.choices c.in-Err.ensures.saved c.requires.sound.untried)

pub returns-in-Error-clause-program : goal.returns-in-Error-clause-program
returns-in-Error-clause-program c =
    let m = c.args.m.now in
    record { atoms = prefix_same m.atoms m.atoms refl; names = refl; clauses = refl; budget = ap (λ (w : Contents). w.pivots) c.in-Err.ensures.world }

pub returns-in-NoMemory-clause-sound : goal.returns-in-NoMemory-clause-sound
returns-in-NoMemory-clause-sound c =
    let m = c.args.m.now in
    sound_still m _ c.requires.sound (record { atoms = refl; names = refl; ops = refl; clauses = refl; budget = ap (λ (w : Contents). w.pivots) c.in-Err.ensures.world })
    (names_same m.atoms (now m).0 _ c.requires.sound.names c.in-Err.ensures.world)
    (marked_still (saved m) _ m.choices c.in-Err.ensures.saved c.requires.sound.marked) (open_still m.atoms m.clauses (saved m) _ m.choices c.in-Err.ensures.saved c.requires.sound.untried)

pub returns-in-NoMemory-clause-program : goal.returns-in-NoMemory-clause-program
returns-in-NoMemory-clause-program c =
    let m = c.args.m.now in
    record { atoms = prefix_same m.atoms m.atoms refl; names = refl; clauses = refl; budget = ap (λ (w : Contents). w.pivots) c.in-Err.ensures.world }
