use Rattle.std.proofs.Common.{◌≡◌, [], drop, Some, refl, sym, ap, subst, ◌∙◌}
use Rattle.spec_syntax.specs.Trees.{Tree}
use Rattle.spec_builtins.specs.Terms as builtins
use Rattle.spec_search.specs.Control.{with_more, call_row}
use Rattle.spec_search.specs.Replies.{Reply, Raises}
use Rattle.spec_search.specs.Rows.{nth}
use Rattle.cq_attr.proofs.Elements.{on_err}
use Rattle.cq_built.specs.Errors.{error_tree, HasCulprit, CanBeRaised}
use Rattle.cq_built.specs.declared.errors.BuiltinFault.{BuiltinFault}
use Rattle.cq_settle.specs.Contents.{Contents}
use Rattle.cq_branch.specs.Calls.{IsRaised}
use Rattle.cq_branch.specs.Worlds.{value, saved_values, Leads}
use Rattle.cq_branch.proofs.Done.{length-stack}
use Rattle.cq_machine.specs.Machines.{terms, now, saved, holds}
use Rattle.cq_machine.proofs.Built.{selected_on, stands_still, stands_then}
use Rattle.cq_machine.proofs.Kept.{leads_over}
use Rattle.cq_machine.proofs.More.{call_again}
use Rattle.cq_machine.proofs.Whole.{whole_is}
use Rattle.cq_calls.proofs.Waiting.{same_grown}
use Rattle.cq_machine.proofs.Reached.{names_same, sound_still, marked_still, open_still}
use Rattle.cq_machine.proofs.selected.calls.call_with_more.Goals as goal

pub returns-in_err-whole-clause-err : goal.returns-in_err-whole-clause-err
returns-in_err-whole-clause-err c = on_err c.from_residual.result c.extended.ensures.stands

pub returns-in-Ok-clause-row : goal.returns-in-Ok-clause-row
returns-in-Ok-clause-row c = λ height p behind g s.
    let m = c.args.m.now in
    let mid = c.extended.new.m in
    let new = value c.call.new.world.first c.call.new.world.second.now in
    let t : Tree = nth (builtins.arguments g) 0 in
    let ts = drop 1 (builtins.arguments g) in
    let q = selected_on m mid c.args.goal height c.args.rest p behind g c.extended.ensures.more s in
    let reads = whole_is m mid c.args.goal c.arg-called.result c.in_ok-whole.whole p g c.extended.ensures.more s.reads c.arg-called.ensures.live c.arg-called.ensures.arg
    c.in_ok-whole.ensures.live c.in_ok-whole.ensures.built in
    leads_over mid.atoms mid.clauses (saved mid) (saved_values c.call.new.world.first c.call.new.world.second.saved) mid.choices new (Some c.in-Ok.k) p behind (call_row p t ts) c.in-Ok.ensures.saved
    (subst (λ (r : Reply). Leads mid.atoms (holds mid) new (Some c.in-Ok.k) p behind r) (call_again p t ts)
    (c.in-Ok.ensures.row (holds mid) p behind (with_more t ts) (length-stack mid.atoms mid.clauses (saved mid) mid.choices c.extended.ensures.sound.marked)
    (q.selected.place, q.selected.waiting) reads))

pub returns-in-Err-Error-clause-row : goal.returns-in-Err-Error-clause-row
returns-in-Err-Error-clause-row c = λ height p behind g s.
    let m = c.args.m.now in
    let mid = c.extended.new.m in
    let t : Tree = nth (builtins.arguments g) 0 in
    let ts = drop 1 (builtins.arguments g) in
    let reads = whole_is m mid c.args.goal c.arg-called.result c.in_ok-whole.whole p g c.extended.ensures.more s.reads c.arg-called.ensures.live c.arg-called.ensures.arg
    c.in_ok-whole.ensures.live c.in_ok-whole.ensures.built in
    let raised : call_row p (with_more t ts) [] ≡ Raises (error_tree mid.atoms (terms mid) c.in-Err-Error.error) =
    subst (λ (f : BuiltinFault). IsRaised mid.atoms (terms mid) f (call_row p (with_more t ts) [])) c.in-Err-Error.field-0-is (c.in-Err-Error.ensures.fault p _ reads) in
    sym (call_again p t ts) ∙ raised ∙ ap (λ (w : Contents). Raises (error_tree mid.atoms w.heap.terms c.in-Err-Error.error)) (sym c.in-Err-Error.ensures.world)

pub returns-in-Err-Error-clause-goes : goal.returns-in-Err-Error-clause-goes
returns-in-Err-Error-clause-goes c =
    let mid = c.extended.new.m in
    subst (λ (w : Contents). HasCulprit mid.atoms w.heap.terms c.in-Err-Error.error) (sym c.in-Err-Error.ensures.world)
    (subst (λ (f : BuiltinFault). CanBeRaised mid.atoms (terms mid) f) c.in-Err-Error.field-0-is c.in-Err-Error.ensures.culprit)

pub returns-in-Ok-clause-sound : goal.returns-in-Ok-clause-sound
returns-in-Ok-clause-sound c =
    let mid = c.extended.new.m in
    sound_still mid _ c.extended.ensures.sound (record { atoms = refl; names = refl; ops = refl; clauses = refl; budget = ap (λ (w : Contents). w.pivots) c.in-Ok.ensures.world })
    (names_same mid.atoms (now mid).0 _ c.extended.ensures.sound.names c.in-Ok.ensures.world)
    (marked_still (saved mid) _ mid.choices c.in-Ok.ensures.saved c.extended.ensures.sound.marked) (open_still mid.atoms mid.clauses (saved mid) _ mid.choices c.in-Ok.ensures.saved c.extended.ensures.sound.untried)

pub returns-in-Err-Error-clause-sound : goal.returns-in-Err-Error-clause-sound
returns-in-Err-Error-clause-sound c =
    let mid = c.extended.new.m in
    sound_still mid _ c.extended.ensures.sound (record { atoms = refl; names = refl; ops = refl; clauses = refl; budget = ap (λ (w : Contents). w.pivots) c.in-Err-Error.ensures.world })
    (names_same mid.atoms (now mid).0 _ c.extended.ensures.sound.names c.in-Err-Error.ensures.world)
    (marked_still (saved mid) _ mid.choices c.in-Err-Error.ensures.saved c.extended.ensures.sound.marked) (open_still mid.atoms mid.clauses (saved mid) _ mid.choices c.in-Err-Error.ensures.saved c.extended.ensures.sound.untried)

pub returns-in-Err-NoMemory-clause-sound : goal.returns-in-Err-NoMemory-clause-sound
returns-in-Err-NoMemory-clause-sound c =
    let mid = c.extended.new.m in
    sound_still mid _ c.extended.ensures.sound (record { atoms = refl; names = refl; ops = refl; clauses = refl; budget = ap (λ (w : Contents). w.pivots) c.in-Err-NoMemory.ensures.world })
    (names_same mid.atoms (now mid).0 _ c.extended.ensures.sound.names c.in-Err-NoMemory.ensures.world)
    (marked_still (saved mid) _ mid.choices c.in-Err-NoMemory.ensures.saved c.extended.ensures.sound.marked) (open_still mid.atoms mid.clauses (saved mid) _ mid.choices c.in-Err-NoMemory.ensures.saved c.extended.ensures.sound.untried)

pub returns-in-Err-Error-clause-raises : goal.returns-in-Err-Error-clause-raises
returns-in-Err-Error-clause-raises c =
    let m = c.args.m.now in
    let mid = c.extended.new.m in
    let new = record mid { world = c.call.new.world } in
    stands_then m mid new c.extended.ensures.stands
    (stands_still mid new (record { atoms = refl; names = refl; ops = refl; clauses = refl; budget = ap (λ (w : Contents). w.pivots) c.in-Err-Error.ensures.world }) refl
    c.in-Err-Error.ensures.saved (same_grown mid.atoms (now mid).0 (now new).0 (now mid).1 (now new).1 c.in-Err-Error.ensures.world c.in-Err-Error.ensures.keeps))

pub returns-in-Err-NoMemory-clause-err : goal.returns-in-Err-NoMemory-clause-err
returns-in-Err-NoMemory-clause-err c =
    let m = c.args.m.now in
    let mid = c.extended.new.m in
    let new = record mid { world = c.call.new.world } in
    stands_then m mid new c.extended.ensures.stands
    (stands_still mid new (record { atoms = refl; names = refl; ops = refl; clauses = refl; budget = ap (λ (w : Contents). w.pivots) c.in-Err-NoMemory.ensures.world }) refl
    c.in-Err-NoMemory.ensures.saved (same_grown mid.atoms (now mid).0 (now new).0 (now mid).1 (now new).1 c.in-Err-NoMemory.ensures.world c.in-Err-NoMemory.ensures.keeps))
