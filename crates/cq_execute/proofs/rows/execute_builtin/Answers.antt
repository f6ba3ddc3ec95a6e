use Rattle.std.proofs.Common.{refl}
use Rattle.std.specs.Prelude.{Ok}
use Rattle.spec_search.specs.Builtins.{Least, Greatest, Fail, IfThen, Not, Once, Catch, Throw, Findall, NotUnify, Assert, Retract, ClauseGoal, DynamicGoal, Discontiguous, Initialization, UseModule, Curly, Entailed, Freeze, Extent, Optimum}
use Rattle.spec_search.specs.Database.{First, Last}
use Rattle.cq_term.specs.Texts.{text_of}
use Rattle.cq_store.specs.declared.store.StoreFault.{StoreFault}
use Rattle.cq_term.specs.Meaning.{at}
use Rattle.cq_machine.specs.Machines.{terms}
use Rattle.cq_execute.proofs.Table.{so_many}
use Rattle.cq_execute.proofs.Done.{quiet_done, row_done, stop_done, none_raised, rows_at, same_machine, somewhere, still_raised, still_stands, freeze_none, freeze_throws}
use Rattle.cq_execute.proofs.Changed.{change_done}
use Rattle.cq_execute.proofs.Asked.{ask_done}
use Rattle.cq_execute.proofs.rows.execute_builtin.Goals as goal

pub execute_common-requires-clause-calls : goal.execute_common-requires-clause-calls
execute_common-requires-clause-calls c = rw c.in-Common.is at c.requires.calls

pub returns-in-Common : goal.returns-in-Common
returns-in-Common c =
    quiet_done c.args.m.now c.execute_common.new.m c.args.goal c.args.height c.args.rest c.execute_common.result c.quiet_or_stop.result c.execute_common.ensures.done
    c.quiet_or_stop.ensures

pub if_then-requires-clause-two : goal.if_then-requires-clause-two
if_then-requires-clause-two c =
    so_many (text_of c.args.m.now.atoms) (at (terms c.args.m.now) c.args.goal) IfThen 2 (rw c.in-IfThen.is at c.requires.calls) (λ n. refl)

pub returns-in-IfThen : goal.returns-in-IfThen
returns-in-IfThen c =
    let m = c.args.m.now in
    let new = c.if_then.new.m in
    let r = c.if_then.result in
    let calls = rw c.in-IfThen.is at c.requires.calls in
    quiet_done m new c.args.goal c.args.height c.args.rest _ c.quiet-in-IfThen.result
    (row_done m new c.args.goal c.args.height c.args.rest IfThen calls r c.if_then.ensures.row c.if_then.ensures.goes
    (none_raised m new c.args.goal c.args.height c.args.rest IfThen calls c.requires.at.selected (λ p g e h. cc) (λ p g t h. cc) r c.if_then.ensures.row)
    c.if_then.ensures.sound c.if_then.ensures.program c.if_then.ensures.err)
    c.quiet-in-IfThen.ensures

pub negation-requires-clause-one : goal.negation-requires-clause-one
negation-requires-clause-one c =
    so_many (text_of c.args.m.now.atoms) (at (terms c.args.m.now) c.args.goal) Not 1 (rw c.in-Not.is at c.requires.calls) (λ n. refl)

pub returns-in-Not : goal.returns-in-Not
returns-in-Not c =
    let m = c.args.m.now in
    let new = c.negation.new.m in
    let r = c.negation.result in
    let calls = rw c.in-Not.is at c.requires.calls in
    quiet_done m new c.args.goal c.args.height c.args.rest _ c.quiet-in-Not.result
    (row_done m new c.args.goal c.args.height c.args.rest Not calls r c.negation.ensures.row c.negation.ensures.goes
    (none_raised m new c.args.goal c.args.height c.args.rest Not calls c.requires.at.selected (λ p g e h. cc) (λ p g t h. cc) r c.negation.ensures.row)
    c.negation.ensures.sound c.negation.ensures.program c.negation.ensures.err)
    c.quiet-in-Not.ensures

pub once-requires-clause-one : goal.once-requires-clause-one
once-requires-clause-one c =
    so_many (text_of c.args.m.now.atoms) (at (terms c.args.m.now) c.args.goal) Once 1 (rw c.in-Once.is at c.requires.calls) (λ n. refl)

pub returns-in-Once : goal.returns-in-Once
returns-in-Once c =
    let m = c.args.m.now in
    let new = c.once.new.m in
    let r = c.once.result in
    let calls = rw c.in-Once.is at c.requires.calls in
    quiet_done m new c.args.goal c.args.height c.args.rest _ c.quiet-in-Once.result
    (row_done m new c.args.goal c.args.height c.args.rest Once calls r c.once.ensures.row c.once.ensures.goes
    (none_raised m new c.args.goal c.args.height c.args.rest Once calls c.requires.at.selected (λ p g e h. cc) (λ p g t h. cc) r c.once.ensures.row)
    c.once.ensures.sound c.once.ensures.program c.once.ensures.err)
    c.quiet-in-Once.ensures

pub not_unify-requires-clause-two : goal.not_unify-requires-clause-two
not_unify-requires-clause-two c =
    so_many (text_of c.args.m.now.atoms) (at (terms c.args.m.now) c.args.goal) NotUnify 2 (rw c.in-NotUnify.is at c.requires.calls) (λ n. refl)

pub returns-in-NotUnify : goal.returns-in-NotUnify
returns-in-NotUnify c =
    let m = c.args.m.now in
    let new = c.not_unify.new.m in
    let r = c.not_unify.result in
    let calls = rw c.in-NotUnify.is at c.requires.calls in
    quiet_done m new c.args.goal c.args.height c.args.rest _ c.quiet-in-NotUnify.result
    (row_done m new c.args.goal c.args.height c.args.rest NotUnify calls r c.not_unify.ensures.row c.not_unify.ensures.goes
    (none_raised m new c.args.goal c.args.height c.args.rest NotUnify calls c.requires.at.selected (λ p g e h. cc) (λ p g t h. cc) r c.not_unify.ensures.row)
    c.not_unify.ensures.sound c.not_unify.ensures.program c.not_unify.ensures.err)
    c.quiet-in-NotUnify.ensures

pub initialization-requires-clause-one : goal.initialization-requires-clause-one
initialization-requires-clause-one c =
    so_many (text_of c.args.m.now.atoms) (at (terms c.args.m.now) c.args.goal) Initialization 1 (rw c.in-Initialization.is at c.requires.calls) (λ n. refl)

pub returns-in-Initialization : goal.returns-in-Initialization
returns-in-Initialization c =
    let m = c.args.m.now in
    let new = c.initialization.new.m in
    let r = c.initialization.result in
    let calls = rw c.in-Initialization.is at c.requires.calls in
    quiet_done m new c.args.goal c.args.height c.args.rest _ c.quiet-in-Initialization.result
    (row_done m new c.args.goal c.args.height c.args.rest Initialization calls r c.initialization.ensures.row c.initialization.ensures.goes
    (none_raised m new c.args.goal c.args.height c.args.rest Initialization calls c.requires.at.selected (λ p g e h. cc) (λ p g t h. cc) r c.initialization.ensures.row)
    c.initialization.ensures.sound c.initialization.ensures.program c.initialization.ensures.err)
    c.quiet-in-Initialization.ensures

pub freeze-requires-clause-two : goal.freeze-requires-clause-two
freeze-requires-clause-two c =
    so_many (text_of c.args.m.now.atoms) (at (terms c.args.m.now) c.args.goal) Freeze 2 (rw c.in-Freeze.is at c.requires.calls) (λ n. refl)

pub freeze-requires-clause-selected : goal.freeze-requires-clause-selected
freeze-requires-clause-selected c =
    somewhere c.args.m.now c.args.goal c.args.height c.args.rest c.requires.at.selected

pub returns-in-Freeze : goal.returns-in-Freeze
returns-in-Freeze c =
    let m = c.args.m.now in
    let new = c.freeze.new.m in
    let r = c.freeze.result in
    let calls = rw c.in-Freeze.is at c.requires.calls in
    let row = rows_at m new c.args.goal c.args.height c.args.rest Freeze calls r c.freeze.ensures.row in
    quiet_done m new c.args.goal c.args.height c.args.rest _ c.quiet-in-Freeze.result
    (row_done m new c.args.goal c.args.height c.args.rest Freeze calls r row c.freeze.ensures.goes
    (none_raised m new c.args.goal c.args.height c.args.rest Freeze calls c.requires.at.selected freeze_none freeze_throws r row)
    c.freeze.ensures.sound c.freeze.ensures.program c.freeze.ensures.err)
    c.quiet-in-Freeze.ensures

pub constrain-requires-clause-one : goal.constrain-requires-clause-one
constrain-requires-clause-one c =
    so_many (text_of c.args.m.now.atoms) (at (terms c.args.m.now) c.args.goal) Curly 1 (rw c.in-Curly.is at c.requires.calls) (λ n. refl)

pub returns-in-Curly : goal.returns-in-Curly
returns-in-Curly c =
    let m = c.args.m.now in
    let new = c.constrain.new.m in
    let r = c.constrain.result in
    quiet_done m new c.args.goal c.args.height c.args.rest r c.quiet_or_stop-in-Curly.result
    (stop_done m new c.args.goal c.args.height c.args.rest Curly (rw c.in-Curly.is at c.requires.calls) r c.constrain.ensures.row c.constrain.ensures.stop c.constrain.ensures.goes
    c.constrain.ensures.raises c.constrain.ensures.sound c.constrain.ensures.program c.constrain.ensures.err)
    c.quiet_or_stop-in-Curly.ensures

pub discontiguous-requires-clause-one : goal.discontiguous-requires-clause-one
discontiguous-requires-clause-one c =
    so_many (text_of c.args.m.now.atoms) (at (terms c.args.m.now) c.args.goal) Discontiguous 1 (rw c.in-Discontiguous.is at c.requires.calls) (λ n. refl)

pub returns-in-Discontiguous : goal.returns-in-Discontiguous
returns-in-Discontiguous c =
    let m = c.args.m.now in
    let r = c.discontiguous.result in
    let calls = rw c.in-Discontiguous.is at c.requires.calls in
    quiet_done m m c.args.goal c.args.height c.args.rest _ c.quiet-in-Discontiguous.result
    (row_done m m c.args.goal c.args.height c.args.rest Discontiguous calls r (rows_at m m c.args.goal c.args.height c.args.rest Discontiguous calls r c.discontiguous.ensures.row) c.discontiguous.ensures.goes
    (still_raised m r) c.requires.at.sound (same_machine m) (still_stands m r))
    c.quiet-in-Discontiguous.ensures

pub use_module-requires-clause-one : goal.use_module-requires-clause-one
use_module-requires-clause-one c =
    so_many (text_of c.args.m.now.atoms) (at (terms c.args.m.now) c.args.goal) UseModule 1 (rw c.in-UseModule.is at c.requires.calls) (λ n. refl)

pub returns-in-UseModule : goal.returns-in-UseModule
returns-in-UseModule c =
    let m = c.args.m.now in
    let s = c.use_module.result in
    quiet_done m m c.args.goal c.args.height c.args.rest (Ok s) c.quiet-in-UseModule.result
    (stop_done m m c.args.goal c.args.height c.args.rest UseModule (rw c.in-UseModule.is at c.requires.calls) (Ok s) (λ p behind g at. c.use_module.ensures.row c.args.height p behind g at) tt
    c.use_module.ensures.goes (still_raised {E = StoreFault} m (Ok s)) c.requires.at.sound (same_machine m) tt)
    c.quiet-in-UseModule.ensures

pub returns-in-Fail : goal.returns-in-Fail
returns-in-Fail c =
    let m = c.args.m.now in
    let s = c.succeed_if.result in
    quiet_done m m c.args.goal c.args.height c.args.rest (Ok s) c.quiet.result
    (stop_done m m c.args.goal c.args.height c.args.rest Fail (rw c.in-Fail.is at c.requires.calls) (Ok s) (λ p behind g at. c.succeed_if.ensures.row m c.args.goal c.args.height p behind g at) tt
    (c.succeed_if.ensures.goes m c.requires.at.there) (still_raised {E = StoreFault} m (Ok s)) c.requires.at.sound (same_machine m) tt)
    c.quiet.ensures

pub assert-requires-clause-one : goal.assert-requires-clause-one
assert-requires-clause-one c =
    so_many (text_of c.args.m.now.atoms) (at (terms c.args.m.now) c.args.goal) (Assert First) 1 (rw c.in-Asserta.is at c.requires.calls) (λ n. refl)

pub returns-in-Asserta : goal.returns-in-Asserta
returns-in-Asserta c =
    let m = c.args.m.now in
    let new = c.assert.new.m in
    let d = c.assert.ensures in
    quiet_done m new c.args.goal c.args.height c.args.rest _ c.quiet-in-Asserta.result
    (change_done m new c.args.goal c.args.height c.args.rest (Assert First) (rw c.in-Asserta.is at c.requires.calls) c.assert.result d.row d.goes d.raises d.stands d.sound d.keeps d.err)
    c.quiet-in-Asserta.ensures

pub assert-requires-in-Assertz-clause-one : goal.assert-requires-in-Assertz-clause-one
assert-requires-in-Assertz-clause-one c =
    so_many (text_of c.args.m.now.atoms) (at (terms c.args.m.now) c.args.goal) (Assert Last) 1 (rw c.in-Assertz.is at c.requires.calls) (λ n. refl)

pub returns-in-Assertz : goal.returns-in-Assertz
returns-in-Assertz c =
    let m = c.args.m.now in
    let new = c.assert-in-Assertz.new.m in
    let d = c.assert-in-Assertz.ensures in
    quiet_done m new c.args.goal c.args.height c.args.rest _ c.quiet-in-Assertz.result
    (change_done m new c.args.goal c.args.height c.args.rest (Assert Last) (rw c.in-Assertz.is at c.requires.calls) c.assert-in-Assertz.result d.row d.goes d.raises d.stands d.sound d.keeps d.err)
    c.quiet-in-Assertz.ensures

pub declare_dynamic-requires-clause-one : goal.declare_dynamic-requires-clause-one
declare_dynamic-requires-clause-one c =
    so_many (text_of c.args.m.now.atoms) (at (terms c.args.m.now) c.args.goal) DynamicGoal 1 (rw c.in-Dynamic.is at c.requires.calls) (λ n. refl)

pub returns-in-Dynamic : goal.returns-in-Dynamic
returns-in-Dynamic c =
    let m = c.args.m.now in
    let new = c.declare_dynamic.new.m in
    let d = c.declare_dynamic.ensures in
    quiet_done m new c.args.goal c.args.height c.args.rest _ c.quiet-in-Dynamic.result
    (change_done m new c.args.goal c.args.height c.args.rest DynamicGoal (rw c.in-Dynamic.is at c.requires.calls) c.declare_dynamic.result d.row d.goes d.raises d.stands d.sound d.keeps d.err)
    c.quiet-in-Dynamic.ensures

pub entailed-requires-clause-one : goal.entailed-requires-clause-one
entailed-requires-clause-one c =
    so_many (text_of c.args.m.now.atoms) (at (terms c.args.m.now) c.args.goal) Entailed 1 (rw c.in-Entailed.is at c.requires.calls) (λ n. refl)

pub entailed-requires-clause-selected : goal.entailed-requires-clause-selected
entailed-requires-clause-selected c =
    somewhere c.args.m.now c.args.goal c.args.height c.args.rest c.requires.at.selected

pub returns-in-Entailed : goal.returns-in-Entailed
returns-in-Entailed c =
    let m = c.args.m.now in
    let new = c.entailed.new.m in
    let r = c.entailed.result in
    let d = c.entailed.ensures in
    quiet_done m new c.args.goal c.args.height c.args.rest r c.quiet_or_stop-in-Entailed.result
    (ask_done m new c.args.goal c.args.height c.args.rest Entailed (rw c.in-Entailed.is at c.requires.calls) r d.row d.stop d.goes d.raises d.sound d.program d.err)
    c.quiet_or_stop-in-Entailed.ensures

pub extent-requires-clause-two : goal.extent-requires-clause-two
extent-requires-clause-two c =
    so_many (text_of c.args.m.now.atoms) (at (terms c.args.m.now) c.args.goal) (Extent Greatest) 2 (rw c.in-Sup.is at c.requires.calls) (λ n. refl)

pub extent-requires-clause-selected : goal.extent-requires-clause-selected
extent-requires-clause-selected c =
    somewhere c.args.m.now c.args.goal c.args.height c.args.rest c.requires.at.selected

pub returns-in-Sup : goal.returns-in-Sup
returns-in-Sup c =
    let m = c.args.m.now in
    let new = c.extent.new.m in
    let r = c.extent.result in
    let d = c.extent.ensures in
    quiet_done m new c.args.goal c.args.height c.args.rest r c.quiet_or_stop-in-Sup.result
    (ask_done m new c.args.goal c.args.height c.args.rest (Extent Greatest) (rw c.in-Sup.is at c.requires.calls) r d.row d.stop d.goes d.raises d.sound d.program d.err)
    c.quiet_or_stop-in-Sup.ensures

pub extent-requires-in-Inf-clause-two : goal.extent-requires-in-Inf-clause-two
extent-requires-in-Inf-clause-two c =
    so_many (text_of c.args.m.now.atoms) (at (terms c.args.m.now) c.args.goal) (Extent Least) 2 (rw c.in-Inf.is at c.requires.calls) (λ n. refl)

pub extent-requires-in-Inf-clause-selected : goal.extent-requires-in-Inf-clause-selected
extent-requires-in-Inf-clause-selected c =
    somewhere c.args.m.now c.args.goal c.args.height c.args.rest c.requires.at.selected

pub returns-in-Inf : goal.returns-in-Inf
returns-in-Inf c =
    let m = c.args.m.now in
    let new = c.extent-in-Inf.new.m in
    let r = c.extent-in-Inf.result in
    let d = c.extent-in-Inf.ensures in
    quiet_done m new c.args.goal c.args.height c.args.rest r c.quiet_or_stop-in-Inf.result
    (ask_done m new c.args.goal c.args.height c.args.rest (Extent Least) (rw c.in-Inf.is at c.requires.calls) r d.row d.stop d.goes d.raises d.sound d.program d.err)
    c.quiet_or_stop-in-Inf.ensures

pub optimum-requires-clause-one : goal.optimum-requires-clause-one
optimum-requires-clause-one c =
    so_many (text_of c.args.m.now.atoms) (at (terms c.args.m.now) c.args.goal) (Optimum Greatest) 1 (rw c.in-Maximize.is at c.requires.calls) (λ n. refl)

pub optimum-requires-clause-selected : goal.optimum-requires-clause-selected
optimum-requires-clause-selected c =
    somewhere c.args.m.now c.args.goal c.args.height c.args.rest c.requires.at.selected

pub returns-in-Maximize : goal.returns-in-Maximize
returns-in-Maximize c =
    let m = c.args.m.now in
    let new = c.optimum.new.m in
    let r = c.optimum.result in
    let d = c.optimum.ensures in
    quiet_done m new c.args.goal c.args.height c.args.rest r c.quiet_or_stop-in-Maximize.result
    (ask_done m new c.args.goal c.args.height c.args.rest (Optimum Greatest) (rw c.in-Maximize.is at c.requires.calls) r d.row d.stop d.goes d.raises d.sound d.program d.err)
    c.quiet_or_stop-in-Maximize.ensures

pub optimum-requires-in-Minimize-clause-one : goal.optimum-requires-in-Minimize-clause-one
optimum-requires-in-Minimize-clause-one c =
    so_many (text_of c.args.m.now.atoms) (at (terms c.args.m.now) c.args.goal) (Optimum Least) 1 (rw c.in-Minimize.is at c.requires.calls) (λ n. refl)

pub optimum-requires-in-Minimize-clause-selected : goal.optimum-requires-in-Minimize-clause-selected
optimum-requires-in-Minimize-clause-selected c =
    somewhere c.args.m.now c.args.goal c.args.height c.args.rest c.requires.at.selected

pub returns-in-Minimize : goal.returns-in-Minimize
returns-in-Minimize c =
    let m = c.args.m.now in
    let new = c.optimum-in-Minimize.new.m in
    let r = c.optimum-in-Minimize.result in
    let d = c.optimum-in-Minimize.ensures in
    quiet_done m new c.args.goal c.args.height c.args.rest r c.quiet_or_stop-in-Minimize.result
    (ask_done m new c.args.goal c.args.height c.args.rest (Optimum Least) (rw c.in-Minimize.is at c.requires.calls) r d.row d.stop d.goes d.raises d.sound d.program d.err)
    c.quiet_or_stop-in-Minimize.ensures

pub call-requires-clause-calls : goal.call-requires-clause-calls
call-requires-clause-calls c =
    rw c.in-Call.is at c.requires.calls

pub offered-requires-clause-calls : goal.offered-requires-clause-calls
offered-requires-clause-calls c =
    rw c.in-Predicate.is at c.requires.calls

pub declare-requires-clause-calls : goal.declare-requires-clause-calls
declare-requires-clause-calls c =
    rw c.in-Op.is at c.requires.calls

pub write-requires-clause-calls : goal.write-requires-clause-calls
write-requires-clause-calls c =
    rw c.in-Write.is at c.requires.calls

pub newline-requires-clause-calls : goal.newline-requires-clause-calls
newline-requires-clause-calls c =
    rw c.in-Newline.is at c.requires.calls

-- ---- balls, findall and clauses that are asked for

pub catch-requires-clause-three : goal.catch-requires-clause-three
catch-requires-clause-three c =
    so_many (text_of c.args.m.now.atoms) (at (terms c.args.m.now) c.args.goal) Catch 3 (rw c.in-Catch.is at c.requires.calls) (λ n. refl)

pub returns-in-Catch : goal.returns-in-Catch
returns-in-Catch c =
    let m = c.args.m.now in
    let new = c.catch.new.m in
    let r = c.catch.result in
    let calls = rw c.in-Catch.is at c.requires.calls in
    quiet_done m new c.args.goal c.args.height c.args.rest _ c.quiet-in-Catch.result
    (row_done m new c.args.goal c.args.height c.args.rest Catch calls r c.catch.ensures.row c.catch.ensures.goes
    (none_raised m new c.args.goal c.args.height c.args.rest Catch calls c.requires.at.selected (λ p g e h. cc) (λ p g t h. cc) r c.catch.ensures.row)
    c.catch.ensures.sound c.catch.ensures.program c.catch.ensures.err)
    c.quiet-in-Catch.ensures

pub throw-requires-clause-one : goal.throw-requires-clause-one
throw-requires-clause-one c =
    so_many (text_of c.args.m.now.atoms) (at (terms c.args.m.now) c.args.goal) Throw 1 (rw c.in-Throw.is at c.requires.calls) (λ n. refl)

pub returns-in-Throw : goal.returns-in-Throw
returns-in-Throw c =
    let m = c.args.m.now in
    let s = c.throw.result in
    quiet_done m m c.args.goal c.args.height c.args.rest (Ok s) c.quiet-in-Throw.result
    (stop_done m m c.args.goal c.args.height c.args.rest Throw (rw c.in-Throw.is at c.requires.calls) (Ok s) (λ p behind g at. c.throw.ensures.row c.args.height c.args.rest p behind g at) tt
    c.throw.ensures.goes (still_raised {E = StoreFault} m (Ok s)) c.requires.at.sound (same_machine m) tt)
    c.quiet-in-Throw.ensures

pub findall-requires-clause-three : goal.findall-requires-clause-three
findall-requires-clause-three c =
    so_many (text_of c.args.m.now.atoms) (at (terms c.args.m.now) c.args.goal) Findall 3 (rw c.in-Findall.is at c.requires.calls) (λ n. refl)

pub returns-in-Findall : goal.returns-in-Findall
returns-in-Findall c =
    let m = c.args.m.now in
    let new = c.findall.new.m in
    let r = c.findall.result in
    let calls = rw c.in-Findall.is at c.requires.calls in
    quiet_done m new c.args.goal c.args.height c.args.rest _ c.quiet-in-Findall.result
    (row_done m new c.args.goal c.args.height c.args.rest Findall calls r c.findall.ensures.row c.findall.ensures.goes c.findall.ensures.raises
    c.findall.ensures.sound c.findall.ensures.program c.findall.ensures.err)
    c.quiet-in-Findall.ensures

pub retract-requires-clause-one : goal.retract-requires-clause-one
retract-requires-clause-one c =
    so_many (text_of c.args.m.now.atoms) (at (terms c.args.m.now) c.args.goal) Retract 1 (rw c.in-Retract.is at c.requires.calls) (λ n. refl)

pub returns-in-Retract : goal.returns-in-Retract
returns-in-Retract c =
    let m = c.args.m.now in
    let new = c.retract.new.m in
    let r = c.retract.result in
    let calls = rw c.in-Retract.is at c.requires.calls in
    quiet_done m new c.args.goal c.args.height c.args.rest _ c.quiet-in-Retract.result
    (row_done m new c.args.goal c.args.height c.args.rest Retract calls r (rows_at m new c.args.goal c.args.height c.args.rest Retract calls r c.retract.ensures.row)
    c.retract.ensures.goes c.retract.ensures.raises c.retract.ensures.sound c.retract.ensures.program c.retract.ensures.err)
    c.quiet-in-Retract.ensures

pub clause-requires-clause-two : goal.clause-requires-clause-two
clause-requires-clause-two c =
    so_many (text_of c.args.m.now.atoms) (at (terms c.args.m.now) c.args.goal) ClauseGoal 2 (rw c.in-Clause.is at c.requires.calls) (λ n. refl)

pub returns-in-Clause : goal.returns-in-Clause
returns-in-Clause c =
    let m = c.args.m.now in
    let new = c.clause.new.m in
    let r = c.clause.result in
    let calls = rw c.in-Clause.is at c.requires.calls in
    quiet_done m new c.args.goal c.args.height c.args.rest _ c.quiet-in-Clause.result
    (row_done m new c.args.goal c.args.height c.args.rest ClauseGoal calls r (rows_at m new c.args.goal c.args.height c.args.rest ClauseGoal calls r c.clause.ensures.row)
    c.clause.ensures.goes c.clause.ensures.raises c.clause.ensures.sound c.clause.ensures.program c.clause.ensures.err)
    c.quiet-in-Clause.ensures
