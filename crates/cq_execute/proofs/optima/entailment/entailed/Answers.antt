use Rattle.std.proofs.Common.{◌≡◌, ℕ, List, [], None, Some, sym, ap, ◌∙◌, subst}
use Rattle.spec_branch.specs.Branch.{no_work}
use Rattle.spec_builtins.specs.Terms as builtins
use Rattle.spec_search.specs.Replies.{IfEntailed, child, makes, onward}
use Rattle.spec_search.specs.Rows.{nth}
use Rattle.spec_search.specs.Steps.{Steps, ball_of}
use Rattle.spec_syntax.specs.Trees.{Tree}
use Rattle.spec_branch.specs.Checks.{question_error, members}
use Rattle.cq_built.specs.Errors.{error_tree}
use Rattle.cq_built.specs.declared.errors.BuiltinError.{BuiltinError}
use Rattle.cq_built.specs.declared.errors.BuiltinError.TheVariants as error
use Rattle.cq_built.specs.declared.errors.Culprit.TheVariants as culprit
use Rattle.cq_built.specs.declared.errors.ValidType.TheVariants as type
use Rattle.cq_term.specs.Trees.{tree, trees}
use Rattle.cq_machine.specs.Machines.{terms, now, holds}
use Rattle.cq_machine.proofs.Kept.{argument_is}
use Rattle.cq_execute.proofs.OptimaAsked.{steps_on, entailed_then, broken_then, waiting_then, members_stop, refused}
use Rattle.cq_execute.proofs.Kept.{unchanged_leads, unchanged_ball}
use Rattle.cq_execute.proofs.optima.entailment.entailed.Goals as goal

pub returns-in-Entailed-clause-row : goal.returns-in-Entailed-clause-row
returns-in-Entailed-clause-row c = λ height p behind g s e.
    let m = c.args.m.now in
    let a : Tree = nth (builtins.arguments g) 0 in
    let b = s.selected.place.continuation.state in
    let r = argument_is m.atoms (now m).0 p.state c.args.goal 0 c.arg-constraint.result g s.reads c.arg-constraint.ensures.live c.arg-constraint.ensures.arg in
    let lawful : question_error a ≡ None = ap question_error (sym r) ∙ c.in-Ok.ensures.lawful in
    let ms : List Tree = trees m.atoms (terms m) c.deref.result.now in
    let same : ms ≡ members a = ap (λ (ids : List ℕ). trees m.atoms (terms m) ids) c.deref.ensures.value ∙ c.in-Ok.ensures.members ∙ ap members r in
    let mid = c.ask_members.new.m in
    steps_on mid (Some c.args.rest) p behind g (onward p)
    (unchanged_leads m mid (Some c.args.rest) p behind (makes p (onward p)) c.ask_members.ensures.unchanged
    (c.goals_succeed_or_fail.ensures.on m.atoms (holds m) (now m) height c.args.rest p behind s.selected))
    (entailed_then m.atoms (now m).0 p b g a e lawful ms same (rw c.in-Entailed.is at c.in-Ok-ask_members.ensures.answer))

pub returns-in-Broken-clause-row : goal.returns-in-Broken-clause-row
returns-in-Broken-clause-row c = λ height p behind g s e.
    let m = c.args.m.now in
    let a : Tree = nth (builtins.arguments g) 0 in
    let b = s.selected.place.continuation.state in
    let r = argument_is m.atoms (now m).0 p.state c.args.goal 0 c.arg-constraint.result g s.reads c.arg-constraint.ensures.live c.arg-constraint.ensures.arg in
    let lawful : question_error a ≡ None = ap question_error (sym r) ∙ c.in-Ok.ensures.lawful in
    let ms : List Tree = trees m.atoms (terms m) c.deref.result.now in
    let same : ms ≡ members a = ap (λ (ids : List ℕ). trees m.atoms (terms m) ids) c.deref.ensures.value ∙ c.in-Ok.ensures.members ∙ ap members r in
    let mid = c.ask_members.new.m in
    steps_on mid None p behind g []
    (unchanged_leads m mid None p behind (makes p []) c.ask_members.ensures.unchanged
    (c.goals_succeed_or_fail.ensures.back m.atoms (holds m) (now m) height c.args.rest p behind s.selected))
    (broken_then m.atoms (now m).0 p b g a e lawful ms same (rw c.in-Broken.is at c.in-Ok-ask_members.ensures.answer))

pub returns-in-Ok-ask_members-clause-row : goal.returns-in-Ok-ask_members-clause-row
returns-in-Ok-ask_members-clause-row c = λ height p behind g s e.
    let m = c.args.m.now in
    let a : Tree = nth (builtins.arguments g) 0 in
    let b = s.selected.place.continuation.state in
    let r = argument_is m.atoms (now m).0 p.state c.args.goal 0 c.arg-constraint.result g s.reads c.arg-constraint.ensures.live c.arg-constraint.ensures.arg in
    let lawful : question_error a ≡ None = ap question_error (sym r) ∙ c.in-Ok.ensures.lawful in
    let ms : List Tree = trees m.atoms (terms m) c.deref.result.now in
    let same : ms ≡ members a = ap (λ (ids : List ℕ). trees m.atoms (terms m) ids) c.deref.ensures.value ∙ c.in-Ok.ensures.members ∙ ap members r in
    let mid = c.ask_members.new.m in
    let id = c.in-Waits.member in
    subst (λ (x : BuiltinError). Steps p g (ball_of g (error_tree mid.atoms (terms mid) x))) (sym c.not_linear.ensures)
    (unchanged_ball m mid p g (error.Type type.Linear (culprit.Term id)) c.ask_members.ensures.unchanged
    (waiting_then m.atoms (now m).0 p b g a e lawful ms same (tree m.atoms (terms m) id)
    (λ fixed f. (let w = (rw c.in-Waits.is at c.in-Ok-ask_members.ensures.answer) fixed f in w.1))))

pub returns-in-Ok-clause-stop : goal.returns-in-Ok-clause-stop
returns-in-Ok-clause-stop c = λ height p behind g s e.
    let m = c.args.m.now in
    let a : Tree = nth (builtins.arguments g) 0 in
    let b = s.selected.place.continuation.state in
    let r = argument_is m.atoms (now m).0 p.state c.args.goal 0 c.arg-constraint.result g s.reads c.arg-constraint.ensures.live c.arg-constraint.ensures.arg in
    let lawful : question_error a ≡ None = ap question_error (sym r) ∙ c.in-Ok.ensures.lawful in
    let ms : List Tree = trees m.atoms (terms m) c.deref.result.now in
    let same : ms ≡ members a = ap (λ (ids : List ℕ). trees m.atoms (terms m) ids) c.deref.ensures.value ∙ c.in-Ok.ensures.members ∙ ap members r in
    members_stop m.atoms (now m).0 p b g a e lawful ms same m.world.first.store.pivots c.in-Err-ask_members.fault c.in-Err-ask_members.ensures.stop

pub returns-in-Error-clause-row : goal.returns-in-Error-clause-row
returns-in-Error-clause-row c = λ height p behind g s e.
    let m = c.args.m.now in
    let a : Tree = nth (builtins.arguments g) 0 in
    let b = s.selected.place.continuation.state in
    let r = argument_is m.atoms (now m).0 p.state c.args.goal 0 c.arg-constraint.result g s.reads c.arg-constraint.ensures.live c.arg-constraint.ensures.arg in
    refused p g (question_error a) (IfEntailed (members a) (child p.rest p.state no_work)) e (error_tree m.atoms (terms m) c.in-Error.error)
    (ap question_error (sym r) ∙ (rw c.in-Error.is at c.in-Err.ensures.fault))
