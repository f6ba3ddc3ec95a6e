use Rattle.std.proofs.Common.{◌≡◌, List, None, true, false, sym, ap, ◌∙◌, subst}
use Rattle.spec_numbers.specs.Texts.{Text}
use Rattle.spec_syntax.specs.Trees.{Tree}
use Rattle.spec_search.specs.Changes.{retract_row}
use Rattle.spec_search.specs.Replies.{Reply}
use Rattle.spec_search.specs.Rows.{nth}
use Rattle.spec_builtins.specs.Terms as builtins
use Rattle.cq_built.specs.Errors.{error_tree}
use Rattle.cq_goals.specs.Clauses.{IsOf}
use Rattle.cq_catch.specs.Asking.{answers}
use Rattle.cq_branch.specs.Worlds.{Leads}
use Rattle.cq_term.specs.Trees.{tree}
use Rattle.cq_write.specs.Meaning.{operators}
use Rattle.cq_machine.specs.Machines.{terms, now, holds, database_of}
use Rattle.cq_machine.proofs.Built.{selected_on, stands_then}
use Rattle.cq_machine.proofs.Kept.{argument_is}
use Rattle.cq_catch.specs.Revised.{head_body_of}
use Rattle.cq_execute.proofs.ChangesAsked.{retract_asks, retract_raises}
use Rattle.cq_execute.proofs.changes.asking.retract.Goals as goal

pub returns-in_ok-ask_for-in-Ok-clause-row : goal.returns-in_ok-ask_for-in-Ok-clause-row
returns-in_ok-ask_for-in-Ok-clause-row c = λ height p behind g s.
    let m = c.args.m.now in
    let mid = c.rule_of.new.m in
    let new = c.ask_for.new.m in
    let t : Tree = tree m.atoms (terms m) c.arg-clause.result in
    let a = argument_is m.atoms (now m).0 p.state c.args.goal 0 c.arg-clause.result g s.reads c.arg-clause.ensures.live c.arg-clause.ensures.arg in
    let h = head_body_of m.atoms (terms m) c.in-Ok.checked.parts in
    let q = selected_on m mid c.args.goal height c.args.rest p behind g c.rule_of.ensures.more s in
    let row : answers p true h ≡ retract_row p (nth (builtins.arguments g) 0) =
    retract_asks p (database_of m) s.database t h (c.in-Ok.ensures.lawful (operators m.atoms m.ops)) c.in-Ok.ensures.parts.are ∙ ap (retract_row p) a in
    let of = subst (λ (a : List Text). IsOf a c.in-Ok.checked.predicate h.head) (sym c.rule_of.ensures.more.program.atoms) c.in-Ok.ensures.predicate in
    subst (λ (r : Reply). Leads new.atoms (holds new) (now new) None p behind r) row
    (c.in_ok-ask_for-in-Ok.ensures.row c.args.goal height p behind g h q c.in_ok-asked-in-Ok.ensures.built of)

pub returns-in-Error-clause-row : goal.returns-in-Error-clause-row
returns-in-Error-clause-row c = λ height p behind g s.
    let m = c.args.m.now in
    let t : Tree = tree m.atoms (terms m) c.arg-clause.result in
    let a = argument_is m.atoms (now m).0 p.state c.args.goal 0 c.arg-clause.result g s.reads c.arg-clause.ensures.live c.arg-clause.ensures.arg in
    ap (retract_row p) (sym a)
    ∙ retract_raises p (database_of m) s.database t (error_tree m.atoms (terms m) c.in-Error.error) ((rw c.in-Error.is at c.in-Err.ensures.fault) (operators m.atoms m.ops))
