use Rattle.std.proofs.Common.{◌≡◌, List, None, true, false, sym, ap, ap₂, ◌∙◌, subst}
use Rattle.spec_numbers.specs.Texts.{Text}
use Rattle.spec_syntax.specs.Trees.{Tree}
use Rattle.spec_search.specs.Changes.{clause_row}
use Rattle.spec_search.specs.Replies.{Reply}
use Rattle.spec_search.specs.Rows.{nth}
use Rattle.spec_builtins.specs.Terms as builtins
use Rattle.cq_built.specs.Errors.{error_tree}
use Rattle.cq_goals.specs.Clauses.{IsOf}
use Rattle.cq_catch.specs.Asking.{answers}
use Rattle.cq_branch.specs.Worlds.{Leads}
use Rattle.cq_term.specs.Trees.{tree}
use Rattle.cq_write.specs.Meaning.{operators}
use Rattle.cq_machine.specs.Machines.{terms, now, holds, database_of}
use Rattle.cq_machine.proofs.Built.{selected_on}
use Rattle.cq_machine.proofs.Kept.{argument_is}
use Rattle.cq_execute.proofs.ChangesAsked.{clause_asks, clause_raises}
use Rattle.cq_execute.proofs.changes.asking.clause.Goals as goal

pub returns-in_ok-ask_for-in-Ok-clause-row : goal.returns-in_ok-ask_for-in-Ok-clause-row
returns-in_ok-ask_for-in-Ok-clause-row c = λ height p behind g s.
    let m = c.args.m.now in
    let mid = c.rule_of.new.m in
    let new = c.ask_for.new.m in
    let h : Tree = tree m.atoms (terms m) c.arg-head.result in
    let b : Tree = tree m.atoms (terms m) c.arg-body.result in
    let q = selected_on m mid c.args.goal height c.args.rest p behind g c.rule_of.ensures.more s in
    let row : answers p false (record { head = h; body = b }) ≡ clause_row p (nth (builtins.arguments g) 0) (nth (builtins.arguments g) 1) =
    clause_asks p (database_of m) s.database h b (c.in-Ok.ensures.lawful (operators m.atoms m.ops))
    ∙ ap₂ (clause_row p)
    (argument_is m.atoms (now m).0 p.state c.args.goal 0 c.arg-head.result g s.reads c.arg-head.ensures.live c.arg-head.ensures.arg)
    (argument_is m.atoms (now m).0 p.state c.args.goal 1 c.arg-body.result g s.reads c.arg-body.ensures.live c.arg-body.ensures.arg) in
    let of = subst (λ (a : List Text). IsOf a c.in-Ok.predicate h) (sym c.rule_of.ensures.more.program.atoms) c.in-Ok.ensures.predicate in
    subst (λ (r : Reply). Leads new.atoms (holds new) (now new) None p behind r) row
    (c.in_ok-ask_for-in-Ok.ensures.row c.args.goal height p behind g (record { head = h; body = b }) q c.in_ok-asked-in-Ok.ensures.built of)

pub returns-in-Err-clause-row : goal.returns-in-Err-clause-row
returns-in-Err-clause-row c = λ height p behind g s.
    let m = c.args.m.now in
    let h : Tree = tree m.atoms (terms m) c.arg-head.result in
    let b : Tree = tree m.atoms (terms m) c.arg-body.result in
    ap₂ (clause_row p)
    (sym (argument_is m.atoms (now m).0 p.state c.args.goal 0 c.arg-head.result g s.reads c.arg-head.ensures.live c.arg-head.ensures.arg))
    (sym (argument_is m.atoms (now m).0 p.state c.args.goal 1 c.arg-body.result g s.reads c.arg-body.ensures.live c.arg-body.ensures.arg))
    ∙ clause_raises p (database_of m) s.database h b (error_tree m.atoms (terms m) c.in-Err.error) (c.in-Err.ensures.error (operators m.atoms m.ops))
