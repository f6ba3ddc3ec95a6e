use Rattle.std.proofs.Common.{sym, ap, ◌∙◌}
use Rattle.spec_syntax.specs.Trees.{Tree}
use Rattle.spec_search.specs.Changes.{assert_row}
use Rattle.cq_built.specs.Errors.{error_tree}
use Rattle.cq_resolve.specs.Database.{as_end}
use Rattle.cq_term.specs.Trees.{tree}
use Rattle.cq_write.specs.Meaning.{operators}
use Rattle.cq_machine.specs.Machines.{terms, now, database_of}
use Rattle.cq_machine.proofs.Kept.{argument_is}
use Rattle.cq_catch.specs.Revised.{head_body_of}
use Rattle.cq_execute.proofs.Behind.{goes_on_behind}
use Rattle.cq_execute.proofs.Stored.{all_kept}
use Rattle.cq_execute.proofs.ChangesChanged.{assert_adds, assert_raises}
use Rattle.cq_execute.proofs.changes.asserting.assert.Goals as goal

pub returns-in_ok-add_checked-in-Ok-clause-row : goal.returns-in_ok-add_checked-in-Ok-clause-row
returns-in_ok-add_checked-in-Ok-clause-row c = λ height p behind g s.
    let m = c.args.m.now in
    let new = c.add_checked.new.m in
    let t : Tree = tree m.atoms (terms m) c.arg-clause.result in
    let e = as_end c.args.end in
    let a = argument_is m.atoms (now m).0 p.state c.args.goal 0 c.arg-clause.result g s.reads c.arg-clause.ensures.live c.arg-clause.ensures.arg in
    record {
      row = ap (assert_row p e) (sym a)
          ∙ assert_adds p (database_of m) s.database t e (head_body_of m.atoms (terms m) c.in-Ok.checked.parts) (database_of new)
          (c.in-Ok.ensures.lawful (operators m.atoms m.ops)) c.in-Ok.ensures.parts.are c.in_ok-add_checked-in-Ok.ensures.added;
      comes = goes_on_behind m new height c.args.rest p behind s.selected c.add_checked.ensures.stands;
    }

pub returns-in-Error-clause-row : goal.returns-in-Error-clause-row
returns-in-Error-clause-row c = λ height p behind g s.
    let m = c.args.m.now in
    let t : Tree = tree m.atoms (terms m) c.arg-clause.result in
    let e = as_end c.args.end in
    let a = argument_is m.atoms (now m).0 p.state c.args.goal 0 c.arg-clause.result g s.reads c.arg-clause.ensures.live c.arg-clause.ensures.arg in
    ap (assert_row p e) (sym a)
    ∙ assert_raises p (database_of m) s.database t e (error_tree m.atoms (terms m) c.in-Error.error) ((rw c.in-Error.is at c.in-Err.ensures.fault) (operators m.atoms m.ops))

pub returns-in-Error-clause-keeps : goal.returns-in-Error-clause-keeps
returns-in-Error-clause-keeps c = all_kept c.args.m.now

pub returns-in-NoMemory-clause-keeps : goal.returns-in-NoMemory-clause-keeps
returns-in-NoMemory-clause-keeps c = all_kept c.args.m.now
