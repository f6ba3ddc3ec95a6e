use Rattle.std.proofs.Common.{◌≡◌, map, sym, ap, ◌∙◌}
use Rattle.spec_syntax.specs.Trees.{Tree}
use Rattle.spec_builtins.specs.Clauses.{declarations}
use Rattle.spec_search.specs.Changes.{dynamic_row}
use Rattle.cq_built.specs.Errors.{error_tree, indicator_of}
use Rattle.cq_term.specs.Trees.{tree}
use Rattle.cq_machine.specs.Machines.{terms, now, database_of}
use Rattle.cq_machine.proofs.Kept.{argument_is}
use Rattle.cq_execute.proofs.Behind.{goes_on_behind}
use Rattle.cq_execute.proofs.Stored.{all_kept}
use Rattle.cq_execute.proofs.ChangesChanged.{dynamic_declares, dynamic_raises}
use Rattle.cq_execute.proofs.changes.declaring.declare_dynamic.Goals as goal

pub returns-in_ok-declare_all-in-Ok-clause-row : goal.returns-in_ok-declare_all-in-Ok-clause-row
returns-in_ok-declare_all-in-Ok-clause-row c = λ height p behind g s.
    let m = c.args.m.now in
    let new = c.declare_all.new.m in
    let t : Tree = tree m.atoms (terms m) c.arg-declared.result in
    let a = argument_is m.atoms (now m).0 p.state c.args.goal 0 c.arg-declared.result g s.reads c.arg-declared.ensures.live c.arg-declared.ensures.arg in
    let are : map (indicator_of m.atoms) c.deref.result.now ≡ declarations t = ap (map (indicator_of m.atoms)) c.deref.ensures.value ∙ c.in-Ok.ensures.declared in
    record {
      row = ap (dynamic_row p) (sym a)
          ∙ dynamic_declares p (database_of m) s.database t (map (indicator_of m.atoms) c.deref.result.now) (database_of new) c.in-Ok.ensures.lawful are
          c.in_ok-declare_all-in-Ok.ensures.declared;
      comes = goes_on_behind m new height c.args.rest p behind s.selected c.declare_all.ensures.stands;
    }

pub returns-in-Error-clause-row : goal.returns-in-Error-clause-row
returns-in-Error-clause-row c = λ height p behind g s.
    let m = c.args.m.now in
    let t : Tree = tree m.atoms (terms m) c.arg-declared.result in
    let a = argument_is m.atoms (now m).0 p.state c.args.goal 0 c.arg-declared.result g s.reads c.arg-declared.ensures.live c.arg-declared.ensures.arg in
    ap (dynamic_row p) (sym a) ∙ dynamic_raises p (database_of m) s.database t (error_tree m.atoms (terms m) c.in-Error.error) (rw c.in-Error.is at c.in-Err.ensures.fault)

pub returns-in-Error-clause-keeps : goal.returns-in-Error-clause-keeps
returns-in-Error-clause-keeps c = all_kept c.args.m.now

pub returns-in-NoMemory-clause-keeps : goal.returns-in-NoMemory-clause-keeps
returns-in-NoMemory-clause-keeps c = all_kept c.args.m.now
