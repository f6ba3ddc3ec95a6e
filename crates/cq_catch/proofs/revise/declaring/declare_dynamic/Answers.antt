use Rattle.std.proofs.Common.{sym, subst}
use Rattle.cq_catch.specs.Revised.{KeepsShowing}
use Rattle.cq_catch.proofs.Declared.{all_programs, all_databases}
use Rattle.cq_catch.proofs.revise.declaring.declare_dynamic.Goals as goal

pub returns-clause-declared : goal.returns-clause-declared
returns-clause-declared c =
    let preds = c.args.predicates.now in
    let old = c.args.clauses.now in
    let new = c.declare_all_dynamic.new.self in
    let all = c.in_ok-declare_all_dynamic.ensures.declared in
    let change = c.changes_are_those_of_the_database.ensures in
    let stay = c.programs_stay_programs.ensures in
    record {
      database = λ texts ops different was known.
          all_databases texts (stay.declared texts) ops (λ p a b program within declares. change.declared texts ops p a b different program within declares) preds old new all was known;
      program = λ texts was known. all_programs texts (stay.declared texts) preds old new all was known;
    }

pub returns-clause-showing : goal.returns-clause-showing
returns-clause-showing c =
    c.walks_outlast_changes.ensures.all_declared c.args.predicates.now c.args.clauses.now c.declare_all_dynamic.new.self c.in_ok-declare_all_dynamic.ensures.declared
    c.declare_all_dynamic.ensures.reading

pub returns-in_err-declare_all_dynamic-clause-showing : goal.returns-in_err-declare_all_dynamic-clause-showing
returns-in_err-declare_all_dynamic-clause-showing c =
    subst (KeepsShowing c.args.clauses.now) (sym c.in_err-declare_all_dynamic.ensures.err) (c.walks_outlast_changes.ensures.same c.args.clauses.now)
