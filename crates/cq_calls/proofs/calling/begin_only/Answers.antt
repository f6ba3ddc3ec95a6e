use Rattle.std.proofs.Common.{◌≡◌, List, length, Some, sym, ap, ap₂, ◌∙◌, subst}
use Rattle.std.specs.Prelude.{slice_get}
use Rattle.std.specs.List.{zip}
use Rattle.cq_attr.proofs.Elements.{on_err}
use Rattle.cq_resolve.specs.Database.{IsCounted}
use Rattle.cq_resolve.specs.StoredValue.{ClauseValue}
use Rattle.cq_settle.specs.Contents.{Contents}
use Rattle.spec_engine.specs.declared.machine.cell.Cell.{Cell}
use Rattle.spec_engine.specs.Cells.{Value}
use Rattle.cq_branch.specs.Choices.{AreOpen, LeavesAlso}
use Rattle.cq_branch.specs.Worlds.{saved_values, value}
use Rattle.cq_branch.specs.declared.alternatives.Alternatives.{Alternatives}
use Rattle.cq_branch.specs.declared.alternatives.Alternatives.TheVariants.{Clauses}
use Rattle.cq_branch.specs.declared.begin.beginning.Begun.TheVariants.{Goes, Pruned}
use Rattle.cq_calls.specs.Calling.{IsStill}
use Rattle.cq_calls.proofs.Left.{of_content, marked_same}
use Rattle.cq_calls.proofs.Waiting.{only_comes, waits_come, opens_also, same_grown, keeps_on}
use Rattle.cq_calls.proofs.calling.begin_only.Goals as goal
use Rattle.cq_calls.proofs.calling.begin_only.Goals.{After-clause-clause}

kept_is : (c : After-clause-clause) → slice_get c.args.clauses.now.contents c.args.number ≡ Some c.clause-clause.result.now
kept_is c = c.content.ensures ∙ ap (λ (x : ClauseValue). Some x) (sym c.clause-clause.ensures)

pub begin_clause-requires-clause-clause : goal.begin_clause-requires-clause-clause
begin_clause-requires-clause-clause c =
    of_content (IsCounted (length c.args.atoms.now)) c.args.clauses.now.contents c.args.number c.clause-clause.result.now c.requires.program.contents c.requires.known
    (kept_is (goal.at.begin_clause-requires-clause-clause c).After-clause-clause)

-- ---- its branch is kept

pub returns-in-Goes-clause-comes : goal.returns-in-Goes-clause-comes
returns-in-Goes-clause-comes c =
    only_comes c.args.atoms.now c.args.clauses.now (saved_values c.args.world.now.first c.args.world.now.second.saved) c.args.choices.now
    (value c.args.world.now.first c.args.world.now.second.now) c.args.goal c.args.rest c.args.walk.now c.args.number c.requires.only c.requires.marked
    c.clause-clause.result.now (kept_is (goal.at.returns-in-Goes-clause-comes c).After-clause-clause) c.height-height.result c.height-height.ensures
    (value c.begin_clause.new.world c.begin_clause.new.lists.now) (Goes c.in-Goes.first) (rw c.in-Goes.is at c.in-Ok.ensures.comes)
    (saved_values c.begin_clause.new.world c.begin_clause.new.lists.saved)
    (ap₂ (λ (x : List Contents) (y : List (List (List Cell))). zip x y) c.in-Ok.ensures.saved c.in-Ok.ensures.lists)

pub returns-in-Goes-clause-marked : goal.returns-in-Goes-clause-marked
returns-in-Goes-clause-marked c =
    marked_same c.args.world.now.first c.begin_clause.new.world c.args.world.now.second.saved c.begin_clause.new.lists.saved c.args.choices.now c.in-Ok.ensures.saved c.in-Ok.ensures.lists
    c.requires.marked

pub returns-in-Goes-clause-open : goal.returns-in-Goes-clause-open
returns-in-Goes-clause-open c = λ o.
    subst (λ (l : List (Value Contents)). AreOpen c.args.atoms.now c.args.clauses.now l c.args.choices.now)
    (sym (ap₂ (λ (x : List Contents) (y : List (List (List Cell))). zip x y) c.in-Ok.ensures.saved c.in-Ok.ensures.lists)) o

pub returns-in-Goes-clause-there : goal.returns-in-Goes-clause-there
returns-in-Goes-clause-there c = rw c.in-Goes.is at c.in-Ok.ensures.there

-- ---- it is pruned

pub returns-in-Pruned-clause-comes : goal.returns-in-Pruned-clause-comes
returns-in-Pruned-clause-comes c =
    only_comes c.args.atoms.now c.args.clauses.now (saved_values c.args.world.now.first c.args.world.now.second.saved) c.args.choices.now
    (value c.args.world.now.first c.args.world.now.second.now) c.args.goal c.args.rest c.args.walk.now c.args.number c.requires.only c.requires.marked
    c.clause-clause.result.now (kept_is (goal.at.returns-in-Pruned-clause-comes c).After-clause-clause) c.height-height.result c.height-height.ensures
    (value c.begin_clause.new.world c.begin_clause.new.lists.now) Pruned (rw c.in-Pruned.is at c.in-Ok.ensures.comes)
    (saved_values c.begin_clause.new.world c.begin_clause.new.lists.saved)
    (ap₂ (λ (x : List Contents) (y : List (List (List Cell))). zip x y) c.in-Ok.ensures.saved c.in-Ok.ensures.lists)

pub returns-in-Pruned-clause-marked : goal.returns-in-Pruned-clause-marked
returns-in-Pruned-clause-marked c =
    marked_same c.args.world.now.first c.begin_clause.new.world c.args.world.now.second.saved c.begin_clause.new.lists.saved c.args.choices.now c.in-Ok.ensures.saved c.in-Ok.ensures.lists
    c.requires.marked

pub returns-in-Pruned-clause-open : goal.returns-in-Pruned-clause-open
returns-in-Pruned-clause-open c = λ o.
    subst (λ (l : List (Value Contents)). AreOpen c.args.atoms.now c.args.clauses.now l c.args.choices.now)
    (sym (ap₂ (λ (x : List Contents) (y : List (List (List Cell))). zip x y) c.in-Ok.ensures.saved c.in-Ok.ensures.lists)) o

pub returns-in-Pruned-clause-back : goal.returns-in-Pruned-clause-back
returns-in-Pruned-clause-back c = rw c.in-Pruned.is at c.in-Ok.ensures.unchanged

-- ---- at a fault the clause waits

pub wait-requires : goal.wait-requires
wait-requires c = record {
  marked = marked_same c.args.world.now.first c.begin_clause.new.world c.args.world.now.second.saved c.begin_clause.new.lists.saved c.args.choices.now c.in-Err.ensures.saved
      c.in-Err.ensures.lists c.requires.marked;
}

pub returns-in_ok-wait-in-Err-clause-comes : goal.returns-in_ok-wait-in-Err-clause-comes
returns-in_ok-wait-in-Err-clause-comes c =
    let now = value c.args.world.now.first c.args.world.now.second.now in
    let mid = value c.begin_clause.new.world c.begin_clause.new.lists.now in
    let more = saved_values c.wait.new.world.first c.wait.new.world.second.saved in
    waits_come c.args.atoms.now c.args.clauses.now (saved_values c.args.world.now.first c.args.world.now.second.saved) c.args.choices.now
    now c.args.goal c.args.rest c.args.walk.now mid (same_grown c.args.atoms.now now.0 mid.0 now.1 mid.1 c.in-Err.ensures.err c.in-Err.ensures.keeps)
    more c.wait.new.choices (value c.wait.new.world.first c.wait.new.world.second.now)
    (subst (λ (l : List (Value Contents)). LeavesAlso l c.args.choices.now mid (Clauses c.args.goal c.args.walk.now c.args.rest) more c.wait.new.choices)
    (ap₂ (λ (x : List Contents) (y : List (List (List Cell))). zip x y) c.in-Err.ensures.saved c.in-Err.ensures.lists) c.in_ok-wait-in-Err.ensures.waits)

pub returns-in_ok-wait-in-Err-clause-open : goal.returns-in_ok-wait-in-Err-clause-open
returns-in_ok-wait-in-Err-clause-open c = λ o.
    let same = ap₂ (λ (x : List Contents) (y : List (List (List Cell))). zip x y) c.in-Err.ensures.saved c.in-Err.ensures.lists in
    opens_also c.args.atoms.now c.args.clauses.now (saved_values c.begin_clause.new.world c.begin_clause.new.lists.saved) c.args.choices.now
    c.args.goal c.args.rest c.args.walk.now (value c.begin_clause.new.world c.begin_clause.new.lists.now)
    (saved_values c.wait.new.world.first c.wait.new.world.second.saved) c.wait.new.choices c.in_ok-wait-in-Err.ensures.waits c.requires.walk
    (subst (λ (l : List (Value Contents)). AreOpen c.args.atoms.now c.args.clauses.now l c.args.choices.now) (sym same) o)

pub returns-in_ok-wait-in-Err-clause-budget : goal.returns-in_ok-wait-in-Err-clause-budget
returns-in_ok-wait-in-Err-clause-budget c = ap (λ (w : Contents). w.pivots) c.wait.ensures.world ∙ c.in-Err.ensures.budget

pub returns-in_ok-wait-in-Err-clause-back : goal.returns-in_ok-wait-in-Err-clause-back
returns-in_ok-wait-in-Err-clause-back c = c.wait.ensures.world ∙ c.in-Err.ensures.err

pub returns-in_err-wait-in-Err-clause-budget : goal.returns-in_err-wait-in-Err-clause-budget
returns-in_err-wait-in-Err-clause-budget c = ap (λ (w : Contents). w.pivots) c.wait.ensures.world ∙ c.in-Err.ensures.budget

pub returns-in_err-wait-in-Err-clause-err : goal.returns-in_err-wait-in-Err-clause-err
returns-in_err-wait-in-Err-clause-err c =
    let still : IsStill c.args.world.now.first c.wait.new.world.first c.args.world.now.second c.wait.new.world.second c.args.choices.now c.wait.new.choices =
    record {
      choices = c.in_err-wait-in-Err.ensures.err;
      saved = c.in_err-wait-in-Err.ensures.err_saved ∙ ap₂ (λ (x : List Contents) (y : List (List (List Cell))). zip x y) c.in-Err.ensures.saved c.in-Err.ensures.lists;
      world = c.wait.ensures.world ∙ c.in-Err.ensures.err;
      lists = keeps_on c.args.world.now.second.now c.begin_clause.new.lists.now c.wait.new.world.second.now c.in-Err.ensures.keeps c.wait.ensures.lists;
    } in
    on_err c.from_residual.result still

pub returns-in_err-wait-in-Err-clause-open : goal.returns-in_err-wait-in-Err-clause-open
returns-in_err-wait-in-Err-clause-open c = λ o.
    subst (λ (cs : List Alternatives). AreOpen c.args.atoms.now c.args.clauses.now (saved_values c.wait.new.world.first c.wait.new.world.second.saved) cs) (sym c.in_err-wait-in-Err.ensures.err)
    (subst (λ (l : List (Value Contents)). AreOpen c.args.atoms.now c.args.clauses.now l c.args.choices.now)
    (sym (c.in_err-wait-in-Err.ensures.err_saved ∙ ap₂ (λ (x : List Contents) (y : List (List (List Cell))). zip x y) c.in-Err.ensures.saved c.in-Err.ensures.lists)) o)
