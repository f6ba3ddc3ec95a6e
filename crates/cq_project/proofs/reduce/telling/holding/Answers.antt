use Rattle.std.proofs.Common.{◌+◌, ◌<◌, ◌≤◌, [], length, take, drop, Err, arith, ap, sym, subst, ◌∙◌}
use Rattle.std.proofs.lemmas.List.{take_all}
use Rattle.spec_linear.specs.Solution.{Solvable}
use Rattle.spec_simplex.specs.Asked.{NoQuestion}
use Rattle.cq_store.specs.StoreValue.{MayRefuse, MayTake, Only}
use Rattle.cq_store.proofs.Passed.{passed, store_spent}
use Rattle.cq_project.proofs.Parts.{next_told, solvable_first}
use Rattle.cq_project.proofs.ReduceStops.{around}
use Rattle.cq_project.proofs.reduce.telling.holding.Goals as goal

pub rows-init : goal.rows-init
rows-init c = record { told = c.new-store.ensures.told; saved = c.new-store.ensures.saved; pivots = c.new-store.ensures.pivots }

pub tell_one-requires : goal.tell_one-requires
tell_one-requires c =
    let within : c.rows.row-index < length c.args.rows.now = omega arith in
    record {
      solvable = subst Solvable (sym (next_told [] c.args.rows.now c.rows.store.told c.rows.row-index c.row-item.result within c.row-item.is c.rows.invariant.told))
          (solvable_first [] c.args.rows.now (c.rows.row-index + 1) c.requires.solvable);
    }

pub returns-in_err-tell_one-clause-overflow : goal.returns-in_err-tell_one-clause-overflow
returns-in_err-tell_one-clause-overflow c = λ pair e.
    let within : c.rows.row-index < length c.args.rows.now = omega arith in
    record {
      front = take c.rows.row-index c.args.rows.now;
      row = c.row-item.result;
      back = drop (c.rows.row-index + 1) c.args.rows.now;
      split = around c.args.rows.now c.rows.row-index c.row-item.result within c.row-item.is;
      refuses = subst (λ l. MayRefuse l (Only c.row-item.result) NoQuestion pair) c.rows.invariant.told
          (c.in_err-tell_one.ensures.overflow pair (ap Err (passed c.from_residual.result c.in_err-tell_one.field-0.0 pair c.from_residual.ensures.1 e)));
    }

pub returns-in_err-tell_one-clause-pivots : goal.returns-in_err-tell_one-clause-pivots
returns-in_err-tell_one-clause-pivots c = λ n e.
    let within : c.rows.row-index < length c.args.rows.now = omega arith in
    let o = c.in_err-tell_one.ensures.pivots n (ap Err (store_spent c.from_residual.result c.in_err-tell_one.field-0.0 n c.from_residual.ensures.1 e)) in (
      o.0 ∙ c.rows.invariant.pivots,
      record {
        front = take c.rows.row-index c.args.rows.now;
        row = c.row-item.result;
        back = drop (c.rows.row-index + 1) c.args.rows.now;
        split = around c.args.rows.now c.rows.row-index c.row-item.result within c.row-item.is;
        spends = subst (λ l. MayTake l (Only c.row-item.result) NoQuestion n) c.rows.invariant.told o.1;
      },
    )

pub rows-preserved : goal.rows-preserved
rows-preserved c =
    let within : c.rows.row-index < length c.args.rows.now = omega arith in
    record {
      told = c.in_ok-tell_one.ensures.told ∙ next_told [] c.args.rows.now c.rows.store.told c.rows.row-index c.row-item.result within c.row-item.is c.rows.invariant.told;
      saved = c.tell_one.ensures.saved ∙ c.rows.invariant.saved;
      pivots = c.tell_one.ensures.budget ∙ c.rows.invariant.pivots;
    }

pub returns-clause-told : goal.returns-clause-told
returns-clause-told c =
    let whole : length c.args.rows.now ≤ c.rows.row-index = omega arith in
    c.rows.invariant.told ∙ take_all c.rows.row-index c.args.rows.now whole
