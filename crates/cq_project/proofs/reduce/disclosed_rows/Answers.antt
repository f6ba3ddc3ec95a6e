use Rattle.std.proofs.Common.{◌+◌, ◌<◌, ◌≤◌, [], length, take, Err, arith, refl, ap, sym, subst, ◌∙◌}
use Rattle.std.proofs.lemmas.List.{take_all}
use Rattle.cq_store.proofs.Passed.{passed, store_spent}
use Rattle.cq_project.specs.Disclosing.{IsDisclosed, Discloses, RefusesDisclosing, SpendsDisclosing, no_row}
use Rattle.cq_project.proofs.Disguised.{disclosed_more}
use Rattle.cq_project.proofs.ReduceStops.{is_at}
use Rattle.cq_project.proofs.reduce.disclosed_rows.Goals as goal

pub rows-init : goal.rows-init
rows-init c = record { disclosed = subst (Discloses c.args.rows.now []) (sym c.new-all.ensures.items) no_row; told = c.requires.told; pivots = refl }

pub returns-in_err-disclosed-clause-overflow : goal.returns-in_err-disclosed-clause-overflow
returns-in_err-disclosed-clause-overflow c = λ pair e.
    let within : c.rows.row-index < length c.args.rows.now = omega arith in
    record {
      row = c.row-item.result;
      member = is_at c.args.rows.now c.rows.row-index c.row-item.result within c.row-item.is;
      refuses = subst (λ l. RefusesDisclosing l c.row-item.result pair) c.rows.invariant.told
          (c.in_err-disclosed.ensures.overflow pair (ap Err (passed c.from_residual.result c.in_err-disclosed.field-0.0 pair c.from_residual.ensures.1 e)));
    }

pub returns-in_err-disclosed-clause-pivots : goal.returns-in_err-disclosed-clause-pivots
returns-in_err-disclosed-clause-pivots c = λ n e.
    let within : c.rows.row-index < length c.args.rows.now = omega arith in
    let o = c.in_err-disclosed.ensures.pivots n (ap Err (store_spent c.from_residual.result c.in_err-disclosed.field-0.0 n c.from_residual.ensures.1 e)) in (
      o.0 ∙ c.rows.invariant.pivots,
      record {
        row = c.row-item.result;
        member = is_at c.args.rows.now c.rows.row-index c.row-item.result within c.row-item.is;
        spends = subst (λ l. SpendsDisclosing l c.row-item.result n) c.rows.invariant.told o.1;
      },
    )

pub rows-preserved : goal.rows-preserved
rows-preserved c =
    let within : c.rows.row-index < length c.args.rows.now = omega arith in
    record {
      disclosed = subst (Discloses c.args.rows.now (take (c.rows.row-index + 1) c.args.rows.now)) (sym c.in_ok-append.ensures)
          (disclosed_more c.args.rows.now c.args.rows.now c.rows.all.items c.rows.row-index c.row-item.result c.in_ok-disclosed.disclosed within c.row-item.is
          (subst (λ l. IsDisclosed l c.row-item.result c.in_ok-disclosed.disclosed) c.rows.invariant.told c.in_ok-disclosed.ensures.disclosed) c.rows.invariant.disclosed);
      told = c.disclosed_row.ensures.told ∙ c.rows.invariant.told;
      pivots = c.disclosed_row.ensures.budget ∙ c.rows.invariant.pivots;
    }

pub returns-clause-disclosed : goal.returns-clause-disclosed
returns-clause-disclosed c =
    let whole : length c.args.rows.now ≤ c.rows.row-index = omega arith in
    subst (λ l. Discloses c.args.rows.now l c.rows.all.items) (take_all c.rows.row-index c.args.rows.now whole) c.rows.invariant.disclosed
