use Rattle.std.proofs.Common.{◌+◌, ◌<◌, ◌≤◌, ◌++◌, length, Err, arith, refl, ap, sym, subst, ◌∙◌, append-nil}
use Rattle.std.proofs.lemmas.List.{take_all}
use Rattle.spec_linear.specs.Solution.{Solvable}
use Rattle.cq_store.proofs.Passed.{passed, store_spent}
use Rattle.cq_project.specs.Sifting.{IsToldWith, telling}
use Rattle.cq_project.proofs.Parts.{first_told, next_told, solvable_first}
use Rattle.cq_project.proofs.sift.tell_all.Goals as goal

pub rows-init : goal.rows-init
rows-init c = record { told = sym (append-nil c.args.store.now.told); saved = refl; pivots = refl }

pub tell_one-requires : goal.tell_one-requires
tell_one-requires c =
    let within : c.rows.row-index < length c.args.rows.now = omega arith in
    record {
      solvable = subst Solvable (sym (next_told c.args.store.now.told c.args.rows.now c.rows.store.told c.rows.row-index c.row-item.result within c.row-item.is c.rows.invariant.told))
          (solvable_first c.args.store.now.told c.args.rows.now (c.rows.row-index + 1) c.requires.solvable);
    }

pub returns-in_err-tell_one-clause-overflow : goal.returns-in_err-tell_one-clause-overflow
returns-in_err-tell_one-clause-overflow c = λ pair e.
    let within : c.rows.row-index < length c.args.rows.now = omega arith in
    let told = c.args.store.now.told in
    telling c.rows.store.told c.row-item.result (subst (IsToldWith told c.args.rows.now) (sym c.rows.invariant.told) (first_told told c.args.rows.now c.rows.row-index))
    (subst (IsToldWith told c.args.rows.now) (sym (next_told told c.args.rows.now c.rows.store.told c.rows.row-index c.row-item.result within c.row-item.is c.rows.invariant.told))
    (first_told told c.args.rows.now (c.rows.row-index + 1)))
    (c.in_err-tell_one.ensures.overflow pair (ap Err (passed c.from_residual.result c.in_err-tell_one.field-0.0 pair c.from_residual.ensures.1 e)))

pub returns-in_err-tell_one-clause-pivots : goal.returns-in_err-tell_one-clause-pivots
returns-in_err-tell_one-clause-pivots c = λ n e.
    let within : c.rows.row-index < length c.args.rows.now = omega arith in
    let told = c.args.store.now.told in
    let o = c.in_err-tell_one.ensures.pivots n (ap Err (store_spent c.from_residual.result c.in_err-tell_one.field-0.0 n c.from_residual.ensures.1 e)) in (
      o.0 ∙ c.rows.invariant.pivots,
      telling c.rows.store.told c.row-item.result (subst (IsToldWith told c.args.rows.now) (sym c.rows.invariant.told) (first_told told c.args.rows.now c.rows.row-index))
          (subst (IsToldWith told c.args.rows.now) (sym (next_told told c.args.rows.now c.rows.store.told c.rows.row-index c.row-item.result within c.row-item.is c.rows.invariant.told))
          (first_told told c.args.rows.now (c.rows.row-index + 1)))
          o.1,
    )

pub returns-in_err-tell_one-clause-part : goal.returns-in_err-tell_one-clause-part
returns-in_err-tell_one-clause-part c =
    subst (IsToldWith c.args.store.now.told c.args.rows.now) (sym (c.in_err-tell_one.ensures.err ∙ c.rows.invariant.told))
    (first_told c.args.store.now.told c.args.rows.now c.rows.row-index)

pub rows-preserved : goal.rows-preserved
rows-preserved c =
    let within : c.rows.row-index < length c.args.rows.now = omega arith in
    record {
      told = c.in_ok-tell_one.ensures.told
          ∙ next_told c.args.store.now.told c.args.rows.now c.rows.store.told c.rows.row-index c.row-item.result within c.row-item.is c.rows.invariant.told;
      saved = c.tell_one.ensures.saved ∙ c.rows.invariant.saved;
      pivots = c.tell_one.ensures.budget ∙ c.rows.invariant.pivots;
    }

pub returns-clause-told : goal.returns-clause-told
returns-clause-told c =
    let whole : length c.args.rows.now ≤ c.rows.row-index = omega arith in
    c.rows.invariant.told ∙ ap (λ l. c.args.store.now.told ++ l) (take_all c.rows.row-index c.args.rows.now whole)

pub returns-clause-part : goal.returns-clause-part
returns-clause-part c =
    subst (IsToldWith c.args.store.now.told c.args.rows.now) (sym c.rows.invariant.told) (first_told c.args.store.now.told c.args.rows.now c.rows.row-index)
