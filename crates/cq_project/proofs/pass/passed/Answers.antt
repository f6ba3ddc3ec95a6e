use Rattle.std.proofs.Common.{[], ◌++◌, Err, ap, sym, subst, ◌∙◌}
use Rattle.std.proofs.lemmas.Result.{IfOk-weaker}
use Rattle.spec_linear.specs.Solution.{Solvable}
use Rattle.spec_linear.proofs.Denominators.{has_left}
use Rattle.cq_store.proofs.Passed.{store_spent}
use Rattle.cq_project.specs.Sifting.{HaveSameMembers, RefusesSifting, SpendsSifting}
use Rattle.cq_project.proofs.Parts.{solvable_part}
use Rattle.cq_project.specs.Passing.{while_telling, while_sifting}
use Rattle.cq_project.proofs.pass.passed.Goals as goal

pub holding-requires : goal.holding-requires
holding-requires c = record {
  solvable = solvable_part c.args.beside.now (c.args.beside.now ++ c.args.rows.now) (λ d h. has_left d c.args.beside.now c.args.rows.now h) c.requires.solvable;
}

pub returns-in_err-store-clause-pivots : goal.returns-in_err-store-clause-pivots
returns-in_err-store-clause-pivots c = λ n e.
    let s = c.in_err-store.ensures.pivots n (ap Err (store_spent c.from_residual.result c.in_err-store.field-0.0 n c.from_residual.ensures.1 e)) in
    (s.0, while_telling s.1)

pub sift-requires : goal.sift-requires
sift-requires c = record { solvable = subst (λ l. Solvable (l ++ c.args.rows.now)) (sym c.in_ok-store.ensures.told) c.requires.solvable }

pub returns-clause-left : goal.returns-clause-left
returns-clause-left c =
    let same : HaveSameMembers c.args.beside.now c.in_ok-store.store.told = subst (HaveSameMembers c.args.beside.now) (sym c.in_ok-store.ensures.told) (λ d. ((λ h. h), (λ h. h))) in
    IfOk-weaker c.sift.result _ _ (λ left s. s [] c.args.beside.now same) c.sift.ensures.sifts

pub returns-clause-overflow : goal.returns-clause-overflow
returns-clause-overflow c = λ pair e.
    while_sifting (subst (λ l. RefusesSifting l c.args.rows.now pair) c.in_ok-store.ensures.told (c.sift.ensures.overflow pair e))

pub returns-clause-pivots : goal.returns-clause-pivots
returns-clause-pivots c = λ n e.
    let s = c.sift.ensures.pivots n e in
    (s.0 ∙ c.in_ok-store.ensures.budget, while_sifting (subst (λ l. SpendsSifting l c.args.rows.now n) c.in_ok-store.ensures.told s.1))
