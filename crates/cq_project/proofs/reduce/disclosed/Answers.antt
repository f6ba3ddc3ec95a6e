use Rattle.std.proofs.Common.{Err, ap, ◌∙◌}
use Rattle.std.proofs.lemmas.Result.{IfOk-weaker}
use Rattle.cq_store.proofs.Passed.{passed, store_spent}
use Rattle.cq_project.proofs.Disguised.{disclosed_same, disclosed_complete}
use Rattle.cq_project.proofs.ReduceStops.{telling_refused, telling_spent, disclosing_refused, disclosing_spent}
use Rattle.cq_project.proofs.reduce.disclosed.Goals as goal

pub returns-in_err-store-clause-overflow : goal.returns-in_err-store-clause-overflow
returns-in_err-store-clause-overflow c = λ targets pair e.
    telling_refused targets c.args.told.now pair
    (c.in_err-store.ensures.overflow pair (ap Err (passed c.from_residual.result c.in_err-store.field-0.0 pair c.from_residual.ensures.1 e)))

pub returns-in_err-store-clause-pivots : goal.returns-in_err-store-clause-pivots
returns-in_err-store-clause-pivots c = λ targets n e.
    let o = c.in_err-store.ensures.pivots n (ap Err (store_spent c.from_residual.result c.in_err-store.field-0.0 n c.from_residual.ensures.1 e)) in
    (o.0, telling_spent targets c.args.told.now n o.1)

pub returns-clause-same : goal.returns-clause-same
returns-clause-same c = IfOk-weaker c.disclosed_rows.result _ _ (λ all h. disclosed_same c.args.told.now all.items h) c.disclosed_rows.ensures.disclosed

pub returns-clause-complete : goal.returns-clause-complete
returns-clause-complete c =
    IfOk-weaker c.disclosed_rows.result _ _ (λ all h. disclosed_complete c.args.told.now all.items h c.requires.solvable) c.disclosed_rows.ensures.disclosed

pub returns-clause-overflow : goal.returns-clause-overflow
returns-clause-overflow c = λ targets pair e.
    let r = c.disclosed_rows.ensures.overflow pair e in disclosing_refused targets c.args.told.now r.row r.member pair r.refuses

pub returns-clause-pivots : goal.returns-clause-pivots
returns-clause-pivots c = λ targets n e.
    let o = c.disclosed_rows.ensures.pivots n e in
    (o.0 ∙ c.in_ok-store.ensures.budget, disclosing_spent targets c.args.told.now o.1.row o.1.member n o.1.spends)
