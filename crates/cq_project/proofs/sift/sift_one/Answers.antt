use Rattle.std.proofs.Common.{[], ◌∷◌, ◌++◌, Err, inl, refl, ap, sym, subst, ◌∙◌}
use Rattle.std.proofs.lemmas.Bool.{MatchBool-at_true, MatchBool-at_false}
use Rattle.spec_linear.specs.Solution.{Solvable, Entails}
use Rattle.spec_linear.specs.Extremes.{Leaves}
use Rattle.spec_simplex.specs.Asked.{NoQuestion}
use Rattle.cq_store.specs.StoreValue.{MayRefuse, MayTake, Only}
use Rattle.cq_store.proofs.Passed.{passed, store_spent}
use Rattle.cq_project.specs.Sifting.{SiftsBeside, IsToldWith, telling, asking}
use Rattle.cq_project.proofs.Halves.{row_dropped, row_stays}
use Rattle.cq_project.proofs.Parts.{none_told, all_told}
use Rattle.cq_project.proofs.sift.sift_one.Goals as goal

pub returns-in_err-entailed-clause-overflow : goal.returns-in_err-entailed-clause-overflow
returns-in_err-entailed-clause-overflow c = λ pair e.
    asking c.args.store.now.told c.args.row.now (none_told c.args.store.now.told (c.args.row.now ∷ [])) (inl refl)
    (c.in_err-entailed.ensures.overflow pair (ap Err (passed c.from_residual.result c.in_err-entailed.field-0.0 pair c.from_residual.ensures.1 e)))

pub returns-in_err-entailed-clause-pivots : goal.returns-in_err-entailed-clause-pivots
returns-in_err-entailed-clause-pivots c = λ n e.
    let o = c.in_err-entailed.ensures.pivots n (ap Err (store_spent c.from_residual.result c.in_err-entailed.field-0.0 n c.from_residual.ensures.1 e)) in
    (o.0, asking c.args.store.now.told c.args.row.now (none_told c.args.store.now.told (c.args.row.now ∷ [])) (inl refl) o.1)

pub returns-in_err-entailed-clause-part : goal.returns-in_err-entailed-clause-part
returns-in_err-entailed-clause-part c = subst (IsToldWith c.args.store.now.told (c.args.row.now ∷ [])) (sym c.entailed.ensures.told) (none_told c.args.store.now.told (c.args.row.now ∷ []))

pub returns-then-branch-clause-sifts : goal.returns-then-branch-clause-sifts
returns-then-branch-clause-sifts c =
    subst (SiftsBeside c.args.store.now.told (c.args.row.now ∷ [])) (sym c.new.ensures.items)
    (row_dropped c.args.store.now.told c.args.row.now
    (MatchBool-at_true (Entails c.args.store.now.told c.args.row.now) (Leaves c.args.store.now.told c.args.row.now) c.if-branch.true c.in_ok-entailed.ensures.entailed))

pub returns-in_err-kept-clause-part : goal.returns-in_err-kept-clause-part
returns-in_err-kept-clause-part c = subst (IsToldWith c.args.store.now.told (c.args.row.now ∷ [])) (sym c.entailed.ensures.told) (none_told c.args.store.now.told (c.args.row.now ∷ []))

pub returns-then-branch-clause-part : goal.returns-then-branch-clause-part
returns-then-branch-clause-part c = subst (IsToldWith c.args.store.now.told (c.args.row.now ∷ [])) (sym c.entailed.ensures.told) (none_told c.args.store.now.told (c.args.row.now ∷ []))

pub tell_one-requires : goal.tell_one-requires
tell_one-requires c = record { solvable = subst (λ l. Solvable (l ++ c.args.row.now ∷ [])) (sym c.entailed.ensures.told) c.requires.solvable }

pub returns-in_err-tell_one-clause-overflow : goal.returns-in_err-tell_one-clause-overflow
returns-in_err-tell_one-clause-overflow c = λ pair e.
    telling c.args.store.now.told c.args.row.now (none_told c.args.store.now.told (c.args.row.now ∷ [])) (all_told c.args.store.now.told (c.args.row.now ∷ []))
    (subst (λ l. MayRefuse l (Only c.args.row.now) NoQuestion pair) c.entailed.ensures.told
    (c.in_err-tell_one.ensures.overflow pair (ap Err (passed c.from_residual-in_err-tell_one.result c.in_err-tell_one.field-0.0 pair c.from_residual-in_err-tell_one.ensures.1 e))))

pub returns-in_err-tell_one-clause-pivots : goal.returns-in_err-tell_one-clause-pivots
returns-in_err-tell_one-clause-pivots c = λ n e.
    let o = c.in_err-tell_one.ensures.pivots n (ap Err (store_spent c.from_residual-in_err-tell_one.result c.in_err-tell_one.field-0.0 n c.from_residual-in_err-tell_one.ensures.1 e)) in (
      o.0 ∙ c.entailed.ensures.budget,
      telling c.args.store.now.told c.args.row.now (none_told c.args.store.now.told (c.args.row.now ∷ [])) (all_told c.args.store.now.told (c.args.row.now ∷ []))
          (subst (λ l. MayTake l (Only c.args.row.now) NoQuestion n) c.entailed.ensures.told o.1),
    )

pub returns-in_err-tell_one-clause-part : goal.returns-in_err-tell_one-clause-part
returns-in_err-tell_one-clause-part c =
    subst (IsToldWith c.args.store.now.told (c.args.row.now ∷ [])) (sym (c.in_err-tell_one.ensures.err ∙ c.entailed.ensures.told)) (none_told c.args.store.now.told (c.args.row.now ∷ []))

pub returns-clause-part : goal.returns-clause-part
returns-clause-part c =
    subst (IsToldWith c.args.store.now.told (c.args.row.now ∷ []))
    (sym (c.in_ok-tell_one.ensures.told ∙ ap (λ l. l ++ c.args.row.now ∷ []) c.entailed.ensures.told)) (all_told c.args.store.now.told (c.args.row.now ∷ []))

pub returns-clause-sifts : goal.returns-clause-sifts
returns-clause-sifts c =
    subst (SiftsBeside c.args.store.now.told (c.args.row.now ∷ [])) (sym c.in_ok-kept.ensures)
    (row_stays c.args.store.now.told c.args.row.now
    (MatchBool-at_false (Entails c.args.store.now.told c.args.row.now) (Leaves c.args.store.now.told c.args.row.now) c.if-branch.false c.in_ok-entailed.ensures.entailed))
