use Rattle.std.proofs.Common.{[], ◌++◌, sym, subst, ◌∙◌}
use Rattle.std.proofs.lemmas.Result.{IfOk-weaker}
use Rattle.spec_linear.specs.Solution.{Solvable}
use Rattle.spec_projection.proofs.Sifted.{sifted_irredundant}
use Rattle.cq_project.specs.Sifting.{SiftsBeside, RefusesSifting, SpendsSifting}
use Rattle.cq_project.proofs.eliminate.irredundant.Goals as goal

pub sift-requires : goal.sift-requires
sift-requires c = record { solvable = subst (λ l. Solvable (l ++ c.args.rows.now)) (sym c.new-store.ensures.told) c.requires.solvable }

pub returns-clause-sublist : goal.returns-clause-sublist
returns-clause-sublist c =
    IfOk-weaker c.sift.result _ _
    (λ all h. sifted_irredundant c.args.rows.now all.items (subst (λ l. SiftsBeside l c.args.rows.now all.items) c.new-store.ensures.told h [] [] (λ d. ((λ k. k), (λ k. k)))))
    c.sift.ensures.sifts

pub returns-clause-overflow : goal.returns-clause-overflow
returns-clause-overflow c = λ pair e. subst (λ l. RefusesSifting l c.args.rows.now pair) c.new-store.ensures.told (c.sift.ensures.overflow pair e)

pub returns-clause-pivots : goal.returns-clause-pivots
returns-clause-pivots c = λ n e.
    let o = c.sift.ensures.pivots n e in (o.0 ∙ c.new-store.ensures.pivots, subst (λ l. SpendsSifting l c.args.rows.now n) c.new-store.ensures.told o.1)
