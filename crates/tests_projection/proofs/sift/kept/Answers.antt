use Rattle.std.proofs.Common.{◌≡◌, ◌++◌, IfSome, Option, sym, subst}
use Rattle.spec_linear.specs.Solution.{Solvable}
use Rattle.cq_store.specs.StoreValue.{StoreValue}
use Rattle.tests_projection.proofs.sift.kept.Goals as goal

pub sift-requires : goal.sift-requires
sift-requires c =
    let told : c.in-Some.store.told ≡ c.args.told.now = subst (λ (found : Option StoreValue). IfSome found (λ store. store.told ≡ c.args.told.now)) c.in-Some.is c.in_ok-store.ensures in
    record { solvable = subst (λ l. Solvable (l ++ c.args.rows.now)) (sym told) (c.in_ok-can_hold.ensures c.if-not-branch.false) }
