use Rattle.std.proofs.Common.{◌^◌, ◌≤◌, arith}
use Rattle.std.proofs.Math.Nat.{pow-le-pow_right}
use Rattle.cq_store.proofs.budgets.power_of_two.Goals as goal

pub returns : goal.returns
returns c = λ h.
    let most : 2 ^ 64 ≤ 2 ^ c.args.n = pow-le-pow_right {n = 2} (omega arith) {i = 64} {j = c.args.n} (omega (arith, c.if-n-lt64.false)) in
    omega (arith, h, most)
