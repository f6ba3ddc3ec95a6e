use Rattle.std.proofs.Common.{rules, ◌≡◌, ◌<◌, ◌^◌, arith}
use Rattle.std.specs.Fmt.{decimal}
use Rattle.spec_text.specs.Numbers.{whole_text}
use Rattle.spec_text.proofs.Decimals.{whole_is}
use Rattle.cq_lint.proofs.lines.marked.Goals as goal

pub returns : goal.returns
returns c =
    let small : c.args.number < 10 ^ 64 = omega arith in
    let same : whole_text c.args.number ≡ decimal c.args.number = whole_is c.args.number small in
    rw same (search rules)
