use Rattle.std.proofs.Common.{rules, ◌≡◌, ◌<◌, ◌^◌, arith}
use Rattle.std.specs.Fmt.{decimal}
use Rattle.spec_text.specs.Numbers.{whole_text}
use Rattle.spec_text.proofs.Decimals.{whole_is}
use Rattle.cq_session.proofs.generating.line.behind_value.Goals as goal

pub returns : goal.returns
returns c =
    let small : c.args.answers < 10 ^ 64 = omega arith in
    let same : whole_text c.args.answers ≡ decimal c.args.answers = whole_is c.args.answers small in
    rw same (search rules)
