use Rattle.std.proofs.Common.{◌≡◌, ◌<◌, ◌+◌, ◌^◌, ◌++◌, ◌∙◌, [], ap, codes, string_bytes, arith}
use Rattle.cq_write.proofs.Decimals.{writes_counted}
use Rattle.cq_answer.proofs.naming.counted_text.Goals as goal

pub returns : goal.returns
returns c =
    let small : c.args.number + 1 < 10 ^ 64 = omega arith in
    c.in_ok-push_str-2.ensures.bytes ∙ ap (λ t. string_bytes c.push_str.new.self ++ t) c.format.ensures.text
    ∙ writes_counted c.args.number [] (string_bytes c.push_str.new.self) small (c.in_ok-push_str.ensures.bytes ∙ ap (λ t. t ++ codes "_") c.new-name.ensures.bytes)
