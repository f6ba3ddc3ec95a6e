use Rattle.std.proofs.Common.{◌∷◌, sym, ap, ◌∙◌}
use Rattle.cq_cert.proofs.Rests.{pieces_some, pair_more}
use Rattle.cq_cert.proofs.words.pair.Goals as goal

pub returns-then-is_some : goal.returns-then-is_some
returns-then-is_some c =
    let first = c.cut.result.0.now in
    pair_more c.args.word.now first c.in_ok-right.field-0.now c.cut-2.result.0.now c.cut-2.result.1 (sym c.is_some.ensures ∙ c.if-is_some.true)
    (c.cut.ensures.parts ∙ ap (λ s. first ∷ s) (pieces_some 58 c.cut.result.1 c.in_ok-right.field-0 c.in_ok-right.was)) c.cut-2.ensures.parts
