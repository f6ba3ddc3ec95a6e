use Rattle.std.proofs.Common.{◌∷◌, sym, ap, ◌∙◌}
use Rattle.cq_cert.proofs.Rests.{pieces_some, unsigned_more}
use Rattle.cq_cert.proofs.words.unsigned.Goals as goal

pub returns-then-is_some : goal.returns-then-is_some
returns-then-is_some c =
    let over = c.cut.result.0.now in
    unsigned_more c.args.word.now over c.in-Some.under.now c.cut-2.result.0.now c.cut-2.result.1 (sym c.is_some.ensures ∙ c.if-is_some.true)
    (c.cut.ensures.parts ∙ ap (λ s. over ∷ s) (pieces_some 114 c.cut.result.1 c.in-Some.under c.in-Some.is)) c.cut-2.ensures.parts
