use Rattle.std.proofs.Common.{◌≡◌, ◌⊎◌, inl, inr, true, false, ◌∷◌, sym, ap, ◌∙◌}
use Rattle.std.specs.Prelude.{bytes_eq}
use Rattle.std.specs.Option.{is_some}
use Rattle.cq_cert.proofs.Rests.{pieces_some, counted_refused}
use Rattle.cq_cert.proofs.lines.counted.Goals as goal
use Rattle.cq_cert.proofs.lines.counted.Goals.{then-is_some-via-then-is_some, then-is_some-via-else-is_some+then-not-is}

pub returns-then-is_some : goal.returns-then-is_some
returns-then-is_some c =
    let first = c.cut.result.0.now in
    let never : (is_some c.cut-2.result.1 ≡ true) ⊎ (bytes_eq c.args.word.now first ≡ false) = elim c.then-is_some.branch [
      | then-is_some-via-then-is_some w ↦ inl (sym c.is_some.ensures ∙ w.if-is_some.true)
      | then-is_some-via-else-is_some+then-not-is w ↦ inr (sym w.is.ensures ∙ w.if-not-is.true)
    ] in
    counted_refused c.args.word.now c.args.line.now first c.in_ok-rest.field-0.now c.cut-2.result.0.now c.cut-2.result.1
    (c.cut.ensures.parts ∙ ap (λ s. first ∷ s) (pieces_some 32 c.cut.result.1 c.in_ok-rest.field-0 c.in_ok-rest.was)) c.cut-2.ensures.parts never
