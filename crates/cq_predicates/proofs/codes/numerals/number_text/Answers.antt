use Rattle.std.proofs.Common.{◌∙◌}
use Rattle.std.proofs.lemmas.Result.{IfOk-weaker}
use Rattle.cq_predicates.proofs.Spelled.{text_same}
use Rattle.cq_predicates.proofs.codes.numerals.number_text.Goals as goal

pub returns : goal.returns
returns c =
    let fits = c.parts.ensures.fits in
    IfOk-weaker c.to_string.result _ _ (λ s h. h ∙ text_same c.args.number fits.num_fits fits.den_fits) c.to_string.ensures.ok
