use Rattle.std.proofs.Common.{refl}
use Rattle.cq_read.proofs.Kept.{frames_kept}
use Rattle.cq_read.proofs.parse.steps.after_minus.Goals as goal

pub returns-in_ok-number-in-Numeral-clause-step : goal.returns-in_ok-number-in-Numeral-clause-step
returns-in_ok-number-in-Numeral-clause-step c ops texts =
    let ts = c.args.heap.now.now.terms in
    rw (
      c.in-Numeral.is,
      c.after.ensures,
      frames_kept texts ts c.number.new.heap.now.terms c.in_ok-number-in-Numeral.ensures.heap.terms c.args.frames.now.items c.requires.frames,
      c.in_ok-number-in-Numeral.ensures.built,
      c.neg.ensures,
    ) refl

pub returns-in_ok-number-in-Numeral-clause-names : goal.returns-in_ok-number-in-Numeral-clause-names
returns-in_ok-number-in-Numeral-clause-names c texts names = record { terms = c.in_ok-number-in-Numeral.ensures.names texts names.terms; frames = names.frames }
