use Rattle.std.proofs.Common.{refl}
use Rattle.cq_read.proofs.Kept.{frames_kept}
use Rattle.cq_read.proofs.parse.steps.before_term.Goals as goal

pub returns-in-Variable-clause-step : goal.returns-in-Variable-clause-step
returns-in-Variable-clause-step c ops texts known =
    let unbound = rw c.in-Variable.is at c.requires.variable in
    rw (c.in-Variable.is, c.after.ensures, c.var_term.ensures.term, unbound.1) refl

pub returns-in_ok-number-in-Numeral-clause-step : goal.returns-in_ok-number-in-Numeral-clause-step
returns-in_ok-number-in-Numeral-clause-step c ops texts known =
    let ts = c.args.heap.now.now.terms in
    rw (
      c.in-Numeral.is,
      c.after-in-Numeral.ensures,
      frames_kept texts ts c.number.new.heap.now.terms c.in_ok-number-in-Numeral.ensures.heap.terms c.args.frames.now.items c.requires.frames,
      c.in_ok-number-in-Numeral.ensures.built,
    ) refl

pub returns-in_ok-code_list-in-Codes-clause-step : goal.returns-in_ok-code_list-in-Codes-clause-step
returns-in_ok-code_list-in-Codes-clause-step c ops texts known =
    let ts = c.args.heap.now.now.terms in
    rw (
      c.in-Codes.is,
      c.after-in-Codes.ensures,
      frames_kept texts ts c.code_list.new.heap.now.terms c.in_ok-code_list-in-Codes.ensures.heap.terms c.args.frames.now.items c.requires.frames,
      c.in_ok-code_list-in-Codes.ensures.list texts known,
      c.deref.ensures,
    ) refl

pub returns-in_ok-number-in-Numeral-clause-names : goal.returns-in_ok-number-in-Numeral-clause-names
returns-in_ok-number-in-Numeral-clause-names c texts known names = record { terms = c.in_ok-number-in-Numeral.ensures.names texts names.terms; frames = names.frames }

pub returns-in_ok-code_list-in-Codes-clause-names : goal.returns-in_ok-code_list-in-Codes-clause-names
returns-in_ok-code_list-in-Codes-clause-names c texts known names = record { terms = c.in_ok-code_list-in-Codes.ensures.names texts known names.terms; frames = names.frames }
