use Rattle.std.proofs.Common.{refl}
use Rattle.cq_read.proofs.Kept.{frames_kept}
use Rattle.cq_read.proofs.Trees.{argument_closed}
use Rattle.std.proofs.Common.{ap, map, ◌∙◌}
use Rattle.spec_terms.specs.Term.{with_arguments}
use Rattle.cq_term.specs.Meaning.{at}
use Rattle.cq_read.proofs.parse.folding.end_argument.Goals as goal

pub returns-in_ok-whole-in-Close-clause-step : goal.returns-in_ok-whole-in-Close-clause-step
returns-in_ok-whole-in-Close-clause-step c ops texts =
    let ts = c.args.heap.now.now.terms in
    let us = c.compound.new.heap.now.terms in
    let grown = c.in_ok-whole-in-Close.ensures.heap.terms in
    let whole = argument_closed texts ts us c.args.name c.args.before.items c.push.new.self.items c.args.operand c.in_ok-whole-in-Close.whole c.in_ok-push.ensures.items
    (c.in_ok-whole-in-Close.ensures.built ∙ ap (λ xs. with_arguments c.args.name (map (at ts) xs)) c.deref.ensures.value) in
    rw (c.in-Close.is, frames_kept texts ts us grown c.args.frames.now.items c.requires.frames, whole) refl

pub returns-in_ok-whole-in-Close-clause-names : goal.returns-in_ok-whole-in-Close-clause-names
returns-in_ok-whole-in-Close-clause-names c texts known names = record { terms = c.in_ok-whole-in-Close.ensures.names texts known names.terms; frames = names.frames }
