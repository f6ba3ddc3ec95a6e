use Rattle.std.proofs.Common.{refl, codes, subst, ◌≡◌}
use Rattle.std.specs.Prelude.{IfOk}
use Rattle.cq_read.specs.Views.{frames_of, state_or_none}
use Rattle.cq_read.proofs.Kept.{frames_kept}
use Rattle.cq_read.proofs.Trees.{name_tree}
use Rattle.cq_read.proofs.Defaults.{curly_begins}
use Rattle.cq_read.proofs.Trees.{is_known}
use Rattle.cq_read.proofs.parse.steps.after_open_curly.Goals as goal

pub returns-in_ok-atom-in-CloseCurly-clause-step : goal.returns-in_ok-atom-in-CloseCurly-clause-step
returns-in_ok-atom-in-CloseCurly-clause-step c ops texts known =
    let ts = c.args.heap.now.now.terms in
    let us = c.atom.new.heap.now.terms in
    rw (
      c.in-CloseCurly.is,
      c.after.ensures,
      frames_kept texts ts us c.in_ok-atom-in-CloseCurly.ensures.heap.terms c.args.frames.now.items c.requires.frames,
      name_tree texts us us c.args.grammar.now.names.now.curly c.in_ok-atom-in-CloseCurly.field-0 (codes "{}") c.in_ok-atom-in-CloseCurly.ensures.built known.curly,
    ) refl

pub returns-in_default : goal.returns-in_default
returns-in_default c = record {
  step = λ ops texts known.
      subst (λ s. IfOk c.first_in_braces.result (λ next. state_or_none texts c.first_in_braces.new.heap.now.terms c.first_in_braces.new.frames.items next ≡ s))
      (curly_begins ops texts c.args.most (frames_of texts c.args.heap.now.now.terms c.args.frames.now.items) c.args.token.now c.in_default.not-CloseCurly) (c.first_in_braces.ensures.step ops texts known);
  known = c.first_in_braces.ensures.known;
  frames = c.first_in_braces.ensures.frames;
  state = c.first_in_braces.ensures.state;
  names = c.first_in_braces.ensures.names;
  heap = c.first_in_braces.ensures.heap;
}

pub returns-in_ok-atom-in-CloseCurly-clause-names : goal.returns-in_ok-atom-in-CloseCurly-clause-names
returns-in_ok-atom-in-CloseCurly-clause-names c texts known names =
    record { terms = c.in_ok-atom-in-CloseCurly.ensures.names texts (is_known texts c.args.grammar.now.names.now.curly (codes "{}") known.curly) names.terms; frames = names.frames }
