use Rattle.std.proofs.Common.{refl, codes, subst, ◌≡◌}
use Rattle.std.specs.Prelude.{IfOk}
use Rattle.cq_read.specs.Views.{frames_of, state_or_none}
use Rattle.cq_read.proofs.Kept.{frames_kept}
use Rattle.cq_read.proofs.Trees.{name_tree}
use Rattle.cq_read.proofs.Defaults.{list_begins}
use Rattle.cq_read.proofs.Trees.{is_known}
use Rattle.cq_read.proofs.parse.steps.after_open_list.Goals as goal

pub returns-in_ok-atom-in-CloseList-clause-step : goal.returns-in_ok-atom-in-CloseList-clause-step
returns-in_ok-atom-in-CloseList-clause-step c ops texts known =
    let ts = c.args.heap.now.now.terms in
    let us = c.atom.new.heap.now.terms in
    rw (
      c.in-CloseList.is,
      c.after.ensures,
      frames_kept texts ts us c.in_ok-atom-in-CloseList.ensures.heap.terms c.args.frames.now.items c.requires.frames,
      name_tree texts us us c.args.grammar.now.names.now.nil c.in_ok-atom-in-CloseList.field-0 (codes "[]") c.in_ok-atom-in-CloseList.ensures.built known.nil,
    ) refl

pub returns-in_default : goal.returns-in_default
returns-in_default c = record {
  step = λ ops texts known.
      subst (λ s. IfOk c.first_element.result (λ next. state_or_none texts c.first_element.new.heap.now.terms c.first_element.new.frames.items next ≡ s))
      (list_begins ops texts c.args.most (frames_of texts c.args.heap.now.now.terms c.args.frames.now.items) c.args.token.now c.in_default.not-CloseList) (c.first_element.ensures.step ops texts known);
  known = c.first_element.ensures.known;
  frames = c.first_element.ensures.frames;
  state = c.first_element.ensures.state;
  names = c.first_element.ensures.names;
  heap = c.first_element.ensures.heap;
}

pub returns-in_ok-atom-in-CloseList-clause-names : goal.returns-in_ok-atom-in-CloseList-clause-names
returns-in_ok-atom-in-CloseList-clause-names c texts known names =
    record { terms = c.in_ok-atom-in-CloseList.ensures.names texts (is_known texts c.args.grammar.now.names.now.nil (codes "[]") known.nil) names.terms; frames = names.frames }
