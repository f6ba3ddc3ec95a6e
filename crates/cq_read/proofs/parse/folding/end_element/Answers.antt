use Rattle.std.proofs.Common.{refl, codes}
use Rattle.cq_read.proofs.Kept.{frames_kept, frames_live, prefix_both}
use Rattle.cq_read.proofs.Trees.{elements_closed, is_known, name_tree}
use Rattle.cq_read.proofs.parse.folding.end_element.Goals as goal

pub returns-in_ok-whole-in-CloseList-clause-step : goal.returns-in_ok-whole-in-CloseList-clause-step
returns-in_ok-whole-in-CloseList-clause-step c ops texts known =
    let ts = c.args.heap.now.now.terms in
    let us = c.atom.new.heap.now.terms in
    let vs = c.list.new.heap.now.terms in
    let first = c.in_ok-nil-in-CloseList.ensures.heap.terms in
    let grown = prefix_both ts us vs first c.in_ok-whole-in-CloseList.ensures.heap.terms in
    let nil = name_tree texts us us c.args.names.now.nil c.in_ok-nil-in-CloseList.nil (codes "[]") c.in_ok-nil-in-CloseList.ensures.built known.nil in
    let whole = elements_closed texts ts us first vs c.args.before.items c.push.new.self.items c.args.operand c.in_ok-nil-in-CloseList.nil c.in_ok-whole-in-CloseList.whole
    c.in_ok-push.ensures.items c.requires.before c.requires.operand (c.in_ok-whole-in-CloseList.ensures.list texts known) nil in
    rw (c.in-CloseList.is, frames_kept texts ts vs grown c.args.frames.now.items c.requires.frames, whole) refl

pub returns-in_ok-whole-in-CloseList-clause-frames : goal.returns-in_ok-whole-in-CloseList-clause-frames
returns-in_ok-whole-in-CloseList-clause-frames c =
    let ts = c.args.heap.now.now.terms in
    let us = c.atom.new.heap.now.terms in
    let vs = c.list.new.heap.now.terms in
    frames_live ts vs c.args.frames.now.items (prefix_both ts us vs c.in_ok-nil-in-CloseList.ensures.heap.terms c.in_ok-whole-in-CloseList.ensures.heap.terms) c.requires.frames

pub returns-in_ok-whole-in-CloseList-clause-names : goal.returns-in_ok-whole-in-CloseList-clause-names
returns-in_ok-whole-in-CloseList-clause-names c texts known names = record {
  terms = c.in_ok-whole-in-CloseList.ensures.names texts known (c.in_ok-nil-in-CloseList.ensures.names texts (is_known texts c.args.names.now.nil (codes "[]") known.nil) names.terms);
  frames = names.frames;
}
