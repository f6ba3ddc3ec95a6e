use Rattle.std.proofs.Common.{refl}
use Rattle.cq_read.proofs.Kept.{frames_kept, frames_live}
use Rattle.cq_read.proofs.Trees.{binary_tree, unary_tree}
use Rattle.cq_read.proofs.parse.folding.fold.Goals as goal

pub returns-in_ok-operand-in-RightOf-clause-folds : goal.returns-in_ok-operand-in-RightOf-clause-folds
returns-in_ok-operand-in-RightOf-clause-folds c ops texts m known =
    let ts = c.args.heap.now.now.terms in
    let us = c.compound.new.heap.now.terms in
    rw (
      c.in-RightOf.is,
      frames_kept texts ts us c.in_ok-operand-in-RightOf.ensures.heap.terms c.args.frames.now.items c.requires.frames,
      binary_tree texts ts us c.in-RightOf.name c.in-RightOf.left c.args.operand c.in_ok-operand-in-RightOf.operand c.in_ok-operand-in-RightOf.ensures.built,
    ) refl

pub returns-in_ok-operand-in-RightOf-clause-frames : goal.returns-in_ok-operand-in-RightOf-clause-frames
returns-in_ok-operand-in-RightOf-clause-frames c =
    frames_live c.args.heap.now.now.terms c.compound.new.heap.now.terms c.args.frames.now.items c.in_ok-operand-in-RightOf.ensures.heap.terms c.requires.frames

pub returns-in_ok-operand-in-OperandOf-clause-folds : goal.returns-in_ok-operand-in-OperandOf-clause-folds
returns-in_ok-operand-in-OperandOf-clause-folds c ops texts m known =
    let ts = c.args.heap.now.now.terms in
    let us = c.compound-in-OperandOf.new.heap.now.terms in
    rw (
      c.in-OperandOf.is,
      frames_kept texts ts us c.in_ok-operand-in-OperandOf.ensures.heap.terms c.args.frames.now.items c.requires.frames,
      unary_tree texts ts us c.in-OperandOf.name c.args.operand c.in_ok-operand-in-OperandOf.operand c.in_ok-operand-in-OperandOf.ensures.built,
    ) refl

pub returns-in-InGroup-clause-folds : goal.returns-in-InGroup-clause-folds
returns-in-InGroup-clause-folds c ops texts m known = rw c.in-InGroup.is (c.end_group.ensures.step ops texts c.args.heap.now.now.terms c.args.frames.now.items)

pub returns-in_ok-end_curly-in-InCurly-clause-folds : goal.returns-in_ok-end_curly-in-InCurly-clause-folds
returns-in_ok-end_curly-in-InCurly-clause-folds c ops texts m known = rw c.in-InCurly.is (c.in_ok-end_curly-in-InCurly.ensures.step ops texts c.args.frames.now.items known c.requires.frames)

pub returns-in_ok-end_argument-in-InArguments-clause-folds : goal.returns-in_ok-end_argument-in-InArguments-clause-folds
returns-in_ok-end_argument-in-InArguments-clause-folds c ops texts m known = rw c.in-InArguments.is (c.in_ok-end_argument-in-InArguments.ensures.step ops texts)

pub returns-in_ok-end_element-in-InElements-clause-folds : goal.returns-in_ok-end_element-in-InElements-clause-folds
returns-in_ok-end_element-in-InElements-clause-folds c ops texts m known = rw c.in-InElements.is (c.in_ok-end_element-in-InElements.ensures.step ops texts known)

pub returns-in_ok-end_tail-in-InTail-clause-folds : goal.returns-in_ok-end_tail-in-InTail-clause-folds
returns-in_ok-end_tail-in-InTail-clause-folds c ops texts m known = rw c.in-InTail.is (c.in_ok-end_tail-in-InTail.ensures.step ops texts c.args.frames.now.items known c.requires.frames)

pub returns-in_ok-operand-in-RightOf-clause-names : goal.returns-in_ok-operand-in-RightOf-clause-names
returns-in_ok-operand-in-RightOf-clause-names c texts known frame names =
    record { terms = c.in_ok-operand-in-RightOf.ensures.names texts (rw c.in-RightOf.is at frame) names.terms; frames = names.frames }

pub returns-in_ok-operand-in-OperandOf-clause-names : goal.returns-in_ok-operand-in-OperandOf-clause-names
returns-in_ok-operand-in-OperandOf-clause-names c texts known frame names =
    record { terms = c.in_ok-operand-in-OperandOf.ensures.names texts (rw c.in-OperandOf.is at frame) names.terms; frames = names.frames }

pub returns-in_ok-end_curly-in-InCurly-clause-names : goal.returns-in_ok-end_curly-in-InCurly-clause-names
returns-in_ok-end_curly-in-InCurly-clause-names c texts known frame names =
    record { terms = c.in_ok-end_curly-in-InCurly.ensures.names texts known names.terms; frames = names.frames }

pub returns-in_ok-end_argument-in-InArguments-clause-names : goal.returns-in_ok-end_argument-in-InArguments-clause-names
returns-in_ok-end_argument-in-InArguments-clause-names c texts known frame names = c.in_ok-end_argument-in-InArguments.ensures.names texts (rw c.in-InArguments.is at frame) names

pub returns-in_ok-end_element-in-InElements-clause-names : goal.returns-in_ok-end_element-in-InElements-clause-names
returns-in_ok-end_element-in-InElements-clause-names c texts known frame names = c.in_ok-end_element-in-InElements.ensures.names texts known names

pub returns-in_ok-end_tail-in-InTail-clause-names : goal.returns-in_ok-end_tail-in-InTail-clause-names
returns-in_ok-end_tail-in-InTail-clause-names c texts known frame names =
    record { terms = c.in_ok-end_tail-in-InTail.ensures.names texts known names.terms; frames = names.frames }
