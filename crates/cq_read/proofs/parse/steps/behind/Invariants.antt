use Rattle.std.proofs.Common.{◌≡◌, ◌<◌, List, length, vec_len}
use Rattle.spec_numbers.specs.Texts.{Text}
use Rattle.cq_ops.specs.Tables.{named}
use Rattle.spec_syntax.specs.Grammar.{use_of}
use Rattle.spec_syntax.specs.Machine.{after_operand}
use Rattle.cq_term.specs.Trees.{tree}
use Rattle.cq_read.specs.Views.{OnlyGrows, token_of, frames_of, AreLive}
use Rattle.cq_read.specs.Known.{Knows, KnowsNames}
use Rattle.cq_read.proofs.parse.steps.behind.Given as goal

abbrev pub invariant-loop-name : goal.invariant-loop-name
invariant-loop-name l = record {
  frames : AreLive (length l.heap.now.terms) l.frames.items;
  operand : l.a < length l.heap.now.terms;
  same : (texts : List Text) → Knows texts l.grammar.names.now l.token →
      after_operand (named texts l.grammar.ops.now) (frames_of texts l.heap.now.terms l.frames.items) l.m (tree texts l.heap.now.terms l.a) (token_of texts l.token) (use_of (named texts l.grammar.ops.now) l.m l.l (token_of texts l.token))
      ≡ after_operand (named texts l.grammar.ops.now) (frames_of texts l.fn.heap.now.terms l.fn.frames.items) l.fn.most (tree texts l.fn.heap.now.terms l.fn.operand) (token_of texts l.token) (use_of (named texts l.grammar.ops.now) l.fn.most l.fn.priority (token_of texts l.token));
  names : (texts : List Text) → Knows texts l.grammar.names.now l.token → KnowsNames texts l.fn.heap.now.terms l.fn.frames.items → KnowsNames texts l.heap.now.terms l.frames.items;
  heap : OnlyGrows l.fn.heap l.heap;
}

abbrev pub decreases-loop-name : goal.decreases-loop-name
decreases-loop-name l = vec_len l.frames
