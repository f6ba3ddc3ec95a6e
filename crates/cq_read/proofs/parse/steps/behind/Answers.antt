use Rattle.std.proofs.Common.{◌≡◌, refl, sym, arith, []}
use Rattle.std.proofs.lemmas.Grind.{common_steps}
use Rattle.cq_ops.specs.Tables.{named}
use Rattle.cq_read.proofs.Kept.{frames_kept, frames_live, frames_push, grows_both}
use Rattle.cq_read.proofs.Trees.{unary_tree}
use Rattle.cq_read.proofs.ParseNaming.{names_pop, names_push}
use Rattle.cq_read.proofs.parse.steps.behind.Goals as goal

pub returns-in-Postfix-clause-step : goal.returns-in-Postfix-clause-step
returns-in-Postfix-clause-step c texts known =
    let ts = c.loop-name.heap.now.terms in
    let us = c.compound.new.heap.now.terms in
    rw (
      ← c.loop-name.invariant.same texts known,
      sym (c.in-Postfix.ensures.by_text texts known),
      frames_kept texts ts us c.in_ok-operand-in-Postfix.ensures.heap.terms c.loop-name.frames.items c.loop-name.invariant.frames,
      unary_tree texts ts us c.in-Postfix.name c.loop-name.a c.in_ok-operand-in-Postfix.operand c.in_ok-operand-in-Postfix.ensures.built,
    ) refl

pub returns-in-Postfix-clause-frames : goal.returns-in-Postfix-clause-frames
returns-in-Postfix-clause-frames c =
    frames_live c.loop-name.heap.now.terms c.compound.new.heap.now.terms c.loop-name.frames.items c.in_ok-operand-in-Postfix.ensures.heap.terms c.loop-name.invariant.frames

pub returns-in-None-clause-step : goal.returns-in-None-clause-step
returns-in-None-clause-step c texts known =
    let old : c.loop-name.frames.items ≡ [] = grind (arith, common_steps, c.in-None.ensures.variant) in
    let new : c.pop.new.self.items ≡ [] = grind (arith, common_steps, c.in-None.ensures.rest, old) in
    rw (← c.loop-name.invariant.same texts known, sym (c.in-Outside.ensures.by_text texts known), old, new) (c.whole.ensures.step (named texts c.args.grammar.now.ops.now) texts c.loop-name.heap.now.terms)

pub returns-in-Done-clause-step : goal.returns-in-Done-clause-step
returns-in-Done-clause-step c texts known =
    let done = rw c.in-Done.is at (c.in_ok-next-in-Some.ensures.folds (named texts c.args.grammar.now.ops.now) texts c.loop-name.m known.grammar) in
    rw (← c.loop-name.invariant.same texts known, sym (c.in-Outside.ensures.by_text texts known), c.in-Some.ensures.items, frames_push) done

pub loop-name-preserved : goal.loop-name-preserved
loop-name-preserved c =
    let folded = c.in_ok-next-in-Some.ensures in
    record {
      frames = folded.frames;
      operand = rw c.in-Operand.is at folded.folded;
      same = λ texts known.
          let operand = rw c.in-Operand.is at (folded.folds (named texts c.args.grammar.now.ops.now) texts c.loop-name.m known.grammar) in
          rw (← c.loop-name.invariant.same texts known, sym (c.in-Outside.ensures.by_text texts known), c.in-Some.ensures.items, frames_push) operand;
      names = λ texts known names.
          let popped = names_pop texts c.loop-name.heap.now.terms c.loop-name.frames.items c.pop.new.self.items c.in-Some.frame c.in-Some.ensures.items (c.loop-name.invariant.names texts known names) in
          folded.names texts known.grammar popped.1 popped.0;
      heap = grows_both c.args.heap.now c.loop-name.heap c.fold.new.heap c.loop-name.invariant.heap c.fold.ensures.heap;
    }

pub returns-in-Done-clause-known : goal.returns-in-Done-clause-known
returns-in-Done-clause-known c texts = rw c.in-Done.is at (c.in_ok-next-in-Some.ensures.known texts)

pub returns-in-Infix-clause-names : goal.returns-in-Infix-clause-names
returns-in-Infix-clause-names c texts known names =
    names_push texts c.loop-name.heap.now.terms c.loop-name.frames.items c.push.new.self.items _ c.in_ok-push-in-Infix.ensures.items (c.in-Infix.ensures.known texts known) (c.loop-name.invariant.names texts known names)

pub returns-in-Postfix-clause-names : goal.returns-in-Postfix-clause-names
returns-in-Postfix-clause-names c texts known names =
    let before = c.loop-name.invariant.names texts known names in
    record { terms = c.in_ok-operand-in-Postfix.ensures.names texts (c.in-Postfix.ensures.known texts known) before.terms; frames = before.frames }

pub returns-in-Done-clause-names : goal.returns-in-Done-clause-names
returns-in-Done-clause-names c texts known names =
    let popped = names_pop texts c.loop-name.heap.now.terms c.loop-name.frames.items c.pop.new.self.items c.in-Some.frame c.in-Some.ensures.items (c.loop-name.invariant.names texts known names) in
    c.in_ok-next-in-Some.ensures.names texts known.grammar popped.1 popped.0
