use Rattle.std.proofs.Common.{subst, arith, length}
use Rattle.cq_term.specs.Texts.{KeepsTexts}
use Rattle.cq_read.specs.Running.{Turned}
use Rattle.cq_read.proofs.Growth.{grows_both}
use Rattle.cq_read.proofs.Running.{grammar_kept, stopped}
use Rattle.cq_read.proofs.reading.read_tokens.Goals as goal

pub returns-in_err-stops-clause-heap : goal.returns-in_err-stops-clause-heap
returns-in_err-stops-clause-heap c = grows_both c.args.heap.now c.loop-from.heap c.read_token.new.heap c.loop-from.invariant.heap c.read_token.ensures.heap

pub loop-from-smaller : goal.loop-from-smaller
loop-from-smaller c =
    let n = length c.args.heap.now.now.images in
    let on = subst (Turned c.args.grammar.now.ops.now c.args.text.now c.args.from n c.read_token.new.atoms c.read_token.new.heap.now c.read_token.new.clause c.loop-from.place) c.in-Goes.is
    (c.in_ok-stops.ensures.turned n c.loop-from.invariant.running) in
    omega (arith, on.0, on.1.fits)

pub loop-from-preserved : goal.loop-from-preserved
loop-from-preserved c =
    let n = length c.args.heap.now.now.images in
    let on = subst (Turned c.args.grammar.now.ops.now c.args.text.now c.args.from n c.read_token.new.atoms c.read_token.new.heap.now c.read_token.new.clause c.loop-from.place) c.in-Goes.is
    (c.in_ok-stops.ensures.turned n c.loop-from.invariant.running) in
    record {
      running = on.1;
      known = λ texts keeps different before.
          let on : KeepsTexts c.loop-from.atoms texts = λ i x e. keeps i x (c.read_token.ensures.kept i x e) in
          c.in_ok-stops.ensures.known texts (record {
            kept = keeps;
            different = different;
            grammar = grammar_kept c.args.atoms.now texts c.args.grammar.now.names.now (λ i x e. on i x (c.loop-from.invariant.kept i x e)) c.requires.names;
            state = c.loop-from.invariant.running.known texts on;
          }) (c.loop-from.invariant.known texts on different before);
      heap = grows_both c.args.heap.now c.loop-from.heap c.read_token.new.heap c.loop-from.invariant.heap c.read_token.ensures.heap;
      kept = λ i x e. c.read_token.ensures.kept i x (c.loop-from.invariant.kept i x e);
      different = c.read_token.ensures.different;
    }

pub returns-in_default-clause-read : goal.returns-in_default-clause-read
returns-in_default-clause-read c =
    let n = length c.args.heap.now.now.images in
    stopped c.args.grammar.now.ops.now c.args.text.now c.args.from n c.read_token.new.atoms c.read_token.new.heap.now c.read_token.new.clause c.loop-from.place c.in_ok-stops.stops c.in_default.not-Goes
    (c.in_ok-stops.ensures.turned n c.loop-from.invariant.running)

pub returns-in_default-clause-heap : goal.returns-in_default-clause-heap
returns-in_default-clause-heap c = grows_both c.args.heap.now c.loop-from.heap c.read_token.new.heap c.loop-from.invariant.heap c.read_token.ensures.heap

pub returns-in_default-clause-known : goal.returns-in_default-clause-known
returns-in_default-clause-known c texts keeps different before =
    let on : KeepsTexts c.loop-from.atoms texts = λ i x e. keeps i x (c.read_token.ensures.kept i x e) in
    c.in_ok-stops.ensures.known texts (record {
      kept = keeps;
      different = different;
      grammar = grammar_kept c.args.atoms.now texts c.args.grammar.now.names.now (λ i x e. on i x (c.loop-from.invariant.kept i x e)) c.requires.names;
      state = c.loop-from.invariant.running.known texts on;
    }) (c.loop-from.invariant.known texts on different before)
