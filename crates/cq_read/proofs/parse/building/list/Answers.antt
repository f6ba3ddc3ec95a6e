use Rattle.std.proofs.Common.{◌<◌, length, codes, subst, ◌∷◌, [], All}
use Rattle.cq_read.proofs.Kept.{all_front, prefix_all, grows_both}
use Rattle.cq_read.proofs.Trees.{is_known, list_more}
use Rattle.cq_read.proofs.parse.building.list.Goals as goal

pub loop-element-preserved : goal.loop-element-preserved
loop-element-preserved c =
    let ts = c.loop-element.heap.now.terms in
    let us = c.compound.new.heap.now.terms in
    let grown = c.in_ok-whole.ensures.heap.terms in
    let split = c.in-Some.ensures.items in
    let rest = c.pop.new.self.items in
    record {
      elements = prefix_all ts us rest grown (all_front (λ i. i < length ts) rest (c.in-Some.element ∷ []) (subst (All (λ i. i < length ts)) split c.loop-element.invariant.elements));
      whole = c.in_ok-whole.ensures.live;
      list = λ texts known. list_more texts ts us grown c.args.names.now.dot c.in-Some.element c.loop-element.whole c.in_ok-whole.whole c.loop-element.left.items rest _ split
          c.loop-element.invariant.elements c.in_ok-whole.ensures.built known.dot (c.loop-element.invariant.list texts known);
      names = λ texts known all. c.in_ok-whole.ensures.names texts (is_known texts c.args.names.now.dot (codes ".") known.dot) (c.loop-element.invariant.names texts known all);
      heap = grows_both c.args.heap.now c.loop-element.heap c.compound.new.heap c.loop-element.invariant.heap c.compound.ensures.heap;
    }
