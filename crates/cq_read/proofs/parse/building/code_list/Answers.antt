use Rattle.std.proofs.Common.{◌≡◌, ◌∙◌, ap, map, codes}
use Rattle.std.specs.Prelude.{reverse}
use Rattle.spec_syntax.specs.Machine.{with_elements_before}
use Rattle.cq_read.proofs.Kept.{grows_both}
use Rattle.cq_read.proofs.Trees.{code_more, is_known, listed, name_tree}
use Rattle.cq_term.specs.Trees.{tree}
use Rattle.spec_syntax.specs.Trees.{natural, nil}
use Rattle.spec_terms.specs.Term.{Number}
use Rattle.cq_read.proofs.parse.building.code_list.Goals as goal

pub loop-c-init : goal.loop-c-init
loop-c-init c = record {
  whole = c.in_ok-whole.ensures.live;
  list = λ texts known.
      let us = c.atom.new.heap.now.terms in
      let end : tree texts us c.in_ok-whole.whole ≡ nil = name_tree texts us us c.args.names.now.nil c.in_ok-whole.whole (codes "[]") c.in_ok-whole.ensures.built known.nil in
      (λ i. with_elements_before (reverse (map natural (c.in_ok-left.ensures i))) (end i)) ∙ listed (map natural _);
  names = λ texts known. c.in_ok-whole.ensures.names texts (is_known texts c.args.names.now.nil (codes "[]") known.nil);
  heap = c.atom.ensures.heap;
}

pub loop-c-preserved : goal.loop-c-preserved
loop-c-preserved c =
    let ts = c.loop-c.heap.now.terms in
    let ns = c.number.new.heap.now.terms in
    let us = c.compound.new.heap.now.terms in
    record {
      whole = c.in_ok-whole-2.ensures.live;
      list = λ texts known. code_more texts ts ns us c.in_ok-element.ensures.heap.terms c.args.names.now.dot c.in_ok-element.element c.loop-c.whole c.in_ok-whole-2.whole c.in-Some.c c.loop-c.left.items c.pop.new.self.items _
          c.in-Some.ensures.items c.loop-c.invariant.whole c.in_ok-whole-2.ensures.built known.dot
          (c.in_ok-element.ensures.built ∙ ap (λ q. Number q) c.code.ensures) (c.loop-c.invariant.list texts known);
      names = λ texts known all. c.in_ok-whole-2.ensures.names texts (is_known texts c.args.names.now.dot (codes ".") known.dot)
          (c.in_ok-element.ensures.names texts (c.loop-c.invariant.names texts known all));
      heap = grows_both c.args.heap.now c.loop-c.heap c.compound.new.heap c.loop-c.invariant.heap (grows_both c.loop-c.heap c.number.new.heap c.compound.new.heap c.number.ensures.heap c.compound.ensures.heap);
    }
