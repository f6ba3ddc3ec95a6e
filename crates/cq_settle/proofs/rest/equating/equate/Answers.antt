use Rattle.std.proofs.Common.{◌≡◌, ◌<◌, [], Ok, List, length, ap, ◌∙◌, sym, subst, arith}
use Rattle.std.specs.Prelude.{All}
use Rattle.cq_frac.specs.declared.VarId.{VarId}
use Rattle.cq_term.specs.HeapValue.{HeapValue}
use Rattle.cq_term.specs.Names.{HasNamesBelow}
use Rattle.cq_settle.specs.Equal.{AllEqual}
use Rattle.cq_settle.proofs.Pairs.{equal_start, next_equal, next_none}
use Rattle.cq_settle.proofs.rest.equating.equate.Goals as goal

pub loop-pair-init : goal.loop-pair-init
loop-pair-init c =
    let old = c.args.heap.now in
    let new = c.spare_newly-newly.new.self in
    let same : new ≡ old = c.spare_newly-newly.ensures.same in
    let equal : AllEqual old.now new.now [] [] = subst (λ (h : HeapValue). AllEqual old.now h.now [] []) (sym same) (equal_start old.now) in
    record {
      equal = subst (λ (vs : List VarId). AllEqual old.now new.now [] vs) (sym c.spare_newly-newly.ensures.empty) equal;
      names = λ n k. subst (λ (h : HeapValue). All (HasNamesBelow n) h.now.terms) (sym same) k;
      saved = ap (λ (h : HeapValue). h.saved) same;
      room = let equal_room : new.room ≡ old.room = ap (λ (h : HeapValue). h.room) same in omega (arith, equal_room);
    }

pub returns-then-not-branch-clause-none : goal.returns-then-not-branch-clause-none
returns-then-not-branch-clause-none c = λ _.
    let here : c.loop-pair.pair-index < length c.args.pairs.now = omega (arith, c.loop-pair-test.true) in
    next_none c.args.heap.now.now c.loop-pair.heap.now c.args.pairs.now c.loop-pair.pair-index c.pair-item.result c.pair-item.is c.loop-pair.newly here c.requires
    c.loop-pair.invariant.equal (c.in_ok-unify_unmarked.ensures.none (ap Ok c.if-not-branch.true))

pub loop-pair-preserved : goal.loop-pair-preserved
loop-pair-preserved c =
    let here : c.loop-pair.pair-index < length c.args.pairs.now = omega (arith, c.loop-pair-test.true) in
    record {
      equal = next_equal c.args.heap.now.now c.loop-pair.heap.now c.args.pairs.now c.loop-pair.pair-index c.pair-item.result c.pair-item.is c.loop-pair.newly here c.requires
          c.loop-pair.invariant.equal c.unify_unmarked.new.heap.now c.unify_unmarked.new.newly (c.in_ok-unify_unmarked.ensures.unified (ap Ok c.if-not-branch.false));
      names = λ n k. c.in_ok-unify_unmarked.ensures.names n (c.loop-pair.invariant.names n k);
      saved = c.in_ok-unify_unmarked.ensures.saved ∙ c.loop-pair.invariant.saved;
      room = omega (arith, c.in_ok-unify_unmarked.ensures.room, c.loop-pair.invariant.room);
    }
