use Rattle.std.proofs.Common.{rules, get_or, ◌≡◌, ◌-◌, ◌∙◌, sym, subst, arith}
use Rattle.cq_term.specs.declared.view.View.TheVariants.{Compound}
use Rattle.cq_resolve.specs.Pattern.{AreHeads}
use Rattle.cq_resolve.specs.Marks.{shown}
use Rattle.cq_resolve.proofs.Marks.{sized_leaf, same_shown, same_length}
use Rattle.cq_resolve.proofs.stored.marks.mark.Goals as goal

pub mark_one-requires-clause-fits : goal.mark_one-requires-clause-fits
mark_one-requires-clause-fits c = (c.requires.0, c.requires.1, subst (AreHeads c.requires.0) (sym c.loop-i.invariant.shown) c.requires.2)

pub mark_one-requires-clause-compound : goal.mark_one-requires-clause-compound
mark_one-requires-clause-compound c = λ p.
    let h : shown (get_or c.loop-i.parts.items (c.loop-i.i - 1) p) ≡ Compound c.in-Some.name c.in-Some.arity =
    same_shown c.loop-i.parts.items (c.loop-i.i - 1) c.index.result.now p (omega (arith, c.loop-i.auto.i, same_length c.loop-i.parts.items c.args.parts.now.items c.loop-i.invariant.shown)) c.index.ensures ∙ c.in-Some.ensures.some in
    search (rules, h)

pub loop-i-preserved-in-Continue-1 : goal.loop-i-preserved-in-Continue-1
loop-i-preserved-in-Continue-1 c = record {
  shown = c.mark_one.ensures.shown ∙ c.loop-i.invariant.shown;
  met = λ m h. c.mark_one.ensures.met m (c.loop-i.invariant.met m h);
  sized = c.in_ok-mark_one.ensures.sized;
}

pub loop-i-preserved : goal.loop-i-preserved
loop-i-preserved c = record {
  shown = c.loop-i.invariant.shown;
  met = c.loop-i.invariant.met;
  sized = sized_leaf c.loop-i.parts.items (c.loop-i.i - 1) c.loop-i.i c.index.result.now (omega arith) (omega (arith, c.loop-i.auto.i, same_length c.loop-i.parts.items c.args.parts.now.items c.loop-i.invariant.shown)) c.index.ensures c.in_default.ensures.none c.loop-i.invariant.sized;
}
