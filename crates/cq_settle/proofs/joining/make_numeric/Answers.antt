use Rattle.std.proofs.Common.{◌≡◌, ◌<◌, ◌≤◌, ◌∙◌, ap, sym, refl, subst, length, get_or, arith, List}
use Rattle.std.specs.Prelude.{All}
use Rattle.std.proofs.lemmas.List.{take_all}
use Rattle.std.proofs.lemmas.List.Elements.{All-get_or}
use Rattle.spec_terms.specs.Variables.{variables}
use Rattle.cq_frac.specs.declared.VarId.{VarId}
use Rattle.cq_term.specs.HeapValue.{Terms}
use Rattle.cq_term.specs.Meaning.{at}
use Rattle.cq_term.specs.Shown.{IsUnbound}
use Rattle.cq_term.specs.Places.{numbers_of}
use Rattle.cq_settle.proofs.Marked.{all_numeric, all_unbound, all_told}
use Rattle.cq_settle.proofs.Marks.{marks_more}
use Rattle.cq_settle.proofs.joining.make_numeric.Goals as goal

pub vars_of-requires : goal.vars_of-requires
vars_of-requires c =
    let i = c.loop-term.term-index in
    let at : i < length c.args.told.now = omega (arith, c.loop-term-test.true) in
    let terms = c.args.world.now.heap.now.terms in
    subst (λ h. c.term-item.result < length h.terms) (sym c.loop-term.invariant.heap)
    (subst (λ id. id < length terms) (sym c.term-item.is) (All-get_or (λ id. id < length terms) c.args.told.now i c.term-item.result at c.requires))

pub loop-term-preserved : goal.loop-term-preserved
loop-term-preserved c =
    let i = c.loop-term.term-index in
    let old = c.args.world.now in
    let told = c.args.told.now in
    let l = c.loop-term in
    let here : i < length told = omega (arith, c.loop-term-test.true) in
    let d = c.term-item.result in
    let vs = c.deref.result.now in
    let images = old.heap.now.images in
    let terms = old.heap.now.terms in
    let these : numbers_of vs ≡ variables (at terms (get_or told i d)) =
    ap numbers_of c.deref.ensures.value ∙ c.in_ok-variables.ensures.variables ∙ ap (λ (h : Terms). variables (at h.terms d)) l.invariant.heap ∙ ap (λ id. variables (at terms id)) c.term-item.is in
    record {
      numeric = all_numeric images terms told i d here vs these old.attrs.now l.world.attrs.now c.make_each_numeric.new.attrs.now l.invariant.numeric c.in_ok-make_each_numeric.ensures.numeric;
      unbound = all_unbound images terms told i d here vs these l.invariant.unbound
          (subst (λ (xs : List VarId). All (λ (v : VarId). IsUnbound images v.0) xs) (sym c.deref.ensures.value)
          (subst (λ (h : Terms). All (λ (v : VarId). IsUnbound h.images v.0) c.in_ok-variables.variables.items) l.invariant.heap c.in_ok-variables.ensures.unbound));
      told = all_told images terms told i d here vs these l.fixed.items c.make_each_numeric.new.fixed.items c.in_ok-make_each_numeric.ensures.told l.invariant.told;
      still = λ v h. c.make_each_numeric.ensures.still v (l.invariant.still v h);
      waiting = c.make_each_numeric.ensures.waiting ∙ l.invariant.waiting;
      heap = l.invariant.heap;
      store = l.invariant.store;
      marks = marks_more old l.world _ l.invariant.marks refl (omega arith) c.make_each_numeric.ensures.saved c.make_each_numeric.ensures.room refl (omega arith) refl;
    }

pub returns-clause-unbound : goal.returns-clause-unbound
returns-clause-unbound c =
    let all : length c.args.told.now ≤ c.loop-term.term-index = omega (arith, c.loop-term-test.false) in
    rw (take_all c.loop-term.term-index c.args.told.now all) at c.loop-term.invariant.unbound

pub returns-clause-told : goal.returns-clause-told
returns-clause-told c =
    let all : length c.args.told.now ≤ c.loop-term.term-index = omega (arith, c.loop-term-test.false) in
    rw (take_all c.loop-term.term-index c.args.told.now all) at c.loop-term.invariant.told
