use Rattle.std.proofs.Common.{◌≡◌, ◌∷◌, ◌++◌, [], ◌∙◌, ap, refl, arith}
use Rattle.cq_goals.specs.declared.halves.Frame.{Frame}
use Rattle.cq_goals.specs.declared.halves.Frame.TheVariants as frame
use Rattle.cq_goals.proofs.Splitting.{right_next, right_work, frame_over, frame_over_live, frame_over_work}
use Rattle.cq_goals.proofs.halves.next_side.Goals as goal

pub returns-in-Some-left_sides-clause-leads : goal.returns-in-Some-left_sides-clause-leads
returns-in-Some-left_sides-clause-leads c = λ texts ts all.
    let old = c.pop.new.self.items in
    right_next texts ts old c.loop-frame.path.items c.in-Some-left_sides.sides c.enter.new.path.items _
    (c.in-Some.ensures.items ∙ ap (λ (f : Frame). old ++ f ∷ []) c.in-Some-left_sides.ensures.some) c.in_ok-enter.ensures (c.loop-frame.invariant.live texts ts all) (c.loop-frame.invariant.leads texts ts)

pub returns-in-Some-left_sides-clause-less : goal.returns-in-Some-left_sides-clause-less
returns-in-Some-left_sides-clause-less c = λ ts.
    let old = c.pop.new.self.items in
    let items : c.loop-frame.path.items ≡ old ++ frame.Left c.in-Some-left_sides.sides ∷ [] = c.in-Some.ensures.items ∙ ap (λ (f : Frame). old ++ f ∷ []) c.in-Some-left_sides.ensures.some in
    let work = right_work [] ts old c.loop-frame.path.items c.in-Some-left_sides.sides c.enter.new.path.items items c.in_ok-enter.ensures in
    omega (arith, work, c.loop-frame.invariant.less ts)

pub loop-frame-preserved : goal.loop-frame-preserved
loop-frame-preserved c =
    let old = c.pop.new.self.items in
    let path = c.loop-frame.path.items in
    record {
      leads = λ texts ts. frame_over old path c.in-Some.frame (c.in_default-left_sides.ensures.none refl) c.in-Some.ensures.items texts ts ∙ c.loop-frame.invariant.leads texts ts;
      live = λ texts ts all. frame_over_live old path c.in-Some.frame c.in-Some.ensures.items texts ts (c.loop-frame.invariant.live texts ts all);
      less = λ ts. (let work = frame_over_work old path c.in-Some.frame c.in-Some.ensures.items ts in omega (arith, work, c.loop-frame.invariant.less ts));
    }
