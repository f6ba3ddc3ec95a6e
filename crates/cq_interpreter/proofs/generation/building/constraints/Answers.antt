use Rattle.std.proofs.Common.{◌≡◌, ◌≤◌, ◌∙◌, ◌-◌, suc, codes, arith}
use Rattle.std.specs.Prelude.{pred}
use Rattle.spec_syntax.specs.Trees.{binary}
use Rattle.spec_command.specs.Query.{before, upper, uppers}
use Rattle.cq_built.proofs.Growing.{grows_both}
use Rattle.cq_built.proofs.Trees.{kept}
use Rattle.cq_interpreter.proofs.Fronts.{lowers_more}
use Rattle.cq_interpreter.proofs.generation.building.constraints.Goals as goal

pub returns-in_err-rest-2-clause-grows : goal.returns-in_err-rest-2-clause-grows
returns-in_err-rest-2-clause-grows c =
    let first = c.lower in
    grows_both c.args.atoms.now c.loop-place.atoms c.over.new.atoms c.args.heap.now c.loop-place.heap c.over.new.heap c.loop-place.invariant.grows
    (grows_both c.loop-place.atoms first.new.atoms c.over.new.atoms c.loop-place.heap first.new.heap c.over.new.heap first.ensures.grows c.over.ensures.grows)

pub loop-place-preserved : goal.loop-place-preserved
loop-place-preserved c =
    let l = c.loop-place in
    let i = l.invariant in
    let first = c.lower in
    let n = c.args.number in
    let next : l.place ≡ suc (l.place - 1) = omega (arith, c.loop-place-test.true) in
    let within : l.place ≤ n = omega (arith, l.auto.place) in
    let rest = kept l.atoms first.new.atoms l.heap first.new.heap first.ensures.grows (i.grows.names c.requires.names) l.rest i.rest ∙ i.built in
    record {
      rest = c.in_ok-rest-2.ensures.live;
      built = c.in_ok-rest-2.ensures.built ∙ (λ j. binary (codes ",") (c.in_ok-first.ensures.built j) (rest j))
          ∙ lowers_more (l.place - 1) l.place n next within (before (uppers 0 (pred n)) (upper (pred n)));
      grows = grows_both c.args.atoms.now l.atoms c.over.new.atoms c.args.heap.now l.heap c.over.new.heap i.grows
          (grows_both l.atoms first.new.atoms c.over.new.atoms l.heap first.new.heap c.over.new.heap first.ensures.grows c.over.ensures.grows);
    }
