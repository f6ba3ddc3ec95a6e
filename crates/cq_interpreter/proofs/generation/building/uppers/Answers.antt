use Rattle.std.proofs.Common.{◌≡◌, ◌≤◌, ◌∙◌, ◌-◌, suc, codes, arith}
use Rattle.spec_syntax.specs.Trees.{binary}
use Rattle.spec_command.specs.Query.{upper}
use Rattle.cq_built.proofs.Growing.{grows_both}
use Rattle.cq_built.proofs.Trees.{kept}
use Rattle.cq_interpreter.proofs.Fronts.{uppers_more}
use Rattle.cq_interpreter.proofs.generation.building.uppers.Goals as goal

pub returns-in_err-rest-2-clause-grows : goal.returns-in_err-rest-2-clause-grows
returns-in_err-rest-2-clause-grows c =
    let first = c.upper-in-loop-number in
    grows_both c.args.atoms.now c.loop-number.atoms c.over.new.atoms c.args.heap.now c.loop-number.heap c.over.new.heap c.loop-number.invariant.grows
    (grows_both c.loop-number.atoms first.new.atoms c.over.new.atoms c.loop-number.heap first.new.heap c.over.new.heap first.ensures.grows c.over.ensures.grows)

pub loop-number-preserved : goal.loop-number-preserved
loop-number-preserved c =
    let l = c.loop-number in
    let i = l.invariant in
    let first = c.upper-in-loop-number in
    let next : l.number ≡ suc (l.number - 1) = omega (arith, c.loop-number-test.true) in
    let within : l.number ≤ c.args.last = omega (arith, l.auto.number) in
    let rest = kept l.atoms first.new.atoms l.heap first.new.heap first.ensures.grows (i.grows.names c.requires.names) l.rest i.rest ∙ i.built in
    record {
      rest = c.in_ok-rest-2.ensures.live;
      built = c.in_ok-rest-2.ensures.built ∙ (λ j. binary (codes ",") (c.in_ok-first.ensures.built j) (rest j))
          ∙ uppers_more (l.number - 1) l.number c.args.last next within (upper c.args.last);
      grows = grows_both c.args.atoms.now l.atoms c.over.new.atoms c.args.heap.now l.heap c.over.new.heap i.grows
          (grows_both l.atoms first.new.atoms c.over.new.atoms l.heap first.new.heap c.over.new.heap first.ensures.grows c.over.ensures.grows);
    }
