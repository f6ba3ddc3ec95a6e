use Rattle.std.proofs.Common.{◌∙◌, arith, refl, subst}
use Rattle.spec_numbers.proofs.Order.{le_refl, le_trans}
use Rattle.cq_dict.proofs.Roles.{at_below}
use Rattle.cq_dict.specs.declared.table.Role.TheVariants.{Basic}
use Rattle.cq_simplex.specs.Climbs.{IsRise}
use Rattle.cq_simplex.proofs.Climbing.{stays_carried, carried_on, rises_on, rise_entry}
use Rattle.cq_simplex.proofs.climb.climb.Goals as goal

pub prove-unreachable-requires : goal.prove-unreachable-requires
prove-unreachable-requires c = omega (arith, c.if-prove.true, c.count.ensures.value, at_below c.args.dict.now.roles c.args.row (Basic c.requires.row.0) c.requires.row.1)

pub loop-init : goal.loop-init
loop-init c = record {
  flags = refl;
  saved = refl;
  room = omega arith;
  carried = stays_carried c.args.dict.now.restricted c.args.row c.args.dict.now.roles c.count.ensures.table c.requires.row c.requires.feasible;
  higher = le_refl _;
}

pub pivot-requires : goal.pivot-requires
pivot-requires c = rise_entry c.loop.dict.restricted c.args.row c.loop.dict.roles c.in-Some.rise.entering c.in-Some.rise.leaving c.in-Some.ensures.raises c.in-Some.ensures.leaves

pub loop-preserved : goal.loop-preserved
loop-preserved c =
    let x = c.in-Ok.ensures in
    let old = c.args.dict.now in
    let is = subst (λ f. IsRise c.loop.dict.roles f c.args.row c.in-Some.rise) c.loop.invariant.flags c.in-Some.ensures in
    let carried = c.loop.invariant.carried in
    record {
      flags = x.flags ∙ c.loop.invariant.flags;
      saved = x.saved ∙ c.loop.invariant.saved;
      room = omega (arith, x.room, c.loop.invariant.room);
      carried = carried_on old.restricted c.args.row c.loop.dict.roles c.in-Some.rise.entering c.in-Some.rise.leaving is.raises is.leaves old.roles c.pivot.new.self.roles carried x.same x.kinds x.table;
      higher = le_trans c.loop.invariant.higher
          (rises_on old.restricted c.args.row c.loop.dict.roles c.in-Some.rise.entering c.in-Some.rise.leaving is.raises is.leaves old.roles c.pivot.new.self.roles carried x.same x.kinds x.table);
    }

pub returns-then-is_some-clause-higher : goal.returns-then-is_some-clause-higher
returns-then-is_some-clause-higher c = le_refl _
