use Rattle.std.proofs.Common.{List, Bool, None, arith, refl, ap, sym, subst, ◌∙◌}
use Rattle.spec_simplex.specs.Dictionary.{IsFeasible}
use Rattle.cq_dict.specs.declared.table.Role.{Role}
use Rattle.cq_dict.specs.Roles.{is_restricted}
use Rattle.cq_simplex.specs.Dictionary.{dictionary}
use Rattle.cq_simplex.proofs.Climbing.{stays_carried}
use Rattle.cq_tableau.specs.Levelled.{IsGone, IsLevelled, StaysOff}
use Rattle.cq_tableau.proofs.Goes.{gone_so_far, climbed_on, climbed_there, seen_feasible}
use Rattle.cq_tableau.proofs.level.levelling.climb.Goals as goal

pub loop-init : goal.loop-init
loop-init c = record {
  flags = refl;
  saved = refl;
  room = omega arith;
  climbed = record {
    carried = stays_carried c.args.dict.now.restricted c.args.q c.args.dict.now.roles c.requires.table c.requires.row c.requires.feasible;
    off = c.requires.off;
  };
}

pub nearest-requires-clause-table : goal.nearest-requires-clause-table
nearest-requires-clause-table c = c.loop.invariant.climbed.carried.table

pub nearest-requires-clause-row : goal.nearest-requires-clause-row
nearest-requires-clause-row c = c.loop.invariant.climbed.carried.asked_row

pub nearest-requires-clause-free : goal.nearest-requires-clause-free
nearest-requires-clause-free c = ap (λ f. is_restricted f c.args.q) c.loop.invariant.flags ∙ c.requires.free

pub returns-in_default-clause-climbed : goal.returns-in_default-clause-climbed
returns-in_default-clause-climbed c = c.loop.invariant.climbed

pub exchange-requires-clause-asked : goal.exchange-requires-clause-asked
exchange-requires-clause-asked c = c.loop.invariant.climbed.carried.asked_row

pub exchange-requires-clause-free : goal.exchange-requires-clause-free
exchange-requires-clause-free c = ap (λ f. is_restricted f c.args.q) c.loop.invariant.flags ∙ c.requires.free

pub exchange-requires-clause-off : goal.exchange-requires-clause-off
exchange-requires-clause-off c = c.loop.invariant.climbed.off

pub exchange-requires-clause-feasible : goal.exchange-requires-clause-feasible
exchange-requires-clause-feasible c =
    seen_feasible c.loop.dict.roles c.args.q c.loop.dict.restricted (ap (λ f. is_restricted f c.args.q) c.loop.invariant.flags ∙ c.requires.free) c.args.up
    (subst (λ (f : List Bool). IsFeasible (is_restricted f) (dictionary c.loop.dict.roles c.args.q)) (sym c.loop.invariant.flags) c.loop.invariant.climbed.carried.feasible)

pub exchange-requires-clause-table : goal.exchange-requires-clause-table
exchange-requires-clause-table c = c.loop.invariant.climbed.carried.table

pub returns-in-Ok-Some-clause-climbed : goal.returns-in-Ok-Some-clause-climbed
returns-in-Ok-Some-clause-climbed c =
    let i = c.loop.invariant in
    let rise = c.in-Some.rise in
    let g = subst (IsGone c.args.q c.args.up c.loop.dict.roles c.loop.dict.restricted rise.leaving rise.entering c.exchange.new.dict.roles) c.in-Ok-Some.field-0-is c.in-Ok-Some.ensures.gone in
    climbed_there c.args.q c.args.up c.args.dict.now.roles c.loop.dict.roles c.args.dict.now.restricted i.climbed c.exchange.new.dict.roles c.in-Ok-Some.levelled
    (subst (λ (f : List Bool). IsLevelled c.args.q c.loop.dict.roles f c.exchange.new.dict.roles c.in-Ok-Some.levelled) i.flags
    (gone_so_far c.args.q c.args.up c.loop.dict.roles c.loop.dict.restricted rise.leaving rise.entering c.exchange.new.dict.roles c.in-Ok-Some.levelled g))

pub loop-preserved : goal.loop-preserved
loop-preserved c =
    let i = c.loop.invariant in
    let rise = c.in-Some.rise in
    let x = c.in-Ok-None.ensures in
    let g = subst (IsGone c.args.q c.args.up c.loop.dict.roles c.loop.dict.restricted rise.leaving rise.entering c.exchange.new.dict.roles) c.in-Ok-None.field-0-is x.gone in
    record {
      flags = x.flags ∙ i.flags;
      saved = x.saved ∙ i.saved;
      room = omega (arith, x.room, i.room);
      climbed = climbed_on c.args.q c.args.up c.args.dict.now.roles c.loop.dict.roles c.args.dict.now.restricted i.climbed rise.leaving rise.entering c.exchange.new.dict.roles
          (subst (λ (f : List Bool). IsGone c.args.q c.args.up c.loop.dict.roles f rise.leaving rise.entering c.exchange.new.dict.roles None) i.flags g);
    }

pub returns-in-Err-clause-climbed : goal.returns-in-Err-clause-climbed
returns-in-Err-clause-climbed c =
    subst (λ (r : List Role). StaysOff c.args.q c.args.up c.args.dict.now.roles c.args.dict.now.restricted r) (sym c.in-Err.ensures.err) c.loop.invariant.climbed

pub returns-clause-climbed : goal.returns-clause-climbed
returns-clause-climbed c = c.loop.invariant.climbed
