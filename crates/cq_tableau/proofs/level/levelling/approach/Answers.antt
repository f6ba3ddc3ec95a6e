use Rattle.std.proofs.Common.{◌≡◌, ℕ, List, Bool, arith, ap, sym, subst, ◌∙◌}
use Rattle.cq_dict.specs.Roles.{is_restricted}
use Rattle.cq_simplex.specs.declared.SimplexFault.TheVariants.{Pivots}
use Rattle.cq_simplex.proofs.Climbing.{stays_carried}
use Rattle.cq_tableau.specs.Levelled.{GoesOn, IsGone, IsNext, IsLevelled, SpendsLevel}
use Rattle.cq_tableau.specs.declared.level.levelling.Step.TheVariants.{Exchange}
use Rattle.cq_tableau.proofs.Goes.{begins_here, carried_stays, due_nears, ended, stays_on, stays_further, gone_so_far, one_further, spent_level, same_fault}
use Rattle.cq_tableau.proofs.level.levelling.approach.Goals as goal

pub loop-init : goal.loop-init
loop-init c =
    begins_here c.args.q c.args.up c.args.dict.now c.requires.row c.requires.free c.requires.off c.requires.feasible c.requires.table

pub returns-in-Ends-clause-levelled : goal.returns-in-Ends-clause-levelled
returns-in-Ends-clause-levelled c =
    let i = c.loop.invariant in
    let n = subst (IsNext c.loop.dict.roles c.loop.dict.restricted c.args.q c.args.up) c.in-Ends.is c.in_ok-levelled.ensures.next in
    stays_on c.args.q c.args.dict.now.roles c.loop.dict.roles c.args.dict.now.restricted i.stays c.loop.dict.roles c.in-Ends.levelled
    (subst (λ (f : List Bool). IsLevelled c.args.q c.loop.dict.roles f c.loop.dict.roles c.in-Ends.levelled) i.flags
    (ended c.args.q c.args.up c.loop.dict.roles c.loop.dict.restricted i.stays.row i.table (ap (λ f. is_restricted f c.args.q) i.flags ∙ c.requires.free) i.off c.in-Ends.levelled n))

pub exchange-requires-clause-nearing : goal.exchange-requires-clause-nearing
exchange-requires-clause-nearing c =
    due_nears c.args.q c.args.up c.loop.dict.roles c.loop.dict.restricted c.in-Exchange.row c.in-Exchange.column
    (subst (IsNext c.loop.dict.roles c.loop.dict.restricted c.args.q c.args.up) c.in-Exchange.is c.in_ok-levelled.ensures.next)

pub returns-in-Some-clause-levelled : goal.returns-in-Some-clause-levelled
returns-in-Some-clause-levelled c =
    let i = c.loop.invariant in
    let g = subst (IsGone c.args.q c.args.up c.loop.dict.roles c.loop.dict.restricted c.in-Exchange.row c.in-Exchange.column c.exchange.new.dict.roles) c.in-Some.is c.in_ok-levelled-in-Exchange.ensures.gone in
    stays_on c.args.q c.args.dict.now.roles c.loop.dict.roles c.args.dict.now.restricted i.stays c.exchange.new.dict.roles c.in-Some.levelled
    (subst (λ (f : List Bool). IsLevelled c.args.q c.loop.dict.roles f c.exchange.new.dict.roles c.in-Some.levelled) i.flags
    (gone_so_far c.args.q c.args.up c.loop.dict.roles c.loop.dict.restricted c.in-Exchange.row c.in-Exchange.column c.exchange.new.dict.roles c.in-Some.levelled g))

pub loop-preserved : goal.loop-preserved
loop-preserved c =
    let i = c.loop.invariant in
    let x = c.in_ok-levelled-in-Exchange.ensures in
    let row = c.in-Exchange.row in
    let column = c.in-Exchange.column in
    let g : GoesOn c.args.q c.args.up c.loop.dict.roles c.args.dict.now.restricted row column c.exchange.new.dict.roles =
    subst (λ (f : List Bool). GoesOn c.args.q c.args.up c.loop.dict.roles f row column c.exchange.new.dict.roles) i.flags
    (subst (IsGone c.args.q c.args.up c.loop.dict.roles c.loop.dict.restricted row column c.exchange.new.dict.roles) c.in_default.is x.gone) in
    let next = subst (λ (f : List Bool). IsNext c.loop.dict.roles f c.args.q c.args.up (Exchange row column)) i.flags
    (subst (IsNext c.loop.dict.roles c.loop.dict.restricted c.args.q c.args.up) c.in-Exchange.is c.in_ok-levelled.ensures.next) in
    record {
      flags = x.flags ∙ i.flags;
      saved = x.saved ∙ i.saved;
      room = omega (arith, x.room, i.room);
      table = g.carried.table;
      stays = stays_further c.args.q c.args.dict.now.roles c.loop.dict.roles c.exchange.new.dict.roles c.args.dict.now.restricted i.stays
          (carried_stays c.args.q c.loop.dict.roles c.args.dict.now.restricted c.exchange.new.dict.roles g.carried);
      off = g.off;
      reached = one_further c.args.q c.args.up c.args.dict.now.restricted c.args.dict.now.roles c.loop.counter c.loop.dict.roles c.exchange.new.dict.roles row column i.reached next.1 g;
    }

pub returns-in-Ends-2-clause-levelled : goal.returns-in-Ends-2-clause-levelled
returns-in-Ends-2-clause-levelled c =
    let i = c.loop.invariant in
    let n = subst (IsNext c.loop.dict.roles c.loop.dict.restricted c.args.q c.args.up) c.in-Ends-2.is c.in_ok-levelled-2.ensures.next in
    stays_on c.args.q c.args.dict.now.roles c.loop.dict.roles c.args.dict.now.restricted i.stays c.loop.dict.roles c.in-Ends-2.levelled
    (subst (λ (f : List Bool). IsLevelled c.args.q c.loop.dict.roles f c.loop.dict.roles c.in-Ends-2.levelled) i.flags
    (ended c.args.q c.args.up c.loop.dict.roles c.loop.dict.restricted i.stays.row i.table (ap (λ f. is_restricted f c.args.q) i.flags ∙ c.requires.free) i.off c.in-Ends-2.levelled n))

pub returns-in-Exchange-2-clause-pivots : goal.returns-in-Exchange-2-clause-pivots
returns-in-Exchange-2-clause-pivots c = λ n e.
    let i = c.loop.invariant in
    let all : c.loop.counter ≡ c.args.pivots = omega (arith, c.loop-test.false, c.loop.auto.counter-end) in
    let same : c.args.pivots ≡ n = same_pivots c.args.pivots n (same_fault (Pivots c.args.pivots) (Pivots n) e) in
    let x = subst (λ (f : List Bool). IsNext c.loop.dict.roles f c.args.q c.args.up (Exchange c.in-Exchange-2.field-0 c.in-Exchange-2.field-1)) i.flags
    (subst (IsNext c.loop.dict.roles c.loop.dict.restricted c.args.q c.args.up) c.in-Exchange-2.is c.in_ok-levelled-2.ensures.next) in (
      sym same,
      subst (SpendsLevel c.args.q c.args.dict.now.roles c.args.dict.now.restricted) (all ∙ same)
          (spent_level c.args.q c.args.up c.args.dict.now.restricted c.args.dict.now.roles
          (stays_carried c.args.dict.now.restricted c.args.q c.args.dict.now.roles c.requires.table c.requires.row c.requires.feasible) c.loop.counter c.loop.dict.roles i.reached i.off c.in-Exchange-2.field-0 c.in-Exchange-2.field-1 x.1),
    )
  where
    same_pivots : (m n : ℕ) → Pivots m ≡ Pivots n → m ≡ n
    same_pivots m n e = cc
