use Rattle.std.proofs.Common.{◌≡◌, List, Bool, false, Err, arith, ap, sym, subst}
use Rattle.spec_simplex.specs.Dictionary.{IsFeasible}
use Rattle.cq_dict.specs.declared.table.Role.TheVariants.{Basic}
use Rattle.cq_dict.specs.Roles.{is_restricted}
use Rattle.cq_dict.proofs.Roles.{at_below}
use Rattle.cq_simplex.specs.Dictionary.{dictionary}
use Rattle.cq_tableau.proofs.Passed.{search_passed, search_spent}
use Rattle.cq_tableau.specs.Levelled.{IsLevelled, IsClimbed, RefusesLevel, SpendsLevel}
use Rattle.cq_tableau.proofs.Goes.{stays_here, carried_stays, stays_on, refused_further, spent_further, zero_is, is_off}
use Rattle.cq_tableau.proofs.level.levelling.level.Goals as goal

pub prove-unreachable-requires : goal.prove-unreachable-requires
prove-unreachable-requires c = omega (arith, c.if-prove.true, c.count.ensures.value, at_below c.args.dict.now.roles c.args.q (Basic c.requires.row.0) c.requires.row.1)

pub returns-then-is_zero-clause-levelled : goal.returns-then-is_zero-clause-levelled
returns-then-is_zero-clause-levelled c = (
  stays_here c.args.q c.args.dict.now.roles c.args.dict.now.restricted c.requires.row,
  zero_is c.args.dict.now.roles c.args.q c.requires.row c.constant-number.result (λ own at. c.constant-number.ensures own at) (c.is_zero.ensures.0 c.if-is_zero.true),
)

pub climb-requires-clause-off : goal.climb-requires-clause-off
climb-requires-clause-off c =
    is_off c.args.dict.now.roles c.args.q c.requires.row c.constant-number.result (λ own at. c.constant-number.ensures own at) c.is_negative-up.result c.is_negative-up.ensures.negative
    (λ z. let k = c.is_zero.ensures.1 z in let f = c.if-is_zero.false in cc)

pub returns-in-Some-clause-levelled : goal.returns-in-Some-clause-levelled
returns-in-Some-clause-levelled c =
    subst (IsClimbed c.args.q c.is_negative-up.result c.args.dict.now.roles c.args.dict.now.restricted c.climb.new.dict.roles) c.in-Some.is c.in_ok-levelled.ensures.climbed

pub approach-requires-clause-row : goal.approach-requires-clause-row
approach-requires-clause-row c =
    (subst (IsClimbed c.args.q c.is_negative-up.result c.args.dict.now.roles c.args.dict.now.restricted c.climb.new.dict.roles) c.in_default.is c.in_ok-levelled.ensures.climbed).carried.asked_row

pub approach-requires-clause-free : goal.approach-requires-clause-free
approach-requires-clause-free c = subst (λ (f : List Bool). is_restricted f c.args.q ≡ false) (sym c.in_ok-levelled.ensures.flags) c.requires.free

pub approach-requires-clause-off : goal.approach-requires-clause-off
approach-requires-clause-off c =
    (subst (IsClimbed c.args.q c.is_negative-up.result c.args.dict.now.roles c.args.dict.now.restricted c.climb.new.dict.roles) c.in_default.is c.in_ok-levelled.ensures.climbed).off

pub approach-requires-clause-feasible : goal.approach-requires-clause-feasible
approach-requires-clause-feasible c =
    subst (λ (f : List Bool). IsFeasible (is_restricted f) (dictionary c.climb.new.dict.roles c.args.q)) (sym c.in_ok-levelled.ensures.flags)
    (subst (IsClimbed c.args.q c.is_negative-up.result c.args.dict.now.roles c.args.dict.now.restricted c.climb.new.dict.roles) c.in_default.is c.in_ok-levelled.ensures.climbed).carried.feasible

pub approach-requires-clause-table : goal.approach-requires-clause-table
approach-requires-clause-table c =
    (subst (IsClimbed c.args.q c.is_negative-up.result c.args.dict.now.roles c.args.dict.now.restricted c.climb.new.dict.roles) c.in_default.is c.in_ok-levelled.ensures.climbed).carried.table

pub returns-clause-levelled : goal.returns-clause-levelled
returns-clause-levelled c =
    let old = c.args.dict.now in
    let mid = c.climb.new.dict in
    let s = subst (IsClimbed c.args.q c.is_negative-up.result old.roles old.restricted mid.roles) c.in_default.is c.in_ok-levelled.ensures.climbed in
    stays_on c.args.q old.roles mid.roles old.restricted (carried_stays c.args.q old.roles old.restricted mid.roles s.carried) c.approach.new.dict.roles c.in_ok-found.found
    (subst (λ (f : List Bool). IsLevelled c.args.q mid.roles f c.approach.new.dict.roles c.in_ok-found.found) c.in_ok-levelled.ensures.flags c.in_ok-found.ensures.levelled)

pub returns-in_err-found-clause-overflow : goal.returns-in_err-found-clause-overflow
returns-in_err-found-clause-overflow c = λ pair e.
    let old = c.args.dict.now in
    let mid = c.climb.new.dict in
    let s = subst (IsClimbed c.args.q c.is_negative-up.result old.roles old.restricted mid.roles) c.in_default.is c.in_ok-levelled.ensures.climbed in
    let f = search_passed c.from_residual-in_err-found.result c.in_err-found.field-0.0 pair c.from_residual-in_err-found.ensures.1 e in
    refused_further c.args.q old.roles mid.roles old.restricted (carried_stays c.args.q old.roles old.restricted mid.roles s.carried) pair
    (subst (λ (g : List Bool). RefusesLevel c.args.q mid.roles g pair) c.in_ok-levelled.ensures.flags (c.in_err-found.ensures.overflow pair (ap Err f)))

pub returns-in_err-found-clause-pivots : goal.returns-in_err-found-clause-pivots
returns-in_err-found-clause-pivots c = λ n e.
    let old = c.args.dict.now in
    let mid = c.climb.new.dict in
    let s = subst (IsClimbed c.args.q c.is_negative-up.result old.roles old.restricted mid.roles) c.in_default.is c.in_ok-levelled.ensures.climbed in
    let f = search_spent c.from_residual-in_err-found.result c.in_err-found.field-0.0 n c.from_residual-in_err-found.ensures.1 e in
    let o = c.in_err-found.ensures.pivots n (ap Err f) in
    (o.0, spent_further c.args.q old.roles mid.roles old.restricted s.carried n (subst (λ (g : List Bool). SpendsLevel c.args.q mid.roles g n) c.in_ok-levelled.ensures.flags o.1))
