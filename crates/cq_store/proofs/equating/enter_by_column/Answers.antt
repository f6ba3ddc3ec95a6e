use Rattle.std.proofs.Common.{ℕ, ◌+◌, List, [], ◌∷◌, ◌++◌, length, Bool, Err, arith, refl, ap, sym, subst}
use Rattle.std.specs.Prelude.{IfOk, MatchOption}
use Rattle.std.specs.List.{Contains}
use Rattle.std.specs.List.Sorted.{IsStrictlyIncreasing}
use Rattle.spec_numbers.specs.Rational.{0ℚ}
use Rattle.cq_frac.specs.declared.VarId.{VarId}
use Rattle.cq_dict.specs.declared.table.Role.TheVariants.{Live}
use Rattle.cq_dict.specs.DictValue.{quantities_of}
use Rattle.cq_dict.proofs.Roles.{at_below, role_live}
use Rattle.cq_tableau.specs.declared.names.Name.TheVariants.{Member}
use Rattle.cq_tableau.specs.Fixing.{AreOpenAmong}
use Rattle.cq_tableau.specs.Looked.{IsApart}
use Rattle.cq_tableau.specs.Stored.{IsMemberOf, IsBetween, JoinsStored}
use Rattle.cq_tableau.specs.Values.{IsNumber}
use Rattle.cq_store.specs.Entered.{IfJoined}
use Rattle.cq_store.specs.Equated.{IsConcluded}
use Rattle.cq_tableau.specs.Faced.{AllApart, AllApartAmong}
use Rattle.cq_store.proofs.Concluded.{joined_by, crossing_between, crossing_falls, crossing_joins}
use Rattle.cq_store.proofs.Equations.{roles_size, crossing_refused}
use Rattle.cq_store.proofs.Levels.{crossing_live}
use Rattle.cq_store.proofs.Passed.{refused, never_spent}
use Rattle.cq_store.proofs.Untouched.{fallen_all, covers_touched}
use Rattle.cq_store.proofs.equating.enter_by_column.Goals as goal
use Rattle.cq_store.proofs.equating.enter_by_column.Goals.{After-fallen_among-fallen}

pub touched-requires : goal.touched-requires
touched-requires c = λ t.
    at_below c.args.dict.now.roles c.args.column Live
    (role_live c.args.dict.now.roles c.args.column (crossing_live c.args.told.now c.args.names.now.now c.args.c.now c.args.dict.now.roles c.args.dict.now.restricted c.args.q c.args.column c.requires.crosses))

pub open_among-requires-clause-size : goal.open_among-requires-clause-size
open_among-requires-clause-size c =
    let b = c.requires.crosses.behind in
    let more = roles_size c.args.told.now c.args.names.now.now c.args.c.now c.args.dict.now.roles c.args.dict.now.restricted c.args.q b in
    let same = b.stored.size in
    omega arith

pub open_among-requires-clause-once : goal.open_among-requires-clause-once
open_among-requires-clause-once c = c.requires.crosses.behind.stored.once

pub open_among-requires-clause-ascending : goal.open_among-requires-clause-ascending
open_among-requires-clause-ascending c = subst IsStrictlyIncreasing (sym c.deref.ensures.value) c.in_ok-rows.ensures.ascending

pub eliminate-requires : goal.eliminate-requires
eliminate-requires c = c.requires.crosses.entry

pub fallen_among-fallen-requires : goal.fallen_among-fallen-requires
fallen_among-fallen-requires c = λ r h.
    let x = c.in_ok-eliminate.ensures.kinds.size in
    let l = c.in_ok-rows.ensures.within r (subst (λ (s : List ℕ). Contains s r) c.deref-2.ensures.value h) in
    omega (arith, x, l)

-- what was looked at is enough
all_fallen : (c : After-fallen_among-fallen) → MatchOption c.fallen_among-fallen.result (AllApart c.args.told.now c.args.names.now.now c.eliminate.new.self.roles)
    (λ z. IsMemberOf IsApart c.args.told.now c.args.names.now.now z × IsNumber c.eliminate.new.self.roles z 0ℚ)
all_fallen c =
    let told = c.args.told.now in
    let names = c.args.names.now.now in
    let old = c.args.dict.now in
    let new = c.eliminate.new.self.roles in
    let x = c.in_ok-eliminate.ensures in
    let y = c.requires.crosses in
    fallen_all told names c.args.c.now old.roles old.restricted c.args.q c.args.column y.behind y.entry new x.kinds x.same x.table c.in_ok-rows.rows.items c.in_ok-rows.ensures
    c.fallen_among-fallen.result
    (subst (λ (s : List ℕ). MatchOption c.fallen_among-fallen.result (AllApartAmong s told names new) (λ z. IsMemberOf IsApart told names z × IsNumber new z 0ℚ)) c.deref-2.ensures.value
    c.fallen_among-fallen.ensures)

pub conclude-requires-clause-between : goal.conclude-requires-clause-between
conclude-requires-clause-between c =
    let told = c.args.told.now in
    let names = c.args.names.now.now in
    let old = c.args.dict.now in
    let new = c.eliminate.new.self.roles in
    let x = c.in_ok-eliminate.ensures in
    subst (λ (g : List Bool). IsBetween (told ++ c.args.c.now ∷ []) (names ++ Member (length told + 1) ∷ []) (record { roles = new; restricted = g })) (sym x.flags)
    (crossing_between told names c.args.c.now old.roles old.restricted c.args.q c.args.column c.requires.crosses c.requires.equation new x.kinds x.same x.table (length told + 1) refl)

pub conclude-requires-clause-falls : goal.conclude-requires-clause-falls
conclude-requires-clause-falls c =
    let told = c.args.told.now in
    let old = c.args.dict.now in
    let x = c.in_ok-eliminate.ensures in
    crossing_falls told c.args.names.now.now c.args.c.now old.roles old.restricted c.args.q c.args.column c.requires.crosses c.requires.equation c.eliminate.new.self.roles
    x.kinds x.same x.table (length told + 1) refl c.fallen_among-fallen.result (all_fallen (goal.at.conclude-requires-clause-falls c).After-fallen_among-fallen)

pub returns-clause-joined : goal.returns-clause-joined
returns-clause-joined c =
    let told = c.args.told.now in
    let names = c.args.names.now.now in
    let old = c.args.dict.now in
    let new = c.eliminate.new.self.roles in
    let x = c.in_ok-eliminate.ensures in
    let fallen = c.fallen_among-fallen.result in
    let y = c.requires.crosses in
    let new_names = c.conclude.new.names.now in
    let last = quantities_of c.conclude.new.dict in
    joined_by c.conclude.result (IsConcluded told names (record { roles = new; restricted = old.restricted }) c.in_ok-before.before.items fallen new_names last)
    (λ fixed. JoinsStored told c.args.c.now fixed new_names last)
    (crossing_joins told names c.args.c.now old.roles old.restricted c.args.q c.args.column c.requires.crosses c.requires.equation new x.kinds x.same x.table (length told + 1) refl
    c.in_ok-before.before.items
    (covers_touched told names c.args.c.now old.roles old.restricted c.args.q c.args.column y.behind y.entry new x.kinds x.same x.table c.in_ok-rows.rows.items c.in_ok-rows.ensures
    c.in_ok-before.before.items
    (subst (λ (s : List ℕ). AreOpenAmong s names old.roles (length s) c.in_ok-before.before.items) c.deref.ensures.value c.in_ok-before.ensures))
    fallen (all_fallen (goal.at.returns-clause-joined c).After-fallen_among-fallen) new_names last)
    (subst (λ (g : List Bool). IfOk c.conclude.result (λ e. IfJoined e (IsConcluded told names (record { roles = new; restricted = g }) c.in_ok-before.before.items fallen new_names last))) x.flags
    (subst (λ (s : List VarId). IfOk c.conclude.result (λ e. IfJoined e (IsConcluded told names (quantities_of c.eliminate.new.self) s fallen new_names last))) c.deref-3.ensures.value
    c.conclude.ensures.joined))

pub returns-in_err-eliminate-clause-overflow : goal.returns-in_err-eliminate-clause-overflow
returns-in_err-eliminate-clause-overflow c = λ pair e.
    let f = refused c.from_residual-in_err-eliminate.result c.in_err-eliminate.field-0.0 pair c.from_residual-in_err-eliminate.ensures.1 e in
    crossing_refused c.args.told.now c.args.names.now.now c.args.c.now c.args.dict.now.roles c.args.dict.now.restricted c.args.q c.requires.crosses.behind
    c.args.q c.args.column pair (c.in_err-eliminate.ensures.overflow pair (ap Err f))

pub returns-in_err-eliminate-clause-pivots : goal.returns-in_err-eliminate-clause-pivots
returns-in_err-eliminate-clause-pivots c = λ n e.
    absurd (never_spent c.from_residual-in_err-eliminate.result c.in_err-eliminate.field-0.0 n c.from_residual-in_err-eliminate.ensures.1 e)
