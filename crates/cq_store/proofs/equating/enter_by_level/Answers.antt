use Rattle.std.proofs.Common.{◌+◌, List, [], ◌∷◌, ◌++◌, length, Bool, Err, arith, refl, ap, sym, subst, ◌∙◌}
use Rattle.std.specs.Prelude.{IfOk}
use Rattle.cq_frac.specs.declared.VarId.{VarId}
use Rattle.cq_dict.specs.DictValue.{quantities_of}
use Rattle.cq_tableau.specs.declared.names.Name.TheVariants.{Member}
use Rattle.cq_tableau.specs.Looked.{SpeaksOfSome, LooksOn, RefusesLook, SpendsLook}
use Rattle.cq_tableau.specs.Stored.{IsBetween, JoinsStored}
use Rattle.cq_store.specs.Entered.{IfJoined}
use Rattle.cq_store.specs.Equated.{IsConcluded, IsFound}
use Rattle.cq_store.proofs.Concluded.{joined_by, level_between, level_falls, level_joins}
use Rattle.cq_store.proofs.Equations.{roles_size, crossing_refused}
use Rattle.cq_store.proofs.Levels.{level_live, level_feasible, dropped_some, look_refused, look_spent}
use Rattle.cq_store.proofs.Passed.{refused, never_spent, passed, store_spent}
use Rattle.cq_store.proofs.equating.enter_by_level.Goals as goal

pub open_variables-requires-clause-size : goal.open_variables-requires-clause-size
open_variables-requires-clause-size c =
    let b = c.requires.level.behind in
    let more = roles_size c.args.told.now c.args.names.now.now c.args.c.now c.args.dict.now.roles c.args.dict.now.restricted c.args.q b in
    let same = b.stored.size in
    omega arith

pub open_variables-requires-clause-once : goal.open_variables-requires-clause-once
open_variables-requires-clause-once c = c.requires.level.behind.stored.once

pub eliminate-requires : goal.eliminate-requires
eliminate-requires c = c.requires.level.entry

pub look_at_members-requires : goal.look_at_members-requires
look_at_members-requires c =
    let told = c.args.told.now in
    let names = c.args.names.now.now in
    let old = c.args.dict.now in
    let y = c.requires.level in
    let x = c.in_ok-eliminate.ensures in
    let new = c.eliminate.new.self.roles in
    subst (SpeaksOfSome new) (sym x.flags)
    (dropped_some told names c.args.c.now old.roles old.restricted c.args.q c.args.column y.behind c.requires.equation
    (level_live told names c.args.c.now old.roles old.restricted c.args.q c.args.column y) new x.kinds x.same x.table
    (level_feasible told names c.args.c.now old.roles old.restricted c.args.q c.args.column y new x.kinds x.same x.table))

pub conclude-requires-clause-between : goal.conclude-requires-clause-between
conclude-requires-clause-between c =
    let told = c.args.told.now in
    let names = c.args.names.now.now in
    let old = c.args.dict.now in
    let new = c.eliminate.new.self.roles in
    let last = c.look_at_members.new.dict.roles in
    let x = c.in_ok-eliminate.ensures in
    let l = c.in_ok-fallen.ensures in
    subst (λ (g : List Bool). IsBetween (told ++ c.args.c.now ∷ []) (names ++ Member (length told + 1) ∷ []) (record { roles = last; restricted = g })) (sym (l.flags ∙ x.flags))
    (level_between told names c.args.c.now old.roles old.restricted c.args.q c.args.column c.requires.level c.requires.equation new x.kinds x.same x.table last
    (subst (LooksOn new last) x.flags l.looks) (length told + 1) refl)

pub conclude-requires-clause-falls : goal.conclude-requires-clause-falls
conclude-requires-clause-falls c =
    let told = c.args.told.now in
    let names = c.args.names.now.now in
    let old = c.args.dict.now in
    let new = c.eliminate.new.self.roles in
    let last = c.look_at_members.new.dict.roles in
    let x = c.in_ok-eliminate.ensures in
    let l = c.in_ok-fallen.ensures in
    level_falls told names c.args.c.now old.roles old.restricted c.args.q c.args.column c.requires.level c.requires.equation new x.kinds x.same x.table last
    (subst (LooksOn new last) x.flags l.looks) (length told + 1) refl c.in_ok-fallen.fallen
    (subst (λ (g : List Bool). IsFound told names new last g c.in_ok-fallen.fallen) x.flags l.found)

pub returns-clause-joined : goal.returns-clause-joined
returns-clause-joined c =
    let told = c.args.told.now in
    let names = c.args.names.now.now in
    let old = c.args.dict.now in
    let new = c.eliminate.new.self.roles in
    let last = c.look_at_members.new.dict.roles in
    let x = c.in_ok-eliminate.ensures in
    let l = c.in_ok-fallen.ensures in
    let fallen = c.in_ok-fallen.fallen in
    let new_names = c.conclude.new.names.now in
    let now = quantities_of c.conclude.new.dict in
    joined_by c.conclude.result (IsConcluded told names (record { roles = last; restricted = old.restricted }) c.in_ok-before.before.items fallen new_names now)
    (λ fixed. JoinsStored told c.args.c.now fixed new_names now)
    (level_joins told names c.args.c.now old.roles old.restricted c.args.q c.args.column c.requires.level c.requires.equation new x.kinds x.same x.table last
    (subst (LooksOn new last) x.flags l.looks) (length told + 1) refl c.in_ok-before.before.items c.in_ok-before.ensures fallen
    (subst (λ (g : List Bool). IsFound told names new last g fallen) x.flags l.found) new_names now)
    (subst (λ (g : List Bool). IfOk c.conclude.result (λ e. IfJoined e (IsConcluded told names (record { roles = last; restricted = g }) c.in_ok-before.before.items fallen new_names now)))
    (l.flags ∙ x.flags)
    (subst (λ (s : List VarId). IfOk c.conclude.result (λ e. IfJoined e (IsConcluded told names (quantities_of c.look_at_members.new.dict) s fallen new_names now))) c.deref.ensures.value
    c.conclude.ensures.joined))

pub returns-in_err-eliminate-clause-overflow : goal.returns-in_err-eliminate-clause-overflow
returns-in_err-eliminate-clause-overflow c = λ pair e.
    let f = refused c.from_residual-in_err-eliminate.result c.in_err-eliminate.field-0.0 pair c.from_residual-in_err-eliminate.ensures.1 e in
    crossing_refused c.args.told.now c.args.names.now.now c.args.c.now c.args.dict.now.roles c.args.dict.now.restricted c.args.q c.requires.level.behind
    c.args.q c.args.column pair (c.in_err-eliminate.ensures.overflow pair (ap Err f))

pub returns-in_err-eliminate-clause-pivots : goal.returns-in_err-eliminate-clause-pivots
returns-in_err-eliminate-clause-pivots c = λ n e.
    absurd (never_spent c.from_residual-in_err-eliminate.result c.in_err-eliminate.field-0.0 n c.from_residual-in_err-eliminate.ensures.1 e)

pub returns-in_err-fallen-clause-overflow : goal.returns-in_err-fallen-clause-overflow
returns-in_err-fallen-clause-overflow c = λ pair e.
    let told = c.args.told.now in
    let names = c.args.names.now.now in
    let old = c.args.dict.now in
    let y = c.requires.level in
    let x = c.in_ok-eliminate.ensures in
    let new = c.eliminate.new.self.roles in
    let f = passed c.from_residual-in_err-fallen.result c.in_err-fallen.field-0.0 pair c.from_residual-in_err-fallen.ensures.1 e in
    look_refused told names c.args.c.now old.roles old.restricted c.args.q c.args.column y.behind c.requires.equation
    (level_live told names c.args.c.now old.roles old.restricted c.args.q c.args.column y) new x.kinds x.same x.table
    (level_feasible told names c.args.c.now old.roles old.restricted c.args.q c.args.column y new x.kinds x.same x.table) pair
    (subst (λ (g : List Bool). RefusesLook new g pair) x.flags (c.in_err-fallen.ensures.overflow pair (ap Err f)))

pub returns-in_err-fallen-clause-pivots : goal.returns-in_err-fallen-clause-pivots
returns-in_err-fallen-clause-pivots c = λ n e.
    let told = c.args.told.now in
    let names = c.args.names.now.now in
    let old = c.args.dict.now in
    let y = c.requires.level in
    let x = c.in_ok-eliminate.ensures in
    let new = c.eliminate.new.self.roles in
    let f = store_spent c.from_residual-in_err-fallen.result c.in_err-fallen.field-0.0 n c.from_residual-in_err-fallen.ensures.1 e in
    let o = c.in_err-fallen.ensures.pivots n (ap Err f) in (
      o.0,
      look_spent told names c.args.c.now old.roles old.restricted c.args.q c.args.column y.behind c.requires.equation
          (level_live told names c.args.c.now old.roles old.restricted c.args.q c.args.column y) new x.kinds x.same x.table
          (level_feasible told names c.args.c.now old.roles old.restricted c.args.q c.args.column y new x.kinds x.same x.table) n
          (subst (λ (g : List Bool). SpendsLook new g n) x.flags o.1),
    )
