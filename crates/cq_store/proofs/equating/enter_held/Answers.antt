use Rattle.std.proofs.Common.{◌≡◌, ◌+◌, ◌++◌, [], ◌∷◌, List, Bool, length, Err, refl, ap, sym, subst, ◌∙◌}
use Rattle.spec_numbers.specs.Rational.{0ℚ}
use Rattle.cq_frac.specs.Row.{Row}
use Rattle.cq_dict.specs.declared.table.Role.TheVariants.{Basic}
use Rattle.cq_dict.specs.Roles.{IsAt, constant_in}
use Rattle.cq_dict.proofs.Roles.{role_is}
use Rattle.cq_tableau.specs.declared.names.Name.TheVariants.{Member}
use Rattle.cq_tableau.specs.Stored.{JoinsStored}
use Rattle.cq_tableau.proofs.Storing.{numbered_member}
use Rattle.cq_store.proofs.Instead.{was_dropped, entry_there, held_refused, held_stored}
use Rattle.cq_store.proofs.Passed.{refused, never_spent}
use Rattle.cq_store.proofs.equating.enter_held.Goals as goal

pub restore_column-requires : goal.restore_column-requires
restore_column-requires c =
    let roles = c.args.dict.now.roles in
    let z : (own : Row) → IsAt roles c.args.q (Basic own) → own.constant ≡ 0ℚ = λ own at. sym (ap constant_in (role_is roles c.args.q (Basic own) at)) ∙ c.requires.zero in
    was_dropped c.args.told.now c.args.names.now.now c.args.c.now roles c.args.dict.now.restricted c.args.q c.requires.behind c.requires.equation c.requires.number z c.args.column c.requires.held

pub eliminate-requires : goal.eliminate-requires
eliminate-requires c =
    let roles = c.args.dict.now.roles in
    let z : (own : Row) → IsAt roles c.args.q (Basic own) → own.constant ≡ 0ℚ = λ own at. sym (ap constant_in (role_is roles c.args.q (Basic own) at)) ∙ c.requires.zero in
    let r = c.in_ok-restore_column.ensures in
    entry_there c.args.told.now c.args.names.now.now c.args.c.now roles c.args.dict.now.restricted c.args.q c.requires.behind c.requires.equation c.requires.number z c.args.column c.requires.held
    c.restore_column.new.self.roles r.kinds r.same r.table

pub returns-clause-joined : goal.returns-clause-joined
returns-clause-joined c =
    let told = c.args.told.now in
    let roles = c.args.dict.now.roles in
    let number = length told + 1 in
    let e : c.push.new.self.now ≡ c.reserve_places.new.self.now ++ Member number ∷ [] = rw c.unwrap.ensures at c.push.ensures.ok in
    let z : (own : Row) → IsAt roles c.args.q (Basic own) → own.constant ≡ 0ℚ = λ own at. sym (ap constant_in (role_is roles c.args.q (Basic own) at)) ∙ c.requires.zero in
    let r = c.in_ok-restore_column.ensures in
    let x = c.in_ok-eliminate.ensures in
    subst (λ (g : List Bool). JoinsStored told c.args.c.now c.new.result.items c.push.new.self.now (record { roles = c.eliminate.new.self.roles; restricted = g })) (sym (x.flags ∙ r.flags))
    (held_stored told c.args.names.now.now c.args.c.now roles c.args.dict.now.restricted c.args.q c.requires.behind c.requires.equation c.requires.number z c.args.column c.requires.held
    c.restore_column.new.self.roles r.kinds r.same r.table c.eliminate.new.self.roles x.kinds x.same x.table number refl c.push.new.self.now
    (e ∙ ap (λ t. t ++ Member number ∷ []) c.in_ok-reserve_places.ensures.now) c.new.result.items c.new.ensures.items)

pub returns-clause-numbered : goal.returns-clause-numbered
returns-clause-numbered c = λ entries h.
    let number = length c.args.told.now + 1 in
    let e : c.push.new.self.now ≡ c.reserve_places.new.self.now ++ Member number ∷ [] = rw c.unwrap.ensures at c.push.ensures.ok in
    numbered_member c.args.names.now.now entries h number c.push.new.self.now (e ∙ ap (λ t. t ++ Member number ∷ []) c.in_ok-reserve_places.ensures.now)

pub returns-in_err-eliminate-clause-overflow : goal.returns-in_err-eliminate-clause-overflow
returns-in_err-eliminate-clause-overflow c = λ pair e.
    let roles = c.args.dict.now.roles in
    let z : (own : Row) → IsAt roles c.args.q (Basic own) → own.constant ≡ 0ℚ = λ own at. sym (ap constant_in (role_is roles c.args.q (Basic own) at)) ∙ c.requires.zero in
    let r = c.in_ok-restore_column.ensures in
    let f = refused c.from_residual-in_err-eliminate.result c.in_err-eliminate.field-0.0 pair c.from_residual-in_err-eliminate.ensures.1 e in
    held_refused c.args.told.now c.args.names.now.now c.args.c.now roles c.args.dict.now.restricted c.args.q c.requires.behind c.requires.equation c.requires.number z c.args.column c.requires.held
    c.restore_column.new.self.roles r.kinds r.same r.table pair (c.in_err-eliminate.ensures.overflow pair (ap Err f))

pub returns-in_err-eliminate-clause-pivots : goal.returns-in_err-eliminate-clause-pivots
returns-in_err-eliminate-clause-pivots c = λ n e. never_spent c.from_residual-in_err-eliminate.result c.in_err-eliminate.field-0.0 n c.from_residual-in_err-eliminate.ensures.1 e
