use Rattle.std.proofs.Common.{◌≡◌, ◌+◌, ◌++◌, [], ◌∷◌, length, ap, sym, subst, ◌∙◌}
use Rattle.spec_numbers.specs.Rational.{0ℚ}
use Rattle.cq_frac.specs.Row.{Row}
use Rattle.cq_dict.specs.declared.table.Role.TheVariants.{Basic}
use Rattle.cq_dict.specs.Roles.{IsAt, constant_in}
use Rattle.cq_dict.proofs.Roles.{role_is}
use Rattle.cq_tableau.specs.declared.names.Name.TheVariants.{Member}
use Rattle.cq_tableau.proofs.Storing.{numbered_member}
use Rattle.cq_store.specs.Equated.{IsHeldColumn}
use Rattle.cq_store.proofs.Equations.{nothing_stored}
use Rattle.cq_store.proofs.equating.enter_nothing.Goals as goal

pub held_column-requires-clause-table : goal.held_column-requires-clause-table
held_column-requires-clause-table c = c.requires.behind.keeps.table

pub held_column-requires-clause-row : goal.held_column-requires-clause-row
held_column-requires-clause-row c = c.requires.behind.row

pub enter_held-requires-clause-held : goal.enter_held-requires-clause-held
enter_held-requires-clause-held c = subst (IsHeldColumn c.args.dict.now.roles c.args.dict.now.restricted c.args.q) c.in-Some.is c.held_column.ensures

pub returns-clause-joined : goal.returns-clause-joined
returns-clause-joined c =
    let told = c.args.told.now in
    let roles = c.args.dict.now.roles in
    let number = length told + 1 in
    let e : c.push.new.self.now ≡ c.reserve_places.new.self.now ++ Member number ∷ [] = rw c.unwrap.ensures at c.push.ensures.ok in
    let z : (own : Row) → IsAt roles c.args.q (Basic own) → own.constant ≡ 0ℚ = λ own at.
    sym (ap constant_in (role_is roles c.args.q (Basic own) at)) ∙ c.requires.zero in
    nothing_stored told c.args.names.now.now c.args.c.now roles c.args.dict.now.restricted c.args.q c.requires.behind c.requires.equation c.requires.number z
    (subst (IsHeldColumn roles c.args.dict.now.restricted c.args.q) c.in_default.is c.held_column.ensures) number
    (λ i. number) c.push.new.self.now (e ∙ ap (λ t. t ++ Member number ∷ []) c.in_ok-reserve_places.ensures.now) c.new.result.items c.new.ensures.items

pub returns-clause-numbered : goal.returns-clause-numbered
returns-clause-numbered c = λ entries h.
    let number = length c.args.told.now + 1 in
    let e : c.push.new.self.now ≡ c.reserve_places.new.self.now ++ Member number ∷ [] = rw c.unwrap.ensures at c.push.ensures.ok in
    numbered_member c.args.names.now.now entries h number c.push.new.self.now (e ∙ ap (λ t. t ++ Member number ∷ []) c.in_ok-reserve_places.ensures.now)
