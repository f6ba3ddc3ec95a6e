use Rattle.std.proofs.Common.{◌≡◌, ◌+◌, ◌++◌, [], ◌∷◌, List, Bool, length, Err, arith, ap, sym, subst, ◌∙◌}
use Rattle.std.proofs.lemmas.Option.{slice_get_within}
use Rattle.cq_tableau.specs.declared.names.Name.TheVariants.{Variable, Member}
use Rattle.cq_tableau.specs.Stored.{JoinsStored}
use Rattle.cq_tableau.proofs.Storing.{numbered_member}
use Rattle.cq_store.proofs.Alone.{alone_joins}
use Rattle.cq_store.proofs.Equations.{roles_size, crossing_refused}
use Rattle.cq_store.proofs.Passed.{refused, never_spent}
use Rattle.cq_store.proofs.solving.enter_by_new.Goals as goal

pub eliminate-requires : goal.eliminate-requires
eliminate-requires c = c.requires.crosses.entry

pub fixed_alone-requires-clause-there : goal.fixed_alone-requires-clause-there
fixed_alone-requires-clause-there c = slice_get_within c.args.names.now.now c.args.n (Variable c.requires.new.variable) c.requires.new.named

pub fixed_alone-requires-clause-size : goal.fixed_alone-requires-clause-size
fixed_alone-requires-clause-size c =
    let b = c.requires.crosses.behind in
    let more = roles_size c.args.told.now c.args.names.now.now c.args.c.now c.args.dict.now.roles c.args.dict.now.restricted c.args.q b in
    let same = b.stored.size in
    let still = c.in_ok-eliminate.ensures.kinds.size in
    omega (arith, more, same, still)

pub returns-clause-joined : goal.returns-clause-joined
returns-clause-joined c =
    let told = c.args.told.now in
    let old = c.args.dict.now in
    let number = length told + 1 in
    let e : c.push.new.self.now ≡ c.reserve_places.new.self.now ++ Member number ∷ [] = rw c.unwrap.ensures at c.push.ensures.ok in
    let x = c.in_ok-eliminate.ensures in
    subst (λ (g : List Bool). JoinsStored told c.args.c.now c.in_ok-fixed.fixed.items c.push.new.self.now (record { roles = c.eliminate.new.self.roles; restricted = g })) (sym x.flags)
    (alone_joins told c.args.names.now.now c.args.c.now old.roles old.restricted c.args.q c.args.column c.requires.crosses c.requires.equation c.args.n c.requires.new
    c.eliminate.new.self.roles x.kinds x.same x.table c.in_ok-fixed.fixed.items c.in_ok-fixed.ensures c.push.new.self.now
    (e ∙ ap (λ t. t ++ Member number ∷ []) c.in_ok-reserve_places.ensures.now))

pub returns-clause-numbered : goal.returns-clause-numbered
returns-clause-numbered c = λ entries h.
    let number = length c.args.told.now + 1 in
    let e : c.push.new.self.now ≡ c.reserve_places.new.self.now ++ Member number ∷ [] = rw c.unwrap.ensures at c.push.ensures.ok in
    numbered_member c.args.names.now.now entries h number c.push.new.self.now (e ∙ ap (λ t. t ++ Member number ∷ []) c.in_ok-reserve_places.ensures.now)

pub returns-in_err-eliminate-clause-overflow : goal.returns-in_err-eliminate-clause-overflow
returns-in_err-eliminate-clause-overflow c = λ pair e.
    let f = refused c.from_residual.result c.in_err-eliminate.field-0.0 pair c.from_residual.ensures.1 e in
    crossing_refused c.args.told.now c.args.names.now.now c.args.c.now c.args.dict.now.roles c.args.dict.now.restricted c.args.q c.requires.crosses.behind
    c.args.q c.args.column pair (c.in_err-eliminate.ensures.overflow pair (ap Err f))

pub returns-in_err-eliminate-clause-pivots : goal.returns-in_err-eliminate-clause-pivots
returns-in_err-eliminate-clause-pivots c = λ n e.
    never_spent c.from_residual.result c.in_err-eliminate.field-0.0 n c.from_residual.ensures.1 e
