use Rattle.std.proofs.Common.{◌≡◌, ◌+◌, [], ◌∷◌, ◌++◌, Bool, Err, length, ap, refl, subst, sym, ◌∙◌}
use Rattle.std.specs.Prelude.{MatchBool}
use Rattle.spec_linear.specs.Solution.{Constraint}
use Rattle.spec_simplex.specs.Asked.{NoQuestion, of_joining}
use Rattle.spec_simplex.specs.Tableau.{IsNothing, IsSomething}
use Rattle.cq_frac.specs.Row.{Row}
use Rattle.cq_dict.specs.declared.table.Role.TheVariants.{Basic}
use Rattle.cq_dict.specs.DictValue.{quantities_of}
use Rattle.cq_dict.specs.Roles.{IsAt, role_at}
use Rattle.cq_tableau.specs.declared.names.Name.TheVariants.{Member}
use Rattle.cq_tableau.specs.Forms.{row_of}
use Rattle.cq_tableau.specs.Refuted.{IsTwoRuns}
use Rattle.cq_tableau.specs.Restored.{AsksGreatest, IsApartCertificate, RefusesEither, SpendsEither}
use Rattle.cq_tableau.proofs.Storing.{asked_row, numbered_member}
use Rattle.spec_linear.specs.Form.{negated_form}
use Rattle.cq_store.specs.StoreValue.{MayRefuse, Only}
use Rattle.cq_store.proofs.Asked.{asked_of, something_joins, nothing_refuted}
use Rattle.cq_store.proofs.Falls.{apart_joins}
use Rattle.cq_store.proofs.Moments.{asking_refused}
use Rattle.cq_store.proofs.Passed.{passed, search_refused, spent, store_spent}
use Rattle.cq_store.proofs.Refusals.{member_asks, member_asks_opposite, either_refused, either_spent, apart_certified}
use Rattle.cq_store.proofs.entering.enter_disequation.Goals as goal

pub returns-in_err-q-clause-overflow : goal.returns-in_err-q-clause-overflow
returns-in_err-q-clause-overflow c = λ pair e.
    let k : Constraint = record { relation = c.c.inside.relation; form = c.c.inside.form } in
    let f = passed c.from_residual.result c.in_err-q.field-0.0 pair c.from_residual.ensures.1 e in
    subst (λ (z : Constraint). MayRefuse c.args.told.now (Only z) NoQuestion pair) c.c.view_is
    (asking_refused c.args.told.now _ _ c.requires.stored c.c.inside.form (Only k) NoQuestion (of_joining k refl) pair (c.in_err-q.ensures.overflow pair (ap Err f)))

pub returns-in_err-q-clause-pivots : goal.returns-in_err-q-clause-pivots
returns-in_err-q-clause-pivots c = λ n e.
    absurd (c.in_err-q.ensures.pivots n (ap Err (store_spent c.from_residual.result c.in_err-q.field-0.0 n c.from_residual.ensures.1 e)))

pub is_zero-requires : goal.is_zero-requires
is_zero-requires c =
    asked_row _ _ _ c.requires.stored _ _ _ _ c.in_ok-q.ensures.asked

pub disequation_certificate-requires : goal.disequation_certificate-requires
disequation_certificate-requires c =
    asked_row _ _ _ c.requires.stored _ _ _ _ c.in_ok-q.ensures.asked

pub returns-in-Some-clause-refuted : goal.returns-in-Some-clause-refuted
returns-in-Some-clause-refuted c =
    let told = c.args.told.now in
    let a = asked_of _ _ _ _ c.c.view_is _ _ _ c.in_ok-q.ensures.asked in
    let z : IsNothing (row_of c.in_ok-q.q (role_at c.ask.new.dict.roles c.in_ok-q.q)) =
    subst (λ (b : Bool). MatchBool b (IsNothing (row_of c.in_ok-q.q (role_at c.ask.new.dict.roles c.in_ok-q.q))) (IsSomething (row_of c.in_ok-q.q (role_at c.ask.new.dict.roles c.in_ok-q.q))))
    c.if-is_zero.true c.is_zero.ensures in
    let x : (own : Row) → IsAt c.ask.new.dict.roles c.in_ok-q.q (Basic own) → IsTwoRuns told c.ask.new.names.now (length told + 1) own c.in-Some.cert = rw c.in-Some.is at c.in_ok-cert.ensures in
    nothing_refuted told _ _ c.requires.stored c.args.c.now _ _ _ a c.requires.disequation z c.in-Some.cert x

pub returns-clause-joined : goal.returns-clause-joined
returns-clause-joined c =
    let told = c.args.told.now in
    let a = asked_of _ _ _ _ c.c.view_is _ _ _ c.in_ok-q.ensures.asked in
    let e : c.push-2.new.self.now ≡ c.reserve_places-2.new.self.now ++ Member (length c.args.told.now + 1) ∷ [] = rw c.unwrap-2.ensures at c.push-2.ensures.ok in
    let named = e ∙ ap (λ t. t ++ Member (length c.args.told.now + 1) ∷ []) c.in_ok-reserve_places.ensures.now in
    let z : IsSomething (row_of c.in_ok-q.q (role_at c.ask.new.dict.roles c.in_ok-q.q)) =
    subst (λ (b : Bool). MatchBool b (IsNothing (row_of c.in_ok-q.q (role_at c.ask.new.dict.roles c.in_ok-q.q))) (IsSomething (row_of c.in_ok-q.q (role_at c.ask.new.dict.roles c.in_ok-q.q))))
    c.if-is_zero.false c.is_zero.ensures in
    something_joins told _ _ c.requires.stored c.args.c.now _ _ _ a c.requires.disequation z c.push-2.new.self.now named c.new.result.items c.new.ensures.items

pub returns-clause-numbered : goal.returns-clause-numbered
returns-clause-numbered c =
    let e : c.push-2.new.self.now ≡ c.reserve_places-2.new.self.now ++ Member (length c.args.told.now + 1) ∷ [] = rw c.unwrap-2.ensures at c.push-2.ensures.ok in
    let named = e ∙ ap (λ t. t ++ Member (length c.args.told.now + 1) ∷ []) c.in_ok-reserve_places.ensures.now in
    numbered_member c.ask.new.names.now c.ask.new.numbers.entries c.in_ok-q.ensures.numbered (length c.args.told.now + 1) c.push-2.new.self.now named

pub apart_certificate-requires-clause-numbered : goal.apart_certificate-requires-clause-numbered
apart_certificate-requires-clause-numbered c =
    let e : c.push.new.self.now ≡ c.reserve_places.new.self.now ++ Member (length c.args.told.now + 1) ∷ [] = rw c.unwrap.ensures at c.push.ensures.ok in
    let named = e ∙ ap (λ t. t ++ Member (length c.args.told.now + 1) ∷ []) c.in_ok-reserve_places-in-None.ensures.now in
    numbered_member c.ask.new.names.now c.ask.new.numbers.entries c.in_ok-q.ensures.numbered (length c.args.told.now + 1) c.push.new.self.now named

pub apart_certificate-requires-clause-greatest : goal.apart_certificate-requires-clause-greatest
apart_certificate-requires-clause-greatest c =
    let told = c.args.told.now in
    let a = asked_of _ _ _ _ c.c.view_is _ _ _ c.in_ok-q.ensures.asked in
    let e : c.push.new.self.now ≡ c.reserve_places.new.self.now ++ Member (length c.args.told.now + 1) ∷ [] = rw c.unwrap.ensures at c.push.ensures.ok in
    let named = e ∙ ap (λ t. t ++ Member (length c.args.told.now + 1) ∷ []) c.in_ok-reserve_places-in-None.ensures.now in
    let z : IsNothing (row_of c.in_ok-q.q (role_at c.ask.new.dict.roles c.in_ok-q.q)) =
    subst (λ (b : Bool). MatchBool b (IsNothing (row_of c.in_ok-q.q (role_at c.ask.new.dict.roles c.in_ok-q.q))) (IsSomething (row_of c.in_ok-q.q (role_at c.ask.new.dict.roles c.in_ok-q.q))))
    c.if-is_zero.true c.is_zero.ensures in
    let j = apart_joins told _ _ c.requires.stored c.args.c.now c.requires.disequation _ _ _ a z c.push.new.self.now named in
    subst (λ (z : Constraint). AsksGreatest c.push.new.self.now (quantities_of c.ask.new.dict) z.form) (sym c.c.view_is)
    (member_asks told c.args.c.now c.push.new.self.now (quantities_of c.ask.new.dict) j.between c.args.c.now (length told + 1) j.at j.flat)

pub apart_certificate-requires-clause-least : goal.apart_certificate-requires-clause-least
apart_certificate-requires-clause-least c =
    let told = c.args.told.now in
    let a = asked_of _ _ _ _ c.c.view_is _ _ _ c.in_ok-q.ensures.asked in
    let e : c.push.new.self.now ≡ c.reserve_places.new.self.now ++ Member (length c.args.told.now + 1) ∷ [] = rw c.unwrap.ensures at c.push.ensures.ok in
    let named = e ∙ ap (λ t. t ++ Member (length c.args.told.now + 1) ∷ []) c.in_ok-reserve_places-in-None.ensures.now in
    let z : IsNothing (row_of c.in_ok-q.q (role_at c.ask.new.dict.roles c.in_ok-q.q)) =
    subst (λ (b : Bool). MatchBool b (IsNothing (row_of c.in_ok-q.q (role_at c.ask.new.dict.roles c.in_ok-q.q))) (IsSomething (row_of c.in_ok-q.q (role_at c.ask.new.dict.roles c.in_ok-q.q))))
    c.if-is_zero.true c.is_zero.ensures in
    let j = apart_joins told _ _ c.requires.stored c.args.c.now c.requires.disequation _ _ _ a z c.push.new.self.now named in
    subst (λ (z : Constraint). AsksGreatest c.push.new.self.now (quantities_of c.ask.new.dict) (negated_form z.form)) (sym c.c.view_is)
    (member_asks_opposite told c.args.c.now c.push.new.self.now (quantities_of c.ask.new.dict) j.between c.args.c.now (length told + 1) j.at j.flat)

pub returns-in_ok-restored-in-None-clause-refuted : goal.returns-in_ok-restored-in-None-clause-refuted
returns-in_ok-restored-in-None-clause-refuted c =
    let told = c.args.told.now in
    let a = asked_of _ _ _ _ c.c.view_is _ _ _ c.in_ok-q.ensures.asked in
    let e : c.push.new.self.now ≡ c.reserve_places.new.self.now ++ Member (length c.args.told.now + 1) ∷ [] = rw c.unwrap.ensures at c.push.ensures.ok in
    let named = e ∙ ap (λ t. t ++ Member (length c.args.told.now + 1) ∷ []) c.in_ok-reserve_places-in-None.ensures.now in
    let z : IsNothing (row_of c.in_ok-q.q (role_at c.ask.new.dict.roles c.in_ok-q.q)) =
    subst (λ (b : Bool). MatchBool b (IsNothing (row_of c.in_ok-q.q (role_at c.ask.new.dict.roles c.in_ok-q.q))) (IsSomething (row_of c.in_ok-q.q (role_at c.ask.new.dict.roles c.in_ok-q.q))))
    c.if-is_zero.true c.is_zero.ensures in
    let j = apart_joins told _ _ c.requires.stored c.args.c.now c.requires.disequation _ _ _ a z c.push.new.self.now named in
    apart_certified (told ++ c.args.c.now ∷ []) c.push.new.self.now (quantities_of c.ask.new.dict) j.between c.args.c.now (length told + 1) j.at j.flat c.requires.disequation
    c.in_ok-restored-in-None.restored
    (subst (λ (z : Constraint). IsApartCertificate c.push.new.self.now (quantities_of c.ask.new.dict) z.form (length told + 1) c.in_ok-restored-in-None.restored) c.c.view_is
    c.in_ok-restored-in-None.ensures.certificate)

pub returns-in_err-restored-in-None-clause-overflow : goal.returns-in_err-restored-in-None-clause-overflow
returns-in_err-restored-in-None-clause-overflow c = λ pair e2.
    let told = c.args.told.now in
    let a = asked_of _ _ _ _ c.c.view_is _ _ _ c.in_ok-q.ensures.asked in
    let e : c.push.new.self.now ≡ c.reserve_places.new.self.now ++ Member (length c.args.told.now + 1) ∷ [] = rw c.unwrap.ensures at c.push.ensures.ok in
    let named = e ∙ ap (λ t. t ++ Member (length c.args.told.now + 1) ∷ []) c.in_ok-reserve_places-in-None.ensures.now in
    let z : IsNothing (row_of c.in_ok-q.q (role_at c.ask.new.dict.roles c.in_ok-q.q)) =
    subst (λ (b : Bool). MatchBool b (IsNothing (row_of c.in_ok-q.q (role_at c.ask.new.dict.roles c.in_ok-q.q))) (IsSomething (row_of c.in_ok-q.q (role_at c.ask.new.dict.roles c.in_ok-q.q))))
    c.if-is_zero.true c.is_zero.ensures in
    let j = apart_joins told _ _ c.requires.stored c.args.c.now c.requires.disequation _ _ _ a z c.push.new.self.now named in
    let f = search_refused c.from_residual-in_err-restored-in-None.result c.in_err-restored-in-None.field-0.0 pair c.from_residual-in_err-restored-in-None.ensures.1 e2 in
    either_refused told c.args.c.now c.push.new.self.now (quantities_of c.ask.new.dict) j.between c.args.c.now (length told + 1) j.at j.flat pair
    (subst (λ (z : Constraint). RefusesEither c.push.new.self.now (quantities_of c.ask.new.dict) z.form pair) c.c.view_is (c.in_err-restored-in-None.ensures.overflow pair (ap Err f)))

pub returns-in_err-restored-in-None-clause-pivots : goal.returns-in_err-restored-in-None-clause-pivots
returns-in_err-restored-in-None-clause-pivots c = λ n e2.
    let told = c.args.told.now in
    let a = asked_of _ _ _ _ c.c.view_is _ _ _ c.in_ok-q.ensures.asked in
    let e : c.push.new.self.now ≡ c.reserve_places.new.self.now ++ Member (length c.args.told.now + 1) ∷ [] = rw c.unwrap.ensures at c.push.ensures.ok in
    let named = e ∙ ap (λ t. t ++ Member (length c.args.told.now + 1) ∷ []) c.in_ok-reserve_places-in-None.ensures.now in
    let z : IsNothing (row_of c.in_ok-q.q (role_at c.ask.new.dict.roles c.in_ok-q.q)) =
    subst (λ (b : Bool). MatchBool b (IsNothing (row_of c.in_ok-q.q (role_at c.ask.new.dict.roles c.in_ok-q.q))) (IsSomething (row_of c.in_ok-q.q (role_at c.ask.new.dict.roles c.in_ok-q.q))))
    c.if-is_zero.true c.is_zero.ensures in
    let j = apart_joins told _ _ c.requires.stored c.args.c.now c.requires.disequation _ _ _ a z c.push.new.self.now named in
    let f = spent c.from_residual-in_err-restored-in-None.result c.in_err-restored-in-None.field-0.0 n c.from_residual-in_err-restored-in-None.ensures.1 e2 in
    let o = c.in_err-restored-in-None.ensures.pivots n (ap Err f) in (
      o.0,
      either_spent told c.args.c.now c.push.new.self.now (quantities_of c.ask.new.dict) j.between c.args.c.now (length told + 1) j.at j.flat n
          (subst (λ (z : Constraint). SpendsEither c.push.new.self.now (quantities_of c.ask.new.dict) z.form n) c.c.view_is o.1),
    )

pub returns-in_ok-restored-in-None-clause-numbered : goal.returns-in_ok-restored-in-None-clause-numbered
returns-in_ok-restored-in-None-clause-numbered c =
    let e : c.push.new.self.now ≡ c.reserve_places.new.self.now ++ Member (length c.args.told.now + 1) ∷ [] = rw c.unwrap.ensures at c.push.ensures.ok in
    let named = e ∙ ap (λ t. t ++ Member (length c.args.told.now + 1) ∷ []) c.in_ok-reserve_places-in-None.ensures.now in
    numbered_member c.ask.new.names.now c.ask.new.numbers.entries c.in_ok-q.ensures.numbered (length c.args.told.now + 1) c.push.new.self.now named

pub returns-in_err-restored-in-None-clause-numbered : goal.returns-in_err-restored-in-None-clause-numbered
returns-in_err-restored-in-None-clause-numbered c =
    let e : c.push.new.self.now ≡ c.reserve_places.new.self.now ++ Member (length c.args.told.now + 1) ∷ [] = rw c.unwrap.ensures at c.push.ensures.ok in
    let named = e ∙ ap (λ t. t ++ Member (length c.args.told.now + 1) ∷ []) c.in_ok-reserve_places-in-None.ensures.now in
    numbered_member c.ask.new.names.now c.ask.new.numbers.entries c.in_ok-q.ensures.numbered (length c.args.told.now + 1) c.push.new.self.now named
