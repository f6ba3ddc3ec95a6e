use Rattle.std.proofs.Common.{◌≡◌, ◌+◌, List, [], ◌∷◌, ◌++◌, Bool, Err, length, ap, refl, subst, sym, ◌∙◌}
use Rattle.std.specs.Prelude.{MatchBool}
use Rattle.spec_numbers.specs.Rational.{0ℚ}
use Rattle.spec_linear.specs.declared.Relation.TheVariants.{Ge}
use Rattle.spec_linear.specs.Solution.{Constraint}
use Rattle.spec_simplex.specs.Asked.{NoQuestion, of_joining}
use Rattle.cq_frac.specs.declared.row.Entry.{Entry}
use Rattle.cq_frac.specs.Row.{Row}
use Rattle.cq_dict.specs.declared.table.Role.TheVariants.{Basic}
use Rattle.cq_dict.specs.DictValue.{quantities_of}
use Rattle.cq_dict.specs.Roles.{IsAt}
use Rattle.cq_tableau.specs.declared.names.Name.{Name}
use Rattle.cq_tableau.specs.declared.names.Name.TheVariants.{Member}
use Rattle.cq_tableau.specs.Raised.{IsBest, IsRaised}
use Rattle.cq_tableau.specs.Refuted.{IsRowCertificate, IsTooSmall}
use Rattle.cq_tableau.specs.Restored.{IsRestoredCertificate}
use Rattle.cq_tableau.proofs.Storing.{asked_row, numbered_member}
use Rattle.cq_tableau.specs.Faced.{IsOnFace}
use Rattle.cq_store.specs.StoreValue.{MayRefuse, Only}
use Rattle.cq_store.proofs.Asked.{asked_of, risen_joins}
use Rattle.cq_store.proofs.Extents.{asked_feasible}
use Rattle.cq_store.proofs.Moments.{asking_refused, raise_refused, raise_spent}
use Rattle.cq_store.proofs.Passed.{passed, store_spent, search_refused, spent}
use Rattle.cq_store.proofs.Refusals.{best_greatest, best_refuted, best_certified, best_refused, best_spent}
use Rattle.cq_store.proofs.Stays.{on_face}
use Rattle.cq_store.proofs.entering.enter_inequality.Goals as goal

pub returns-in_err-q-clause-overflow : goal.returns-in_err-q-clause-overflow
returns-in_err-q-clause-overflow c = λ pair e.
    let k : Constraint = record { relation = c.c.inside.relation; form = c.c.inside.form } in
    let f = passed c.from_residual.result c.in_err-q.field-0.0 pair c.from_residual.ensures.1 e in
    subst (λ (z : Constraint). MayRefuse c.args.told.now (Only z) NoQuestion pair) c.c.view_is
    (asking_refused c.args.told.now _ _ c.requires.stored c.c.inside.form (Only k) NoQuestion (of_joining k refl) pair (c.in_err-q.ensures.overflow pair (ap Err f)))

pub returns-in_err-q-clause-pivots : goal.returns-in_err-q-clause-pivots
returns-in_err-q-clause-pivots c = λ n e.
    absurd (c.in_err-q.ensures.pivots n (ap Err (store_spent c.from_residual.result c.in_err-q.field-0.0 n c.from_residual.ensures.1 e)))

pub raise-requires-clause-row : goal.raise-requires-clause-row
raise-requires-clause-row c =
    asked_row _ _ _ c.requires.stored _ _ _ _ c.in_ok-q.ensures.asked

pub raise-requires-clause-feasible : goal.raise-requires-clause-feasible
raise-requires-clause-feasible c =
    asked_feasible _ _ _ c.requires.stored _ _ _ _ c.in_ok-q.ensures.asked

pub returns-in-Rises-clause-joined : goal.returns-in-Rises-clause-joined
returns-in-Rises-clause-joined c =
    let told = c.args.told.now in
    let a = asked_of _ _ _ _ c.c.view_is _ _ _ c.in_ok-q.ensures.asked in
    let e : c.push.new.self.now ≡ c.reserve_places.new.self.now ++ Member (length c.args.told.now + 1) ∷ [] = rw c.unwrap.ensures at c.push.ensures.ok in
    let named = e ∙ ap (λ t. t ++ Member (length c.args.told.now + 1) ∷ []) c.in_ok-reserve_places.ensures.now in
    let r = subst (IsRaised c.in_ok-q.q c.ask.new.dict.roles c.ask.new.dict.restricted c.raise.new.dict.roles c.raise.new.dict.restricted) c.in-Rises.is c.in_ok-raise.ensures.raised in
    risen_joins told _ _ c.requires.stored c.args.c.now _ _ _ a c.requires.inequality (quantities_of c.raise.new.dict) r.0 r.1 c.push.new.self.now named
    c.new.result.items c.new.ensures.items

pub returns-in-Rises-clause-numbered : goal.returns-in-Rises-clause-numbered
returns-in-Rises-clause-numbered c =
    let e : c.push.new.self.now ≡ c.reserve_places.new.self.now ++ Member (length c.args.told.now + 1) ∷ [] = rw c.unwrap.ensures at c.push.ensures.ok in
    let named = e ∙ ap (λ t. t ++ Member (length c.args.told.now + 1) ∷ []) c.in_ok-reserve_places.ensures.now in
    numbered_member c.ask.new.names.now c.ask.new.numbers.entries c.in_ok-q.ensures.numbered (length c.args.told.now + 1) c.push.new.self.now named

pub returns-in-Some-clause-refuted : goal.returns-in-Some-clause-refuted
returns-in-Some-clause-refuted c =
    let told = c.args.told.now in
    let a = asked_of _ _ _ _ c.c.view_is _ _ _ c.in_ok-q.ensures.asked in
    let b : IsBest c.in_ok-q.q c.ask.new.dict.roles c.ask.new.dict.restricted c.raise.new.dict.roles c.raise.new.dict.restricted c.in-Best.greatest c.in-Best.columns.items =
    subst (IsRaised c.in_ok-q.q c.ask.new.dict.roles c.ask.new.dict.restricted c.raise.new.dict.roles c.raise.new.dict.restricted) c.in-Best.is c.in_ok-raise.ensures.raised in
    let small : IsTooSmall c.c.inside.relation c.in-Best.greatest =
    subst (λ (t : Bool). MatchBool t (IsTooSmall c.c.inside.relation c.in-Best.greatest) ((c.in-Best.greatest ≡ 0ℚ) × (c.c.inside.relation ≡ Ge))) c.if-is_refused.true c.is_refused.ensures in
    let short = subst (λ (z : Constraint). IsTooSmall z.relation c.in-Best.greatest) c.c.view_is small in
    let x : (own : Row) → IsAt c.raise.new.dict.roles c.in_ok-q.q (Basic own) → IsRowCertificate told c.reserve_places.new.self.now (length told + 1) own c.in-Some.cert =
    rw c.in-Some.is at c.in_ok-cert-in-Best.ensures in
    best_refuted told _ _ c.requires.stored c.args.c.now _ _ _ a c.raise.new.dict.roles c.raise.new.dict.restricted c.in-Best.greatest c.in-Best.columns.items b
    c.requires.inequality short c.in-Some.cert
    (λ own at. subst (λ (ns : List Name). IsRowCertificate told ns (length told + 1) own c.in-Some.cert) c.in_ok-reserve_places.ensures.now (x own at))

pub returns-in_err-raise-clause-overflow : goal.returns-in_err-raise-clause-overflow
returns-in_err-raise-clause-overflow c = λ pair e.
    let told = c.args.told.now in
    let a = asked_of _ _ _ _ c.c.view_is _ _ _ c.in_ok-q.ensures.asked in
    let f = search_refused c.from_residual-in_err-raise.result c.in_err-raise.field-0.0 pair c.from_residual-in_err-raise.ensures.1 e in
    raise_refused told _ _ c.requires.stored c.args.c.now _ _ _ a pair (c.in_err-raise.ensures.overflow pair (ap Err f))

pub returns-in_err-raise-clause-pivots : goal.returns-in_err-raise-clause-pivots
returns-in_err-raise-clause-pivots c = λ n e.
    let told = c.args.told.now in
    let a = asked_of _ _ _ _ c.c.view_is _ _ _ c.in_ok-q.ensures.asked in
    let f = spent c.from_residual-in_err-raise.result c.in_err-raise.field-0.0 n c.from_residual-in_err-raise.ensures.1 e in
    let o = c.in_err-raise.ensures.pivots n (ap Err f) in (o.0, raise_spent told _ _ c.requires.stored c.args.c.now _ _ _ a n o.1)

pub row_certificate-requires-clause-row : goal.row_certificate-requires-clause-row
row_certificate-requires-clause-row c =
    let b : IsBest c.in_ok-q.q c.ask.new.dict.roles c.ask.new.dict.restricted c.raise.new.dict.roles c.raise.new.dict.restricted c.in-Best.greatest c.in-Best.columns.items =
    subst (IsRaised c.in_ok-q.q c.ask.new.dict.roles c.ask.new.dict.restricted c.raise.new.dict.roles c.raise.new.dict.restricted) c.in-Best.is c.in_ok-raise.ensures.raised in
    b.row

pub row_certificate-requires-clause-greatest : goal.row_certificate-requires-clause-greatest
row_certificate-requires-clause-greatest c =
    let told = c.args.told.now in
    let a = asked_of _ _ _ _ c.c.view_is _ _ _ c.in_ok-q.ensures.asked in
    let b : IsBest c.in_ok-q.q c.ask.new.dict.roles c.ask.new.dict.restricted c.raise.new.dict.roles c.raise.new.dict.restricted c.in-Best.greatest c.in-Best.columns.items =
    subst (IsRaised c.in_ok-q.q c.ask.new.dict.roles c.ask.new.dict.restricted c.raise.new.dict.roles c.raise.new.dict.restricted) c.in-Best.is c.in_ok-raise.ensures.raised in
    best_greatest told _ _ c.requires.stored c.args.c.now _ _ _ a c.raise.new.dict.roles c.raise.new.dict.restricted c.in-Best.greatest c.in-Best.columns.items b

pub returns-then-is_refused-clause-refuted : goal.returns-then-is_refused-clause-refuted
returns-then-is_refused-clause-refuted c =
    let told = c.args.told.now in
    let a = asked_of _ _ _ _ c.c.view_is _ _ _ c.in_ok-q.ensures.asked in
    let b : IsBest c.in_ok-q.q c.ask.new.dict.roles c.ask.new.dict.restricted c.raise.new.dict.roles c.raise.new.dict.restricted c.in-Best.greatest c.in-Best.columns.items =
    subst (IsRaised c.in_ok-q.q c.ask.new.dict.roles c.ask.new.dict.restricted c.raise.new.dict.roles c.raise.new.dict.restricted) c.in-Best.is c.in_ok-raise.ensures.raised in
    let small : IsTooSmall c.c.inside.relation c.in-Best.greatest =
    subst (λ (t : Bool). MatchBool t (IsTooSmall c.c.inside.relation c.in-Best.greatest) ((c.in-Best.greatest ≡ 0ℚ) × (c.c.inside.relation ≡ Ge))) c.if-is_refused.true c.is_refused.ensures in
    let short = subst (λ (z : Constraint). IsTooSmall z.relation c.in-Best.greatest) c.c.view_is small in
    best_certified told _ _ c.requires.stored c.args.c.now _ _ _ a c.raise.new.dict.roles c.raise.new.dict.restricted c.in-Best.greatest c.in-Best.columns.items b
    c.requires.inequality short c.in_ok-restored-in-None.restored
    (subst (λ (ns : List Name). IsRestoredCertificate ns c.in_ok-q.q c.raise.new.dict.roles c.raise.new.dict.restricted (length told + 1) c.in_ok-restored-in-None.restored)
    c.in_ok-reserve_places.ensures.now c.in_ok-restored-in-None.ensures.certificate)

pub returns-in_err-restored-in-None-clause-overflow : goal.returns-in_err-restored-in-None-clause-overflow
returns-in_err-restored-in-None-clause-overflow c = λ pair e.
    let told = c.args.told.now in
    let a = asked_of _ _ _ _ c.c.view_is _ _ _ c.in_ok-q.ensures.asked in
    let b : IsBest c.in_ok-q.q c.ask.new.dict.roles c.ask.new.dict.restricted c.raise.new.dict.roles c.raise.new.dict.restricted c.in-Best.greatest c.in-Best.columns.items =
    subst (IsRaised c.in_ok-q.q c.ask.new.dict.roles c.ask.new.dict.restricted c.raise.new.dict.roles c.raise.new.dict.restricted) c.in-Best.is c.in_ok-raise.ensures.raised in
    let f = search_refused c.from_residual-in_err-restored-in-None.result c.in_err-restored-in-None.field-0.0 pair c.from_residual-in_err-restored-in-None.ensures.1 e in
    best_refused told _ _ c.requires.stored c.args.c.now _ _ _ a c.raise.new.dict.roles c.raise.new.dict.restricted c.in-Best.greatest c.in-Best.columns.items b pair
    (c.in_err-restored-in-None.ensures.overflow pair (ap Err f))

pub returns-in_err-restored-in-None-clause-pivots : goal.returns-in_err-restored-in-None-clause-pivots
returns-in_err-restored-in-None-clause-pivots c = λ n e.
    let told = c.args.told.now in
    let a = asked_of _ _ _ _ c.c.view_is _ _ _ c.in_ok-q.ensures.asked in
    let b : IsBest c.in_ok-q.q c.ask.new.dict.roles c.ask.new.dict.restricted c.raise.new.dict.roles c.raise.new.dict.restricted c.in-Best.greatest c.in-Best.columns.items =
    subst (IsRaised c.in_ok-q.q c.ask.new.dict.roles c.ask.new.dict.restricted c.raise.new.dict.roles c.raise.new.dict.restricted) c.in-Best.is c.in_ok-raise.ensures.raised in
    let f = spent c.from_residual-in_err-restored-in-None.result c.in_err-restored-in-None.field-0.0 n c.from_residual-in_err-restored-in-None.ensures.1 e in
    let o = c.in_err-restored-in-None.ensures.pivots n (ap Err f) in (
      o.0,
      best_spent told _ _ c.requires.stored c.args.c.now _ _ _ a c.raise.new.dict.roles c.raise.new.dict.restricted c.in-Best.greatest c.in-Best.columns.items b n o.1,
    )

pub enter_on_face-requires-clause-on_face : goal.enter_on_face-requires-clause-on_face
enter_on_face-requires-clause-on_face c =
    let told = c.args.told.now in
    let a = asked_of _ _ _ _ c.c.view_is _ _ _ c.in_ok-q.ensures.asked in
    let b : IsBest c.in_ok-q.q c.ask.new.dict.roles c.ask.new.dict.restricted c.raise.new.dict.roles c.raise.new.dict.restricted c.in-Best.greatest c.in-Best.columns.items =
    subst (IsRaised c.in_ok-q.q c.ask.new.dict.roles c.ask.new.dict.restricted c.raise.new.dict.roles c.raise.new.dict.restricted) c.in-Best.is c.in_ok-raise.ensures.raised in
    let zero : (c.in-Best.greatest ≡ 0ℚ) × (c.c.inside.relation ≡ Ge) =
    subst (λ (t : Bool). MatchBool t (IsTooSmall c.c.inside.relation c.in-Best.greatest) ((c.in-Best.greatest ≡ 0ℚ) × (c.c.inside.relation ≡ Ge))) c.if-is_refused.false c.is_refused.ensures in
    subst (λ (m : List Entry). IsOnFace told c.reserve_places.new.self.now c.args.c.now c.raise.new.dict.roles c.raise.new.dict.restricted c.in_ok-q.q m) (sym c.deref.ensures.value)
    (subst (λ (ns : List Name). IsOnFace told ns c.args.c.now c.raise.new.dict.roles c.raise.new.dict.restricted c.in_ok-q.q c.in-Best.columns.items) (sym c.in_ok-reserve_places.ensures.now)
    (on_face told _ _ c.requires.stored c.args.c.now _ _ _ a c.raise.new.dict.roles c.raise.new.dict.restricted c.in-Best.greatest c.in-Best.columns.items b zero.0
    (subst (λ (z : Constraint). z.relation ≡ Ge) c.c.view_is zero.1)))
