use Rattle.std.proofs.Common.{◌++◌, [], ◌∷◌, inl, inr, Result, Ok, Err}
use Rattle.std.specs.Prelude.{IfOk}
use Rattle.spec_linear.specs.Solution.{Constraint}
use Rattle.spec_linear.specs.Certificate.{Refutes}
use Rattle.cq_dict.specs.DictValue.{quantities_of}
use Rattle.cq_tableau.specs.Restored.{IsFormCertificate, IsApartCertificate}
use Rattle.cq_store.proofs.Falls.{falls_there}
use Rattle.cq_store.proofs.Refusals.{member_asks, member_asks_opposite, member_refused, member_spent, either_refused, either_spent, strict_certified, apart_certified}
use Rattle.cq_store.proofs.falling.fallen_certificate.Goals as goal

pub form_certificate-requires-clause-greatest : goal.form_certificate-requires-clause-greatest
form_certificate-requires-clause-greatest c =
    let told = c.args.told.now in
    let k : Constraint = record { relation = c.member.inside.relation; form = c.member.inside.form } in
    let t = falls_there told c.args.c.now _ _ c.requires.falls _ c.member_number-number.ensures k c.index-told-number.result c.member.view_is c.index-told-number.is in
    member_asks told c.args.c.now _ _ c.requires.between k _ t.at t.flat

pub apart_certificate-requires-clause-greatest : goal.apart_certificate-requires-clause-greatest
apart_certificate-requires-clause-greatest c =
    let told = c.args.told.now in
    let k : Constraint = record { relation = c.member.inside.relation; form = c.member.inside.form } in
    let t = falls_there told c.args.c.now _ _ c.requires.falls _ c.member_number-number.ensures k c.index-told-number.result c.member.view_is c.index-told-number.is in
    member_asks told c.args.c.now _ _ c.requires.between k _ t.at t.flat

pub apart_certificate-requires-clause-least : goal.apart_certificate-requires-clause-least
apart_certificate-requires-clause-least c =
    let told = c.args.told.now in
    let k : Constraint = record { relation = c.member.inside.relation; form = c.member.inside.form } in
    let t = falls_there told c.args.c.now _ _ c.requires.falls _ c.member_number-number.ensures k c.index-told-number.result c.member.view_is c.index-told-number.is in
    member_asks_opposite told c.args.c.now _ _ c.requires.between k _ t.at t.flat

pub returns-in-Ne-clause-overflow : goal.returns-in-Ne-clause-overflow
returns-in-Ne-clause-overflow c = λ pair e.
    let told = c.args.told.now in
    let k : Constraint = record { relation = c.member.inside.relation; form = c.member.inside.form } in
    let t = falls_there told c.args.c.now _ _ c.requires.falls _ c.member_number-number.ensures k c.index-told-number.result c.member.view_is c.index-told-number.is in
    either_refused told c.args.c.now _ _ c.requires.between k _ t.at t.flat pair (c.apart_certificate.ensures.overflow pair e)

pub returns-in-Ne-clause-pivots : goal.returns-in-Ne-clause-pivots
returns-in-Ne-clause-pivots c = λ m e.
    let told = c.args.told.now in
    let k : Constraint = record { relation = c.member.inside.relation; form = c.member.inside.form } in
    let t = falls_there told c.args.c.now _ _ c.requires.falls _ c.member_number-number.ensures k c.index-told-number.result c.member.view_is c.index-told-number.is in
    let o = c.apart_certificate.ensures.pivots m e in
    (o.0, either_spent told c.args.c.now _ _ c.requires.between k _ t.at t.flat m o.1)

pub returns-in_default-clause-overflow : goal.returns-in_default-clause-overflow
returns-in_default-clause-overflow c = λ pair e.
    let told = c.args.told.now in
    let k : Constraint = record { relation = c.member.inside.relation; form = c.member.inside.form } in
    let t = falls_there told c.args.c.now _ _ c.requires.falls _ c.member_number-number.ensures k c.index-told-number.result c.member.view_is c.index-told-number.is in
    member_refused told c.args.c.now _ _ c.requires.between k _ t.at t.flat pair (c.form_certificate.ensures.overflow pair e)

pub returns-in_default-clause-pivots : goal.returns-in_default-clause-pivots
returns-in_default-clause-pivots c = λ m e.
    let told = c.args.told.now in
    let k : Constraint = record { relation = c.member.inside.relation; form = c.member.inside.form } in
    let t = falls_there told c.args.c.now _ _ c.requires.falls _ c.member_number-number.ensures k c.index-told-number.result c.member.view_is c.index-told-number.is in
    let o = c.form_certificate.ensures.pivots m e in
    (o.0, member_spent told c.args.c.now _ _ c.requires.between k _ t.at t.flat m o.1)

-- what holds of a value holds still as something weaker
weaker : {T E : Type 0} (r : Result T E) (P Q : T → Type 0) → ((x : T) → P x → Q x) → IfOk r P → IfOk r Q
weaker (Ok x) P Q h p = h x p
weaker (Err f) P Q h p = tt

pub returns-in-Ne-clause-refuted : goal.returns-in-Ne-clause-refuted
returns-in-Ne-clause-refuted c =
    let told = c.args.told.now in
    let k : Constraint = record { relation = c.member.inside.relation; form = c.member.inside.form } in
    let t = falls_there told c.args.c.now _ _ c.requires.falls _ c.member_number-number.ensures k c.index-told-number.result c.member.view_is c.index-told-number.is in
    let l = told ++ c.args.c.now ∷ [] in
    weaker c.apart_certificate.result (IsApartCertificate c.args.names.now.now (quantities_of c.args.dict.now) k.form c.member_number-number.result) (λ cert. Refutes cert l)
    (apart_certified l _ _ c.requires.between k _ t.at t.flat c.in-Ne.is) c.apart_certificate.ensures.certificate

pub returns-in_default-clause-refuted : goal.returns-in_default-clause-refuted
returns-in_default-clause-refuted c =
    let told = c.args.told.now in
    let k : Constraint = record { relation = c.member.inside.relation; form = c.member.inside.form } in
    let t = falls_there told c.args.c.now _ _ c.requires.falls _ c.member_number-number.ensures k c.index-told-number.result c.member.view_is c.index-told-number.is in
    let l = told ++ c.args.c.now ∷ [] in
    weaker c.form_certificate.result (IsFormCertificate c.args.names.now.now (quantities_of c.args.dict.now) k.form c.member_number-number.result) (λ cert. Refutes cert l)
    (strict_certified l _ _ c.requires.between k _ t.at t.flat (elim t.relation_is [ inl r ↦ r | inr r ↦ absurd (c.in_default.not-Ne r) ])) c.form_certificate.ensures.certificate
