use Rattle.std.proofs.Common.{◌+◌, ◌++◌, [], ◌∷◌, length, refl, sym, subst}
use Rattle.spec_linear.specs.Solution.{Constraint}
use Rattle.spec_linear.specs.Certificate.{Refutes}
use Rattle.cq_dict.specs.DictValue.{quantities_of}
use Rattle.cq_tableau.specs.Restored.{AsksGreatest, IsFormCertificate, RefusesFormEntries, SpendsFormEntries}
use Rattle.cq_store.proofs.Against.{asks_below, below_refutes, below_refused, below_spent}
use Rattle.cq_store.proofs.Concluded.{weaker}
use Rattle.cq_store.proofs.equating.below_certificate.Goals as goal

pub form_certificate-requires-clause-greatest : goal.form_certificate-requires-clause-greatest
form_certificate-requires-clause-greatest c =
    subst (λ (z : Constraint). AsksGreatest c.args.names.now.now (quantities_of c.args.dict.now) z.form) (sym c.c.view_is)
    (asks_below c.args.told.now c.args.names.now.now (quantities_of c.args.dict.now) c.requires.stored c.args.c.now c.requires.knows c.requires.below)

pub returns-clause-refuted : goal.returns-clause-refuted
returns-clause-refuted c =
    let told = c.args.told.now in
    let names = c.args.names.now.now in
    let q = quantities_of c.args.dict.now in
    let k : Constraint = record { relation = c.c.inside.relation; form = c.c.inside.form } in
    let number = length told + 1 in
    weaker c.form_certificate.result (IsFormCertificate names q k.form number) (λ cert. Refutes cert (told ++ c.args.c.now ∷ []))
    (λ cert x.
    below_refutes told names q c.requires.stored c.args.c.now c.requires.knows c.requires.equation c.requires.below number refl cert
    (subst (λ (z : Constraint). IsFormCertificate names q z.form number cert) c.c.view_is x))
    c.form_certificate.ensures.certificate

pub returns-clause-overflow : goal.returns-clause-overflow
returns-clause-overflow c = λ pair e.
    let q = quantities_of c.args.dict.now in
    below_refused c.args.told.now c.args.names.now.now q c.requires.stored c.args.c.now c.requires.knows pair
    (subst (λ (z : Constraint). RefusesFormEntries c.args.names.now.now q z.form pair) c.c.view_is (c.form_certificate.ensures.overflow pair e))

pub returns-clause-pivots : goal.returns-clause-pivots
returns-clause-pivots c = λ n e.
    let q = quantities_of c.args.dict.now in
    let o = c.form_certificate.ensures.pivots n e in (
      o.0,
      below_spent c.args.told.now c.args.names.now.now q c.requires.stored c.args.c.now c.requires.knows n
          (subst (λ (z : Constraint). SpendsFormEntries c.args.names.now.now q z.form n) c.c.view_is o.1),
    )
