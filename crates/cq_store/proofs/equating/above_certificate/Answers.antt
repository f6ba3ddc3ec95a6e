use Rattle.std.proofs.Common.{◌+◌, ◌++◌, [], ◌∷◌, length, refl, sym, subst}
use Rattle.spec_linear.specs.Form.{negated_form}
use Rattle.spec_linear.specs.Solution.{Constraint}
use Rattle.spec_linear.specs.Certificate.{Refutes}
use Rattle.cq_dict.specs.DictValue.{quantities_of}
use Rattle.cq_tableau.specs.Restored.{AsksGreatest, RefusesFormEntries, SpendsFormEntries}
use Rattle.cq_store.specs.Equated.{IsOppositeCertificate}
use Rattle.cq_store.proofs.Against.{asks_above, above_refutes, above_refused, above_spent}
use Rattle.cq_store.proofs.Concluded.{weaker}
use Rattle.cq_store.proofs.equating.above_certificate.Goals as goal

pub opposite_certificate-requires-clause-least : goal.opposite_certificate-requires-clause-least
opposite_certificate-requires-clause-least c =
    subst (λ (z : Constraint). AsksGreatest c.args.names.now.now (quantities_of c.args.dict.now) (negated_form z.form)) (sym c.c.view_is)
    (asks_above c.args.told.now c.args.names.now.now (quantities_of c.args.dict.now) c.requires.stored c.args.c.now c.requires.knows c.requires.above)

pub returns-clause-refuted : goal.returns-clause-refuted
returns-clause-refuted c =
    let told = c.args.told.now in
    let names = c.args.names.now.now in
    let q = quantities_of c.args.dict.now in
    let k : Constraint = record { relation = c.c.inside.relation; form = c.c.inside.form } in
    let number = length told + 1 in
    weaker c.opposite_certificate.result (IsOppositeCertificate names q k.form number) (λ cert. Refutes cert (told ++ c.args.c.now ∷ []))
    (λ cert x.
    above_refutes told names q c.requires.stored c.args.c.now c.requires.knows c.requires.equation c.requires.above number refl cert
    (subst (λ (z : Constraint). IsOppositeCertificate names q z.form number cert) c.c.view_is x))
    c.opposite_certificate.ensures.certificate

pub returns-clause-overflow : goal.returns-clause-overflow
returns-clause-overflow c = λ pair e.
    let q = quantities_of c.args.dict.now in
    above_refused c.args.told.now c.args.names.now.now q c.requires.stored c.args.c.now c.requires.knows pair
    (subst (λ (z : Constraint). RefusesFormEntries c.args.names.now.now q (negated_form z.form) pair) c.c.view_is (c.opposite_certificate.ensures.overflow pair e))

pub returns-clause-pivots : goal.returns-clause-pivots
returns-clause-pivots c = λ n e.
    let q = quantities_of c.args.dict.now in
    let o = c.opposite_certificate.ensures.pivots n e in (
      o.0,
      above_spent c.args.told.now c.args.names.now.now q c.requires.stored c.args.c.now c.requires.knows n
          (subst (λ (z : Constraint). SpendsFormEntries c.args.names.now.now q (negated_form z.form) n) c.c.view_is o.1),
    )
