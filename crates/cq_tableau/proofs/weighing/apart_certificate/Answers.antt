use Rattle.std.proofs.Common.{ℕ, List, ◌∷◌, ◌++◌, Err, inl, inr, ap, ap₂, sym, subst, ◌∙◌}
use Rattle.spec_numbers.specs.Rational.{ℚ, 1ℚ, neg_ℚ}
use Rattle.spec_linear.specs.Form.{Linear, negated_form}
use Rattle.cq_dict.specs.DictValue.{quantities_of}
use Rattle.cq_dict.specs.Roles.{Quantities}
use Rattle.cq_tableau.specs.Restored.{AsksGreatest, AreFormEntries, RefusesFormEntries, SpendsFormEntries}
use Rattle.cq_tableau.proofs.Passed.{search_passed, search_spent}
use Rattle.cq_tableau.proofs.weighing.apart_certificate.Goals as goal

pub form_entries-requires-2-clause-greatest : goal.form_entries-requires-2-clause-greatest
form_entries-requires-2-clause-greatest c =
    subst (λ (f : Linear). AsksGreatest c.args.names.now.now (quantities_of c.form_entries.new.dict) f) (sym c.in_ok-opposite.ensures)
    (subst (λ (z : Quantities). AsksGreatest c.args.names.now.now z (negated_form c.args.form.now)) (sym c.in_ok-up.ensures.stays) c.requires.least)

pub returns-clause-certificate : goal.returns-clause-certificate
returns-clause-certificate c = record {
  up = c.in_ok-up.up.items;
  down = c.in_ok-down.down.items;
  rises = c.in_ok-up.ensures.entries;
  falls = subst (λ (z : Quantities). AreFormEntries c.args.names.now.now z (negated_form c.args.form.now) c.in_ok-down.down.items) c.in_ok-up.ensures.stays
      (subst (λ (f : Linear). AreFormEntries c.args.names.now.now (quantities_of c.form_entries.new.dict) f c.in_ok-down.down.items) c.in_ok-opposite.ensures c.in_ok-down.ensures.entries);
  is = c.new.ensures ∙ c.in_ok-entries.ensures
      ∙ ap₂ (λ (s t : List (ℕ × ℚ)). (c.args.number, 1ℚ) ∷ s ++ (c.args.number, neg_ℚ 1ℚ) ∷ t) c.deref.ensures.value c.deref-2.ensures.value;
}

pub returns-in_err-up-clause-overflow : goal.returns-in_err-up-clause-overflow
returns-in_err-up-clause-overflow c = λ pair e.
    inl (c.in_err-up.ensures.overflow pair (ap Err (search_passed c.from_residual.result c.in_err-up.field-0.0 pair c.from_residual.ensures.1 e)))

pub returns-in_err-up-clause-pivots : goal.returns-in_err-up-clause-pivots
returns-in_err-up-clause-pivots c = λ n e.
    let o = c.in_err-up.ensures.pivots n (ap Err (search_spent c.from_residual.result c.in_err-up.field-0.0 n c.from_residual.ensures.1 e)) in
    (o.0, inl o.1)

pub returns-in_err-down-clause-overflow : goal.returns-in_err-down-clause-overflow
returns-in_err-down-clause-overflow c = λ pair e.
    let p = search_passed c.from_residual-in_err-down.result c.in_err-down.field-0.0 pair c.from_residual-in_err-down.ensures.1 e in
    inr (subst (λ (z : Quantities). RefusesFormEntries c.args.names.now.now z (negated_form c.args.form.now) pair) c.in_ok-up.ensures.stays
    (subst (λ (f : Linear). RefusesFormEntries c.args.names.now.now (quantities_of c.form_entries.new.dict) f pair) c.in_ok-opposite.ensures
    (c.in_err-down.ensures.overflow pair (ap Err p))))

pub returns-in_err-down-clause-pivots : goal.returns-in_err-down-clause-pivots
returns-in_err-down-clause-pivots c = λ n e.
    let p = search_spent c.from_residual-in_err-down.result c.in_err-down.field-0.0 n c.from_residual-in_err-down.ensures.1 e in
    let o = c.in_err-down.ensures.pivots n (ap Err p) in (
      o.0,
      inr (subst (λ (z : Quantities). SpendsFormEntries c.args.names.now.now z (negated_form c.args.form.now) n) c.in_ok-up.ensures.stays
          (subst (λ (f : Linear). SpendsFormEntries c.args.names.now.now (quantities_of c.form_entries.new.dict) f n) c.in_ok-opposite.ensures o.1)),
    )
