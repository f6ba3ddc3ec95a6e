use Rattle.std.proofs.Common.{ℕ, List, ◌∷◌, Err, ap, sym, subst, ◌∙◌}
use Rattle.spec_numbers.specs.Rational.{ℚ, 1ℚ, neg_ℚ}
use Rattle.spec_linear.specs.Form.{Linear}
use Rattle.cq_dict.specs.DictValue.{quantities_of}
use Rattle.cq_tableau.specs.Restored.{AsksGreatest, AreFormEntries, RefusesFormEntries, SpendsFormEntries}
use Rattle.cq_tableau.proofs.Passed.{search_passed, search_spent}
use Rattle.cq_store.proofs.equating.opposite_certificate.Goals as goal

pub form_entries-requires-clause-greatest : goal.form_entries-requires-clause-greatest
form_entries-requires-clause-greatest c =
    subst (λ (f : Linear). AsksGreatest c.args.names.now.now (quantities_of c.args.dict.now) f) (sym c.in_ok-opposite.ensures) c.requires.least

pub returns-clause-certificate : goal.returns-clause-certificate
returns-clause-certificate c = record {
  found = c.in_ok-found.found.items;
  falls = subst (λ (f : Linear). AreFormEntries c.args.names.now.now (quantities_of c.args.dict.now) f c.in_ok-found.found.items) c.in_ok-opposite.ensures c.in_ok-found.ensures.entries;
  is = c.new.ensures ∙ c.in_ok-entries.ensures ∙ ap (λ (s : List (ℕ × ℚ)). (c.args.number, neg_ℚ 1ℚ) ∷ s) c.deref.ensures.value;
}

pub returns-in_err-found-clause-overflow : goal.returns-in_err-found-clause-overflow
returns-in_err-found-clause-overflow c = λ pair e.
    let f = search_passed c.from_residual-in_err-found.result c.in_err-found.field-0.0 pair c.from_residual-in_err-found.ensures.1 e in
    subst (λ (f : Linear). RefusesFormEntries c.args.names.now.now (quantities_of c.args.dict.now) f pair) c.in_ok-opposite.ensures (c.in_err-found.ensures.overflow pair (ap Err f))

pub returns-in_err-found-clause-pivots : goal.returns-in_err-found-clause-pivots
returns-in_err-found-clause-pivots c = λ n e.
    let f = search_spent c.from_residual-in_err-found.result c.in_err-found.field-0.0 n c.from_residual-in_err-found.ensures.1 e in
    let o = c.in_err-found.ensures.pivots n (ap Err f) in
    (o.0, subst (λ (f : Linear). SpendsFormEntries c.args.names.now.now (quantities_of c.args.dict.now) f n) c.in_ok-opposite.ensures o.1)
