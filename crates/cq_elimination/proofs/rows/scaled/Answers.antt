use Rattle.std.proofs.Common.{sym, ◌∙◌}
use Rattle.cq_elimination.proofs.Leading.{without_lead, number_scaled, lead_stands, scales}
use Rattle.cq_elimination.proofs.rows.scaled.Goals as goal

pub divided-requires : goal.divided-requires
divided-requires c = record { nonzero = lead_stands c.in-Some.lead c.args.form.now c.in-Some.ensures c.entries-entries.ensures.in_order }

pub returns-in_ok-new-in-None-clause-value : goal.returns-in_ok-new-in-None-clause-value
returns-in_ok-new-in-None-clause-value c =
    c.in_ok-new-in-None.ensures
    ∙ number_scaled c.args.form.now c.unit_of.result (without_lead c.args.form.now.products c.in-None.ensures) (λ z. c.unit_of.ensures.zero (c.constant.ensures ∙ z))
    (λ n. c.unit_of.ensures.unit (λ z. n (sym c.constant.ensures ∙ z)))

pub returns-in-Some-clause-overflow : goal.returns-in-Some-clause-overflow
returns-in-Some-clause-overflow c = λ pair e.
    scales c.in-Some.lead c.args.form.now c.in-Some.ensures pair c.entries-entries.ensures.in_order (c.divided.ensures.overflow pair e)
