use Rattle.std.proofs.Common.{◌∙◌, inl, inr, ap, sym}
use Rattle.cq_frac.specs.Rows.{everywhere}
use Rattle.cq_frac.proofs.OneMore.{if_both, on_ok}
use Rattle.cq_form.specs.Entries.{products_of}
use Rattle.cq_form.proofs.Forms.{nothing_left, zero_accepted}
use Rattle.cq_form.proofs.Rows.{row_of, multiple_is, multiple_told, multiple_accepted}
use Rattle.cq_form.proofs.entries.scaled.Goals as goal

pub returns-then-is_zero-clause-value : goal.returns-then-is_zero-clause-value
returns-then-is_zero-clause-value c = ap products_of c.new.ensures.items ∙ sym (nothing_left c.args.k (products_of c.args.entries.now) (c.is_zero.ensures.0 c.if-is_zero.true))

pub returns-then-is_zero-clause-accepted : goal.returns-then-is_zero-clause-accepted
returns-then-is_zero-clause-accepted c = λ q h. zero_accepted c.args.k q (c.is_zero.ensures.0 c.if-is_zero.true)

pub combined-requires-clause-b_row : goal.combined-requires-clause-b_row
combined-requires-clause-b_row c = row_of 0 c.args.entries.now c.requires.in_order

pub returns-clause-value : goal.returns-clause-value
returns-clause-value c =
    if_both c.combined.result (λ r h k. multiple_is c.args.k c.args.entries.now r.items c.requires.in_order h k)
    (c.combined.ensures.row everywhere tt (row_of 0 c.args.entries.now c.requires.in_order)) c.combined.ensures.value

pub returns-clause-accepted : goal.returns-clause-accepted
returns-clause-accepted c = on_ok c.combined.result (λ n. multiple_accepted c.args.k c.args.entries.now n.0) c.combined.ensures.accepted

pub returns-clause-overflow : goal.returns-clause-overflow
returns-clause-overflow c = λ pair e.
    elim (c.combined.ensures.overflow pair e) [ inl h ↦ multiple_told c.args.k c.args.entries.now pair h | inr h ↦ absurd h.in_left ]
