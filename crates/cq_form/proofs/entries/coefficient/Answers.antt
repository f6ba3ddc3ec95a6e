use Rattle.cq_form.proofs.Rows.{row_of, has_product, not_mentioned, both_answers}
use Rattle.cq_form.proofs.entries.coefficient.Goals as goal

pub entry_at-requires : goal.entry_at-requires
entry_at-requires c = record { row = row_of 0 c.args.entries.now c.requires.in_order }

pub returns : goal.returns
returns c =
    both_answers c.entry_at.result (not_mentioned c.args.variable.0 c.args.entries.now)
    (λ q h. has_product (record { quantity = c.args.variable.0; factor = q }) c.args.entries.now h) c.entry_at.ensures
