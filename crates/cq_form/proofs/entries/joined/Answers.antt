use Rattle.cq_form.proofs.Rows.{row_of, joined_is, common_told, common_accepted}
use Rattle.cq_frac.proofs.OneMore.{if_both, on_ok}
use Rattle.cq_form.proofs.entries.joined.Goals as goal

pub joined-requires-clause-row : goal.joined-requires-clause-row
joined-requires-clause-row c = row_of 0 c.args.entries.items c.requires.in_order

pub joined-requires-clause-b_row : goal.joined-requires-clause-b_row
joined-requires-clause-b_row c = row_of 0 c.args.other.now c.requires.other_in_order

pub returns-clause-value : goal.returns-clause-value
returns-clause-value c =
    if_both c.joined.result (λ r h k. joined_is c.args.how c.args.entries.items c.args.other.now r.items c.requires.in_order c.requires.other_in_order h k) c.joined.ensures.row c.joined.ensures.value

pub returns-clause-accepted : goal.returns-clause-accepted
returns-clause-accepted c = on_ok c.joined.result (common_accepted c.args.how c.args.entries.items c.args.other.now) c.joined.ensures.accepted

pub returns-clause-overflow : goal.returns-clause-overflow
returns-clause-overflow c = λ pair e. common_told c.args.how c.args.entries.items c.args.other.now pair (c.joined.ensures.overflow pair e)
