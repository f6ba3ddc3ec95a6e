use Rattle.std.proofs.Common.{◌∙◌, inl, inr, subst}
use Rattle.spec_numbers.proofs.Sign.{one_not_zero}
use Rattle.cq_frac.specs.Rows.{sum_at, IsJoinedPair, NoJoinedPair}
use Rattle.cq_frac.proofs.OneMore.{if_ok, on_ok, times_one, joined_one}
use Rattle.cq_frac.proofs.row.joined.Goals as goal

pub merged_into-requires-clause-nonzero : goal.merged_into-requires-clause-nonzero
merged_into-requires-clause-nonzero c = one_not_zero

pub returns-clause-value : goal.returns-clause-value
returns-clause-value c = if_ok c.merged_into.result (λ r f x. f x ∙ joined_one c.args.how (sum_at x c.args.row.items) (sum_at x c.args.b.now)) c.merged_into.ensures.value

pub returns-clause-overflow : goal.returns-clause-overflow
returns-clause-overflow c = λ pair e.
    elim (c.merged_into.ensures.overflow pair e) [ inl h ↦ absurd h | inr h ↦ subst (λ t. IsJoinedPair c.args.row.items c.args.how t pair) (times_one c.args.b.now) h ]

pub returns-clause-accepted : goal.returns-clause-accepted
returns-clause-accepted c = on_ok c.merged_into.result (λ h. subst (NoJoinedPair c.args.row.items c.args.how) (times_one c.args.b.now) h.1) c.merged_into.ensures.accepted
