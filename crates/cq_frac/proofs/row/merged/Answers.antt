use Rattle.std.proofs.Common.{◌≡◌, subst, inl, inr}
use Rattle.cq_frac.specs.Refused.{Tells}
use Rattle.cq_frac.proofs.Exits.{pair_told}
use Rattle.cq_frac.proofs.Refusals.{never_both}
use Rattle.cq_frac.specs.declared.row.Next.{Next}
use Rattle.cq_frac.specs.declared.row.Next.TheVariants.{Left, Right, Both}
use Rattle.cq_frac.specs.Rows.{everywhere, IsNext, multiplier, operation_of, TellsScaled}
use Rattle.cq_frac.proofs.Merge.{started, left_more, right_more, both_zero, both_more, row_at_end, value_end, products_end, joined_end, scaled_shown, joined_shown}
use Rattle.cq_frac.proofs.Units.{row_times}
use Rattle.cq_frac.proofs.row.merged.Goals as goal
use Rattle.cq_frac.proofs.row.merged.Goals.{In-Some}

-- what comes next
next_is : (c : In-Some) → (n : Next) → c.in-Some.next ≡ n → IsNext c.args.a.now c.loop-next.i c.args.b.now c.loop-next.j n
next_is c n e = subst (IsNext c.args.a.now c.loop-next.i c.args.b.now c.loop-next.j) e c.in-Some.ensures

pub loop-next-init : goal.loop-next-init
loop-next-init c = started c.args.how c.args.scale c.args.a.now c.args.b.now _ c.in_ok-row.ensures.items

pub loop-next-preserved-in-Left : goal.loop-next-preserved-in-Left
loop-next-preserved-in-Left c =
    left_more c.loop-next.invariant c.in-Left.left _ (next_is (goal.at.loop-next-preserved-in-Left c).In-Some (Left c.in-Left.left) c.in-Left.is) c.in_ok-push-in-Left.ensures.items

pub loop-next-preserved-in-Right : goal.loop-next-preserved-in-Right
loop-next-preserved-in-Right c =
    right_more c.loop-next.invariant c.in-Right.right c.in_ok-scaled-in-Right.field-0 _ _ (next_is (goal.at.loop-next-preserved-in-Right c).In-Some (Right c.in-Right.right) c.in-Right.is)
    c.in_ok-scaled-in-Right.ensures.0 c.in_ok-scaled-in-Right.ensures.1 c.alone-factor.ensures c.in_ok-push-in-Right.ensures.items

pub loop-next-preserved-then-is_zero : goal.loop-next-preserved-then-is_zero
loop-next-preserved-then-is_zero c =
    both_zero c.loop-next.invariant c.in-Both.left c.in-Both.right c.in_ok-scaled-in-Both.field-0 c.in_ok-factor-in-Both.factor
    (next_is (goal.at.loop-next-preserved-then-is_zero c).In-Some (Both c.in-Both.left c.in-Both.right) c.in-Both.is)
    c.in_ok-scaled-in-Both.ensures.0 c.in_ok-scaled-in-Both.ensures.1 c.in_ok-factor-in-Both.ensures.0 (never_both (operation_of c.args.how) _ _ c.in_ok-factor-in-Both.ensures.1) (c.is_zero.ensures.0 c.if-is_zero.true)

pub loop-next-preserved : goal.loop-next-preserved
loop-next-preserved c =
    both_more c.loop-next.invariant c.in-Both.left c.in-Both.right c.in_ok-scaled-in-Both.field-0 c.in_ok-factor-in-Both.factor
    (next_is (goal.at.loop-next-preserved c).In-Some (Both c.in-Both.left c.in-Both.right) c.in-Both.is)
    c.in_ok-scaled-in-Both.ensures.0 c.in_ok-scaled-in-Both.ensures.1 c.in_ok-factor-in-Both.ensures.0 (never_both (operation_of c.args.how) _ _ c.in_ok-factor-in-Both.ensures.1) _
    (λ z. let e = c.is_zero.ensures.1 z in let f = c.if-is_zero.false in cc) c.in_ok-push-in-Both.ensures.items

pub returns-in_err-scaled-in-Right-clause-overflow : goal.returns-in_err-scaled-in-Right-clause-overflow
returns-in_err-scaled-in-Right-clause-overflow c = λ pair e.
    inl (scaled_shown c.args.scale c.args.b.now c.loop-next.j c.in-Right.right pair
    (next_is (goal.at.returns-in_err-scaled-in-Right-clause-overflow c).In-Some (Right c.in-Right.right) c.in-Right.is).0
    (subst (TellsScaled c.args.scale c.in-Right.right.factor) (pair_told _ _ pair c.from_residual-in_err-scaled-in-Right.ensures.1 e) c.in_err-scaled-in-Right.ensures))

pub returns-in_err-scaled-in-Both-clause-overflow : goal.returns-in_err-scaled-in-Both-clause-overflow
returns-in_err-scaled-in-Both-clause-overflow c = λ pair e.
    inl (scaled_shown c.args.scale c.args.b.now c.loop-next.j c.in-Both.right pair
    (next_is (goal.at.returns-in_err-scaled-in-Both-clause-overflow c).In-Some (Both c.in-Both.left c.in-Both.right) c.in-Both.is).1
    (subst (TellsScaled c.args.scale c.in-Both.right.factor) (pair_told _ _ pair c.from_residual-in_err-scaled-in-Both.ensures.1 e) c.in_err-scaled-in-Both.ensures))

pub returns-in_err-factor-in-Both-clause-overflow : goal.returns-in_err-factor-in-Both-clause-overflow
returns-in_err-factor-in-Both-clause-overflow c = λ pair e.
    inr (joined_shown c.args.how c.args.scale c.args.a.now c.args.b.now c.loop-next.i c.loop-next.j c.in-Both.left c.in-Both.right c.in_ok-scaled-in-Both.field-0 pair
    (next_is (goal.at.returns-in_err-factor-in-Both-clause-overflow c).In-Some (Both c.in-Both.left c.in-Both.right) c.in-Both.is)
    c.in_ok-scaled-in-Both.ensures.0
    (subst (Tells _ c.in-Both.left.factor c.in_ok-scaled-in-Both.field-0) (pair_told _ _ pair c.from_residual-in_err-factor-in-Both.ensures.1 e) c.in_err-factor-in-Both.ensures))

pub returns-clause-row : goal.returns-clause-row
returns-clause-row c = λ p h r. row_at_end c.loop-next.invariant p h (row_times p 0 (multiplier c.args.scale) c.args.b.now c.requires.nonzero r)

pub returns-clause-value : goal.returns-clause-value
returns-clause-value c = λ x. value_end c.loop-next.invariant c.in_default.ensures.0 c.in_default.ensures.1 x

pub returns-clause-accepted : goal.returns-clause-accepted
returns-clause-accepted c = (
  products_end c.loop-next.invariant c.in_default.ensures.0 c.in_default.ensures.1,
  joined_end c.loop-next.invariant c.in_default.ensures.0 c.in_default.ensures.1 c.requires.a_row (row_times everywhere 0 (multiplier c.args.scale) c.args.b.now c.requires.nonzero c.requires.b_row),
)
