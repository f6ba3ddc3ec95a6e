use Rattle.std.proofs.Common.{◌≡◌, ◌∙◌, ℕ, Err, ap, sym, subst}
use Rattle.std.specs.Prelude.{MatchOption}
use Rattle.spec_numbers.specs.Rational.{IsPositive, ◌≤ℚ◌, 0ℚ}
use Rattle.spec_simplex.specs.Rule.{Limits, Leaves}
use Rattle.cq_frac.specs.Rows.{negated}
use Rattle.cq_dict.specs.Roles.{is_restricted, constant_at}
use Rattle.cq_simplex.specs.Dictionary.{dictionary}
use Rattle.cq_simplex.proofs.Exits.{simplex_told}
use Rattle.cq_dict.proofs.Roles.{constant_is}
use Rattle.cq_simplex.proofs.Turns.{optimal, overflows}
use Rattle.cq_simplex.proofs.turn.next_turn.Goals as goal
use Rattle.cq_simplex.proofs.turn.next_turn.Goals.{After-constant-value}

value_is : (c : After-constant-value) → c.constant-value.result ≡ constant_at c.args.dict.now.roles c.args.row
value_is c = c.constant-value.ensures c.requires.row.0 c.requires.row.1 ∙ sym (constant_is c.args.dict.now.roles c.args.row c.requires.row.0 c.requires.row.1)

pub returns-then-is_reached-clause-turn : goal.returns-then-is_reached-clause-turn
returns-then-is_reached-clause-turn c = (c.if-is_reached.ensures.0, subst IsPositive (value_is (goal.at.returns-then-is_reached-clause-turn c).After-constant-value) c.if-is_reached.ensures.1)

pub returns-in_default-entering-clause-turn : goal.returns-in_default-entering-clause-turn
returns-in_default-entering-clause-turn c = (
  optimal c.args.dict.now.roles c.args.dict.now.restricted c.args.row c.in_default.ensures c.in_default-entering.ensures,
  value_is (goal.at.returns-in_default-entering-clause-turn c).After-constant-value,
  λ own at. c.in_ok-multipliers.ensures ∙ ap negated (c.row.ensures.entries own at),
  c.if-is_reached.ensures,
)

pub returns-in_err-row-clause-overflow : goal.returns-in_err-row-clause-overflow
returns-in_err-row-clause-overflow c = λ pair e.
    overflows c.args.dict.now.roles c.args.dict.now.restricted c.args.row c.in-Some-entering.column pair c.in-Some-entering.ensures
    (c.in_err-row.ensures.overflow pair (ap Err (simplex_told _ _ pair c.from_residual-in_err-row.ensures.1 e)) c.args.row)

pub returns-in-Some-2-clause-turn : goal.returns-in-Some-2-clause-turn
returns-in-Some-2-clause-turn c = (
  record {
    enters = c.in-Some-entering.ensures;
    leaves = subst (λ o. MatchOption o ((q : ℕ) → Limits (is_restricted c.args.dict.now.restricted) (dictionary c.args.dict.now.roles c.args.row) c.in-Some-entering.column q → ⊥) (λ r. Leaves (is_restricted c.args.dict.now.restricted) (dictionary c.args.dict.now.roles c.args.row) c.in-Some-entering.column r)) c.in-Some-2.is (c.in_ok-row.ensures.value c.args.row);
  },
  λ p. subst (λ v. v ≤ℚ 0ℚ) (value_is (goal.at.returns-in-Some-2-clause-turn c).After-constant-value) (c.if-is_reached.ensures p),
)
