use Rattle.std.proofs.Common.{◌≡◌, ◌∙◌, [], ◌∷◌, length, rules, inl, inr, sym, subst}
use Rattle.spec_numbers.specs.Rational.{0ℚ}
use Rattle.cq_frac.proofs.Exits.{pair_told}
use Rattle.cq_frac.specs.Rows.{everywhere, IsRowFrom, multiplier, TellsScaled}
use Rattle.cq_frac.proofs.OneMore.{if_ok, on_ok, is_empty_list, is_one, nothing_value, nothing_accepted, one_shown, one_value, one_pair, one_taken}
use Rattle.cq_frac.proofs.Shifts.{gain_not_zero}
use Rattle.cq_frac.proofs.row.merged_into.Goals as goal
use Rattle.cq_frac.proofs.row.merged_into.Goals.{After-index-b-0}

pub returns-then-is_empty-clause-value : goal.returns-then-is_empty-clause-value
returns-then-is_empty-clause-value c =
    let e : length c.args.b.now ≡ 0 = search rules in
    nothing_value c.args.how c.args.scale c.args.row.items c.args.b.now (is_empty_list c.args.b.now e)

pub returns-then-is_empty-clause-accepted : goal.returns-then-is_empty-clause-accepted
returns-then-is_empty-clause-accepted c =
    let e : length c.args.b.now ≡ 0 = search rules in
    nothing_accepted c.args.how c.args.scale c.args.row.items c.args.b.now (is_empty_list c.args.b.now e)

-- the one entry
only : (c : After-index-b-0) → c.index-b-0.result ∷ [] ≡ c.args.b.now
only c = is_one c.args.b.now c.index-b-0.result c.if-b-eq1.true c.index-b-0.is

pub returns-in_err-factor-clause-overflow : goal.returns-in_err-factor-clause-overflow
returns-in_err-factor-clause-overflow c = λ pair e.
    let w = (goal.at.returns-in_err-factor-clause-overflow c).After-index-b-0 in
    inl (one_shown c.args.how c.args.scale c.args.row.items c.args.b.now c.index-b-0.result 0ℚ (only w) pair
    (subst (TellsScaled c.args.scale c.index-b-0.result.factor) (pair_told _ _ pair c.from_residual.ensures.1 e) c.in_err-factor.ensures))

pub join-requires-clause-nonzero : goal.join-requires-clause-nonzero
join-requires-clause-nonzero c =
    let w = (goal.at.join-requires-clause-nonzero c).After-index-b-0 in
    let r = subst (IsRowFrom everywhere 0) (sym (only w)) c.requires.b_row in
    gain_not_zero (multiplier c.args.scale) c.index-b-0.result.factor c.in_ok-factor.factor c.in_ok-factor.ensures.0 c.requires.nonzero r.2

pub returns-then-b-eq1-clause-row : goal.returns-then-b-eq1-clause-row
returns-then-b-eq1-clause-row c = λ p r s.
    let w = (goal.at.returns-then-b-eq1-clause-row c).After-index-b-0 in
    let t = subst (IsRowFrom p 0) (sym (only w)) s in
    c.join.ensures.row p t.1 r

pub returns-then-b-eq1-clause-value : goal.returns-then-b-eq1-clause-value
returns-then-b-eq1-clause-value c =
    let w = (goal.at.returns-then-b-eq1-clause-value c).After-index-b-0 in
    if_ok c.join.result (λ r f x. f x ∙ one_value c.args.how c.args.scale c.args.row.items c.args.b.now c.index-b-0.result c.in_ok-factor.factor (only w) c.in_ok-factor.ensures.0 x) c.join.ensures.value

pub returns-then-b-eq1-clause-overflow : goal.returns-then-b-eq1-clause-overflow
returns-then-b-eq1-clause-overflow c = λ pair e.
    let w = (goal.at.returns-then-b-eq1-clause-overflow c).After-index-b-0 in
    inr (one_pair c.args.how c.args.scale c.args.row.items c.args.b.now c.index-b-0.result c.in_ok-factor.factor (only w) c.in_ok-factor.ensures.0 pair (c.join.ensures.overflow pair e))

pub returns-then-b-eq1-clause-accepted : goal.returns-then-b-eq1-clause-accepted
returns-then-b-eq1-clause-accepted c =
    let w = (goal.at.returns-then-b-eq1-clause-accepted c).After-index-b-0 in
    on_ok c.join.result (one_taken c.args.how c.args.scale c.args.row.items c.args.b.now c.index-b-0.result c.in_ok-factor.factor (only w) c.in_ok-factor.ensures.0 c.in_ok-factor.ensures.1) c.join.ensures.accepted
