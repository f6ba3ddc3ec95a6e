use Rattle.std.proofs.Common.{◌≡◌, ◌∙◌, Err, ap, sym, subst, refl}
use Rattle.cq_frac.specs.Rows.{everywhere, Has, Lacks}
use Rattle.cq_frac.specs.Numbers.{ShiftPair}
use Rattle.cq_frac.proofs.Exits.{refusal_told}
use Rattle.cq_frac.proofs.Shifts.{entry_not_zero}
use Rattle.cq_frac.proofs.Units.{at_unit}
use Rattle.cq_dict.proofs.Moves.{moved_some, moved_none}
use Rattle.cq_dict.proofs.exchange.moved.Goals as goal
use Rattle.cq_dict.proofs.exchange.moved.Goals.{In-Some}

entry : (c : In-Some) → Has (record { quantity = c.args.column; factor = c.in-Some.e }) c.args.other.now.live
entry c = subst (Has (record { quantity = c.args.column; factor = c.in-Some.e })) c.live.ensures c.in-Some.ensures

pub shifted-requires-clause-entry : goal.shifted-requires-clause-entry
shifted-requires-clause-entry c = entry_not_zero everywhere 0 c.args.other.now.live c.args.column c.in-Some.e c.requires.other_row.live_row (entry (goal.at.shifted-requires-clause-entry c).In-Some)

pub returns-in_err-row-in-Some-clause-overflow : goal.returns-in_err-row-in-Some-clause-overflow
returns-in_err-row-in-Some-clause-overflow c = λ pair e.
    let h = c.in_err-row-in-Some.ensures.overflow pair (ap Err (refusal_told _ _ pair c.from_residual.ensures.1 e)) in
    (c.in-Some.e, entry (goal.at.returns-in_err-row-in-Some-clause-overflow c).In-Some, h.0, h.1)

pub returns-in_ok-row-in-Some-clause-value : goal.returns-in_ok-row-in-Some-clause-value
returns-in_ok-row-in-Some-clause-value c = (
  c.in_ok-row-in-Some.row,
  refl,
  moved_some c.args.other.now c.args.q.now c.in_ok-row-in-Some.row c.args.column c.args.leaving c.in-Some.e c.args.rate c.requires.other_row
      (entry (goal.at.returns-in_ok-row-in-Some-clause-value c).In-Some) c.requires.own c.requires.apart c.in_ok-row-in-Some.ensures.value,
)

pub returns-in_ok-row-in-Some-clause-accepted : goal.returns-in_ok-row-in-Some-clause-accepted
returns-in_ok-row-in-Some-clause-accepted c = λ e h o a b w z.
    let k = entry (goal.at.returns-in_ok-row-in-Some-clause-accepted c).In-Some in
    let f : e ≡ c.in-Some.e =
    sym (at_unit everywhere 0 c.args.other.now.live (record { quantity = c.args.column; factor = e }) c.requires.other_row.live_row h)
    ∙ at_unit everywhere 0 c.args.other.now.live (record { quantity = c.args.column; factor = c.in-Some.e }) c.requires.other_row.live_row k in
    c.in_ok-row-in-Some.ensures.accepted o a b (subst (λ y. ShiftPair c.args.other.now y c.args.q.now c.args.rate o a b) f w) z

pub returns-in-None-clause-value : goal.returns-in-None-clause-value
returns-in-None-clause-value c = (
  c.args.other.now,
  refl,
  moved_none c.args.other.now c.args.q.now c.args.column c.args.leaving c.args.rate (subst (Lacks c.args.column) c.live.ensures c.in-None.ensures),
)

pub returns-in-None-clause-accepted : goal.returns-in-None-clause-accepted
returns-in-None-clause-accepted c = λ e h. absurd (c.in-None.ensures (record { quantity = c.args.column; factor = e }) (subst (Has (record { quantity = c.args.column; factor = e })) (sym c.live.ensures) h) refl)
