use Rattle.std.proofs.Common.{◌≡◌, ◌∙◌, Err, refl, ap, sym, subst}
use Rattle.spec_numbers.specs.Rational.{◌/ℚ◌}
use Rattle.cq_frac.specs.declared.Operation.TheVariants.{Quotient}
use Rattle.cq_frac.specs.Refused.{Refuses, Tells}
use Rattle.cq_frac.specs.Row.{Row}
use Rattle.cq_frac.specs.Rows.{IsRowFrom, everywhere, Has}
use Rattle.cq_frac.proofs.Exits.{pair_told, refusal_told}
use Rattle.cq_frac.proofs.Refusals.{never_both}
use Rattle.cq_frac.proofs.Shifts.{anywhere}
use Rattle.cq_dict.specs.declared.table.Role.TheVariants.{Basic}
use Rattle.cq_dict.specs.Roles.{IsAt, is_live}
use Rattle.cq_dict.specs.Changes.{Moved, IsSolved}
use Rattle.cq_dict.proofs.Exchanged.{p_not_zero, inverse_pair, by_quotient, solved_exchanges, solved_accepted}
use Rattle.cq_dict.proofs.Roles.{at_index, at_one}
use Rattle.cq_dict.proofs.Written.{covers_within, if_ok}
use Rattle.cq_dict.proofs.exchange.exchange.Goals as goal
use Rattle.cq_dict.proofs.exchange.exchange.Goals.{In-Basic, In-Some, In_ok-q}

row_at : (c : In-Basic) → IsAt c.args.roles.now c.args.leaving (Basic c.in-Basic.row)
row_at c = subst (IsAt c.args.roles.now c.args.leaving) c.in-Basic.is (at_index c.args.roles.now c.args.leaving c.index-roles-leaving.result c.requires.there c.index-roles-leaving.is)

entry_in : (c : In-Some) → Has (record { quantity = c.args.column; factor = c.in-Some.p }) c.in-Basic.row.live
entry_in c = subst (Has (record { quantity = c.args.column; factor = c.in-Some.p })) c.live.ensures c.in-Some.ensures

pub unreachable-requires : goal.unreachable-requires
unreachable-requires c =
    c.in_default.not-Basic c.requires.entry.own
    (at_one c.args.roles.now c.args.leaving c.index-roles-leaving.result (Basic c.requires.entry.own) (at_index c.args.roles.now c.args.leaving c.index-roles-leaving.result c.requires.there c.index-roles-leaving.is) c.requires.entry.is_row)

pub entry_at-requires : goal.entry_at-requires
entry_at-requires c = record {
  row = subst (IsRowFrom everywhere 0) (sym c.live.ensures) (anywhere (is_live c.args.roles.now) 0 c.in-Basic.row.live (c.requires.table.rows c.args.leaving c.in-Basic.row (row_at (goal.at.entry_at-requires c).In-Basic)).live_row);
}

pub unreachable-requires-in_default-entry_at : goal.unreachable-requires-in_default-entry_at
unreachable-requires-in_default-entry_at c =
    let e : c.in-Basic.row ≡ c.requires.entry.own =
    let w = at_one c.args.roles.now c.args.leaving (Basic c.in-Basic.row) (Basic c.requires.entry.own) (row_at (goal.at.unreachable-requires-in_default-entry_at c).In-Basic) c.requires.entry.is_row in cc in
    c.in_default-entry_at.ensures (record { quantity = c.args.column; factor = c.requires.entry.factor })
    (subst (Has (record { quantity = c.args.column; factor = c.requires.entry.factor })) (sym (c.live.ensures ∙ ap (λ (r : Row). r.live) e)) c.requires.entry.in_row) refl

pub quotient-requires : goal.quotient-requires
quotient-requires c =
    let k = goal.at.quotient-requires c in
    record { divisor = p_not_zero c.args.roles.now c.args.leaving c.args.column c.in-Basic.row c.in-Some.p c.requires.table (row_at k.In-Basic) (entry_in k.In-Some) }

pub divided-requires : goal.divided-requires
divided-requires c =
    let k = goal.at.divided-requires c in
    record { nonzero = p_not_zero c.args.roles.now c.args.leaving c.args.column c.in-Basic.row c.in-Some.p c.requires.table (row_at k.In-Basic) (entry_in k.In-Some) }

pub returns-in_err-rate-clause-overflow : goal.returns-in_err-rate-clause-overflow
returns-in_err-rate-clause-overflow c = λ pair e.
    let k = goal.at.returns-in_err-rate-clause-overflow c in
    inverse_pair c.args.roles.now c.args.leaving c.args.column c.in-Basic.row c.in-Some.p c.requires.table (row_at k.In-Basic) (entry_in k.In-Some) pair c.one.result c.one.ensures
    (subst (Tells Quotient c.one.result c.in-Some.p) (pair_told _ _ pair c.from_residual.ensures.1 e) c.in_err-rate.ensures)

pub returns-in_err-q-clause-overflow : goal.returns-in_err-q-clause-overflow
returns-in_err-q-clause-overflow c = λ pair e.
    let k = goal.at.returns-in_err-q-clause-overflow c in
    by_quotient c.args.roles.now c.args.leaving c.args.column c.in-Basic.row c.in-Some.p c.requires.table (row_at k.In-Basic) (entry_in k.In-Some) pair
    (c.in_err-q.ensures.overflow pair (ap Err (refusal_told _ _ pair c.from_residual-in_err-q.ensures.1 e)))

-- what is known once the leaving row is divided
abbrev solved : (c : In_ok-q) → IsAt c.args.roles.now c.args.leaving (Basic c.in-Basic.row) → Has (record { quantity = c.args.column; factor = c.in-Some.p }) c.in-Basic.row.live → IsSolved c.args.roles.now c.args.leaving c.args.column c.in_ok-q.q c.in_ok-rate.rate
solved c a h = record {
  entry = record { own = c.in-Basic.row; factor = c.in-Some.p; is_row = a; in_row = h };
  divided = c.in_ok-q.ensures.value;
  rate_is = c.in_ok-rate.ensures.0 ∙ ap (λ w. w /ℚ c.in-Some.p) c.one.ensures;
}

pub all_moved-requires-clause-solved : goal.all_moved-requires-clause-solved
all_moved-requires-clause-solved c = let k = goal.at.all_moved-requires-clause-solved c in solved k.In_ok-q (row_at k.In-Basic) (entry_in k.In-Some)

pub returns-clause-within : goal.returns-clause-within
returns-clause-within c =
    if_ok c.all_moved.result _ _ (λ changes k. covers_within (Moved c.args.leaving c.args.column c.in_ok-q.q c.in_ok-rate.rate) c.args.roles.now _ changes.items k) c.all_moved.ensures.covers

pub returns-clause-exchanges : goal.returns-clause-exchanges
returns-clause-exchanges c =
    let k = goal.at.returns-clause-exchanges c in
    if_ok c.all_moved.result _ _
    (λ changes h. solved_exchanges c.args.roles.now c.args.leaving c.args.column c.in_ok-q.q c.in_ok-rate.rate c.requires.table (solved k.In_ok-q (row_at k.In-Basic) (entry_in k.In-Some)) changes.items h)
    c.all_moved.ensures.covers

pub returns-clause-moved : goal.returns-clause-moved
returns-clause-moved c =
    let k = goal.at.returns-clause-moved c in
    if_ok c.all_moved.result _ _ (λ changes h. record { q = c.in_ok-q.q; rate = c.in_ok-rate.rate; solved = solved k.In_ok-q (row_at k.In-Basic) (entry_in k.In-Some); covers = h }) c.all_moved.ensures.covers

pub returns-clause-accepted : goal.returns-clause-accepted
returns-clause-accepted c =
    let k = goal.at.returns-clause-accepted c in
    if_ok c.all_moved.result _ _
    (λ changes h. solved_accepted c.args.roles.now c.args.leaving c.args.column c.in_ok-q.q c.in_ok-rate.rate c.requires.table (solved k.In_ok-q (row_at k.In-Basic) (entry_in k.In-Some)) changes.items h c.in_ok-q.ensures.accepted
    (subst (λ z. Refuses Quotient z c.in-Some.p → ⊥) c.one.ensures (never_both Quotient _ _ c.in_ok-rate.ensures.1)))
    c.all_moved.ensures.covers
