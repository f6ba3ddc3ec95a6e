use Rattle.std.proofs.Common.{◌≡◌, ◌∙◌, ap, subst, sym}
use Rattle.spec_numbers.specs.Rational.{◌+ℚ◌, ◌*ℚ◌}
use Rattle.cq_frac.specs.Row.{Row}
use Rattle.cq_frac.specs.Rows.{IsRowFrom, Lacks, everywhere, sum_at, others}
use Rattle.cq_frac.proofs.Shifts.{entry_not_zero, dropped_is}
use Rattle.cq_frac.proofs.row.rows.Row.with_dropped.Goals as goal
use Rattle.cq_frac.proofs.row.rows.Row.with_dropped.Goals.{In_ok-dropped}

copy_is : (c : In_ok-dropped) → c.in_ok-dropped.dropped.items ≡ c.args.self.now.dropped
copy_is c = c.in_ok-dropped.ensures.items ∙ c.deref-2.ensures.value ∙ ap (λ (r : Row). r.dropped) c.self.view_is

pub put-requires-clause-row : goal.put-requires-clause-row
put-requires-clause-row c = subst (IsRowFrom everywhere 0) (sym (copy_is (goal.at.put-requires-clause-row c).In_ok-dropped)) c.requires.own.dropped_row

pub put-requires-clause-new : goal.put-requires-clause-new
put-requires-clause-new c = subst (Lacks c.args.column) (sym (copy_is (goal.at.put-requires-clause-new c).In_ok-dropped)) c.requires.new

pub put-requires-clause-nonzero : goal.put-requires-clause-nonzero
put-requires-clause-nonzero c = entry_not_zero everywhere 0 c.args.self.now.live c.args.column c.args.factor c.requires.own.live_row c.requires.entry

pub returns : goal.returns
returns c =
    let e = copy_is (goal.at.returns c).In_ok-dropped in
    dropped_is c.args.self.now _ c.args.column c.args.factor c.requires.own c.requires.entry
    (c.in_ok-live.ensures ∙ ap (others c.args.column) (c.deref.ensures.value ∙ ap (λ (r : Row). r.live) c.self.view_is))
    (record {
      row = λ p t h. c.in_ok-put.ensures.row p t (subst (IsRowFrom p 0) (sym e) h);
      value = λ x. c.in_ok-put.ensures.value x ∙ ap (λ s. sum_at x s +ℚ c.args.factor *ℚ x c.args.column) e;
    })
    (ap (λ (r : Row). r.constant) c.self.view_is)
