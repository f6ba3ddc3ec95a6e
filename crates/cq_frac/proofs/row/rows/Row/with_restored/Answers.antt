use Rattle.std.proofs.Common.{◌≡◌, ◌∙◌, ap, subst, sym}
use Rattle.spec_numbers.specs.Rational.{◌+ℚ◌, ◌*ℚ◌}
use Rattle.cq_frac.specs.Row.{Row}
use Rattle.cq_frac.specs.Rows.{IsRowFrom, Lacks, everywhere, sum_at, others}
use Rattle.cq_frac.proofs.Shifts.{entry_not_zero, restored_is}
use Rattle.cq_frac.proofs.row.rows.Row.with_restored.Goals as goal
use Rattle.cq_frac.proofs.row.rows.Row.with_restored.Goals.{In_ok-live}

copy_is : (c : In_ok-live) → c.in_ok-live.live.items ≡ c.args.self.now.live
copy_is c = c.in_ok-live.ensures.items ∙ c.deref-2.ensures.value ∙ ap (λ (r : Row). r.live) c.self.view_is

pub put-requires-clause-row : goal.put-requires-clause-row
put-requires-clause-row c = subst (IsRowFrom everywhere 0) (sym (copy_is (goal.at.put-requires-clause-row c).In_ok-live)) c.requires.own.live_row

pub put-requires-clause-new : goal.put-requires-clause-new
put-requires-clause-new c = subst (Lacks c.args.column) (sym (copy_is (goal.at.put-requires-clause-new c).In_ok-live)) c.requires.new

pub put-requires-clause-nonzero : goal.put-requires-clause-nonzero
put-requires-clause-nonzero c = entry_not_zero everywhere 0 c.args.self.now.dropped c.args.column c.args.factor c.requires.own.dropped_row c.requires.entry

pub returns : goal.returns
returns c =
    let e = copy_is (goal.at.returns c).In_ok-live in
    restored_is c.args.self.now _ c.args.column c.args.factor c.requires.own c.requires.entry
    (c.in_ok-dropped.ensures ∙ ap (others c.args.column) (c.deref.ensures.value ∙ ap (λ (r : Row). r.dropped) c.self.view_is))
    (record {
      row = λ p t h. c.in_ok-put.ensures.row p t (subst (IsRowFrom p 0) (sym e) h);
      value = λ x. c.in_ok-put.ensures.value x ∙ ap (λ s. sum_at x s +ℚ c.args.factor *ℚ x c.args.column) e;
    })
    (ap (λ (r : Row). r.constant) c.self.view_is)
