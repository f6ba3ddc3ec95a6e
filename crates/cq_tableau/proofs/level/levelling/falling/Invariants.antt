-- No entry so far makes the row fall.
use Rattle.std.proofs.Common.{◌≡◌, true, take}
use Rattle.spec_numbers.specs.Rational.{neg_ℚ, IsPositive}
use Rattle.cq_frac.specs.declared.row.Entry.{Entry}
use Rattle.cq_frac.specs.Rows.{Has}
use Rattle.cq_dict.specs.Roles.{is_restricted}
use Rattle.cq_tableau.proofs.level.levelling.falling.Given as goal

abbrev pub invariant-loop-m : goal.invariant-loop-m
invariant-loop-m l = (n : Entry) → Has n (take l.m-index l.m-items) → IsPositive (neg_ℚ n.factor) × (is_restricted l.dict.restricted n.quantity ≡ true) → ⊥
