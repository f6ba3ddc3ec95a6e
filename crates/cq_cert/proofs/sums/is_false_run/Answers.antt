use Rattle.std.proofs.Common.{◌≡◌, true, false, sym, ap, ◌∙◌}
use Rattle.spec_linear.specs.Form.{Linear, is_empty, is_zero}
use Rattle.spec_log.specs.Verdicts.{are_allowed, is_below_zero, some_strict, sum_of}
use Rattle.cq_cert.proofs.Runs.{no_products, zero_test, strict_decides, not_zero_decides}
use Rattle.cq_cert.proofs.sums.is_false_run.Goals as goal
use Rattle.cq_cert.proofs.sums.is_false_run.Goals.{then-are_allowed, else-are_allowed, Else-is_below_zero}

-- what the tests before say
allowed : (c : Else-is_below_zero) → are_allowed c.args.members.now c.args.run.now ≡ true
allowed c = elim c.if-are_allowed.branch [
  | then-are_allowed w ↦ sym c.are_allowed.ensures ∙ w.if-are_allowed.true
  | else-are_allowed w ↦ let n : false ≡ true = sym w.if-are_allowed.false ∙ sym w.value-is ∙ c.if-is_empty.true in cc
]

empty : (c : Else-is_below_zero) → is_empty (sum_of c.args.members.now c.args.run.now).products ≡ true
empty c = elim c.if-are_allowed.branch [
  | then-are_allowed w ↦
      no_products w.entries.result.now _ (sym w.is_empty.ensures ∙ sym w.value-is ∙ c.if-is_empty.true) (w.entries.ensures.value ∙ ap (λ (f : Linear). f.products) c.requires)
  | else-are_allowed w ↦ let n : false ≡ true = sym w.if-are_allowed.false ∙ sym w.value-is ∙ c.if-is_empty.true in cc
]

not_below : (c : Else-is_below_zero) → is_below_zero (sum_of c.args.members.now c.args.run.now).constant ≡ false
not_below c = ap (λ (f : Linear). is_below_zero f.constant) (sym c.requires) ∙ ap is_below_zero (sym c.constant.ensures) ∙ sym c.is_below_zero.ensures ∙ c.if-is_below_zero.false

pub returns-then-is_zero : goal.returns-then-is_zero
returns-then-is_zero c =
    let w = (goal.at.returns-then-is_zero c).Else-is_below_zero in
    let l = c.args.members.now in
    let r = c.args.run.now in
    let none : is_zero (sum_of l r).constant ≡ true =
    ap (λ (f : Linear). is_zero f.constant) (sym c.requires) ∙ ap is_zero (sym c.constant-else-is_below_zero.ensures) ∙ zero_test _ c.is_zero.result c.is_zero.ensures.0 c.is_zero.ensures.1 ∙ c.if-is_zero.true in
    strict_decides (are_allowed l r) (is_empty (sum_of l r).products) (is_below_zero (sum_of l r).constant) (is_zero (sum_of l r).constant) (some_strict l r) c.some_strict.result
    (allowed w) (empty w) (not_below w) none c.some_strict.ensures

pub returns-else-is_zero : goal.returns-else-is_zero
returns-else-is_zero c =
    let w = (goal.at.returns-else-is_zero c).Else-is_below_zero in
    let l = c.args.members.now in
    let r = c.args.run.now in
    let none : is_zero (sum_of l r).constant ≡ false =
    ap (λ (f : Linear). is_zero f.constant) (sym c.requires) ∙ ap is_zero (sym c.constant-else-is_below_zero.ensures) ∙ zero_test _ c.is_zero.result c.is_zero.ensures.0 c.is_zero.ensures.1 ∙ c.if-is_zero.false in
    c.if-is_zero.false
    ∙ not_zero_decides (are_allowed l r) (is_empty (sum_of l r).products) (is_below_zero (sum_of l r).constant) (is_zero (sum_of l r).constant) (some_strict l r)
    (allowed w) (empty w) (not_below w) none
