use Rattle.std.proofs.Common.{◌≡◌, ◌<◌, ◌≤◌, length, get_or, true, false, arith, subst}
use Rattle.std.proofs.lemmas.List.{take_all, get_or_default}
use Rattle.cq_equations.specs.Told.{numbers_of}
use Rattle.cq_elimination.proofs.Counting.{Best, skip_one, take_one, next_is}
use Rattle.cq_elimination.proofs.fourier.next.next_of.Goals as goal

pub variables-preserved-then-is_idle : goal.variables-preserved-then-is_idle
variables-preserved-then-is_idle c =
    let within : c.variables.variable-index < length c.args.variables.now = omega arith in
    skip_one c.args.variables.now c.variables.variable-index (get_or c.args.variables.now c.variables.variable-index (record { 0 = 0 })) within
    (get_or_default c.args.variables.now c.variables.variable-index _ _ within) c.args.rows.now c.counted-own.result c.counted-own.ensures.counts c.counted-own.ensures.variable
    c.variables.found (c.is_idle.ensures.0 c.if-is_idle.true) c.variables.invariant

pub variables-preserved : goal.variables-preserved
variables-preserved c =
    let within : c.variables.variable-index < length c.args.variables.now = omega arith in
    take_one c.args.variables.now c.variables.variable-index (get_or c.args.variables.now c.variables.variable-index (record { 0 = 0 })) within
    (get_or_default c.args.variables.now c.variables.variable-index _ _ within) c.args.rows.now c.counted-own.result c.counted-own.ensures.counts c.counted-own.ensures.variable
    c.variables.found c.first_of.result
    (λ h. let t : c.is_idle.result ≡ true = c.is_idle.ensures.1 h in let f : c.is_idle.result ≡ false = c.if-is_idle.false in cc)
    c.first_of.ensures c.variables.invariant

pub returns-clause-first : goal.returns-clause-first
returns-clause-first c =
    let whole : length c.args.variables.now ≤ c.variables.variable-index = omega arith in
    subst (λ vs. Best (numbers_of vs) c.args.rows.now c.variables.found) (take_all c.variables.variable-index c.args.variables.now whole) c.variables.invariant

pub returns-clause-next : goal.returns-clause-next
returns-clause-next c = λ targets apart all.
    let whole : length c.args.variables.now ≤ c.variables.variable-index = omega arith in
    next_is (numbers_of c.args.variables.now) targets c.args.rows.now c.variables.found apart all
    (subst (λ vs. Best (numbers_of vs) c.args.rows.now c.variables.found) (take_all c.variables.variable-index c.args.variables.now whole) c.variables.invariant)
