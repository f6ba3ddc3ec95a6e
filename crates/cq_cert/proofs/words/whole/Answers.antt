use Rattle.std.proofs.Common.{◌≡◌, ◌≤◌, None, length, arith}
use Rattle.std.proofs.lemmas.Bool.Decides.{nat_tests}
use Rattle.spec_log.specs.Verdicts.{whole_in}
use Rattle.cq_cert.proofs.Digits.{started, digit_behind_zero, other_byte, digit_too_wide, digit_next, empty_word, all_read, read_small}
use Rattle.cq_cert.proofs.words.whole.Goals as goal

pub loop-b-init : goal.loop-b-init
loop-b-init c = started c.args.word.now

pub returns-then-rest-word-clause-value : goal.returns-then-rest-word-clause-value
returns-then-rest-word-clause-value c =
    digit_behind_zero c.args.word.now c.loop-b.rest.now c.in-Some.tail.now c.in-Some.field-0-0.now c.loop-b.value c.loop-b.invariant c.in-Some.ensures.cases.0 c.if-value-eq0.true (omega arith)

pub returns-in_err-digit-clause-value : goal.returns-in_err-digit-clause-value
returns-in_err-digit-clause-value c =
    let none : None ≡ whole_in c.args.word.now =
    other_byte c.args.word.now c.loop-b.rest.now c.in-Some.tail.now c.in-Some.field-0-0.now c.loop-b.value c.loop-b.invariant c.in-Some.ensures.cases.0 c.in_err-digit.ensures in
    cc

pub returns-in_err-value-clause-value : goal.returns-in_err-value-clause-value
returns-in_err-value-clause-value c =
    let none : None ≡ whole_in c.args.word.now =
    digit_too_wide c.args.word.now c.loop-b.rest.now c.in-Some.tail.now c.in-Some.field-0-0.now c.loop-b.value c.loop-b.invariant c.in-Some.ensures.cases.0 c.in_ok-digit.digit
    c.in_ok-digit.ensures c.in_err-value.ensures in
    cc

pub loop-b-preserved : goal.loop-b-preserved
loop-b-preserved c =
    let first : c.loop-b.value ≡ 0 → length c.args.word.now ≤ length c.loop-b.rest.now = λ none. omega (arith, none) in
    digit_next c.args.word.now c.loop-b.rest.now c.in-Some.tail.now c.in-Some.field-0-0.now c.loop-b.value c.loop-b.invariant c.in-Some.ensures.cases.0 c.in_ok-digit.digit c.in_ok-value.value
    c.in_ok-digit.ensures first c.in_ok-value.ensures

pub returns-then-is_empty-clause-value : goal.returns-then-is_empty-clause-value
returns-then-is_empty-clause-value c = let none : length c.args.word.now ≡ 0 = grind (arith, nat_tests) in empty_word c.args.word.now none

pub returns-else-is_empty-clause-value : goal.returns-else-is_empty-clause-value
returns-else-is_empty-clause-value c =
    let some : length c.args.word.now ≡ 0 → ⊥ = λ none. grind (arith, nat_tests) in
    all_read c.args.word.now c.loop-b.rest.now c.loop-b.value c.loop-b.invariant c.in_default.ensures.cases some

pub returns-else-is_empty-clause-fits : goal.returns-else-is_empty-clause-fits
returns-else-is_empty-clause-fits c = read_small c.args.word.now c.loop-b.rest.now c.loop-b.value c.loop-b.invariant
