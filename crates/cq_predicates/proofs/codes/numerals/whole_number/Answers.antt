use Rattle.std.proofs.Common.{◌≡◌, ◌≢◌, ◌∙◌, Bool, true, false, cond, None, length, ap, sym, rules, arith}
use Rattle.std.specs.Char.{is_ascii_digit}
use Rattle.std.proofs.lemmas.Bool.{eq-eqb, ne_eqb}
use Rattle.spec_syntax.specs.Characters.{begins}
use Rattle.cq_read.specs.LexShown.{shown}
use Rattle.cq_predicates.proofs.WholeNumbers.{no_number, digit_token}
use Rattle.cq_predicates.proofs.codes.numerals.whole_number.Goals as goal

pub returns-then-not-begins_with_digit : goal.returns-then-not-begins_with_digit
returns-then-not-begins_with_digit c =
    let none : begins is_ascii_digit c.args.text.now ≡ false = search rules in
    sym (no_number c.args.text.now c.args.text.now 0 none)

pub returns-then-token-text : goal.returns-then-token-text
returns-then-token-text c =
    let text = c.args.text.now in
    let t = c.in-Ok.token in
    let digit : begins is_ascii_digit text ≡ true = search rules in
    let whole : t.span.end ≡ length text = omega arith in
    sym (digit_token text (shown t) digit c.in-Ok.ensures.value ∙ ap (λ (b : Bool). cond b t.number None) (eq-eqb t.span.end (length text) whole))

pub returns-else-token-text : goal.returns-else-token-text
returns-else-token-text c =
    let text = c.args.text.now in
    let t = c.in-Ok.token in
    let digit : begins is_ascii_digit text ≡ true = search rules in
    let part : t.span.end ≢ length text = omega arith in
    sym (digit_token text (shown t) digit c.in-Ok.ensures.value ∙ ap (λ (b : Bool). cond b t.number None) (ne_eqb t.span.end (length text) part))
