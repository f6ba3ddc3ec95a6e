use Rattle.std.proofs.Common.{◌≡◌, length, drop, ap, sym, subst, ◌∙◌}
use Rattle.std.specs.Prelude.{IfOk}
use Rattle.std.specs.String.{string_bytes}
use Rattle.spec_syntax.specs.GrammarTokens.{meant, quotes_at}
use Rattle.spec_syntax.proofs.Held.{quotes_hold, quotes_take}
use Rattle.cq_read.proofs.Readings.{rest_of}
use Rattle.cq_read.proofs.lex.quoted_text.Goals as goal

pub unreachable-requires : goal.unreachable-requires
unreachable-requires c =
    quotes_take (drop c.args.span.start c.args.text.now) c.args.span.start _ c.requires.token c.requires.quotes
    (sym (ap length (rest_of c.args.text.now c.args.span.start)) ∙ c.in_default.ensures.cases)

pub returns : goal.returns
returns c =
    let here = quotes_hold (drop c.args.span.start c.args.text.now) c.args.span.start _ c.requires.token c.requires.quotes in
    let split = sym (rest_of c.args.text.now c.args.span.start) ∙ c.in-Some.ensures.cases.0 in
    let inside = sym (ap (λ bs. quotes_at bs c.args.span.start) split) ∙ here.1 in
    subst (λ bs. IfOk c.text_inside.result (λ held. string_bytes held ≡ bs)) (sym (ap meant here.1)) (c.text_inside.ensures here.0 inside)
