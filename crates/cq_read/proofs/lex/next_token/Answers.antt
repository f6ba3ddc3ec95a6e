use Rattle.std.proofs.Common.{◌≡◌, ap, ◌∙◌}
use Rattle.spec_syntax.specs.GrammarTokens.{token_at, token_behind, next_token}
use Rattle.cq_read.specs.LexShown.{told}
use Rattle.cq_read.proofs.Readings.{rest_of}
use Rattle.cq_read.proofs.Next.{next_within, next_quotes}
use Rattle.cq_read.proofs.lex.next_token.Goals as goal

pub returns-clause-within : goal.returns-clause-within
returns-clause-within c =
    let same : told c.token_at.result ≡ next_token c.args.text.now c.args.at =
    c.token_at.ensures ∙ ap (λ bs. token_at bs c.in_ok-start.start) (rest_of c.args.text.now c.in_ok-start.start) ∙ ap (token_behind c.args.text.now) c.in_ok-start.ensures.value in
    next_within c.args.text.now c.args.at c.token_at.result c.requires same

pub returns-clause-in_quotes : goal.returns-clause-in_quotes
returns-clause-in_quotes c =
    let same : told c.token_at.result ≡ next_token c.args.text.now c.args.at =
    c.token_at.ensures ∙ ap (λ bs. token_at bs c.in_ok-start.start) (rest_of c.args.text.now c.in_ok-start.start) ∙ ap (token_behind c.args.text.now) c.in_ok-start.ensures.value in
    next_quotes c.args.text.now c.args.at c.token_at.result same
