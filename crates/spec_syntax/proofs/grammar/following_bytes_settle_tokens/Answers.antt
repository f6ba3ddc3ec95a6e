use Rattle.std.specs.Prelude.{◌==◌}
use Rattle.spec_syntax.proofs.Settled.{token_settled, all_settled, held_settled, directly}
use Rattle.std.specs.Char.{is_ascii_digit}
use Rattle.spec_syntax.proofs.grammar.following_bytes_settle_tokens.Goals as goal

pub returns-clause-token : goal.returns-clause-token
returns-clause-token c = token_settled

pub returns-clause-settled : goal.returns-clause-settled
returns-clause-settled c = all_settled

pub returns-clause-opens_directly : goal.returns-clause-opens_directly
returns-clause-opens_directly c text rest other b t fits = directly (λ x. x == 40) text rest other b t fits

pub returns-clause-digit_directly : goal.returns-clause-digit_directly
returns-clause-digit_directly c text rest other b t fits = directly is_ascii_digit text rest other b t fits

pub returns-clause-quotes : goal.returns-clause-quotes
returns-clause-quotes c = held_settled
