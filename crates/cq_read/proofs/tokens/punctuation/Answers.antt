use Rattle.std.proofs.Common.{refl, [], None}
use Rattle.spec_syntax.specs.GrammarTokens.{bytes_of}
use Rattle.cq_read.specs.LexShown.{shown}
use Rattle.cq_read.proofs.Seen.{no_bytes, no_mark, first_mark}
use Rattle.cq_read.proofs.tokens.punctuation.Goals as goal

pub unreachable-requires : goal.unreachable-requires
unreachable-requires c = no_bytes c.args.text.now (shown c.args.token.now) c.requires.token c.requires.kind c.in_default.ensures.cases

pub unreachable-requires-in-None : goal.unreachable-requires-in-None
unreachable-requires-in-None c =
    let first = c.in-Some.field-0-0.now in
    let tail = c.in-Some.field-0-1.now in
    no_mark c.args.text.now (shown c.args.token.now) c.requires.token c.requires.kind
    (first_mark (bytes_of c.args.text.now c.args.token.now.span) first first tail None c.in-Some.ensures.cases.0 refl (c.in-None.ensures.token [] tail))

pub returns-clause-token : goal.returns-clause-token
returns-clause-token c texts =
    let first = c.in-Some.field-0-0.now in
    let tail = c.in-Some.field-0-1.now in
    first_mark (bytes_of c.args.text.now c.args.token.now.span) first first tail _ c.in-Some.ensures.cases.0 refl (c.in-Some-mark.ensures.token texts tail)
