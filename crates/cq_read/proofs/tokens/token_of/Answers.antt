use Rattle.spec_syntax.specs.GrammarTokens.{bytes_of}
use Rattle.spec_syntax.specs.Tokens as grammar
use Rattle.spec_syntax.specs.TextTokens.{bare_name, quoted_name, quoted_text}
use Rattle.cq_read.specs.LexShown.{shown}
use Rattle.cq_read.specs.Names.{variables}
use Rattle.cq_read.proofs.Seen.{sees_name, sees_quoted, sees_codes, seen_if}
use Rattle.cq_read.proofs.tokens.token_of.Goals as goal

pub returns-in-Name-clause-token : goal.returns-in-Name-clause-token
returns-in-Name-clause-token c texts keeps =
    let text = c.args.text.now in
    let t = shown c.args.token.now in
    seen_if texts c.bare_name.result (bare_name text t (bytes_of text t.span)) _ (sees_name text (variables c.args.variables.now c.args.heap.now.now.images) t c.in-Name.is) (c.bare_name.ensures.token texts keeps)

pub returns-in-Name-clause-live : goal.returns-in-Name-clause-live
returns-in-Name-clause-live c = c.bare_name.ensures.live c.args.heap.now.now.images

pub returns-in-Quoted-clause-token : goal.returns-in-Quoted-clause-token
returns-in-Quoted-clause-token c texts keeps =
    let text = c.args.text.now in
    let t = shown c.args.token.now in
    seen_if texts c.quoted_name.result (quoted_name text t (quoted_text text t)) _ (sees_quoted text (variables c.args.variables.now c.args.heap.now.now.images) t c.in-Quoted.is) (c.quoted_name.ensures.token texts keeps)

pub returns-in-Quoted-clause-live : goal.returns-in-Quoted-clause-live
returns-in-Quoted-clause-live c = c.quoted_name.ensures.live c.args.heap.now.now.images

pub returns-in-Codes-clause-token : goal.returns-in-Codes-clause-token
returns-in-Codes-clause-token c texts keeps =
    let text = c.args.text.now in
    let t = shown c.args.token.now in
    seen_if texts c.codes.result (grammar.Codes (quoted_text text t)) _ (sees_codes text (variables c.args.variables.now c.args.heap.now.now.images) t c.in-Codes.is) (c.codes.ensures.token texts)

pub returns-in-Codes-clause-known : goal.returns-in-Codes-clause-known
returns-in-Codes-clause-known c texts keeps = c.codes.ensures.known texts

pub returns-in-Codes-clause-live : goal.returns-in-Codes-clause-live
returns-in-Codes-clause-live c = c.codes.ensures.live c.args.heap.now.now.images

pub returns-in-Numeral-clause-known : goal.returns-in-Numeral-clause-known
returns-in-Numeral-clause-known c texts keeps = c.other.ensures.known texts

pub returns-in-Numeral-clause-live : goal.returns-in-Numeral-clause-live
returns-in-Numeral-clause-live c = c.other.ensures.live c.args.heap.now.now.images
