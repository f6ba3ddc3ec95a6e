-- What the next token of a text is known to be.
use Rattle.std.proofs.Common.{◌≡◌, ℕ, ◌≤◌, List, length, Result, Ok, Err, ◌⊎◌, sym, subst}
use Rattle.std.specs.Prelude.{IfOk}
use Rattle.spec_syntax.specs.declared.grammar.Kind.TheVariants.{Quoted, Codes}
use Rattle.spec_syntax.specs.declared.grammar.LexFault.{LexFault}
use Rattle.spec_syntax.specs.Laws.{Stands}
use Rattle.spec_syntax.specs.GrammarTokens.{Token as Tok, next_token, IsInQuotes}
use Rattle.spec_syntax.proofs.Tiles.{stands}
use Rattle.spec_syntax.proofs.Held.{next_in_quotes}
use Rattle.cq_read.specs.declared.lex.Token.{Token}
use Rattle.cq_read.specs.LexShown.{shown, told}

pub next_within : (text : List ℕ) (at : ℕ) (r : Result Token LexFault) → at ≤ length text → told r ≡ next_token text at → IfOk r (λ t. t.span.end ≤ length text)
next_within text at (Err f) fits e = tt
next_within text at (Ok t) fits e = by (next_token text at) e (stands text at fits)
  where
    by : (n : Result Tok LexFault) → Ok (shown t) ≡ n → Stands text at n → t.span.end ≤ length text
    by n e h = (subst (Stands text at) (sym e) h).within

pub next_quotes : (text : List ℕ) (at : ℕ) (r : Result Token LexFault) → told r ≡ next_token text at → IfOk r (λ t. (t.kind ≡ Quoted) ⊎ (t.kind ≡ Codes) → IsInQuotes text t.span)
next_quotes text at (Err f) e = tt
next_quotes text at (Ok t) e = next_in_quotes text at (shown t) (sym e)
