-- What stands at a place of a text: a clause, nothing more, or an error of syntax.
use Rattle.std.specs.Prelude.{◌≡◌, ◌≢◌, ℕ, suc, List, [], ◌∷◌, length, Some, Ok, Err}
use Rattle.spec_syntax.specs.Operators.{Ops}
use Rattle.spec_syntax.specs.declared.grammar.Kind.TheVariants as kind
use Rattle.spec_syntax.specs.declared.grammar.LexFault.{LexFault}
use Rattle.spec_syntax.specs.Gaps.{place}
use Rattle.spec_syntax.specs.GrammarTokens as lexical
use Rattle.spec_syntax.specs.GrammarTokens.{next_token}
use Rattle.spec_syntax.specs.Tokens.{Token}
use Rattle.spec_syntax.specs.Trees.{Tree}
use Rattle.spec_syntax.specs.TextTokens.{Variables, no_variables, variables_after, seen}
use Rattle.spec_syntax.specs.Grammar.{Parses, BeginsClause, IsRefused}

-- what stands at a place of a text
pub data Read : Type 0 where
  -- a clause: its tree, its variables, and the place behind its end token
  Clause : Tree → Variables → ℕ → Read
  -- only layout and comments are left
  Ended : Read
  -- an error: its place, and the place where reading goes on
  Syntax : ℕ → ℕ → Read

module _ (text : List ℕ) where
  -- these tokens stand one behind another from a place on, behind these variables, up to a place, with these variables then
  pub data AreTokens : ℕ → Variables → List Token → ℕ → Variables → Type 0 where
    none : {at : ℕ} {variables : Variables} → AreTokens at variables [] at variables
    next : {at to : ℕ} {variables later : Variables} {t : lexical.Token} {tok : Token} {toks : List Token} → next_token text at ≡ Ok t → seen text variables t ≡ Some tok →
        AreTokens t.span.end (variables_after text variables t) toks to later → AreTokens at variables (tok ∷ toks) to later

  -- Where reading goes on if it begins anew at a place: behind the first end token, or at the text's end. Where a fault stands
  -- in place of a token, the byte at which it stands is passed over.
  pub data Resumes : ℕ → ℕ → Type 0 where
    behind : {at : ℕ} {t : lexical.Token} → next_token text at ≡ Ok t → t.kind ≡ kind.End → Resumes at t.span.end
    at_the_end : {at : ℕ} {t : lexical.Token} → next_token text at ≡ Ok t → t.kind ≡ kind.Eof → Resumes at (length text)
    over : {at to : ℕ} {t : lexical.Token} → next_token text at ≡ Ok t → t.kind ≢ kind.End → t.kind ≢ kind.Eof → Resumes t.span.end to → Resumes at to
    past : {at to : ℕ} {f : LexFault} → next_token text at ≡ Err f → Resumes (suc (place f)) to → Resumes at to

-- what stands at a place of a text
pub data Reads (ops : Ops) (text : List ℕ) (at : ℕ) : Read → Type 0 where
  ended : {t : lexical.Token} → next_token text at ≡ Ok t → t.kind ≡ kind.Eof → Reads ops text at Ended
  clause : {toks : List Token} {to : ℕ} {variables : Variables} {tree : Tree} → AreTokens text at no_variables toks to variables → Parses ops toks tree →
      Reads ops text at (Clause tree variables to)
  -- The first token with which the tokens so far neither are a clause nor begin one. An end token may be that too, and then
  -- reading goes on behind it.
  refused : {toks : List Token} {to resume : ℕ} {variables : Variables} {t : lexical.Token} {tok : Token} → AreTokens text at no_variables toks to variables →
      next_token text to ≡ Ok t → seen text variables t ≡ Some tok → IsRefused ops toks tok → Resumes text t.span.start resume → Reads ops text at (Syntax t.span.start resume)
  -- a fault behind tokens that begin a clause
  fault : {toks : List Token} {to resume : ℕ} {variables : Variables} {f : LexFault} → AreTokens text at no_variables toks to variables → BeginsClause ops toks →
      next_token text to ≡ Err f → Resumes text (place f) resume → Reads ops text at (Syntax (place f) resume)
  -- the text's end inside a clause
  cut : {first : Token} {toks : List Token} {to : ℕ} {variables : Variables} {t : lexical.Token} → AreTokens text at no_variables (first ∷ toks) to variables →
      BeginsClause ops (first ∷ toks) → next_token text to ≡ Ok t → t.kind ≡ kind.Eof → Reads ops text at (Syntax (length text) (length text))
