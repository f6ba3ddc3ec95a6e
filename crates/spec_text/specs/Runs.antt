-- How the machine reads on in a text. The laws say that it reads just what stands there.
use Rattle.std.specs.Prelude.{◌≡◌, ◌≢◌, ℕ, List, length, Some, None, Ok, Err, ◌⊎◌}
use Rattle.spec_syntax.specs.Operators.{Ops}
use Rattle.spec_syntax.specs.declared.grammar.Kind.TheVariants as kind
use Rattle.spec_syntax.specs.declared.grammar.LexFault.{LexFault}
use Rattle.spec_syntax.specs.Gaps.{place}
use Rattle.spec_syntax.specs.GrammarTokens as lexical
use Rattle.spec_syntax.specs.GrammarTokens.{next_token}
use Rattle.spec_syntax.specs.Tokens.{Token}
use Rattle.spec_syntax.specs.Trees.{Tree}
use Rattle.spec_syntax.specs.TextTokens.{Variables, no_variables, variables_after, seen}
use Rattle.spec_syntax.specs.Machine.{State, Whole, IsOpen, start, step}
use Rattle.spec_text.specs.Readings.{Read, Clause, Ended, Syntax, Resumes}

-- what is read from a state on, at a place and behind these variables
pub data ReadsOn (ops : Ops) (text : List ℕ) : State → ℕ → Variables → Read → Type 0 where
  whole : {tree : Tree} {at : ℕ} {variables : Variables} → ReadsOn ops text (Whole tree) at variables (Clause tree variables at)
  onward : {s s' : State} {at : ℕ} {variables : Variables} {t : lexical.Token} {tok : Token} {r : Read} → next_token text at ≡ Ok t → seen text variables t ≡ Some tok →
      step ops s tok ≡ Some s' → ReadsOn ops text s' t.span.end (variables_after text variables t) r → ReadsOn ops text s at variables r
  stuck : {s : State} {at resume : ℕ} {variables : Variables} {t : lexical.Token} {tok : Token} → IsOpen s → next_token text at ≡ Ok t → seen text variables t ≡ Some tok →
      step ops s tok ≡ None → Resumes text t.span.start resume → ReadsOn ops text s at variables (Syntax t.span.start resume)
  faulty : {s : State} {at resume : ℕ} {variables : Variables} {f : LexFault} → IsOpen s → next_token text at ≡ Err f → Resumes text (place f) resume →
      ReadsOn ops text s at variables (Syntax (place f) resume)
  cut_off : {s : State} {at : ℕ} {variables : Variables} {t : lexical.Token} → IsOpen s → next_token text at ≡ Ok t → t.kind ≡ kind.Eof →
      ReadsOn ops text s at variables (Syntax (length text) (length text))

-- more than layout and comments are left
abbrev pub IsBefore : List ℕ → ℕ → Type 0
IsBefore text at = (t : lexical.Token) → next_token text at ≡ Ok t → t.kind ≢ kind.Eof

-- the machine reads this at a place, where it starts a clause if more than layout and comments are left
abbrev pub MachineReads : Ops → List ℕ → ℕ → Read → Type 0
MachineReads ops text at r =
    ((t : lexical.Token) × (next_token text at ≡ Ok t) × (t.kind ≡ kind.Eof) × (r ≡ Ended))
    ⊎ (IsBefore text at × ReadsOn ops text start at no_variables r)
