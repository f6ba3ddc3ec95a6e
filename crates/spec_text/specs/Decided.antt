-- When the bytes of a text decide what is read at a place, whatever bytes follow them.
use Rattle.std.specs.Prelude.{◌≡◌, ◌≢◌, ℕ, suc, ◌<◌, true, List, ◌++◌, drop, length, Ok, Err, ◌⊎◌}
use Rattle.spec_syntax.specs.Operators.{Ops}
use Rattle.spec_syntax.specs.Characters.{begins_with}
use Rattle.spec_syntax.specs.declared.grammar.Kind.TheVariants as kind
use Rattle.spec_syntax.specs.declared.grammar.LexFault.{LexFault}
use Rattle.spec_syntax.specs.Gaps.{place}
use Rattle.spec_syntax.specs.GrammarTokens as lexical
use Rattle.spec_syntax.specs.GrammarTokens.{next_token, ends_clause}
use Rattle.spec_text.specs.Readings.{Read, Clause, Ended, Syntax, Resumes, Reads}

-- every text that goes on from this one reads the same at the place
abbrev pub Decided : Ops → List ℕ → ℕ → Type 0
Decided ops text at = (r : Read) × ((more : List ℕ) → Reads ops (text ++ more) at r)

-- reading goes on before the end of a text of so many bytes
abbrev pub IsClosed : Read → ℕ → Type 0
IsClosed (Clause tree variables next) n = next < n
IsClosed Ended n = ⊥
IsClosed (Syntax error resume) n = resume < n

-- Tokens stand from a place on up to a fault, none of them an end token.
pub data FaultComes (text : List ℕ) : ℕ → ℕ → Type 0 where
  here : {at : ℕ} {f : LexFault} → next_token text at ≡ Err f → FaultComes text at (place f)
  later : {at to : ℕ} {t : lexical.Token} → next_token text at ≡ Ok t → t.kind ≢ kind.End → t.kind ≢ kind.Eof → FaultComes text t.span.end to → FaultComes text at to

-- Reading goes on there from the place, or from the first fault behind it.
abbrev pub MayGoOn : List ℕ → ℕ → ℕ → Type 0
MayGoOn text at to = Resumes text at to ⊎ ((fault : ℕ) × FaultComes text at fault × Resumes text fault to)

-- A full stop stands at a place, and a byte behind it with which it ends a clause.
pub record IsFullStop (text : List ℕ) (at : ℕ) : Type 0 where
  pub stop : begins_with 46 (drop at text) ≡ true
  pub ends : ends_clause (drop (suc at) text) ≡ true
  pub inside : suc at < length text
