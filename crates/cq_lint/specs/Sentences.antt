-- What stands in a text, one behind another.
use Rattle.std.specs.Prelude.{◌≡◌, ℕ, ◌<◌, ◌≤◌, List, [], ◌∷◌, length, codes, Option, Some, None, Ok, Err, Result}
use Rattle.spec_syntax.specs.declared.grammar.LexFault.{LexFault}
use Rattle.spec_syntax.specs.GrammarTokens.{Token, next_token}
use Rattle.spec_syntax.specs.Operators.{Ops}
use Rattle.spec_syntax.specs.TextTokens.{Variables}
use Rattle.spec_syntax.specs.Trees.{Tree}
use Rattle.spec_text.specs.Readings.{Reads, Ended, Syntax}
use Rattle.spec_text.specs.Readings as readings
use Rattle.cq_lint.specs.Clauses.{head_of, calls_in, declared_as, is_query, operators_behind}
use Rattle.cq_lint.specs.Variables.{AreVariables}
use Rattle.cq_lint.specs.declared.sentences.Clause.{Clause}
use Rattle.cq_lint.specs.declared.sentences.Sentence.{Sentence}
use Rattle.cq_lint.specs.declared.sentences.Sentence.TheVariants as sentence

-- where the next token begins, or the place itself where none stands there
abbrev pub start_or : ℕ → Result Token LexFault → ℕ
start_or at (Ok t) = t.span.start
start_or at (Err f) = at

abbrev pub start_of : List ℕ → ℕ → ℕ
start_of text at = start_or at (next_token text at)

-- The clause of this tree, which is read from one place of a text to another.
pub record IsClause (text : List ℕ) (from next : ℕ) (t : Tree) (c : Clause) : Type 0 where
  pub place : c.at ≡ start_of text from
  pub head : c.head ≡ head_of t
  pub calls : c.calls.items ≡ calls_in t
  pub dynamic : c.dynamic.items ≡ declared_as (codes "dynamic") t
  pub scattered : c.scattered.items ≡ declared_as (codes "discontiguous") t
  pub query : c.is_query ≡ is_query t
  pub variables : AreVariables text next from c.variables.items

module _ (text : List ℕ) where
  -- These stand in the text from a place on, where it is read with some operators first and with others at its end. A fault
  -- stands exactly where the grammar has an error of syntax.
  pub data Stand : Ops → ℕ → List Sentence → Ops → Type 0 where
    ends : {ops : Ops} {at : ℕ} → Reads ops text at Ended → Stand ops at [] ops
    fault : {ops last : Ops} {at error resume : ℕ} {rest : List Sentence} → Reads ops text at (Syntax error resume)
        → Stand ops resume rest last → Stand ops at (sentence.Fault error ∷ rest) last
    clause : {ops last : Ops} {at next : ℕ} {t : Tree} {vs : Variables} {c : Clause} {rest : List Sentence} → Reads ops text at (readings.Clause t vs next)
        → IsClause text at next t c → Stand (operators_behind t ops) next rest last → Stand ops at (sentence.Clause c ∷ rest) last

-- what stands from a place on is this sentence and what stands from another place on
pub record Leads (text : List ℕ) (ops : Ops) (at : ℕ) (new : Ops) (s : Sentence) (next : ℕ) : Type 0 where
  pub further : at < next
  pub within : next ≤ length text
  pub leads : (rest : List Sentence) (last : Ops) → Stand text new next rest last → Stand text ops at (s ∷ rest) last

-- What was read at a place: a sentence and the place where reading goes on, or the end. What stands from the place on with the
-- operators so far is the sentence and what stands behind it with those that it leaves.
abbrev pub StandsAt : List ℕ → Ops → ℕ → Ops → Option (Sentence × ℕ) → Type 0
StandsAt text ops at new None = (Reads ops text at Ended) × (new ≡ ops)
StandsAt text ops at new (Some p) = Leads text ops at new p.0 p.1
