-- What comes of a clause that was read.
use Rattle.std.specs.Prelude.{◌≡◌, List, [], ◌∷◌, ◌++◌, None, Some}
use Rattle.spec_syntax.specs.TextTokens.{VariableName, Variables}
use Rattle.spec_syntax.specs.Trees.{Tree}
use Rattle.spec_search.specs.Changes.{consult_error, consulted}
use Rattle.spec_search.specs.Search.{Search}
use Rattle.spec_text.specs.Readings.{Read, Clause, Ended, Syntax}
use Rattle.spec_transcript.specs.Purposes.{Purpose, purpose, Fact, Initialization, Directive, Query, once, ball_line}
use Rattle.spec_transcript.specs.Session.{refusal_ball}
use Rattle.cq_session.specs.Sentences.{Program, Begins, Asks}
use Rattle.spec_transcript.specs.declared.Source.{Source}
use Rattle.cq_session.specs.declared.transcript.interpreter.Sentence.{Sentence}
use Rattle.cq_session.specs.declared.transcript.interpreter.Sentence.TheVariants as sentence

-- a file's clause is added, or refused with its line
abbrev pub IsAdded : Program → Program → Tree → Sentence → Type 0
IsAdded p q t sentence.Added = (consult_error t ≡ None) × (q ≡ record p { database = consulted t p.database })
IsAdded p q t (sentence.Refused line) =
    (e : Tree) × (consult_error t ≡ Some e) × (line.items ≡ ball_line p.database.operators (refusal_ball e)) × (q ≡ p)
IsAdded p q t sentence.Needs = ⊥
IsAdded p q t sentence.End = ⊥
IsAdded p q t (sentence.Syntax at) = ⊥
IsAdded p q t sentence.Waits = ⊥
IsAdded p q t sentence.Directive = ⊥
IsAdded p q t sentence.Query = ⊥

-- a goal with these variables is kept behind the others
abbrev pub IsKeptFor : Program → Program → Tree → Variables → Type 0
IsKeptFor p q g vs = q ≡ record p { later = p.later ++ record { goal = g; variables = vs } ∷ [] }

-- a clause with these variables was added or refused, kept for later, or begun, as it is meant
abbrev pub IsTaken : (Search → Type 0) → List VariableName → Program → Program → Variables → Purpose → Sentence → Type 0
IsTaken Stands names p q vs (Fact t) s = IsAdded p q t s
IsTaken Stands names p q vs (Initialization g) s = (s ≡ sentence.Waits) × IsKeptFor p q g vs
IsTaken Stands names p q vs (Directive g) s = (s ≡ sentence.Directive) × Begins Stands p.database (once g) vs × (q ≡ p)
IsTaken Stands names p q vs (Query g) s = (s ≡ sentence.Query) × Asks Stands p.database g vs names × (q ≡ p)

-- what is done where this was read
abbrev pub IsDone : (Search → Type 0) → List VariableName → Source → Program → Program → Read → Sentence → Type 0
IsDone Stands names source p q (Clause t vs next) s = IsTaken Stands names p q vs (purpose source t) s
IsDone Stands names source p q Ended s = (s ≡ sentence.End) × (q ≡ p)
IsDone Stands names source p q (Syntax at resume) s = (s ≡ sentence.Syntax at) × (q ≡ p)
