-- Without files nothing is written before a clause or an error of the input is read.
use Rattle.std.proofs.Common.{◌≡◌, ◌⊎◌, inl, inr, ℕ, ◌<◌, ◌≤◌, ◌∙◌, length, List, [], ◌++◌, Option, append-nil, arith, refl, sym, subst}
use Rattle.std.specs.Prelude.{⊤}
use Rattle.cq_words.specs.Asked.{Asked}
use Rattle.spec_numbers.specs.Texts.{Text}
use Rattle.spec_syntax.specs.TextTokens.{Variables}
use Rattle.spec_text.specs.Readings.{Read, Reads, Clause, Syntax}
use Rattle.spec_text.specs.Laws.{MovesOn}
use Rattle.spec_text.proofs.Onward.{moves_on}
use Rattle.spec_search.specs.Database.{Database, initial}
use Rattle.spec_transcript.specs.Causes.{Budgets}
use Rattle.spec_transcript.specs.declared.Source.TheVariants.{Input}
use Rattle.spec_transcript.specs.Purposes.{Purpose, Directive, Initialization, Query, Fact}
use Rattle.spec_transcript.specs.Session as session
use Rattle.spec_transcript.specs.Session.{Reader, Session, Opening, Reading, Searching, Over, Stands, Mark, Marks, Step, Runs}
use Rattle.spec_command.specs.Outside.{Outside, budgets_of, given, HasReadAll}

-- a reader of the input behind its beginning
abbrev IsBehind : Reader → Type 0
IsBehind r = (r.source ≡ Input) × (0 < r.at) × (r.at ≤ length r.bytes)

-- a reader at the input's beginning, up to which nothing is written
record IsFirst (r : Reader) (text : Text) : Type 0 where
  source : r.source ≡ Input
  at : r.at ≡ 0
  later : r.later ≡ []
  nothing : text ≡ []

abbrev IsQuiet : Text → Session → Type 0
IsQuiet text (Opening db names) = (names ≡ []) × (text ≡ [])
IsQuiet text (Reading db r) = IsFirst r text ⊎ IsBehind r
IsQuiet text (Searching s who r) = IsBehind r
IsQuiet text (Over db) = ⊤

module _ (db : Database) (r : Reader) (text : Text) (h : IsFirst r text ⊎ IsBehind r) where
  source_is : r.source ≡ Input
  source_is = elim h [ inl f ↦ f.source | inr b ↦ b.0 ]

  goes_on : (read : Read) → Reads db.operators r.bytes r.at read → MovesOn r.bytes r.at read
  goes_on read reads = moves_on db.operators r.bytes r.at read (elim h [ inl f ↦ omega (arith, f.at) | inr b ↦ b.2 ]) reads

  behind_clause : (what : Purpose) (vs : Variables) (next : ℕ) → Stands db r what vs next → IsBehind (record r { at = next })
  behind_clause what vs next s = let m = goes_on (Clause s.term vs next) s.reads in (source_is, omega (arith, m.0), m.1)

  behind_error : (error resume : ℕ) → Reads db.operators r.bytes r.at (Syntax error resume) → IsBehind (record r { at = resume })
  behind_error error resume reads = let m = goes_on (Syntax error resume) reads in (source_is, omega (arith, m.2), m.3)

module _ (budgets : Budgets) (shelf : Text → Option (List ℕ)) (input : List ℕ) where
  step_quiet : (a b : Session) (text out : Text) (mark : Mark) → Step budgets shelf input a out mark b → IsQuiet text a → IsQuiet (text ++ out) b
  step_quiet a b text out mark (session.opens_file h) q = cc
  step_quiet a b text out mark session.opens_input q = inl (record { source = refl; at = refl; later = refl; nothing = append-nil text ∙ q.1 })
  step_quiet a b text out mark (session.initializes base h k) q = elim q [ inl f ↦ absurd (let e = sym f.later ∙ k in cc) | inr b ↦ b ]
  step_quiet a b text out mark (session.file_ends {db = db} {r = r} h k l) q = absurd (let e = sym k ∙ source_is db r text q in cc)
  step_quiet a b text out mark (session.input_ends h k l) q = tt
  step_quiet a b text out mark (session.syntax {db = db} {r = r} {at = at} {resume = to} h) q = inr (behind_error db r text q at to h)
  step_quiet a b text out mark (session.directs {db = db} {r = r} {g = g} {vs = vs} {next = to} base h) q = behind_clause db r text q (Directive g) vs to h
  step_quiet a b text out mark (session.waits {db = db} {r = r} {g = g} {vs = vs} {next = to} h) q = inr (behind_clause db r text q (Initialization g) vs to h)
  step_quiet a b text out mark (session.asks {db = db} {r = r} {g = g} {vs = vs} {next = to} base h) q = behind_clause db r text q (Query g) vs to h
  step_quiet a b text out mark (session.adds {db = db} {r = r} {t = t} {vs = vs} {next = to} h e) q = inr (behind_clause db r text q (Fact t) vs to h)
  step_quiet a b text out mark (session.refuses {db = db} {r = r} {t = t} {vs = vs} {next = to} h e) q = inr (behind_clause db r text q (Fact t) vs to h)
  step_quiet a b text out mark (session.turns m h) q = q
  step_quiet a b text out mark (session.answers h f) q = q
  step_quiet a b text out mark (session.answers_last h f) q = inr q
  step_quiet a b text out mark (session.succeeds h) q = inr q
  step_quiet a b text out mark (session.fails h) q = inr q
  step_quiet a b text out mark (session.raises m h) q = inr q
  step_quiet a b text out mark (session.runs_out h e) q = inr q
  step_quiet a b text out mark (session.overflows pair m h) q = inr q
  step_quiet a b text out mark (session.stops cause m h) q = inr q

  runs_quiet : (a b : Session) (text : Text) (marks : Marks) → Runs budgets shelf input a text marks b → IsQuiet [] a → IsQuiet text b
  runs_quiet a b text marks session.none q = q
  runs_quiet a b text marks (session.then {b = c} {text = before} {out = out} {marks = m} {mark = mark} runs step) q =
      step_quiet c b before out mark step (runs_quiet a c before m runs q)

pub nothing_written : (o : Outside) (a : Asked) (bytes : List ℕ) (text : Text) → a.files ≡ [] → length bytes ≤ 1 → HasReadAll o a bytes text → text ≡ []
nothing_written o a bytes text none small h = elim quiet [
  | inl f ↦ f.nothing
  | inr b ↦ absurd (elim h.short [ inl z ↦ omega (arith, z, b.1) | inr s ↦ omega (arith, s, small, b.1) ])
]
  where
    quiet : IsFirst h.reader text ⊎ IsBehind h.reader
    quiet =
        runs_quiet (budgets_of a) (given o.files) o.input (Opening initial []) (Reading h.database h.reader) text h.marks
        (subst (λ names. Runs (budgets_of a) (given o.files) o.input (Opening initial names) text h.marks (Reading h.database h.reader)) none h.runs) (refl, refl)
