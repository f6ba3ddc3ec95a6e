-- Each session that some steps lead to is ready, and each that is ready is carried on to an end.
use Rattle.std.proofs.Common.{◌≡◌, inl, inr, ℕ, suc, ◌+◌, ◌<◌, ◌≤◌, length, List, [], true, false, Option, arith, refl, sym, ◌∙◌}
use Rattle.spec_numbers.specs.Texts.{Text}
use Rattle.spec_syntax.specs.Operators.{Ops}
use Rattle.spec_syntax.specs.Trees.{Tree}
use Rattle.spec_syntax.specs.TextTokens.{Variables}
use Rattle.spec_text.specs.Readings.{Clause, Syntax}
use Rattle.spec_text.specs.Later.{tree_later}
use Rattle.spec_text.proofs.Onward.{moves_on}
use Rattle.spec_branch.specs.Branch.{State}
use Rattle.spec_search.specs.Database.{Database, initial}
use Rattle.spec_search.specs.Search.{Search}
use Rattle.spec_search.specs.Turns.{Event, Wrote, Answered}
use Rattle.spec_transcript.specs.Causes.{Budgets}
use Rattle.spec_transcript.specs.declared.Source.{Source}
use Rattle.spec_transcript.specs.declared.Source.TheVariants.{File, Input}
use Rattle.spec_transcript.specs.Purposes.{Purpose, Directive, Initialization, Query, Fact, once}
use Rattle.spec_transcript.specs.Session as session
use Rattle.spec_transcript.specs.Session.{Reader, Asker, ADirective, AQuery, Session, Opening, Reading, Searching, Over, Stands, begun, names_from, Mark, Marks, unmarked, MayGo, Step, Runs, Transcript}
use Rattle.spec_existence.proofs.Turning.{turn_sound}
use Rattle.spec_existence.proofs.ProgressLemmas.{start_sound}
use Rattle.spec_existence.specs.Existing.{AreThere, AnswersHaveForms, IsAsking, IsReadySearch, IsReadyReader, IsReady}
use Rattle.spec_existence.proofs.Numbered.{clause_numbered}
use Rattle.spec_existence.proofs.Effects.{Kinds, quiet, selects, answered, threw, ended, kind_of}
use Rattle.spec_existence.proofs.Searching.{search_ends}
use Rattle.spec_existence.proofs.Clauses.{Comes}
use Rattle.spec_existence.proofs.Reading.{behind, text_read, left_of, all_read}

-- ---- steps

module _ (budgets : Budgets) (shelf : Text → Option (List ℕ)) (input : List ℕ) (some_answer : 0 < budgets.answers) where
  -- behind a clause
  behind_clause : (db : Database) (r : Reader) (what : Purpose) (vs : Variables) (to : ℕ) → IsReadyReader shelf r → Stands db r what vs to → to ≤ length r.bytes
  behind_clause db r what vs to h s = (moves_on db.operators r.bytes r.at (Clause s.term vs to) h.within s.reads).1

  begins : (db : Database) (g : Tree) (base : ℕ) (vs : Variables) (who : Asker) → IsAsking who → IsReadySearch budgets (begun db g base vs) who
  begins db g base vs who a = record { sound = start_sound db (tree_later base g) (base + vs.count); within = omega arith; asking = a }

  -- how many goals were selected then
  after_turn : (s t : Search) (e : Event) → s.selected ≤ budgets.steps → MayGo budgets s → Kinds s e t → (text : Text) → e ≡ Wrote text → t.selected ≤ budgets.steps
  after_turn s t e w m (quiet d l) text f = omega (arith, w, d)
  after_turn s t e w (inl k) (selects l d) text f = let c : true ≡ false = sym l ∙ k in cc
  after_turn s t e w (inr k) (selects l d) text f = omega (arith, k, d)
  after_turn s t e w m (answered l d) text f = cc
  after_turn s t e w m threw text f = cc
  after_turn s t e w m ended text f = cc

  after_answer : (s t : Search) (e : Event) → s.selected ≤ budgets.steps → Kinds s e t → (st : State) (ops : Ops) → e ≡ Answered st ops → t.selected ≤ budgets.steps
  after_answer s t e w (quiet d l) st ops f = cc
  after_answer s t e w (selects l d) st ops f = cc
  after_answer s t e w (answered l d) st ops f = omega (arith, w, d)
  after_answer s t e w threw st ops f = cc
  after_answer s t e w ended st ops f = cc

  pub step_ready : (a b : Session) (out : Text) (mark : Mark) → Step budgets shelf input a out mark b → IsReady budgets shelf a → IsReady budgets shelf b
  step_ready a b out mark (session.opens_file h) ready = record { within = omega arith; files = ready.1 }
  step_ready a b out mark session.opens_input ready = record { within = omega arith; files = tt }
  step_ready a b out mark (session.initializes {db = db} {a = g} base h e) ready =
      (begins db (once g.goal) base g.variables ADirective tt, record { within = ready.within; files = ready.files })
  step_ready a b out mark (session.file_ends h e d) ready = ready.files
  step_ready a b out mark (session.input_ends h e d) ready = tt
  step_ready a b out mark (session.syntax {db = db} {r = r} {at = at} {resume = to} h) ready =
      record { within = (moves_on db.operators r.bytes r.at (Syntax at to) ready.within h).3; files = ready.files }
  step_ready a b out mark (session.directs {db = db} {r = r} {g = g} {vs = vs} {next = to} base h) ready =
      (begins db (once g) base vs ADirective tt, record { within = behind_clause db r (Directive g) vs to ready h; files = ready.files })
  step_ready a b out mark (session.waits {db = db} {r = r} {g = g} {vs = vs} {next = to} h) ready =
      record { within = behind_clause db r (Initialization g) vs to ready h; files = ready.files }
  step_ready a b out mark (session.asks {db = db} {r = r} {g = g} {vs = vs} {next = to} base h) ready = (
    begins db g base vs (AQuery (names_from base vs) budgets.answers) (some_answer, clause_numbered db.operators r.bytes r.at base h.term vs to h.reads),
    record { within = behind_clause db r (Query g) vs to ready h; files = ready.files },
  )
  step_ready a b out mark (session.adds {db = db} {r = r} {t = t} {vs = vs} {next = to} h e) ready =
      record { within = behind_clause db r (Fact t) vs to ready h; files = ready.files }
  step_ready a b out mark (session.refuses {db = db} {r = r} {t = t} {vs = vs} {next = to} h e) ready =
      record { within = behind_clause db r (Fact t) vs to ready h; files = ready.files }
  step_ready a b out mark (session.turns {s = s} {t = t} {who = who} {text = text} m h) ready = (
    record {
      sound = turn_sound s ready.0.sound t (Wrote text) h;
      within = after_turn s t (Wrote text) ready.0.within m (kind_of s t (Wrote text) h) text refl;
      asking = ready.0.asking;
    },
    ready.1,
  )
  step_ready a b out mark (session.answers {s = s} {t = t} {st = st} {ops = ops} h f) ready = (
    record {
      sound = turn_sound s ready.0.sound t (Answered st ops) h;
      within = after_answer s t (Answered st ops) ready.0.within (kind_of s t (Answered st ops) h) st ops refl;
      asking = (omega arith, ready.0.asking.1);
    },
    ready.1,
  )
  step_ready a b out mark (session.answers_last h f) ready = ready.1
  step_ready a b out mark (session.succeeds h) ready = ready.1
  step_ready a b out mark (session.fails h) ready = ready.1
  step_ready a b out mark (session.raises m h) ready = ready.1
  step_ready a b out mark (session.runs_out h e) ready = ready.1
  step_ready a b out mark (session.overflows pair m h) ready = ready.1
  step_ready a b out mark (session.stops cause m h) ready = ready.1

  pub runs_ready : {a b : Session} {text : Text} {marks : Marks} → Runs budgets shelf input a text marks b → IsReady budgets shelf a → IsReady budgets shelf b
  runs_ready session.none ready = ready
  runs_ready (session.then {b = b} {c = c} {out = out} {mark = mark} rest s) ready = step_ready b c out mark s (runs_ready rest ready)

-- ---- to an end

abbrev pub ComesToAnEnd : Budgets → (Text → Option (List ℕ)) → List ℕ → Session → Type 0
ComesToAnEnd budgets shelf input a = (text : Text) × (marks : Marks) × (last : Database) × Runs budgets shelf input a text marks (Over last)

module _ (budgets : Budgets) (shelf : Text → Option (List ℕ)) (input : List ℕ) (some_answer : 0 < budgets.answers) (forms : AnswersHaveForms) where
  module _ (first : Session) where
    abbrev Here : Session → Type 0
    Here b = Comes budgets shelf input first forms some_answer b

    ended_so : (last : Database) × Here (Over last) → ComesToAnEnd budgets shelf input first
    ended_so r = (r.1.0, r.1.1, r.0, r.1.2)

    from_opening : (names : List Text) → AreThere shelf names → (db : Database) → Here (Opening db names) → ComesToAnEnd budgets shelf input first
    from_opening names there db h = ended_so (all_read budgets shelf input first forms some_answer names there db h)

    from_text : (source : Source) (names : List Text) → AreThere shelf names → (db : Database) → Here (behind budgets shelf input first forms some_answer source names db)
        → ComesToAnEnd budgets shelf input first
    from_text File names there db h = from_opening names there db h
    from_text Input names there db h = ended_so (db, h)

    from_reading : (db : Database) (r : Reader) → IsReadyReader shelf r → Here (Reading db r) → ComesToAnEnd budgets shelf input first
    from_reading db r ready h =
        let t = text_read budgets shelf input first forms some_answer (suc (left_of budgets shelf input first forms some_answer r)) db r ready.within (omega arith) h in
        from_text r.source r.files ready.files t.0 t.1

    from_session : (b : Session) → IsReady budgets shelf b → Here b → ComesToAnEnd budgets shelf input first
    from_session (Opening db names) ready h = from_opening names ready db h
    from_session (Reading db r) ready h = from_reading db r ready h
    from_session (Searching s who r) ready h =
        let d = search_ends budgets shelf input first forms r s who ready.0 h in
        from_reading d.0 r ready.1 d.1
    from_session (Over db) ready h = ended_so (db, h)

  pub goes_to_an_end : (a : Session) → IsReady budgets shelf a → ComesToAnEnd budgets shelf input a
  goes_to_an_end a ready = from_session a a ready ([], unmarked, session.none)

  pub transcript_exists : (files : List Text) → AreThere shelf files → (text : Text) × (marks : Marks) × Transcript budgets shelf input files text marks
  transcript_exists files there =
      let r = goes_to_an_end (Opening initial files) there in
      (r.0, r.1, record { last = r.2; runs = r.3 })
