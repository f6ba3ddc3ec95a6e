-- Each command line has an ending that comes of its words, the files and the input alone.
use Rattle.std.proofs.Common.{◌≡◌, ℕ, suc, ◌<◌, ◌≤◌, length, List, [], ◌∷◌, Bool, true, false, cond, Option, Some, None, take, drop, inl, append-nil, arith, refl, ap, sym, subst, ◌∙◌}
use Rattle.std.specs.Prelude.{nat_le}
use Rattle.std.proofs.lemmas.List.{take-append-drop}
use Rattle.std.proofs.lemmas.Bool.Decides.{nat_tests}
use Rattle.cq_outside.specs.Files.{IsTooLarge}
use Rattle.cq_outside.specs.declared.shelf.TheConstants.{SIZE_LIMIT}
use Rattle.cq_words.specs.Asked.{Asked, Task, ToRun, ToGen}
use Rattle.cq_words.specs.Language.{asked_by_texts}
use Rattle.spec_numbers.specs.Texts.{Text}
use Rattle.spec_numbers.proofs.Tests.{true_le}
use Rattle.spec_search.specs.Database.{Database, initial}
use Rattle.spec_transcript.specs.declared.Source.TheVariants.{File, Input}
use Rattle.spec_transcript.specs.Session as session
use Rattle.spec_transcript.specs.Session.{Session, Opening, Reading, Over, beginning, Marks, unmarked, Runs, Transcript}
use Rattle.spec_command.specs.declared.endings.status.Status.{Status}
use Rattle.spec_command.specs.declared.endings.status.Status.TheVariants.{Done, Faulty, BadWords, NoFile, Stopped}
use Rattle.spec_command.specs.Outside.{Outside, within_size, given, budgets_of, Transcribes, ComesToFile}
use Rattle.spec_command.specs.Generated as generated
use Rattle.spec_command.specs.Endings.{Ends, done, faulty, stopped, bad_words, absent_file, large_file, large_input, generates, words_line, absent_line, large_line, input_line}
use Rattle.spec_command.specs.Outcome.{GenWrites}
use Rattle.spec_existence.proofs.Searching.{Reached, onward}
use Rattle.spec_existence.proofs.Reading.{text_read, left_of}
use Rattle.spec_existence.proofs.Whole.{forms}
use Rattle.spec_existence.specs.Own.{IsUndisturbed}
use Rattle.spec_existence.proofs.GenLine.{gen_line_exists}
use Rattle.spec_existence.proofs.AsFar.{read_so_far}
use Rattle.spec_existence.proofs.AnswersAllowed.{answers_allowed}

abbrev pub HasEnding : Outside → Option Task → Type 0
HasEnding o task = (status : Status) × (text : Text) × (line : Text) × Ends o [] task status text line × IsUndisturbed status

beyond : (m n : ℕ) → nat_le m n ≡ false → n < m
beyond m n e = grind (arith, nat_tests)

-- ---- a run

module _ (o : Outside) (a : Asked) (some_answer : 0 < a.answers) where
  abbrev first : Session
  first = Opening initial a.files

  abbrev Here : Session → Type 0
  Here b = Reached (budgets_of a) (given o.files) o.input first forms b

  abbrev RunEnds : Type 0
  RunEnds = HasEnding o (Some (ToRun a))

  whole : length o.input ≤ SIZE_LIMIT → (text : Text) (f s : Bool) → Transcribes o a text (record { faulty = f; stopped = s }) → RunEnds
  whole size text f true t = (Stopped, text, [], stopped f size refl t, tt)
  whole size text true false t = (Faulty, text, [], faulty size refl t, tt)
  whole size text false false t = (Done, text, [], done size refl t, tt)

  -- a file that isn't given is absent, or too large
  not_given : (name : Text) (later : List Text) (db : Database) → given o.files name ≡ None → Here (Opening db (name ∷ later)) → RunEnds
  not_given name later db e h = by (o.files name) refl e
    where
      comes : ComesToFile o a name h.0
      comes = record { database = db; later = later; marks = h.1; runs = h.2 }

      sized : (bytes : List ℕ) (b : Bool) → nat_le (length bytes) SIZE_LIMIT ≡ b → cond b (Some bytes) None ≡ None → SIZE_LIMIT < length bytes
      sized bytes true d f = cc
      sized bytes false d f = beyond (length bytes) SIZE_LIMIT d

      by : (file : Option (List ℕ)) → o.files name ≡ file → within_size (o.files name) ≡ None → RunEnds
      by None d f = (NoFile, h.0, absent_line name, absent_file d comes, tt)
      by (Some bytes) d f =
          let g : within_size (Some bytes) ≡ None = ap within_size (sym d) ∙ f in
          (NoFile, h.0, large_line name, large_file (subst IsTooLarge (sym d) (sized bytes (nat_le (length bytes) SIZE_LIMIT) refl g)) comes, tt)

  -- the input, and what its first bytes decide where it is too large
  input_whole : length o.input ≤ SIZE_LIMIT → (db : Database) → Here (Reading db (beginning Input o.input [])) → RunEnds
  input_whole size db h =
      let r = text_read (budgets_of a) (given o.files) o.input first forms some_answer (suc (left_of (budgets_of a) (given o.files) o.input first forms some_answer (beginning Input o.input []))) db
      (beginning Input o.input []) (omega arith) (omega arith) h in
      whole size r.1.0 r.1.1.faulty r.1.1.stopped (record { last = r.0; runs = r.1.2 })

  input_large : SIZE_LIMIT < length o.input → (db : Database) → Here (Reading db (beginning Input o.input [])) → RunEnds
  input_large size db h =
      let r = read_so_far (budgets_of a) (given o.files) o.input first forms some_answer (take SIZE_LIMIT o.input) (drop SIZE_LIMIT o.input) db (beginning Input o.input []) refl
      (sym (take-append-drop SIZE_LIMIT o.input)) (inl refl) h in (
        NoFile,
        r.comes.0,
        input_line,
        large_input o.input (sym (append-nil o.input)) size
            (record {
              database = r.database;
              reader = r.reader;
              is_input = r.is_input;
              short = r.short;
              undecided = r.undecided;
              marks = r.comes.1;
              runs = r.comes.2;
            }),
        tt,
      )

  input_read : (db : Database) → Here (Reading db (beginning Input o.input [])) → RunEnds
  input_read db h = by (nat_le (length o.input) SIZE_LIMIT) refl
    where
      by : (b : Bool) → nat_le (length o.input) SIZE_LIMIT ≡ b → RunEnds
      by true e = input_whole (true_le (length o.input) SIZE_LIMIT e) db h
      by false e = input_large (beyond (length o.input) SIZE_LIMIT e) db h

  opened : (names : List Text) (db : Database) → Here (Opening db names) → RunEnds
  opened [] db h = input_read db (onward (budgets_of a) (given o.files) o.input first forms (Opening db []) (Reading db (beginning Input o.input [])) _ _ h session.opens_input)
  opened (name ∷ names) db h = by (given o.files name) refl (λ d k. opened names d k)
    where
      by : (file : Option (List ℕ)) → given o.files name ≡ file → ((d : Database) → Here (Opening d names) → RunEnds) → RunEnds
      by None e rest = not_given name names db e h
      by (Some bytes) e rest =
          let r = text_read (budgets_of a) (given o.files) o.input first forms some_answer (suc (left_of (budgets_of a) (given o.files) o.input first forms some_answer (beginning File bytes names))) db
          (beginning File bytes names) (omega arith) (omega arith)
          (onward (budgets_of a) (given o.files) o.input first forms (Opening db (name ∷ names)) (Reading db (beginning File bytes names)) _ _ h (session.opens_file e)) in
          rest r.0 r.1

  pub run_ends : RunEnds
  run_ends = opened a.files initial ([], unmarked, session.none)

-- ---- any words

gen_ends : (o : Outside) (n : ℕ) (line : Text) (stopped : Bool) → GenWrites n line stopped → HasEnding o (Some (ToGen n))
gen_ends o n line true h = (Stopped, line, [], generates (generated.stopped h), tt)
gen_ends o n line false h = (Done, line, [], generates (generated.done h), tt)

pub command_ends : (o : Outside) (words : List Text) → HasEnding o (asked_by_texts words)
command_ends o words = go (asked_by_texts words) refl
  where
    by : (task : Task) → asked_by_texts words ≡ Some task → HasEnding o (Some task)
    by (ToRun a) e = run_ends o a (answers_allowed words a e)
    by (ToGen n) e = let g = gen_line_exists n in gen_ends o n g.0 g.1 g.2

    go : (task : Option Task) → asked_by_texts words ≡ task → HasEnding o (asked_by_texts words)
    go None e = subst (HasEnding o) (sym e) (BadWords, [], words_line, bad_words, tt)
    go (Some task) e = subst (HasEnding o) (sym e) (by task e)
