-- What a run's ending says together with the counts: where nothing stands in the way, it is whole.
use Rattle.std.proofs.Common.{◌≡◌, ◌<◌, ◌≤◌, ℕ, suc, List, [], ◌++◌, Bool, Option, Some, None, true, false, if◌then◌else◌, is_some, inl, inr, length, refl, subst, arith, length-append}
use Rattle.std.specs.Prelude.{nat_le}
use Rattle.std.specs.List.{AllByRecursion}
use Rattle.std.proofs.lemmas.Bool.{leb-true}
use Rattle.cq_outside.specs.Files.{IsTooLarge}
use Rattle.cq_outside.specs.declared.shelf.TheConstants.{SIZE_LIMIT}
use Rattle.cq_words.specs.Asked.{Asked, Task, ToRun}
use Rattle.spec_numbers.specs.Texts.{Text}
use Rattle.spec_text.specs.Numbers.{whole_text}
use Rattle.spec_command.specs.Outcome.{gen_line}
use Rattle.spec_command.specs.Query.{least}
use Rattle.spec_command.proofs.GeneratingWhole.{whole_line}
use Rattle.spec_transcript.specs.Causes.{Budgets}
use Rattle.spec_transcript.specs.Session as session
use Rattle.spec_transcript.specs.Session.{Session, Opening, Reading, Searching, Over, Mark, plain_line, error_line, stop_line, Marks, Step, Runs, none}
use Rattle.spec_command.specs.declared.endings.status.Status.{Status}
use Rattle.spec_command.specs.declared.endings.status.Status.TheVariants.{Done, Faulty, BadWords, NoFile, ReadFault, WriteFault, Stopped, NoMemory}
use Rattle.spec_command.specs.Outside.{Outside, budgets_of, given, within_size, ComesToFile}
use Rattle.spec_command.specs.Endings as ending
use Rattle.spec_command.specs.Endings.{Ends, IsLine}
use Rattle.spec_command.specs.Causes.{Counts, Caused, Completeness, GenCompleteness, IsClear, IsGiven, IsWhole}
use Rattle.spec_command.specs.Generated as generated
use Rattle.spec_command.specs.Generated.{GenEnds}

module _ (budgets : Budgets) (shelf : Text → Option (List ℕ)) (input : List ℕ) where
  -- a stop among the marks was written by some step
  stop_step : (a b : Session) (text : Text) (marks : Marks) → Runs budgets shelf input a text marks b → marks.stopped ≡ true
      → (before : Text) × (out : Text) × (m : Marks) × (here : Session) × (next : Session) × Runs budgets shelf input a before m here
      × Step budgets shelf input here out stop_line next
  stop_step a b text marks none e = cc
  stop_step a b text marks (session.then {text = before} {marks = m} {mark = plain_line} runs step) e = stop_step a _ before m runs e
  stop_step a b text marks (session.then {text = before} {marks = m} {mark = error_line} runs step) e = stop_step a _ before m runs e
  stop_step a b text marks (session.then {b = here} {c = next} {text = before} {out = out} {marks = m} {mark = stop_line} runs step) e =
      (before, out, m, here, next, runs, step)

  -- ---- the files that are still to come

  abbrev files_of : Session → List Text
  files_of (Opening db names) = names
  files_of (Reading db r) = r.files
  files_of (Searching s who r) = r.files
  files_of (Over db) = []

  module _ (P : Text → Type 0) where
    kept : (a b : Session) (out : Text) (w : Mark) → Step budgets shelf input a out w b → AllByRecursion P (files_of a) → AllByRecursion P (files_of b)
    kept a b out w (session.opens_file h) all = all.1
    kept a b out w session.opens_input all = tt
    kept a b out w (session.initializes base h k) all = all
    kept a b out w (session.file_ends h k l) all = all
    kept a b out w (session.input_ends h k l) all = tt
    kept a b out w (session.syntax h) all = all
    kept a b out w (session.directs base h) all = all
    kept a b out w (session.waits h) all = all
    kept a b out w (session.asks base h) all = all
    kept a b out w (session.adds h k) all = all
    kept a b out w (session.refuses h k) all = all
    kept a b out w (session.turns m h) all = all
    kept a b out w (session.answers h f) all = all
    kept a b out w (session.answers_last h f) all = all
    kept a b out w (session.succeeds h) all = all
    kept a b out w (session.fails h) all = all
    kept a b out w (session.raises m h) all = all
    kept a b out w (session.runs_out h k) all = all
    kept a b out w (session.overflows pair m h) all = all
    kept a b out w (session.stops cause m h) all = all

    all_kept : (a b : Session) (text : Text) (marks : Marks) → Runs budgets shelf input a text marks b → AllByRecursion P (files_of a)
        → AllByRecursion P (files_of b)
    all_kept a b text marks none all = all
    all_kept a b text marks (session.then {b = c} {text = t} {out = out} {marks = m} {mark = w} runs step) all = kept c b out w step (all_kept a c t m runs all)

not_given : (found : Option (List ℕ)) → IsTooLarge found → is_some (within_size found) ≡ true → ⊥
not_given None large e = large
not_given (Some bytes) large e = go (nat_le (length bytes) SIZE_LIMIT) refl e
  where
    go : (b : Bool) → nat_le (length bytes) SIZE_LIMIT ≡ b → is_some (if b then Some bytes else None) ≡ true → ⊥
    go true k e = omega (arith, leb-true _ _ k)
    go false k e = cc

module _ (o : Outside) (left : List ℕ) (old new : Counts) where
  -- a file that is come to is there
  is_given : (a : Asked) (name text : Text) → IsClear o a old new → ComesToFile o a name text → IsGiven o name
  is_given a name text clear f = (all_kept (budgets_of a) (given o.files) o.input (IsGiven o) _ _ text f.marks f.runs clear.files).0

  no_stopped : (a : Asked) (text line : Text) → IsClear o a old new → Ends o left (Some (ToRun a)) Stopped text line → ⊥
  no_stopped a text line clear (ending.stopped errors small whole runs) =
      let (before, out, m, here, next, reached, step) = stop_step (budgets_of a) (given o.files) o.input _ _ text _ runs.runs refl in
      clear.no_stop before out m here next reached step

  no_file : (a : Asked) (text line : Text) → IsClear o a old new → Ends o left (Some (ToRun a)) NoFile text line → ⊥
  no_file a text line clear (ending.absent_file {name = name} absent f) =
      let e : is_some (within_size None) ≡ true = subst (λ x. is_some (within_size x) ≡ true) absent (is_given a name text clear f) in cc
  no_file a text line clear (ending.large_file {name = name} large f) = not_given (o.files name) large (is_given a name text clear f)
  no_file a text line clear (ending.large_input taken split large read) =
      let size : length (taken ++ left) ≤ SIZE_LIMIT = subst (λ x. length x ≤ SIZE_LIMIT) split clear.size in
      omega (arith, length-append taken left, size, large)

  whole : (a : Asked) (text line : Text) → IsClear o a old new → (status : Status) → Ends o left (Some (ToRun a)) status text line → Caused status (Some (ToRun a)) old new → IsWhole status
  whole a text line clear Done ends caused = tt
  whole a text line clear Faulty ends caused = tt
  whole a text line clear BadWords ends caused = cc
  whole a text line clear NoFile ends caused = no_file a text line clear ends
  whole a text line clear ReadFault ends (takes, inl failed) = clear.source failed.reads
  whole a text line clear ReadFault ends (takes, inr failed) = clear.shelf failed.loads
  whole a text line clear WriteFault ends (takes, failed) = clear.out failed.writes
  whole a text line clear Stopped ends caused = no_stopped a text line clear ends
  whole a text line clear NoMemory ends caused = tt

pub completeness : Completeness
completeness o left a status text line old new ends caused clear = whole o left old new a text line clear status ends caused

pub gen_completeness : GenCompleteness
gen_completeness n status text line old new (generated.done writes) caused clear = tt
gen_completeness n status text line old new (generated.stopped {line = written} writes) caused clear = clear.no_stop written writes
gen_completeness n status text line old new (generated.write_fault stops writes begins) caused clear = clear.out caused.1.writes
gen_completeness n status text line old new generated.no_memory caused clear = tt

-- ---- lines

gen_lines : (n : ℕ) (status : Status) (text line : Text) → GenEnds n status text line → IsLine status line
gen_lines n status text line (generated.done writes) = refl
gen_lines n status text line (generated.stopped writes) = refl
gen_lines n status text line (generated.write_fault stops writes begins) = refl
gen_lines n status text line generated.no_memory = refl

pub lines : (o : Outside) (left : List ℕ) (asked : Option Task) (status : Status) (text line : Text) → Ends o left asked status text line → IsLine status line
lines o left asked status text line (ending.done small whole runs) = refl
lines o left asked status text line (ending.faulty small whole runs) = refl
lines o left asked status text line (ending.stopped errors small whole runs) = refl
lines o left asked status text line ending.bad_words = refl
lines o left asked status text line (ending.absent_file {name = name} absent f) = inl (name, refl)
lines o left asked status text line (ending.large_file {name = name} large f) = inr (inl (name, refl))
lines o left asked status text line (ending.large_input taken split large read) = inr (inr refl)
lines o left asked status text line (ending.file_fault f) = refl
lines o left asked status text line (ending.input_fault taken split small read) = refl
lines o left asked status text line (ending.write_fault w) = refl
lines o left asked status text line (ending.no_memory w) = refl
lines o left asked status text line ending.no_memory_for_words = refl
lines o left asked status text line (ending.generates {n = n} ends) = gen_lines n status text line ends

pub done_line : (k : ℕ) → k < 200 → (text line : Text) → GenEnds (suc k) Done text line → text ≡ gen_line (suc k) (whole_text (least k)) 1
done_line k small text line (generated.done writes) = whole_line k small text writes
