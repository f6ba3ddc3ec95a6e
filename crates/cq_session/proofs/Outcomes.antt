-- What a run shows of the outside, by how it ended.
use Rattle.std.proofs.Common.{◌≡◌, ◌≤◌, ℕ, List, [], length, Bool, true, false, Option, Some, None, refl, sym, ap, subst, append-nil, inl, inr}
use Rattle.std.specs.Prelude.{IfSome}
use Rattle.cq_outside.specs.Bytes.{Adds, Appends, Begins}
use Rattle.cq_outside.specs.declared.shelf.TheConstants.{SIZE_LIMIT}
use Rattle.cq_words.specs.Asked.{Asked, Task, ToRun, ToGen}
use Rattle.cq_words.specs.declared.words.WordsFault.{WordsFault}
use Rattle.cq_words.specs.declared.words.WordsFault.TheVariants as words_fault
use Rattle.cq_session.specs.Halts.{Halts, IsWhole}
use Rattle.cq_session.specs.Progress.{marks_of}
use Rattle.cq_session.specs.declared.transcript.halt.Halt.{Halt}
use Rattle.cq_session.specs.declared.transcript.halt.Halt.TheVariants.{Memory}
use Rattle.cq_session.specs.declared.transcript.halt.Halt.TheVariants as halt
use Rattle.cq_session.specs.declared.transcript.halt.Lines.{Lines}
use Rattle.cq_session.specs.Writing as writing
use Rattle.cq_session.specs.Writing.{IsBroken}
use Rattle.spec_command.specs.Outcome.{GenWrites}
use Rattle.spec_numbers.specs.Texts.{Text}
use Rattle.spec_transcript.specs.Session.{Opening, none}
use Rattle.spec_search.specs.Database.{initial}
use Rattle.spec_command.specs.Causes.{Caused, Completeness, Counts, GenCompleteness, IsClear}
use Rattle.spec_command.specs.Causes as causes
use Rattle.spec_command.specs.Endings.{Ended, Ends, Gains, GenEnded, IsLine, IsTold, Sinks, Tells, memory_line, words_line}
use Rattle.spec_command.specs.Endings as endings
use Rattle.spec_command.specs.Generated as generated
use Rattle.spec_command.specs.Generated.{IsGenClear}
use Rattle.spec_command.specs.Outside.{Outside, HasWritten, Transcribes}
use Rattle.spec_command.specs.declared.endings.status.Status.{Status}
use Rattle.spec_command.specs.declared.endings.status.Status.TheVariants as status
use Rattle.cq_session.specs.Outcomes.{GenShows, IfRun, Shows, fault_ending, line_of, status_of, whole_status}
use Rattle.cq_session.specs.declared.ending.Ending.{Ending}
use Rattle.cq_session.specs.declared.ending.Ending.TheVariants.{Whole, BadWords, Broken}

-- ---- nothing was written

appends_none : (held : Option (List ℕ)) → Appends held held []
appends_none (Some h) = ap Some (sym (append-nil h))
appends_none None = refl

abbrev rest_of : Option (List ℕ) → List ℕ
rest_of (Some bytes) = bytes
rest_of None = []

rest_is : (left : Option (List ℕ)) → IfSome left (λ bytes. rest_of left ≡ bytes)
rest_is (Some bytes) = refl
rest_is None = tt

module _ (o : Outside) (left held : Option (List ℕ)) where
  nothing_written : (a : Asked) → HasWritten o a []
  nothing_written a = record { whole = []; more = []; marks = _; here = Opening initial a.files; runs = none; begins = refl }

  pub no_memory_at_first : (a : Asked) → Halts o a left Memory held held
  no_memory_at_first a = record { text = []; rest = rest_of left; is_left = rest_is left; ends = endings.no_memory (nothing_written a); written = appends_none held }

  no_memory : (asked : Option Task) → Ends o (rest_of left) asked status.NoMemory [] memory_line
  no_memory (Some (ToRun a)) = endings.no_memory (nothing_written a)
  no_memory (Some (ToGen n)) = endings.generates generated.no_memory
  no_memory None = endings.no_memory_for_words

  fault_shows : (asked : Option Task) (f : WordsFault) → (f ≡ words_fault.BadWords → asked ≡ None) → Shows o left asked (fault_ending f) held held
  fault_shows asked words_fault.BadWords h = record {
    text = [];
    rest = rest_of left;
    is_left = rest_is left;
    ends = subst (λ a. Ends o (rest_of left) a status.BadWords [] words_line) (sym (h refl)) endings.bad_words;
    written = appends_none held;
  }
  fault_shows asked words_fault.NoMemory h =
      record { text = []; rest = rest_of left; is_left = rest_is left; ends = no_memory asked; written = appends_none held }

  pub without_words_shows : (asked : Option Task) (f : WordsFault) (e : Ending) → e ≡ fault_ending f → (f ≡ words_fault.BadWords → asked ≡ None)
      → Shows o left asked e held held
  without_words_shows asked f e is h = subst (λ x. Shows o left asked x held held) (sym is) (fault_shows asked f h)

-- ---- a transcript

none_left : (left : Option (List ℕ)) → IfSome left (λ bytes. bytes ≡ []) → IfSome left (λ bytes. [] ≡ bytes)
none_left (Some bytes) h = sym h
none_left None h = tt

whole_gains : (faulty stopped : Bool) (held now : Option (List ℕ)) (text : Text) → Appends held now text → Gains (whole_status faulty stopped) held now text
whole_gains true true held now text h = h
whole_gains false true held now text h = h
whole_gains true false held now text h = h
whole_gains false false held now text h = h

module _ (o : Outside) (a : Asked) (left held now : Option (List ℕ)) where
  whole_ends : (faulty stopped : Bool) (text : Text) → length o.input ≤ SIZE_LIMIT → Transcribes o a text (record { faulty = faulty; stopped = stopped })
      → Ends o [] (Some (ToRun a)) (whole_status faulty stopped) text []
  whole_ends true true text size t = endings.stopped true size refl t
  whole_ends false true text size t = endings.stopped false size refl t
  whole_ends true false text size t = endings.faulty size refl t
  whole_ends false false text size t = endings.done size refl t

  whole_shows_some : (lines : Lines) → IsWhole o a left (marks_of lines) held now → Shows o left (Some (ToRun a)) (Whole lines) held now
  whole_shows_some lines w = record {
    text = w.advanced.text;
    rest = [];
    is_left = none_left left w.read;
    ends = whole_ends lines.faulty lines.stopped w.advanced.text w.size (record { last = w.database; runs = w.advanced.runs });
    written = whole_gains lines.faulty lines.stopped held now w.advanced.text w.advanced.written;
  }

  pub whole_shows : (asked : Option Task) → asked ≡ Some (ToRun a) → (lines : Lines) → IsWhole o a left (marks_of lines) held now → Shows o left asked (Whole lines) held now
  whole_shows asked is lines w = subst (λ x. Shows o left x (Whole lines) held now) (sym is) (whole_shows_some lines w)

-- ---- what is told, and completeness

whole_line : (faulty stopped : Bool) → IsLine (whole_status faulty stopped) []
whole_line true true = refl
whole_line false true = refl
whole_line true false = refl
whole_line false false = refl

pub line_is : (e : Ending) → IsLine (status_of e) (line_of e)
line_is (Whole lines) = whole_line lines.faulty lines.stopped
line_is BadWords = refl
line_is (Broken (halt.Absent name)) = inl (name.now, refl)
line_is (Broken (halt.TooLarge name)) = inr (inl (name.now, refl))
line_is (Broken halt.TooMuchInput) = inr (inr refl)
line_is (Broken halt.Read) = refl
line_is (Broken halt.Write) = refl
line_is (Broken halt.Memory) = refl

module _ (e : Ending) (s : Status) (is : s ≡ status_of e) where
  pub tells : (err : Sinks) → IsTold err (line_of e) → Tells s err
  tells err h = record { line = line_of e; is_line = subst (λ x. IsLine x (line_of e)) (sym is) (line_is e); told = h }

  pub ended : (o : Outside) (left : Option (List ℕ)) (asked : Option Task) (held now : Option (List ℕ)) (err : Sinks)
      → IsTold err (line_of e) → Shows o left asked e held now → Ended o left asked s held now err
  ended o left asked held now err told h = record {
    text = h.text;
    line = line_of e;
    rest = h.rest;
    is_left = h.is_left;
    ends = subst (λ x. Ends o h.rest asked x h.text (line_of e)) (sym is) h.ends;
    written = subst (λ x. Gains x held now h.text) (sym is) h.written;
    told = told;
  }

  pub complete : (o : Outside) (left : Option (List ℕ)) (asked : Option Task) (held now : Option (List ℕ)) (before behind : Counts) → Completeness
      → Caused (status_of e) asked before behind → Shows o left asked e held now
      → IfSome asked (λ t. IfRun t (λ a. IsClear o a before behind → causes.IsWhole s))
  complete o left (Some (ToGen n)) held now before behind law caused h = tt
  complete o left (Some (ToRun a)) held now before behind law caused h = λ clear.
      subst causes.IsWhole (sym is) (law o h.rest a (status_of e) h.text (line_of e) before behind h.ends caused clear)
  complete o left None held now before behind law caused h = tt

-- ---- a line of `gen`

module _ (n : ℕ) (held now : Option (List ℕ)) where
  whole_generates : (stopped : Bool) (line : Text) → GenWrites n line stopped → generated.GenEnds n (whole_status false stopped) line []
  whole_generates true line writes = generated.stopped writes
  whole_generates false line writes = generated.done writes

  same_lines : (lines : Lines) → lines.faulty ≡ false → GenShows n (Whole (record { faulty = false; stopped = lines.stopped })) held now
      → GenShows n (Whole lines) held now
  same_lines lines e h = subst (λ b. GenShows n (Whole (record { faulty = b; stopped = lines.stopped })) held now) (sym e) h

  pub gen_whole : (lines : Lines) → writing.HasWritten n held now lines → GenShows n (Whole lines) held now
  gen_whole lines w = same_lines lines w.no_error (record {
    text = w.line;
    ends = whole_generates lines.stopped w.line w.writes;
    written = whole_gains false lines.stopped held now w.line w.written;
  })

  -- a text that was added, as itself
  begun : (line : Text) (stops : Bool) → GenWrites n line stops → Adds held now (λ part. Begins part line) → GenShows n (Broken halt.Write) held now
  begun line stops writes = go held now
    where
      go : (h m : Option (List ℕ)) → Adds h m (λ part. Begins part line) → GenShows n (Broken halt.Write) h m
      go (Some h) (Some m) (part, same, begins) = record { text = part; ends = generated.write_fault stops writes begins; written = (part, same, refl) }
      go (Some h) None added = record { text = []; ends = generated.write_fault stops writes (line, refl); written = tt }
      go None (Some m) added = absurd added
      go None None added = record { text = []; ends = generated.write_fault stops writes (line, refl); written = tt }

  pub gen_broken : (h : Halt) → IsBroken n held now h → GenShows n (Broken h) held now
  gen_broken halt.Write b = begun b.line b.stops b.writes b.written
  gen_broken Memory same = record { text = []; ends = generated.no_memory; written = subst (λ x. Appends held x []) (sym same) (appends_none held) }
  gen_broken (halt.Absent name) b = absurd b
  gen_broken (halt.TooLarge name) b = absurd b
  gen_broken halt.TooMuchInput b = absurd b
  gen_broken halt.Read b = absurd b

-- nothing was written where no words could be read
pub gen_without_words : (n : ℕ) (held : Option (List ℕ)) (f : WordsFault) (e : Ending) → e ≡ fault_ending f → (f ≡ words_fault.BadWords → ⊥) → GenShows n e held held
gen_without_words n held words_fault.BadWords e is h = absurd (h refl)
gen_without_words n held words_fault.NoMemory e is h = subst (λ x. GenShows n x held held) (sym is) (gen_broken n held held Memory refl)

-- as an ending of any task
pub gen_shows : (o : Outside) (left : Option (List ℕ)) (n : ℕ) (asked : Option Task) → asked ≡ Some (ToGen n) → (e : Ending) (held now : Option (List ℕ))
    → GenShows n e held now → Shows o left asked e held now
gen_shows o left n asked is e held now h = subst (λ x. Shows o left x e held now) (sym is) (record {
  text = h.text;
  rest = rest_of left;
  is_left = rest_is left;
  ends = endings.generates h.ends;
  written = h.written;
})

pub gen_ended : (n : ℕ) (e : Ending) (s : Status) → s ≡ status_of e → (held now : Option (List ℕ)) (err : Sinks) → IsTold err (line_of e) → GenShows n e held now
    → GenEnded n s held now err
gen_ended n e s is held now err told h = record {
  text = h.text;
  line = line_of e;
  ends = subst (λ x. generated.GenEnds n x h.text (line_of e)) (sym is) h.ends;
  written = subst (λ x. Gains x held now h.text) (sym is) h.written;
  told = told;
}

pub gen_complete : (n : ℕ) (e : Ending) (s : Status) → s ≡ status_of e → (held now : Option (List ℕ)) (before behind : Counts) → GenCompleteness
    → (asked : Option Task) → asked ≡ Some (ToGen n) → Caused (status_of e) asked before behind → GenShows n e held now
    → IsGenClear n before.out_faults behind.out_faults → causes.IsWhole s
gen_complete n e s is held now before behind law asked generates caused h clear =
    let caused_so : Caused (status_of e) (Some (ToGen n)) before behind = subst (λ a. Caused (status_of e) a before behind) generates caused in
    subst causes.IsWhole (sym is) (law n (status_of e) h.text (line_of e) before behind h.ends caused_so clear)

-- ---- options

pub if_some : {A : Type 0} (x : Option A) (P Q : A → Type 0) → ((a : A) → P a → Q a) → IfSome x P → IfSome x Q
if_some (Some a) P Q f h = f a h
if_some None P Q f h = tt

pub if_some_all : {A : Type 0} (x : Option A) (P : A → Type 0) → ((a : A) → P a) → IfSome x P
if_some_all (Some a) P f = f a
if_some_all None P f = tt
