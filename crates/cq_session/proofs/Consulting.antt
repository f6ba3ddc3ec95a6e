-- The transcript of a file, as steps of a session.
use Rattle.std.proofs.Common.{◌≡◌, ◌≤◌, ◌<◌, ◌+◌, ◌∙◌, ℕ, List, [], ◌∷◌, length, take, drop, get_or, true, false, Option, Some, inl, inr, refl, sym, ap, subst, append-nil}
use Rattle.std.specs.Prelude.{map}
use Rattle.std.specs.Borrow.{Bor}
use Rattle.std.proofs.lemmas.List.{drop_more, drop_all}
use Rattle.cq_outside.specs.Files.{IsTooLarge}
use Rattle.cq_outside.specs.declared.shelf.TheConstants.{SIZE_LIMIT}
use Rattle.cq_read.specs.Inputs.{Input}
use Rattle.spec_numbers.specs.Texts.{Text}
use Rattle.spec_syntax.specs.Operators.{Ops}
use Rattle.spec_text.specs.Readings.{Reads, Ended}
use Rattle.spec_search.specs.Search.{Search}
use Rattle.spec_transcript.specs.Causes.{Budgets}
use Rattle.spec_transcript.specs.Purposes.{once}
use Rattle.spec_transcript.specs.Session as session
use Rattle.spec_transcript.specs.Session.{Asked, ADirective, Session, Opening, Reading, Searching, Marks, unmarked, plain_line, Reader, beginning, begun}
use Rattle.spec_engine.specs.Parts.{both}
use Rattle.spec_engine.proofs.Stand.{ended}
use Rattle.spec_command.specs.Outside.{Outside, given}
use Rattle.cq_session.specs.declared.transcript.halt.Halt.{Halt}
use Rattle.cq_session.specs.declared.transcript.halt.Halt.TheVariants.{Absent, TooLarge, TooMuchInput, Read, Write, Memory}
use Rattle.spec_transcript.specs.declared.Source.TheVariants as source
use Rattle.cq_session.specs.declared.transcript.reading.Pause.{Pause}
use Rattle.cq_session.specs.declared.transcript.reading.Pause.TheVariants.{Needs, End}
use Rattle.cq_session.specs.Sentences.{Program}
use Rattle.cq_session.specs.Progress.{Advanced, Broken}
use Rattle.cq_session.specs.Texts.{IsAt, StandsAt, IsPause}
use Rattle.cq_session.specs.Breaks.{Breaks, ComesTo, ReadsAll, ReadsTaken, PassesLimit, IsMissing}
use Rattle.cq_session.proofs.Steps.{one_step, at_start, advanced_both, advanced_quietly, memory_here, broken_more, both_unmarked}

-- ---- what breaks off

pub broken_breaks : (b : Budgets) (o : Outside) (left : Option (List ℕ)) (from : Session) (halt : Halt) (held now : Option (List ℕ)) → Broken b o from halt held now
    → Breaks b o left from halt held now
broken_breaks b o left from Write held now h = h
broken_breaks b o left from Memory held now h = h
broken_breaks b o left from (Absent name) held now h = absurd h
broken_breaks b o left from (TooLarge name) held now h = absurd h
broken_breaks b o left from TooMuchInput held now h = absurd h
broken_breaks b o left from Read held now h = absurd h

module _ (b : Budgets) (o : Outside) (a c : Session) (m : Marks) (held mid now : Option (List ℕ)) (before : Advanced b o a m c held mid) where
  comes_behind : (name : Text) → ComesTo b o c name mid now → ComesTo b o a name held now
  comes_behind name h = record {
    database = h.database;
    later = h.later;
    marks = both m h.marks;
    advanced = advanced_both b o a c m held mid before (Opening h.database (name ∷ h.later)) h.marks now h.advanced;
  }

  reads_behind : (bytes : List ℕ) → ReadsAll b o c bytes mid now → ReadsAll b o a bytes held now
  reads_behind bytes h = record {
    database = h.database;
    reader = h.reader;
    is_input = h.is_input;
    short = h.short;
    undecided = h.undecided;
    marks = both m h.marks;
    advanced = advanced_both b o a c m held mid before (Reading h.database h.reader) h.marks now h.advanced;
  }

  taken_behind : (left : List ℕ) → ReadsTaken b o c left mid now → ReadsTaken b o a left held now
  taken_behind left h = record { taken = h.taken; split = h.split; small = h.small; all = reads_behind h.taken h.all }

  passes_behind : (left : List ℕ) → PassesLimit b o c left mid now → PassesLimit b o a left held now
  passes_behind left h = record { taken = h.taken; split = h.split; large = h.large; all = reads_behind (take SIZE_LIMIT h.taken) h.all }

  pub breaks_more : (left : Option (List ℕ)) (halt : Halt) → Breaks b o left c halt mid now → Breaks b o left a halt held now
  breaks_more left (Absent name) (none, h) = (none, comes_behind name.now h)
  breaks_more left (TooLarge name) (large, h) = (large, comes_behind name.now h)
  breaks_more left TooMuchInput (bytes, is, h) = (bytes, is, passes_behind bytes h)
  breaks_more left Read (inl (name, h)) = inl (name, comes_behind name h)
  breaks_more left Read (inr (bytes, is, h)) = inr (bytes, is, taken_behind bytes h)
  breaks_more left Write h = broken_more b o a c m held mid before Write now h
  breaks_more left Memory h = broken_more b o a c m held mid before Memory now h

-- ---- loads

-- a file that isn't given is where the transcript breaks off
pub missing_breaks : (b : Budgets) (o : Outside) (left : Option (List ℕ)) (p : Program) (name : Text) (names : List Text) (halt : Halt) (held : Option (List ℕ))
    → IsMissing (Some o.files) name halt → Breaks b o left (Opening p.database (name ∷ names)) halt held held
missing_breaks b o left p name names halt held h = go halt h
  where
    here : ComesTo b o (Opening p.database (name ∷ names)) name held held
    here = record { database = p.database; later = names; marks = unmarked; advanced = at_start b o (Opening p.database (name ∷ names)) held }

    go : (x : Halt) → IsMissing (Some o.files) name x → Breaks b o left (Opening p.database (name ∷ names)) x held held
    go (Absent named) (is, none) =
        (ap o.files is ∙ none, subst (λ n. ComesTo b o (Opening p.database (name ∷ names)) n held held) (sym is) here)
    go (TooLarge named) (is, large) =
        (subst (λ n. IsTooLarge (o.files n)) (sym is) large, subst (λ n. ComesTo b o (Opening p.database (name ∷ names)) n held held) (sym is) here)
    go Read h = inl (name, here)
    go Memory h = memory_here b o (Opening p.database (name ∷ names)) (Opening p.database (name ∷ names)) unmarked held held (at_start b o (Opening p.database (name ∷ names)) held)
    go Write h = absurd h
    go TooMuchInput h = absurd h

-- ---- goals that wait

module _ (b : Budgets) (o : Outside) (r : Reader) (ops : Ops) (ends : Reads ops r.bytes r.at Ended) where
  -- none is begun yet
  pub none_begun : (p : Program) (held : Option (List ℕ)) → r.later ≡ p.later → Advanced b o (Reading p.database r) unmarked (Reading p.database (record r { later = p.later })) held held
  none_begun p held same =
      subst (λ l. Advanced b o (Reading p.database r) unmarked (Reading p.database (record r { later = l })) held held) same (at_start b o (Reading p.database r) held)

  module _ (from : Session) (m : Marks) (p q : Program) (held mid : Option (List ℕ)) (before : Advanced b o from m (Reading p.database (record r { later = p.later })) held mid)
      (a : Asked) (later : List Asked) (base : ℕ) (waits : p.later ≡ a ∷ later) (same : q ≡ record p { later = later }) where
    abbrev search : Search
    search = begun p.database (once a.goal) base a.variables

    begins : Advanced b o from m (Searching search ADirective (record r { later = q.later })) held mid
    begins =
        subst (λ x. Advanced b o from m (Searching search ADirective (record r { later = x.later })) held mid) (sym same)
        (advanced_quietly b o from (Reading p.database (record r { later = p.later })) m held mid before
        (Searching search ADirective (record r { later = later }))
        (one_step b o (Reading p.database (record r { later = p.later })) (Searching search ADirective (record r { later = later })) [] plain_line
        (session.initializes base (ended ops p.database.operators r.bytes r.at ends) waits)))

    pub goal_more : (c : Program) (k : Marks) (now : Option (List ℕ)) → c.later ≡ q.later
        → Advanced b o (Searching search ADirective (record r { later = q.later })) k (Reading c.database (record r { later = q.later })) mid now
        → Advanced b o from (both m k) (Reading c.database (record r { later = c.later })) held now
    goal_more c k now still done =
        subst (λ l. Advanced b o from (both m k) (Reading c.database (record r { later = l })) held now) (sym still)
        (advanced_both b o from (Searching search ADirective (record r { later = q.later })) m held mid begins (Reading c.database (record r { later = q.later })) k now done)

    pub goal_broken : (halt : Halt) (now : Option (List ℕ)) → Broken b o (Searching search ADirective (record r { later = q.later })) halt mid now → Broken b o from halt held now
    goal_broken halt now broken = broken_more b o from (Searching search ADirective (record r { later = q.later })) m held mid begins halt now broken

-- ---- a whole file

module _ (b : Budgets) (o : Outside) (p : Program) (name : Text) (names : List Text) (text : Input) (held : Option (List ℕ))
    (loaded : given o.files name ≡ Some text.bytes) (place : text.place ≡ 0) (finished : text.finished ≡ true) (none : p.later ≡ []) where
  abbrev pub reader : Reader
  reader = beginning source.File text.bytes names

  pub reader_is_at : IsAt reader source.File text p
  reader_is_at = record { source = refl; more = []; bytes = sym (append-nil text.bytes); at = sym place; later = sym none; whole = λ f. refl }

  pub opens : Advanced b o (Opening p.database (name ∷ names)) unmarked (Reading p.database reader) held held
  opens =
      advanced_quietly b o (Opening p.database (name ∷ names)) (Opening p.database (name ∷ names)) unmarked held held (at_start b o (Opening p.database (name ∷ names)) held)
      (Reading p.database reader) (one_step b o (Opening p.database (name ∷ names)) (Reading p.database reader) [] plain_line (session.opens_file loaded))

  pub text_broken : (halt : Halt) (left now : Option (List ℕ)) → Broken b o (Reading p.database reader) halt held now → Breaks b o left (Opening p.database (name ∷ names)) halt held now
  text_broken halt left now broken =
      broken_breaks b o left (Opening p.database (name ∷ names)) halt held now
      (broken_more b o (Opening p.database (name ∷ names)) (Reading p.database reader) unmarked held held opens halt now broken)

  module _ (m : Marks) (c : Program) (pause : Pause) (new : Input) (mid : Option (List ℕ)) (bytes : new.bytes ≡ text.bytes) (still : new.finished ≡ text.finished)
      (stands : StandsAt b o reader source.File m p c new held mid) (paused : IsPause pause c new) where
    ends_there : (x : Pause) → IsPause x c new → Reads c.database.operators new.bytes new.place Ended
    ends_there Needs (unfinished, h) = let e : true ≡ false = sym finished ∙ sym still ∙ unfinished in cc
    ends_there End (f, h) = h

    pub text_ends : Reads c.database.operators stands.reader.bytes stands.reader.at Ended
    text_ends =
        subst (λ n. Reads c.database.operators stands.reader.bytes n Ended) (sym stands.is_at.at)
        (subst (λ bs. Reads c.database.operators bs new.place Ended) (bytes ∙ sym stands.bytes) (ends_there pause paused))

    read_whole : Advanced b o (Opening p.database (name ∷ names)) m (Reading c.database stands.reader) held mid
    read_whole =
        subst (λ k. Advanced b o (Opening p.database (name ∷ names)) k (Reading c.database stands.reader) held mid) (both_unmarked m)
        (advanced_both b o (Opening p.database (name ∷ names)) (Reading p.database reader) unmarked held held opens (Reading c.database stands.reader) m mid stands.advanced)

    pub goals_broken : (halt : Halt) (left now : Option (List ℕ)) → Broken b o (Reading c.database stands.reader) halt mid now
        → Breaks b o left (Opening p.database (name ∷ names)) halt held now
    goals_broken halt left now broken =
        broken_breaks b o left (Opening p.database (name ∷ names)) halt held now
        (broken_more b o (Opening p.database (name ∷ names)) (Reading c.database stands.reader) m held mid read_whole halt now broken)

    pub file_whole : (k : Marks) (q : Program) (now : Option (List ℕ))
        → Advanced b o (Reading c.database stands.reader) k (Reading q.database (record stands.reader { later = [] })) mid now
        → Advanced b o (Opening p.database (name ∷ names)) (both m k) (Opening q.database names) held now
    file_whole k q now goals =
        subst (λ ns. Advanced b o (Opening p.database (name ∷ names)) (both m k) (Opening q.database ns) held now) stands.files
        (advanced_quietly b o (Opening p.database (name ∷ names)) (Reading q.database (record stands.reader { later = [] })) (both m k) held now
        (advanced_both b o (Opening p.database (name ∷ names)) (Reading c.database stands.reader) m held mid read_whole
        (Reading q.database (record stands.reader { later = [] })) k now goals)
        (Opening q.database stands.reader.files)
        (one_step b o (Reading q.database (record stands.reader { later = [] })) (Opening q.database stands.reader.files) [] plain_line
        (session.file_ends (ended c.database.operators q.database.operators stands.reader.bytes stands.reader.at text_ends) stands.is_at.source refl)))

-- ---- files in order

module _ (b : Budgets) (o : Outside) (from : Session) (fs : List (Bor Text)) (i : ℕ) (d : Bor Text) (within : i < length fs) (m : Marks) (p : Program) (held mid : Option (List ℕ))
    (before : Advanced b o from m (Opening p.database (map (λ s. s.now) (drop i fs))) held mid) where
  at_next : Advanced b o from m (Opening p.database ((get_or fs i d).now ∷ map (λ s. s.now) (drop (i + 1) fs))) held mid
  at_next = subst (λ l. Advanced b o from m (Opening p.database (map (λ s. s.now) l)) held mid) (drop_more fs i d within) before

  pub next_file : (k : Marks) (q : Program) (now : Option (List ℕ))
      → ((names : List Text) → Advanced b o (Opening p.database ((get_or fs i d).now ∷ names)) k (Opening q.database names) mid now)
      → Advanced b o from (both m k) (Opening q.database (map (λ s. s.now) (drop (i + 1) fs))) held now
  next_file k q now file =
      advanced_both b o from (Opening p.database ((get_or fs i d).now ∷ map (λ s. s.now) (drop (i + 1) fs))) m held mid at_next
      (Opening q.database (map (λ s. s.now) (drop (i + 1) fs))) k now (file (map (λ s. s.now) (drop (i + 1) fs)))

  pub next_breaks : (left : Option (List ℕ)) (halt : Halt) (now : Option (List ℕ))
      → ((names : List Text) → Breaks b o left (Opening p.database ((get_or fs i d).now ∷ names)) halt mid now) → Breaks b o left from halt held now
  next_breaks left halt now file =
      breaks_more b o from (Opening p.database ((get_or fs i d).now ∷ map (λ s. s.now) (drop (i + 1) fs))) m held mid now at_next left halt
      (file (map (λ s. s.now) (drop (i + 1) fs)))

pub all_files : (b : Budgets) (o : Outside) (from : Session) (fs : List (Bor Text)) (i : ℕ) → length fs ≤ i → (m : Marks) (p : Program) (held now : Option (List ℕ))
    → Advanced b o from m (Opening p.database (map (λ s. s.now) (drop i fs))) held now → Advanced b o from m (Opening p.database []) held now
all_files b o from fs i past m p held now before = subst (λ l. Advanced b o from m (Opening p.database (map (λ s. s.now) l)) held now) (drop_all i fs past) before
