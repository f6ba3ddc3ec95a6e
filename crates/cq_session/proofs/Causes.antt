-- What the end of a run says of the counts: its own cause, and that no other fault is counted.
use Rattle.std.proofs.Common.{◌≡◌, ◌∙◌, ℕ, Bool, true, false, Option, None, Err, refl, sym, subst, inl, inr}
use Rattle.cq_outside.specs.Counts.{Rose}
use Rattle.cq_words.specs.Asked.{Task}
use Rattle.cq_words.specs.declared.words.WordsFault.{WordsFault}
use Rattle.cq_words.specs.declared.words.WordsFault.TheVariants as words_fault
use Rattle.spec_command.specs.Causes.{Caused, Counts, NoneFailed, TakesWords}
use Rattle.cq_session.specs.Breaks.{CausedBy}
use Rattle.cq_session.specs.Halts as halts
use Rattle.cq_session.specs.Outcomes.{fault_ending, status_of, whole_status}
use Rattle.cq_session.specs.Progress.{CountsWrites}
use Rattle.cq_session.specs.declared.ending.Ending.{Ending}
use Rattle.cq_session.specs.declared.transcript.halt.Halt.{Halt}
use Rattle.cq_session.specs.declared.transcript.halt.Halt.TheVariants.{Absent, TooLarge, TooMuchInput, Read, Write, Memory}
use Rattle.cq_session.specs.declared.transcript.halt.Lines.{Lines}

-- ---- no words were found

fault_caused : (counts : Counts) (asked : Option Task) (f : WordsFault) → (f ≡ words_fault.BadWords → asked ≡ None)
    → Caused (status_of (fault_ending f)) asked counts counts
fault_caused counts asked words_fault.BadWords h = (h refl, refl)
fault_caused counts asked words_fault.NoMemory h = record { loads = refl; refusals = refl; reads = refl; writes = refl }

pub without_words_caused : (counts : Counts) (asked : Option Task) (f : WordsFault) (e : Ending) → e ≡ fault_ending f → (f ≡ words_fault.BadWords → asked ≡ None)
    → Caused (status_of e) asked counts counts
without_words_caused counts asked f e is h = subst (λ x. Caused (status_of x) asked counts counts) (sym is) (fault_caused counts asked f h)

module _ (old new : Counts) where
  -- ---- of a transcript

  module _ (asked : Option Task) (takes : TakesWords asked) where
    pub whole_caused : (faulty stopped : Bool) → NoneFailed old new → Caused (whole_status faulty stopped) asked old new
    whole_caused true true none = (takes, none)
    whole_caused false true none = (takes, none)
    whole_caused true false none = (takes, none)
    whole_caused false false none = (takes, none)

    pub broken_caused : (halt : Halt) → CausedBy old new halt → Caused (halts.status_of halt) asked old new
    broken_caused (Absent name) refused = (takes, inl refused)
    broken_caused (TooLarge name) refused = (takes, inl refused)
    broken_caused TooMuchInput passed = (takes, inr passed)
    broken_caused Read failed = (takes, failed)
    broken_caused Write failed = (takes, failed)
    broken_caused Memory none = none

  -- ---- what is written broke off

  module _ (loads : new.shelf_faults ≡ old.shelf_faults) (refusals : new.shelf_refused ≡ old.shelf_refused) (reads : new.source_faults ≡ old.source_faults) where
    pub writing_caused : (before : ℕ) → before ≡ old.out_faults → (halt : Halt) → CountsWrites {T = Lines} before new.out_faults (Err halt) → CausedBy old new halt
    writing_caused before same Write rose =
        record { writes = subst (λ n. Rose n new.out_faults) same rose; loads = loads; refusals = refusals; reads = reads }
    writing_caused before same Memory still = record { loads = loads; refusals = refusals; reads = reads; writes = still ∙ same }
    writing_caused before same (Absent name) none = absurd none
    writing_caused before same (TooLarge name) none = absurd none
    writing_caused before same TooMuchInput none = absurd none
    writing_caused before same Read none = absurd none
