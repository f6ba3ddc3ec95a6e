-- How a transcript ends, as how its run does.
use Rattle.std.proofs.Common.{◌≡◌, ℕ, List, [], take, Option, Some, None, IfSome, inl, inr, refl, sym, ap, subst}
use Rattle.cq_outside.specs.Files.{Files}
use Rattle.cq_outside.specs.declared.shelf.TheConstants.{SIZE_LIMIT}
use Rattle.cq_words.specs.Asked.{Asked, ToRun}
use Rattle.spec_numbers.specs.Texts.{Text}
use Rattle.spec_search.specs.Database.{initial}
use Rattle.spec_transcript.specs.Session.{Opening}
use Rattle.spec_command.specs.Endings as ending
use Rattle.spec_command.specs.Endings.{Ends, Gains}
use Rattle.spec_command.specs.Outside.{Outside, budgets_of, outside, ComesToFile, HasReadAll, HasWritten}
use Rattle.cq_session.specs.declared.transcript.halt.Halt.{Halt}
use Rattle.cq_session.specs.declared.transcript.halt.Halt.TheVariants.{Absent, TooLarge, TooMuchInput, Read, Write, Memory}
use Rattle.cq_session.specs.Progress.{HasBegun}
use Rattle.cq_session.specs.Breaks.{Breaks, ComesTo, ReadsAll}
use Rattle.cq_session.specs.Halts.{Halts, status_of, line_of}

-- ---- the outside

pub told_files : (files : Option Files) (input : Option (List ℕ)) (o : Outside) → outside files input ≡ Some o → files ≡ Some o.files
told_files (Some files) (Some input) o e = ap (λ x. Some x.files) (same_some _ o e)
  where
    same_some : (x y : Outside) → Some x ≡ Some y → x ≡ y
    same_some x y e = cc
told_files (Some files) None o e = cc
told_files None input o e = cc

pub told_input : (files : Option Files) (input : Option (List ℕ)) (o : Outside) → outside files input ≡ Some o → input ≡ Some o.input
told_input (Some files) (Some input) o e = ap (λ x. Some x.input) (same_some _ o e)
  where
    same_some : (x y : Outside) → Some x ≡ Some y → x ≡ y
    same_some x y e = cc
told_input (Some files) None o e = cc
told_input None input o e = cc

-- ---- endings

module _ (o : Outside) (a : Asked) (held now : Option (List ℕ)) where
  begun : (text : Text) → HasBegun (budgets_of a) o (Opening initial a.files) text → HasWritten o a text
  begun text h = record { whole = h.whole; more = h.more; marks = h.marks; here = h.here; runs = h.runs; begins = h.begins }

  comes : (name : Text) (h : ComesTo (budgets_of a) o (Opening initial a.files) name held now) → ComesToFile o a name h.advanced.text
  comes name h = record { database = h.database; later = h.later; marks = h.marks; runs = h.advanced.runs }

  reads : (bytes : List ℕ) (h : ReadsAll (budgets_of a) o (Opening initial a.files) bytes held now) → HasReadAll o a bytes h.advanced.text
  reads bytes h = record {
    database = h.database;
    reader = h.reader;
    is_input = h.is_input;
    short = h.short;
    undecided = h.undecided;
    marks = h.marks;
    runs = h.advanced.runs;
  }

  -- whatever is left of the input
  abbrev rest_of : Option (List ℕ) → List ℕ
  rest_of (Some bytes) = bytes
  rest_of None = []

  is_rest : (left : Option (List ℕ)) → IfSome left (λ bytes. rest_of left ≡ bytes)
  is_rest (Some bytes) = refl
  is_rest None = tt

  ends_anyhow : (left : Option (List ℕ)) (h : Halt) (text : Text) → ((bytes : List ℕ) → Ends o bytes (Some (ToRun a)) (status_of h) text (line_of h)) → Gains (status_of h) held now text
      → Halts o a left h held now
  ends_anyhow left h text ends gains = record { text = text; rest = rest_of left; is_left = is_rest left; ends = ends (rest_of left); written = gains }

  -- with these bytes left
  ends_with : (left : Option (List ℕ)) (bytes : List ℕ) (h : Halt) (text : Text) → left ≡ Some bytes → Ends o bytes (Some (ToRun a)) (status_of h) text (line_of h)
      → Gains (status_of h) held now text → Halts o a left h held now
  ends_with left bytes h text is ends gains = record {
    text = text;
    rest = bytes;
    is_left = subst (λ l. IfSome l (λ b. bytes ≡ b)) (sym is) refl;
    ends = ends;
    written = gains;
  }

  pub halts : (left : Option (List ℕ)) (h : Halt) → Breaks (budgets_of a) o left (Opening initial a.files) h held now → Halts o a left h held now
  halts left (Absent name) (none, h) =
      ends_anyhow left (Absent name) h.advanced.text (λ bytes. ending.absent_file none (comes name.now h)) h.advanced.written
  halts left (TooLarge name) (large, h) =
      ends_anyhow left (TooLarge name) h.advanced.text (λ bytes. ending.large_file large (comes name.now h)) h.advanced.written
  halts left TooMuchInput (bytes, is, h) =
      ends_with left bytes TooMuchInput h.all.advanced.text is (ending.large_input h.taken h.split h.large (reads (take SIZE_LIMIT h.taken) h.all)) h.all.advanced.written
  halts left Read (inl (name, h)) = ends_anyhow left Read h.advanced.text (λ bytes. ending.file_fault (comes name h)) h.advanced.written
  halts left Read (inr (bytes, is, h)) =
      ends_with left bytes Read h.all.advanced.text is (ending.input_fault h.taken h.split h.small (reads h.taken h.all)) h.all.advanced.written
  halts left Write (text, h, w) = ends_anyhow left Write text (λ bytes. ending.write_fault (begun text h)) w
  halts left Memory (text, h, w) = ends_anyhow left Memory text (λ bytes. ending.no_memory (begun text h)) w
