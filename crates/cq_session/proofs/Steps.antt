-- Steps behind steps, and what was appended so far.
use Rattle.std.proofs.Common.{◌≡◌, ◌∙◌, ℕ, List, [], ◌++◌, Option, Some, None, Bool, true, false, ◌||◌, refl, sym, ap, ap₂, subst, append_assoc, append-nil}
use Rattle.std.proofs.lemmas.Option.{none-some, same_Some}
use Rattle.cq_outside.specs.Bytes.{Adds, Appends, Begins}
use Rattle.cq_outside.proofs.Told.{appends_more}
use Rattle.spec_numbers.specs.Texts.{Text}
use Rattle.spec_transcript.specs.Causes.{Budgets}
use Rattle.spec_transcript.specs.Session.{Session, Mark, Marks, marked, unmarked, Step, none, then}
use Rattle.spec_engine.specs.Parts.{both}
use Rattle.spec_engine.proofs.Joined.{joined}
use Rattle.spec_command.specs.Outside.{Outside, given}
use Rattle.cq_session.specs.declared.transcript.halt.Halt.{Halt}
use Rattle.cq_session.specs.declared.transcript.halt.Halt.TheVariants.{Absent, TooLarge, TooMuchInput, Read, Write, Memory}
use Rattle.cq_session.specs.Progress.{RunsIn, Advanced, HasBegun, Broken}

pub appends_nothing : (held : Option (List ℕ)) → Appends held held []
appends_nothing (Some bytes) = ap Some (sym (append-nil bytes))
appends_nothing None = refl

or_false : (b : Bool) → (b || false) ≡ b
or_false true = refl
or_false false = refl

pub both_unmarked : (m : Marks) → both unmarked m ≡ m
both_unmarked m = ap₂ (λ f s. record { faulty = f; stopped = s }) (or_false m.faulty) (or_false m.stopped)

-- what was added is a part that some text has behind it
part_of : (mid now : Option (List ℕ)) (u : Text) → Adds mid now (λ part. Begins part u) → (part : Text) × (more : Text) × (u ≡ part ++ more) × Adds mid now (λ added. added ≡ part)
part_of (Some m) (Some n) u (part, same, (more, begins)) = (part, more, begins, (part, same, refl))
part_of (Some m) None u added = ([], u, refl, tt)
part_of None (Some n) u added = absurd added
part_of None None u added = ([], u, refl, tt)

added_more : (held mid now : Option (List ℕ)) (text part : Text) → Appends held mid text → Adds mid now (λ added. added ≡ part) → Adds held now (λ added. added ≡ text ++ part)
added_more (Some h) (Some m) (Some n) text part a (added, same, e) =
    (text ++ part, same ∙ ap₂ (λ l r. l ++ r) (same_Some m (h ++ text) a) e ∙ append_assoc h text part, refl)
added_more (Some h) (Some m) None text part a b = tt
added_more (Some h) None now text part a b = absurd (none-some (h ++ text) a)
added_more None (Some m) now text part a b = absurd (none-some m (sym a))
added_more None None (Some n) text part a b = absurd b
added_more None None None text part a b = tt

module _ (b : Budgets) (o : Outside) where
  pub one_step : (a c : Session) (u : Text) (w : Mark) → Step b (given o.files) o.input a u w c → RunsIn b o a u (marked unmarked w) c
  one_step a c u w step = then none step

  pub at_start : (a : Session) (held : Option (List ℕ)) → Advanced b o a unmarked a held held
  at_start a held = record { text = []; runs = none; written = appends_nothing held }

  pub nothing_yet : (a : Session) (held : Option (List ℕ)) → Broken b o a Memory held held
  nothing_yet a held = ([], record { whole = []; more = []; marks = unmarked; here = a; runs = none; begins = refl }, appends_nothing held)

  module _ (a c : Session) (m : Marks) (held mid : Option (List ℕ)) (before : Advanced b o a m c held mid) where
    pub advanced_more : (d : Session) (k : Marks) (u : Text) (now : Option (List ℕ)) → RunsIn b o c u k d → Appends mid now u → Advanced b o a (both m k) d held now
    advanced_more d k u now runs written = record {
      text = before.text ++ u;
      runs = joined b (given o.files) o.input a c d before.text u m k before.runs runs;
      written = appends_more held mid now before.text u before.written written;
    }

    -- one advance behind another
    pub advanced_both : (d : Session) (k : Marks) (now : Option (List ℕ)) → Advanced b o c k d mid now → Advanced b o a (both m k) d held now
    advanced_both d k now after = advanced_more d k after.text now after.runs after.written

    -- steps that write nothing
    pub advanced_quietly : (d : Session) → RunsIn b o c [] unmarked d → Advanced b o a m d held mid
    advanced_quietly d runs = record {
      text = before.text;
      runs = subst (λ t. RunsIn b o a t m d) (append-nil before.text) (joined b (given o.files) o.input a c d before.text [] m unmarked before.runs runs);
      written = before.written;
    }

    -- memory was wanting
    pub memory_here : Broken b o a Memory held mid
    memory_here = (
      before.text,
      record { whole = before.text; more = []; marks = m; here = c; runs = before.runs; begins = sym (append-nil before.text) },
      before.written,
    )

    begun_more : (text : Text) → HasBegun b o c text → HasBegun b o a (before.text ++ text)
    begun_more text h = record {
      whole = before.text ++ h.whole;
      more = h.more;
      marks = both m h.marks;
      here = h.here;
      runs = joined b (given o.files) o.input a c h.here before.text h.whole m h.marks before.runs h.runs;
      begins = ap (λ x. before.text ++ x) h.begins ∙ sym (append_assoc before.text text h.more);
    }

    -- what breaks off behind an advance
    pub broken_more : (halt : Halt) (now : Option (List ℕ)) → Broken b o c halt mid now → Broken b o a halt held now
    broken_more Write now (text, h, added) = (before.text ++ text, begun_more text h, added_more held mid now before.text text before.written added)
    broken_more Memory now (text, h, written) = (before.text ++ text, begun_more text h, appends_more held mid now before.text text before.written written)
    broken_more (Absent name) now h = absurd h
    broken_more (TooLarge name) now h = absurd h
    broken_more TooMuchInput now h = absurd h
    broken_more Read now h = absurd h

    -- a write failed
    pub write_fails : (d : Session) (k : Marks) (u : Text) (now : Option (List ℕ)) → RunsIn b o c u k d → Adds mid now (λ part. Begins part u) → Broken b o a Write held now
    write_fails d k u now runs added =
        let (part, more, begins, written) = part_of mid now u added in
        broken_more Write now (part, record { whole = u; more = more; marks = k; here = d; runs = runs; begins = begins }, written)
