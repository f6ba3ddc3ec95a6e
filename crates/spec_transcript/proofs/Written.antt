-- What is written so far.
use Rattle.std.proofs.Common.{ℕ, List, [], ◌++◌, Option, sym, ◌∙◌, append-nil, append_assoc}
use Rattle.spec_numbers.specs.Texts.{Text}
use Rattle.spec_transcript.specs.Causes.{Budgets}
use Rattle.spec_transcript.specs.Session.{Marks, Over, Transcript, WrittenSoFar}

module _ (budgets : Budgets) (shelf : Text → Option (List ℕ)) (input : List ℕ) (files : List Text) where
  pub whole : (text : Text) (marks : Marks) → Transcript budgets shelf input files text marks → WrittenSoFar budgets shelf input files text
  whole text marks t = record { whole = text; more = []; marks = marks; here = Over t.last; runs = t.runs; begins = sym (append-nil text) }

  pub beginning : (text more : Text) → WrittenSoFar budgets shelf input files (text ++ more) → WrittenSoFar budgets shelf input files text
  beginning text more w = record { whole = w.whole; more = more ++ w.more; marks = w.marks; here = w.here; runs = w.runs; begins = w.begins ∙ append_assoc text more w.more }
