-- Each input has a transcript, and what is written so far begins one.
use Rattle.std.proofs.Common.{ℕ, ◌<◌, List, ◌++◌, Option, append-nil, append_assoc, sym, ap, subst, ◌∙◌}
use Rattle.spec_numbers.specs.Texts.{Text}
use Rattle.spec_search.specs.Database.{initial}
use Rattle.spec_transcript.specs.Causes.{Budgets}
use Rattle.spec_transcript.specs.Session as session
use Rattle.spec_transcript.specs.Session.{Session, Opening, Mark, Marks, marked, Runs, Transcript, WrittenSoFar}
use Rattle.cq_elimination.proofs.AnsweredLemmas.{answer_exists}
use Rattle.spec_existence.specs.Existing.{AreThere, AnswersHaveForms}
use Rattle.spec_existence.proofs.Going.{runs_ready, goes_to_an_end, transcript_exists}

pub forms : AnswersHaveForms
forms ops names st numbered sound solvable = answer_exists ops names st numbered sound.forms solvable

pub exists : (budgets : Budgets) (shelf : Text → Option (List ℕ)) (input : List ℕ) (files : List Text) → 0 < budgets.answers → AreThere shelf files
    → (text : Text) × (marks : Marks) × Transcript budgets shelf input files text marks
exists budgets shelf input files some_answer there = transcript_exists budgets shelf input some_answer forms files there

-- ---- runs one behind the other

module _ (budgets : Budgets) (shelf : Text → Option (List ℕ)) (input : List ℕ) where
  joined : {a b c : Session} {text more : Text} {m n : Marks} → Runs budgets shelf input a text m b → Runs budgets shelf input b more n c
      → (marks : Marks) × Runs budgets shelf input a (text ++ more) marks c
  joined {a} {b} {c} {text} {m = m} r session.none = (m, subst (λ t. Runs budgets shelf input a t m b) (sym (append-nil text)) r)
  joined {a} {b} {c} {text} r (session.then {text = more} {out = out} {mark = mark} s step) =
      let j = joined r s in
      (marked j.0 mark, subst (λ t. Runs budgets shelf input a t (marked j.0 mark) c) (append_assoc text more out) (session.then j.1 step))

  pub begins : (files : List Text) (text : Text) → 0 < budgets.answers → AreThere shelf files → WrittenSoFar budgets shelf input files text
      → (more : Text) × (marks : Marks) × Transcript budgets shelf input files (text ++ more) marks
  begins files text some_answer there w =
      let r = goes_to_an_end budgets shelf input some_answer forms w.here (runs_ready budgets shelf input some_answer w.runs there) in
      let j = joined w.runs r.3 in (
        w.more ++ r.0,
        j.0,
        record {
          last = r.2;
          runs = subst (λ t. Runs budgets shelf input (Opening initial files) t j.0 (session.Over r.2)) (ap (λ t. t ++ r.0) w.begins ∙ append_assoc text w.more r.0) j.1;
        },
      )
