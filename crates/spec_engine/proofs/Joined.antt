-- Steps behind steps.
use Rattle.std.proofs.Common.{◌≡◌, ℕ, List, ◌++◌, Option, sym, subst, refl, append_assoc, append-nil}
use Rattle.spec_numbers.specs.Texts.{Text}
use Rattle.spec_transcript.specs.Causes.{Budgets}
use Rattle.spec_transcript.specs.Session.{Session, Marks, Mark, plain_line, error_line, stop_line, marked, Runs, none, then}
use Rattle.spec_engine.specs.Parts.{both}

marks_move : (m k : Marks) (w : Mark) → marked (both m k) w ≡ both m (marked k w)
marks_move m k plain_line = refl
marks_move m k error_line = refl
marks_move m k stop_line = refl

module _ (budgets : Budgets) (shelf : Text → Option (List ℕ)) (input : List ℕ) where
  pub joined : (a b c : Session) (text more : Text) (m k : Marks) → Runs budgets shelf input a text m b → Runs budgets shelf input b more k c
      → Runs budgets shelf input a (text ++ more) (both m k) c
  joined a b c text more m k r none = subst (λ x. Runs budgets shelf input a x m b) (sym (append-nil text)) r
  joined a b c text more m k r (then {b = d} {text = v} {out = o} {marks = n} {mark = w} s step) =
      subst (λ x. Runs budgets shelf input a x (both m (marked n w)) c) (append_assoc text v o)
      (subst (λ x. Runs budgets shelf input a ((text ++ v) ++ o) x c) (marks_move m n w) (then (joined a b d text v m n r s) step))
