-- A world in which the head of a clause was made equal to a goal, and nothing is to be settled then.
use Rattle.std.proofs.Common.{◌≡◌, ◌<◌, ℕ, List, [], length, refl, subst}
use Rattle.std.specs.Prelude.{Contains, Option, false}
use Rattle.spec_linear.specs.Solution.{Solvable, Fixes}
use Rattle.spec_numbers.specs.Texts.{Text}
use Rattle.spec_numbers.specs.Rational.{ℚ}
use Rattle.cq_attr.specs.Attributes.{Attributes, is_numeric, IsWokenBy}
use Rattle.cq_attr.proofs.Elements.{contains_none}
use Rattle.cq_frac.specs.declared.VarId.{VarId}
use Rattle.cq_settle.specs.Called.{OfCalls}
use Rattle.cq_settle.specs.Steps.{IsIdle}
use Rattle.cq_settle.proofs.Idle.{idle_kept}
use Rattle.cq_term.specs.Places.{numbers_of}
use Rattle.cq_settle.specs.Contents.{Contents}
use Rattle.spec_engine.specs.declared.machine.cell.Cell.{Cell}
use Rattle.cq_branch.specs.Begun.{HasWoken}
use Rattle.cq_branch.specs.Entries.{IsFree}

pub is_free_then : (a : Attributes) (vs : List VarId) → ((v : ℕ) → Contains (numbers_of vs) v → is_numeric a v ≡ false)
    → (ns : List ℕ) → ns ≡ [] → ((n : ℕ) → IsWokenBy a (numbers_of vs) n → Contains ns n) → IsFree a vs
is_free_then a vs numeric ns none woken =
    record { numeric = numeric; awaited = λ n h. contains_none n (subst (λ (ms : List ℕ). Contains ms n) none (woken n h)) }

idle : (c : Contents) (newly : List VarId) → IsFree c.attrs newly → IsIdle c newly [] []
idle c newly f = record { nothing_told = refl; no_rows = refl; numeric = f.numeric; awaited = f.awaited }

-- the branch is kept as it is, and no goal wakes
pub none_woken : (texts : List Text) (c : Contents) (newly : List VarId) → IsFree c.attrs newly → Solvable c.told → (fixed : ℕ → Option ℚ) → Fixes c.told fixed
    → (lists : List (List Cell)) (k : ℕ) → k < length lists → OfCalls texts c newly [] [] (HasWoken texts c c lists lists k k)
none_woken texts c newly f solvable fixed fixes lists k there st p u call = record {
  goals = [];
  kept = idle_kept c newly [] [] (idle c newly f) texts st p u call solvable fixed fixes;
  cells = record { there = there; are = refl };
}
