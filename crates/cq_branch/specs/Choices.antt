-- Which choices are open after a step, each with the value of the world that it goes back to.
use Rattle.std.specs.Prelude.{◌≡◌, ℕ, List, ◌∷◌, ◌++◌, All, length, ⊤}
use Rattle.std.specs.List.{AllByRecursion}
use Rattle.spec_numbers.specs.Texts.{Text}
use Rattle.cq_clauses.specs.Walks.{IsWalk}
use Rattle.cq_control.specs.Open.{open_choices}
use Rattle.cq_predicates.specs.Given.{CanGoOn}
use Rattle.cq_resolve.specs.Database.{Program}
use Rattle.cq_term.specs.Meaning.{HeapTerm}
use Rattle.cq_settle.specs.Contents.{Contents}
use Rattle.spec_engine.specs.Cells.{Value}
use Rattle.cq_branch.specs.declared.alternatives.Alternatives.{Alternatives}
use Rattle.cq_branch.specs.declared.alternatives.Alternatives.TheVariants as alternatives
use Rattle.cq_branch.specs.declared.alternatives.Alternatives.TheVariants.{One}
use Rattle.cq_branch.specs.Stored.{IsCountedTerm}

-- those of before, and one more that leaves this to try in this world
abbrev pub LeavesAlso : List (Value Contents) → List Alternatives → Value Contents → Alternatives → List (Value Contents) → List Alternatives → Type 0
LeavesAlso saved choices now content more after = open_choices more after ≡ (now, content) ∷ open_choices saved choices

-- those of before, and one more that goes on with a continuation in this world
abbrev pub LeavesMore : List (Value Contents) → List Alternatives → Value Contents → List (Value Contents) → List Alternatives → Type 0
LeavesMore saved choices now more after = (k : ℕ) × (open_choices more after ≡ (now, One k) ∷ open_choices saved choices)

-- some of those of before: the newest may be gone
pub record KeepsOlder (saved : List (Value Contents)) (choices : List Alternatives) (fewer : List (Value Contents)) (left : List Alternatives) : Type 0 where
  pub gone : List (Value Contents × Alternatives)
  pub are : open_choices saved choices ≡ gone ++ open_choices fewer left

-- the clauses and the alternatives that are left can be gone on with, over the program and the terms of the choice's world, and
-- the names of what is stored have texts
abbrev pub CanBeTried : List Text → Program → List HeapTerm → Alternatives → Type 0
CanBeTried texts v ts (alternatives.One k) = ⊤
CanBeTried texts v ts (alternatives.Clauses t walk k) = IsWalk walk v
CanBeTried texts v ts (alternatives.Ways s k) = CanGoOn ts s
CanBeTried texts v ts alternatives.Barrier = ⊤
CanBeTried texts v ts (alternatives.Catches k) = ⊤
CanBeTried texts v ts (alternatives.Caught ball c r k) = IsCountedTerm (length texts) ball
CanBeTried texts v ts (alternatives.Gathers t copies k) = All (IsCountedTerm (length texts)) copies
CanBeTried texts v ts (alternatives.Matches t walk removes k) = IsWalk walk v

-- so can those of each choice
abbrev pub AreOpen : List Text → Program → List (Value Contents) → List Alternatives → Type 0
AreOpen texts v saved choices =
    AllByRecursion (λ (c : Value Contents × Alternatives). CanBeTried texts v c.0.0.heap.terms c.1) (open_choices saved choices)
