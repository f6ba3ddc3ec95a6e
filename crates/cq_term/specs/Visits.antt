-- The compounds that a walk went into.
use Rattle.std.specs.Prelude.{◌≡◌, ℕ, ◌+◌, List, [], ◌∷◌, ◌++◌, ◌⊎◌, Contains}
use Rattle.cq_term.specs.Ground.{IsGround}
use Rattle.cq_term.specs.Meaning.{HeapTerm, at}
use Rattle.cq_term.specs.Arguments.{PushesArguments}

-- how many more compounds are gone into without being looked up, and those that were recorded after them
pub record Visits : Type 0 where
  pub free : ℕ
  pub known : List ℕ

abbrev pub nothing_visited : Visits
nothing_visited = record { free = 64; known = [] }

-- one of the first compounds is counted, and a later one, which is new, is recorded
abbrev pub Enters : ℕ → Visits → Visits → Type 0
Enters id old new =
    ((old.free ≡ new.free + 1) × (new.known ≡ old.known)) ⊎ (((old.free ≡ 0) × (Contains old.known id → ⊥)) × (new.free ≡ 0) × (new.known ≡ old.known ++ id ∷ []))

-- a compound without variables, and one that was recorded before, is left alone; of another one the arguments are at
-- the end of the list
abbrev pub VisitsArguments : List HeapTerm → ℕ → Visits → Visits → List ℕ → List ℕ → Type 0
VisitsArguments ts id before after old new =
    ((IsGround (at ts id) ⊎ Contains before.known id) × (after ≡ before) × (new ≡ old)) ⊎ (Enters id before after × PushesArguments ts (at ts id) 0 old new)
