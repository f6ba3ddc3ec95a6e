-- The arguments of a compound as work that is left.
use Rattle.std.specs.Prelude.{◌≡◌, ℕ, ◌<◌, List, ◌++◌, map, reverse, drop, length, All}
use Rattle.cq_term.specs.Meaning.{HeapTerm, at}
use Rattle.cq_term.specs.Shown.{arguments}

-- ids of the arguments of a term from the i-th on, the last one first
pub record AreArguments (ts : List HeapTerm) (t : HeapTerm) (i : ℕ) (ids : List ℕ) : Type 0 where
  pub live : All (λ id. id < length ts) ids
  pub terms : map (at ts) ids ≡ reverse (drop i (arguments t))

-- a list of ids has got the arguments of a term from the i-th on at its end, the last one first
abbrev pub PushesArguments : List HeapTerm → HeapTerm → ℕ → List ℕ → List ℕ → Type 0
PushesArguments ts t i old new = (ids : List ℕ) × (new ≡ old ++ ids) × AreArguments ts t i ids
