-- The names of variables, found by their places.
use Rattle.std.specs.Prelude.{◌≡◌, ◌<◌, ◌⊎◌, ℕ, Bool, List, length, filter, slice_index_or, nat_eq, Option, Some, None, is_some, MatchOption, if◌then◌else◌}
use Rattle.indexmap.specs.IndexSet.{insert_key}
use Rattle.spec_terms.specs.Variables.{variables}
use Rattle.spec_terms.specs.VariableName.{VariableName}
use Rattle.spec_text.specs.Written.{given_name, is_unnamed}
use Rattle.cq_term.specs.Meaning.{HeapTerm, at}
use Rattle.cq_term.specs.Arguments.{PushesArguments}
use Rattle.cq_term.specs.Ground.{IsGround}

-- the place that was noted for a variable, or this one where it is that variable's
abbrev pub kept_or : Option ℕ → Bool → ℕ → Option ℕ
kept_or (Some k) same place = Some k
kept_or None same place = if same then Some place else None

-- the place of each variable's first name, where it has one
abbrev pub AreFound : List VariableName → (ℕ → Option ℕ) → Type 0
AreFound names place = (v : ℕ) → MatchOption (place v) (given_name names v ≡ None) (λ k. (k < length names) × ((d : VariableName) → given_name names v ≡ Some (slice_index_or names k d).name))

-- the variables of a term without a name, in the order of first occurrence, where the names have these places
abbrev pub AreUnnamed : (ℕ → Option ℕ) → HeapTerm → List ℕ → Type 0
AreUnnamed place t vs = (names : List VariableName) → AreFound names place → vs ≡ filter (is_unnamed names) (variables t)

-- the variables without a name, and this one where it has none
abbrev pub with_unnamed : Option ℕ → List ℕ → ℕ → List ℕ
with_unnamed place vs v = if is_some place then vs else insert_key nat_eq vs v

-- a compound without variables is left alone; of another one the arguments are at the end of the list
abbrev pub Opens : List HeapTerm → ℕ → List ℕ → List ℕ → Type 0
Opens ts id old new = (IsGround (at ts id) × (new ≡ old)) ⊎ PushesArguments ts (at ts id) 0 old new
