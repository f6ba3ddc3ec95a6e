-- What calls do to the bytes that a sink holds, where it tells them. A sink that tells goes on telling at each write that
-- is done, and may stop at one that fails; one that doesn't tell never begins to.
use Rattle.std.specs.Prelude.{◌≡◌, ℕ, List, ◌++◌, [], take, None, Some, ⊤, MatchResult, Option}
use Rattle.std.specs.declared.result.Result.{Result}

-- what is told grew by this text
abbrev pub Appends : Option (List ℕ) → Option (List ℕ) → List ℕ → Type 0
Appends (Some held) now text = now ≡ Some (held ++ text)
Appends None now text = now ≡ None

-- what is told grew by a text that has P, or is told no more
abbrev pub Adds : Option (List ℕ) → Option (List ℕ) → (List ℕ → Type 0) → Type 0
Adds (Some held) (Some now) P = (text : List ℕ) × (now ≡ held ++ text) × P text
Adds (Some held) None P = ⊤
Adds None (Some now) P = ⊥
Adds None None P = ⊤

-- a write appended the first n bytes of the piece at Ok(n), and nothing where it failed
abbrev pub Takes : {E : Type 0} → Option (List ℕ) → Option (List ℕ) → Result ℕ E → List ℕ → Type 0
Takes held now result piece = MatchResult result (λ n. Appends held now (take n piece)) (λ _. Adds held now (λ text. text ≡ []))

-- the first text is the beginning of the second
abbrev pub Begins : List ℕ → List ℕ → Type 0
Begins text whole = (more : List ℕ) × (whole ≡ text ++ more)
