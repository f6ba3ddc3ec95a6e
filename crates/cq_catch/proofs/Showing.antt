-- Walks show the same clauses through each change of a program.
use Rattle.std.proofs.Common.{◌≡◌, ◌<◌, ◌++◌, ℕ, List, [], ◌∷◌, length, map, refl, ap₂, ◌∙◌}
use Rattle.std.specs.Prelude.{All}
use Rattle.spec_numbers.specs.Texts.{Text}
use Rattle.cq_resolve.specs.StoredValue.{ClauseValue}
use Rattle.cq_clauses.specs.Walks.{IsWalk, KeepsReading, left}
use Rattle.cq_clauses.specs.declared.walk.Walk.{Walk}
use Rattle.cq_resolve.specs.Database.{Program, as_clause}
use Rattle.cq_catch.specs.Revised.{clause_key, KeepsShowing}

pub showing_same : (v : Program) → KeepsShowing v v
showing_same v = record { begun = λ w is. is; same = λ texts w is. refl }

pub showing_then : (old mid new : Program) → KeepsShowing old mid → KeepsShowing mid new → KeepsShowing old new
showing_then old mid new a b = record { begun = λ w is. b.begun w (a.begun w is); same = λ texts w is. b.same texts w (a.begun w is) ∙ a.same texts w is }

module _ (old new : Program) (reading : KeepsReading clause_key old new) where
  -- where what the clauses hold stays
  pub showing_kept : new.contents ≡ old.contents → KeepsShowing old new
  showing_kept kept = record {
    begun = reading.walks.begun;
    same = λ texts w is. ap₂ (λ (cs : List ClauseValue) (ns : List ℕ). map (as_clause texts cs) ns) kept (reading.walks.same w is);
  }

  -- where another goes last, and walks are of those before
  pub showing_more : (c : ClauseValue) → new.contents ≡ old.contents ++ c ∷ [] → ((w : Walk) → IsWalk w old → All (λ n. n < length old.contents) (left clause_key w old))
      → ((texts : List Text) (contents more : List ClauseValue) (ns : List ℕ) → All (λ n. n < length contents) ns
      → map (as_clause texts (contents ++ more)) ns ≡ map (as_clause texts contents) ns) → KeepsShowing old new
  showing_more c more known later = record {
    begun = reading.walks.begun;
    same = λ texts w is.
        ap₂ (λ (cs : List ClauseValue) (ns : List ℕ). map (as_clause texts cs) ns) more (reading.walks.same w is)
        ∙ later texts old.contents (c ∷ []) (left clause_key w old) (known w is);
  }
