-- How each name leads to its predicates, the newest first.
use Rattle.std.specs.Prelude.{ℕ, suc, ◌≡◌, ◌<◌, ◌≤◌, List, All, length, get_or, slice_get, true, false, Option, Some, None}
use Rattle.cq_term.specs.declared.names.Pred.{Pred}
use Rattle.cq_clauses.specs.declared.predicates.Named.{Named}
use Rattle.cq_clauses.specs.Database.{same_pred}

abbrev pub pred_named : Named → Pred
pred_named n = n.pred

-- the place behind the one of this number, or the first place
abbrev pub behind : Option ℕ → ℕ
behind None = 0
behind (Some i) = suc i

-- the predicate of this number has this name, and stands before a place
pub record IsNamed (name : ℕ) (named : List Named) (end i : ℕ) : Type 0 where
  pub here : Named
  pub got : slice_get named i ≡ Some here
  pub same : here.pred.name ≡ name
  pub before : i < end

-- this is the newest of the predicates before a place that have this name
pub record IsNewest (name : ℕ) (named : List Named) (end : ℕ) (number : Option ℕ) : Type 0 where
  pub is_named : (i : ℕ) → number ≡ Some i → IsNamed name named end i
  pub others : (i : ℕ) (n : Named) → behind number ≤ i → i < end → slice_get named i ≡ Some n → n.pred.name ≡ name → ⊥

-- each predicate leads to the one of its name before it, and none stands there twice
pub record AreLinked (named : List Named) : Type 0 where
  pub earlier : (i : ℕ) (n : Named) → slice_get named i ≡ Some n → IsNewest n.pred.name named i n.earlier
  pub once : (i j : ℕ) (m n : Named) → slice_get named i ≡ Some m → slice_get named j ≡ Some n → same_pred m.pred n.pred ≡ true → i ≡ j

-- each name leads to its newest predicate too
pub record AreChained (newest : List (Option ℕ)) (named : List Named) : Type 0 where
  pub names : (name : ℕ) → IsNewest name named (length named) (get_or newest name None)
  pub linked : AreLinked named

-- the search for a predicate goes on at this number: from behind it on all are others
pub record Searches (pred : Pred) (named : List Named) (number : Option ℕ) : Type 0 where
  pub on_chain : (i : ℕ) → number ≡ Some i → IsNamed pred.name named (length named) i
  pub others : (i : ℕ) (n : Named) → behind number ≤ i → slice_get named i ≡ Some n → same_pred pred n.pred ≡ false

-- the list has a place for the name of each of the predicates
abbrev pub HasPlaces : List (Option ℕ) → List Pred → Type 0
HasPlaces newest preds = All (λ p. p.name < length newest) preds
