-- Goals and heads that nothing makes equal, as their arguments show.
use Rattle.std.specs.Prelude.{◌≡◌, ◌<◌, ℕ, List, [], ◌∷◌, drop, length, map}
use Rattle.spec_terms.specs.Term.{Subst, apply}
use Rattle.spec_terms.specs.Unifier.{HasNoUnifier}
use Rattle.cq_term.specs.Meaning.{HeapTerm, at}
use Rattle.cq_term.specs.Shown.{arguments}
use Rattle.cq_term.specs.declared.view.View.{View}
use Rattle.cq_resolve.specs.Database.{Program, content_at}
use Rattle.cq_resolve.specs.Pattern.{read, term_of}

-- nothing makes the goal and the head equal, under whatever variables the head is put
abbrev pub AreApart : HeapTerm → HeapTerm → Type 0
AreApart goal head = (r : Subst ℕ) → HasNoUnifier (record { left = goal; right = apply r head } ∷ [])

-- the terms of these numbers are the goal's arguments
abbrev pub AreArguments : List HeapTerm → HeapTerm → List ℕ → Type 0
AreArguments terms goal ids = map (at terms) ids ≡ arguments goal

-- at the place of a pattern the arguments of its term begin, from this one on
abbrev pub ArgumentsBegin : List View → ℕ → ℕ → Type 0
ArgumentsBegin pattern place i = read (drop place pattern) ≡ drop i (arguments (term_of pattern))

-- ---- clauses

-- the clause is one whose head is made equal to the goal by nothing
pub record IsApart (v : Program) (goal : HeapTerm) (n : ℕ) : Type 0 where
  pub within : n < length v.contents
  pub apart : AreApart goal (content_at v.contents n).head

-- some of these clauses, by number, in order: only those are left out whose head nothing makes equal to the goal
pub data Narrows (v : Program) (goal : HeapTerm) : List ℕ → List ℕ → Type 0 where
  all : {ns : List ℕ} → Narrows v goal ns ns
  without : {n : ℕ} {ns some : List ℕ} → IsApart v goal n → Narrows v goal ns some → Narrows v goal (n ∷ ns) some
  keeping : {n : ℕ} {ns some : List ℕ} → Narrows v goal ns some → Narrows v goal (n ∷ ns) (n ∷ some)
