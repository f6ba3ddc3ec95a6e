-- The choice of a predicate's alternatives that an engine comes back to.
use Rattle.std.proofs.Common.{◌≡◌, ◌<◌, ℕ, List, ◌∷◌, length, map, subst}
use Rattle.spec_numbers.specs.Prefixes.{IsPrefix}
use Rattle.spec_numbers.specs.Texts.{Text}
use Rattle.spec_search.specs.Replies.{Place}
use Rattle.cq_predicates.specs.Given.{CanGoOn}
use Rattle.cq_predicates.specs.declared.solutions.Solutions.{Solutions}
use Rattle.cq_resolve.specs.Database.{Program}
use Rattle.cq_term.specs.HeapValue.{Terms}
use Rattle.cq_term.specs.Trees.{KnowsTerms}
use Rattle.cq_settle.specs.Contents.{Contents}
use Rattle.cq_settle.specs.Rest.{IsReady}
use Rattle.spec_engine.specs.Cells.{Value}
use Rattle.spec_engine.specs.Standing.{IsPlace, AreWaiting}
use Rattle.cq_branch.specs.declared.alternatives.Alternatives.{Alternatives}
use Rattle.cq_branch.specs.declared.alternatives.Alternatives.TheVariants as alternatives
use Rattle.cq_branch.specs.Worlds.{IsBranch, term_in, with_heap, left_at}
use Rattle.cq_branch.proofs.Grown.{branch_grown}
use Rattle.cq_choices.specs.Held.{Held, StaysOver, AreNamedByTerms, open_of}
use Rattle.cq_choices.specs.Trying.{IsSearching}
use Rattle.cq_choices.proofs.Ending.{Open, over_with}
use Rattle.cq_choices.proofs.Named.{branch_named}

module _ (h : Held) (works : IsSearching h) (start : Value Contents) (s : Solutions) (rest : ℕ) (older : List (Value Contents × Alternatives))
    (was : open_of h ≡ (start, alternatives.Ways s rest) ∷ older) where
  abbrev v : Program
  v = works.0

  waiting : AreWaiting (IsBranch h.texts) (term_in h.texts) (map (left_at h.texts v) ((start, alternatives.Ways s rest) ∷ older)) works.5.behind
  waiting = subst (λ xs. AreWaiting (IsBranch h.texts) (term_in h.texts) (map (left_at h.texts v) xs) works.5.behind) was works.5.waiting

  abbrev p : Place
  p = waiting.3.0

  place : IsPlace (IsBranch h.texts) (term_in h.texts) (map (left_at h.texts v) older) start rest p
  place = waiting.3.2

  pub names_there : KnowsTerms h.texts start.0.heap.terms
  names_there = place.continuation.state.ready.stands.names

  pub rest_there : rest < length start.1
  rest_there = place.continuation.there

  -- a world to which terms and names were added may be settled
  pub ready_then : AreNamedByTerms (open_of h) → (more : List Text) → IsPrefix h.texts more → (built : Terms) → IsPrefix start.0.heap.terms built.terms → built.images ≡ start.0.heap.images
      → KnowsTerms more built.terms → IsReady more (with_heap built start.0)
  ready_then known more longer built terms images names =
      (p.state, (branch_grown more start.0 built terms images names p.state (branch_named h.texts more longer start.0 p.state (subst AreNamedByTerms was known).0 place.continuation.state)).ready)

-- while the alternative is taken, the choice stands for no branch
pub over_barrier : (old new : Held) → IsPrefix old.texts new.texts → (start : Value Contents) (s : Solutions) (rest : ℕ) (older : List (Value Contents × Alternatives))
    → open_of old ≡ (start, alternatives.Ways s rest) ∷ older → open_of new ≡ (start, alternatives.Barrier) ∷ older → StaysOver old new
over_barrier old new longer start s rest older was is v o =
    over_with old new v o longer ((start, alternatives.Barrier) ∷ older) is (tt, (subst (Open old.texts v) was o.choices).1)

-- the choice has other alternatives left
pub over_left : (old new : Held) → IsPrefix old.texts new.texts → (start : Value Contents) (s left : Solutions) (rest : ℕ) (older : List (Value Contents × Alternatives))
    → open_of old ≡ (start, alternatives.Ways s rest) ∷ older → open_of new ≡ (start, alternatives.Ways left rest) ∷ older → CanGoOn start.0.heap.terms left → StaysOver old new
over_left old new longer start s left rest older was is can v o =
    over_with old new v o longer ((start, alternatives.Ways left rest) ∷ older) is (can, (subst (Open old.texts v) was o.choices).1)

-- it goes back to a world to which terms were added
pub over_built : (old new : Held) → IsPrefix old.texts new.texts → (start : Value Contents) (s left : Solutions) (rest : ℕ) (older : List (Value Contents × Alternatives))
    → open_of old ≡ (start, alternatives.Ways s rest) ∷ older → (now : Value Contents) → open_of new ≡ (now, alternatives.Ways left rest) ∷ older
    → CanGoOn now.0.heap.terms left → StaysOver old new
over_built old new longer start s left rest older was now is can v o =
    over_with old new v o longer ((now, alternatives.Ways left rest) ∷ older) is (can, (subst (Open old.texts v) was o.choices).1)
