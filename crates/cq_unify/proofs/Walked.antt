-- A walk over a term that looks for one variable, and whether it has met any.
use Rattle.std.proofs.Common.{◌≡◌, ℕ, ◌<◌, List, [], ◌∷◌, ◌++◌, map, length, Bool, true, false, sym, subst, inl, inr, arith}
use Rattle.std.specs.Prelude.{All}
use Rattle.std.proofs.lemmas.Bool.{false≢true}
use Rattle.std.proofs.lemmas.List.Elements.{All-push}
use Rattle.cq_term.proofs.Arguments.{all_one}
use Rattle.spec_terms.specs.Term.{Occurs}
use Rattle.cq_term.specs.Meaning.{HeapTerm, at}
use Rattle.cq_term.specs.Shown.{view_of}
use Rattle.cq_term.specs.declared.view.View.TheVariants as view
use Rattle.cq_term.specs.Visits.{Visits, VisitsArguments, nothing_visited}
use Rattle.cq_unify.proofs.Occurrences.{Looks, StandsAmong, among_pop, among_visit, live_front, looks_past}
use Rattle.cq_unify.proofs.Visited.{AreVisited, all_past, all_visit, looks_visit}

-- a compound of the term: each variable of it stands in the term
abbrev pub IsPart : List HeapTerm → HeapTerm → ℕ → Type 0
IsPart ts t i = (i < length ts) × ((w : ℕ) → Occurs w (at ts i) → Occurs w t)

-- the variable stands in the term exactly where it stands in the work that is left
pub record Seeks (ts : List HeapTerm) (t : HeapTerm) (w : ℕ) (work known : List ℕ) : Type 0 where
  pub looks : Looks ts w t work
  pub visited : AreVisited ts ⊥ w work known

-- how far a walk over the term is that looks for one variable, and has walked these compounds; it is clean while it has met none
pub record Walks (ts : List HeapTerm) (v : ℕ) (t : HeapTerm) (work known walked : List ℕ) (clean : Bool) : Type 0 where
  pub sought : Seeks ts t v work known
  -- what is left, and what was walked, stands in the term
  pub inside : (w : ℕ) → StandsAmong w (map (at ts) work) → Occurs w t
  pub parts : All (IsPart ts t) walked
  -- no variable at all was passed
  pub all : clean ≡ true → (w : ℕ) → Seeks ts t w work known

module _ (ts : List HeapTerm) (v : ℕ) (t : HeapTerm) (old work : List ℕ) (id : ℕ) (is : old ≡ work ++ id ∷ []) (known walked : List ℕ) (clean : Bool) (walks : Walks ts v t old known walked clean) where
  -- what is taken off is a part of the term
  pub part_here : IsPart ts t id
  part_here = ((live_front ts v t old work id is walks.sought.looks).1, λ w o. walks.inside w ((among_pop ts w t old work id is).1 (inr o)))

  pub inside_past : (w : ℕ) → StandsAmong w (map (at ts) work) → Occurs w t
  inside_past w h = walks.inside w ((among_pop ts w t old work id is).1 (inl h))

  -- a term without this variable
  module _ (before : Visits) (same : before.known ≡ known) where
    seeks_past : (w : ℕ) → Seeks ts t w old known → (Occurs w (at ts id) → ⊥) → Seeks ts t w work known
    seeks_past w s absent = record {
      looks = looks_past ts w t old work id is s.looks absent;
      visited = subst (AreVisited ts ⊥ w work) same
          (all_past ts ⊥ w old work id is before (subst (AreVisited ts ⊥ w old) (sym same) s.visited) ⊥ (λ none. none) absent);
    }

    -- another variable
    pub walks_variable : (Occurs v (at ts id) → ⊥) → Walks ts v t work known walked false
    walks_variable absent = record {
      sought = seeks_past v walks.sought absent;
      inside = inside_past;
      parts = walks.parts;
      all = λ e. absurd (false≢true e);
    }

    -- a number or a name
    pub walks_constant : ((w : ℕ) → Occurs w (at ts id) → ⊥) → Walks ts v t work known walked clean
    walks_constant absent = record {
      sought = seeks_past v walks.sought (absent v);
      inside = inside_past;
      parts = walks.parts;
      all = λ e w. seeks_past w (walks.all e w) (absent w);
    }

  -- a compound
  module _ (before after : Visits) (same : before.known ≡ known) (f n : ℕ) (shown : view_of (at ts id) ≡ view.Compound f n) (new : List ℕ) (visits : VisitsArguments ts id before after work new) where
    seeks_visit : (w : ℕ) → Seeks ts t w old known → Seeks ts t w new after.known
    seeks_visit w s =
        let all = subst (AreVisited ts ⊥ w old) (sym same) s.visited in
        record {
          looks = looks_visit ts w t old work new before after id f n is shown visits all s.looks;
          visited = all_visit ts ⊥ w old work id is before all f n shown new after visits;
        }

    pub walks_compound : (more : List ℕ) → more ≡ walked ++ id ∷ [] → Walks ts v t new after.known more clean
    walks_compound more pushed = record {
      sought = seeks_visit v walks.sought;
      inside = λ w h. elim (among_visit ts w t old work id is f n shown before after new visits h) [
        | inl a ↦ inside_past w a
        | inr o ↦ part_here.1 w o
      ];
      parts = subst (All (IsPart ts t)) (sym pushed) (All-push (IsPart ts t) walked id walks.parts part_here);
      all = λ e w. seeks_visit w (walks.all e w);
    }

seeks_start : (ts : List HeapTerm) (id w : ℕ) → id < length ts → Seeks ts (at ts id) w (id ∷ []) []
seeks_start ts id w live = record {
  looks = record { live = all_one id (length ts) live; same = (λ o. inl o, λ h. elim h [ inl a ↦ a | inr b ↦ absurd b ]) };
  visited = λ k d lt. absurd (omega arith);
}

started : (ts : List HeapTerm) (v id : ℕ) → id < length ts → Walks ts v (at ts id) (id ∷ []) [] [] true
started ts v id live = record {
  sought = seeks_start ts id v live;
  inside = λ w h. elim h [ inl a ↦ a | inr b ↦ absurd b ];
  parts = λ k d lt. absurd (omega arith);
  all = λ e w. seeks_start ts id w live;
}

pub walks_start : (ts : List HeapTerm) (v id : ℕ) (work walked : List ℕ) (visited : Visits) → id < length ts → work ≡ id ∷ [] → walked ≡ [] → visited ≡ nothing_visited → Walks ts v (at ts id) work visited.known walked true
walks_start ts v id work walked visited live is none fresh =
    subst (λ (l : List ℕ). Walks ts v (at ts id) l visited.known walked true) (sym is)
    (subst (λ (l : List ℕ). Walks ts v (at ts id) (id ∷ []) visited.known l true) (sym none)
    (subst (λ (w : Visits). Walks ts v (at ts id) (id ∷ []) w.known [] true) (sym fresh) (started ts v id live)))
