-- What an engine comes to as it begins the next clause of its newest choice.
use Rattle.std.proofs.Common.{◌≡◌, ℕ, ◌<◌, List, [], ◌∷◌, ◌++◌, length, Option, None, Some, refl, sym, ap, ◌∙◌, subst, arith, inl}
use Rattle.spec_numbers.specs.Texts.{Text}
use Rattle.spec_syntax.specs.Trees.{Tree}
use Rattle.spec_branch.specs.Branch.{Branch}
use Rattle.spec_search.specs.Control.{clause_items, clause_state, clause_work}
use Rattle.spec_search.specs.Database.{Database, Clause}
use Rattle.spec_search.specs.Replies.{Place}
use Rattle.spec_search.specs.Search.{Search, look_at, Settling, is_selecting}
use Rattle.spec_transcript.specs.Causes.{Budgets, Cause}
use Rattle.spec_transcript.specs.Causes as cause
use Rattle.spec_transcript.specs.Due.{Due}
use Rattle.cq_control.specs.Heights.{total}
use Rattle.cq_control.specs.Items.{items_at}
use Rattle.cq_control.specs.Open.{last}
use Rattle.cq_frac.specs.declared.Pair.{Pair}
use Rattle.cq_resolve.specs.Database.{as_parts}
use Rattle.cq_settle.specs.Settled.{MayRefuse, MayTake}
use Rattle.cq_resolve.specs.StoredValue.{ClauseValue}
use Rattle.cq_settle.specs.Contents.{Contents}
use Rattle.cq_settle.specs.Rest.{IsReady}
use Rattle.spec_engine.specs.Cells.{Fits, Clauses, Stack, Value, size}
use Rattle.spec_engine.specs.Coming.{at_once, Comes}
use Rattle.spec_engine.specs.Coming as coming
use Rattle.spec_engine.specs.Standing.{engine, IsPlace, AreWaiting, IsStanding}
use Rattle.spec_engine.proofs.Kept.{fits_more, items_older, last-all}
use Rattle.spec_engine.proofs.Passed.{clause_begun}
use Rattle.cq_branch.specs.Worlds.{IsBranch, term_in, Grown}
use Rattle.cq_branch.proofs.Reading.{read_live}
use Rattle.cq_branch.proofs.Selected.{continuation_grown}
use Rattle.cq_branch.specs.declared.begin.beginning.Begun.{Begun}
use Rattle.cq_branch.specs.Begun.{IsPlacedAs, goes_to}
use Rattle.cq_branch.specs.BeginCalls.{IsCallOf, OfClause, ClauseComes}
use Rattle.cq_branch.specs.Stops.{ComesToStop}
use Rattle.cq_branch.proofs.Stopping.{refuses, takes}
use Rattle.cq_calls.proofs.Left.{older-all}

module _ (texts : List Text) (db : Database) (n : ℕ) (s : Search) (older : Stack Contents) (now w : Value Contents) (t k : ℕ) where
  -- the engine comes back to a choice that has these clauses to try
  abbrev pub ComesBackTo : List Clause → Type 0
  ComesBackTo cs = IsStanding (IsBranch texts) (term_in texts) (engine db n ((w, Clauses t cs k) ∷ older) now None) s

  -- ---- the next clause

  module _ (c : Clause) (cs : List Clause) (j : ComesBackTo (c ∷ cs)) where
    begun : (p : Place) × (goal : Tree) × (behind : List Branch)
        × (look_at s.branches ≡ Settling (clause_items p c) (clause_state p c) (clause_work p goal c) behind) × (term_in texts w.0 t ≡ Some goal)
        × IsPlace (IsBranch texts) (term_in texts) older w k p × AreWaiting (IsBranch texts) (term_in texts) ((w, Clauses t cs k) ∷ older) behind
    begun = clause_begun (IsBranch texts) (term_in texts) 0 db n older w now s t k c cs j

    abbrev place : IsPlace (IsBranch texts) (term_in texts) older w k begun.0
    place = begun.5

    -- the world is ready for it
    pub ready : IsReady texts w.0
    ready = (begun.0.state, place.continuation.state.ready)

    pub goal_there : t < length w.0.heap.terms
    goal_there = read_live texts w.0.heap.terms t begun.1 begun.4

    pub rest_there : k < length w.1
    rest_there = place.continuation.there

    -- in a world with more continuations it is begun from the choice's world all the same
    module _ (cur : Value Contents) (grown : Grown texts w cur) (height : ℕ) (high : height ≡ length older) (kept : ClauseValue) (parts : c.parts ≡ as_parts texts kept) where
      continued : IsPlacedAs texts older cur k begun.0.rest begun.0.state
      continued = continuation_grown (IsBranch texts) (term_in texts) older w cur grown k begun.0.rest begun.0.state place.continuation

      reads : term_in texts cur.0 t ≡ Some begun.1
      reads = grown.terms t begun.1 begun.4

      fits : Fits height (items_at cur.1 k)
      fits = subst (λ (m : ℕ). Fits m (items_at cur.1 k)) (sym high) continued.fits

      -- over the choices that are left where it was the last
      call_gone : IsCallOf texts older cur t height k kept begun.0 begun.1 c
      call_gone = record {
        place = continued;
        within = omega (arith, high);
        goes_back = place.height ∙ sym (ap (λ (l : Stack Contents). total size l) (ap (λ (m : ℕ). last m older) high ∙ last-all older (length older) (omega arith)));
        fits = fits;
        reads = reads;
        parts = parts;
      }

      abbrev stays : Stack Contents
      stays = (w, Clauses t cs k) ∷ older

      -- over those where its choice has the others left
      call_stays : IsCallOf texts stays cur t height k kept begun.0 begun.1 c
      call_stays = record {
        place = record {
          there = continued.there;
          fits = fits_more (length older) (length stays) (items_at cur.1 k) (omega arith) continued.fits;
          state = continued.state;
          cells = items_older (IsBranch texts) (term_in texts) (w, Clauses t cs k) older cur.0 begun.0.state (items_at cur.1 k) begun.0.rest continued.fits
              continued.cells;
        };
        within = omega (arith, high);
        goes_back = place.height ∙ sym (ap (λ (l : Stack Contents). total size l) (ap (λ (m : ℕ). last m stays) high ∙ older-all (w, Clauses t cs k) older));
        fits = fits;
        reads = reads;
        parts = parts;
      }

      abbrev Came : ℕ → Stack Contents → Value Contents → Option ℕ → Type 0
      Came steps choices new current = Comes (IsBranch texts) (term_in texts) steps (engine db n choices new current) s

      same_engine : (steps : ℕ) (choices : Stack Contents) (new : Value Contents) (current : Option ℕ)
          → Comes (IsBranch texts) (term_in texts) steps (engine s.database s.selected choices new current) s → Came steps choices new current
      same_engine steps choices new current a =
          subst (λ (d : Database). Comes (IsBranch texts) (term_in texts) steps (engine d n choices new current) s) j.database
          (subst (λ (m : ℕ). Comes (IsBranch texts) (term_in texts) steps (engine s.database m choices new current) s) j.selected a)

      module _ (new : Value Contents) (b : Begun) (comes : ClauseComes texts cur new t height k kept b) (steps : ℕ) where
        pub comes_with_others : Came steps stays new (goes_to b)
        comes_with_others = same_engine steps stays new (goes_to b) (comes stays begun.0 begun.1 c call_stays steps s begun.2 begun.3 begun.6)

        pub comes_without : cs ≡ [] → Came steps older new (goes_to b)
        comes_without none =
            let left = subst (λ (l : List Clause). AreWaiting (IsBranch texts) (term_in texts) ((w, Clauses t l k) ∷ older) begun.2) none begun.6 in
            let behind : AreWaiting (IsBranch texts) (term_in texts) older begun.2 =
            subst (AreWaiting (IsBranch texts) (term_in texts) older) (sym (left.2 ∙ ap (λ (l : List Branch). l ++ left.1) left.3.2)) left.4 in
            same_engine steps older new (goes_to b) (comes older begun.0 begun.1 c call_gone steps s begun.2 begun.3 behind)

      -- ---- stops

      stops_there : (budgets : Budgets) (why : Cause) → Due budgets None s why → ComesToStop budgets why s
      stops_there budgets why d = (_, coming.stops {r = s} {cause = why} at_once (coming.stops (inl (ap is_selecting begun.3)) d), refl)

      pub refused : (pair : Pair) → OfClause texts cur t height k kept (λ st p. MayRefuse st p pair) → (budgets : Budgets) → ComesToStop budgets (cause.Overflow pair) s
      refused pair o budgets =
          stops_there budgets (cause.Overflow pair)
          (refuses budgets s (clause_items begun.0 c) (clause_state begun.0 c) (clause_work begun.0 begun.1 c) begun.2 pair begun.3 (o older begun.0 begun.1 c call_gone))

      pub taken : (m : ℕ) → OfClause texts cur t height k kept (λ st p. MayTake st p m) → (budgets : Budgets) → budgets.pivots ≡ m → ComesToStop budgets (cause.Pivots m) s
      taken m o budgets e =
          let many = subst (λ (x : ℕ). MayTake (clause_state begun.0 c) (clause_work begun.0 begun.1 c) x) (sym e) (o older begun.0 begun.1 c call_gone) in
          subst (λ (x : ℕ). ComesToStop budgets (cause.Pivots x) s) e
          (stops_there budgets (cause.Pivots budgets.pivots)
          (takes budgets s (clause_items begun.0 c) (clause_state begun.0 c) (clause_work begun.0 begun.1 c) begun.2 begun.3 many))

  -- ---- no clause is left

  pub came_past : ComesBackTo [] → (later : Value Contents) → IsStanding (IsBranch texts) (term_in texts) (engine db n older later None) s
  came_past j later = record {
    database = j.database;
    selected = j.selected;
    first = j.first;
    behind = j.waiting.1;
    branches = j.branches ∙ ap (λ l. j.first ++ l) (j.waiting.2 ∙ ap (λ l. l ++ j.waiting.1) j.waiting.3.2);
    current = j.current;
    waiting = j.waiting.4;
  }
