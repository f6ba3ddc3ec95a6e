-- What an engine comes to as it compares the next clause of its newest choice.
use Rattle.std.proofs.Common.{◌≡◌, ℕ, suc, ◌<◌, List, [], ◌∷◌, ◌++◌, length, Bool, true, false, Option, None, Some, refl, sym, ap, ◌∙◌, subst, arith, inl}
use Rattle.std.specs.Prelude.{if◌then◌else◌}
use Rattle.spec_numbers.specs.Texts.{Text}
use Rattle.spec_builtins.specs.Clauses.{HeadBody, rule}
use Rattle.spec_branch.specs.Branch.{State, Item, Branch, Pending}
use Rattle.spec_branch.specs.Settling.{Settles, Kept}
use Rattle.spec_search.specs.Control.{clause_state}
use Rattle.spec_search.specs.Database.{Database, Clause, clause_removed}
use Rattle.spec_search.specs.Replies.{Place}
use Rattle.spec_search.specs.Search.{Search, look_at, Settling, is_selecting, settled}
use Rattle.spec_search.specs.Turns.{after_removal}
use Rattle.spec_search.specs.Turns as turn
use Rattle.spec_transcript.specs.Causes.{Budgets, Cause}
use Rattle.spec_transcript.specs.Causes as cause
use Rattle.spec_transcript.specs.Due.{Due}
use Rattle.cq_control.specs.Items.{items_at}
use Rattle.cq_frac.specs.declared.Pair.{Pair}
use Rattle.cq_resolve.specs.Database.{as_parts}
use Rattle.cq_settle.specs.Settled.{MayRefuse, MayTake}
use Rattle.cq_resolve.specs.StoredValue.{ClauseValue}
use Rattle.cq_term.specs.Trees.{tree}
use Rattle.cq_settle.specs.Contents.{Contents}
use Rattle.cq_settle.specs.Rest.{IsReady}
use Rattle.spec_engine.specs.Cells.{Matches, Stack, Value}
use Rattle.spec_engine.specs.Coming.{at_once, after, Comes}
use Rattle.spec_engine.specs.Coming as coming
use Rattle.spec_engine.specs.Standing.{engine, removed_by, AreWaiting, IsStanding}
use Rattle.spec_engine.specs.Trying.{match_work, ComparesClause}
use Rattle.spec_engine.proofs.Kept.{fits_more, items_older}
use Rattle.spec_engine.proofs.Made.{child_pruned}
use Rattle.spec_engine.proofs.Passed.{clause_compared}
use Rattle.cq_branch.specs.Worlds.{IsBranch, term_in}
use Rattle.cq_branch.proofs.Added.{tree_is}
use Rattle.cq_branch.proofs.Reading.{read_live}
use Rattle.cq_branch.specs.Begun.{IsPlacedAs, Prunes}
use Rattle.cq_branch.specs.Stops.{ComesToStop}
use Rattle.cq_branch.proofs.Stopping.{refuses, takes}
use Rattle.cq_catch.specs.Matching.{IsComparedAt, MatchGoes, OfMatch}

-- a clause whose branch is kept is gone where clauses are removed
removal_is : (removes : Bool) (c : Clause) (db : Database) → after_removal (removed_by removes c) db ≡ (if removes then clause_removed c.number db else db)
removal_is true c db = refl
removal_is false c db = refl

module _ (texts : List Text) (db : Database) (n : ℕ) (s : Search) (older : Stack Contents) (now w : Value Contents) (t : ℕ) (removes : Bool) (k : ℕ) where
  -- the engine comes back to a choice that has these clauses to compare
  abbrev pub ComesBackTo : List Clause → Type 0
  ComesBackTo cs = IsStanding (IsBranch texts) (term_in texts) (engine db n ((w, Matches t removes cs k) ∷ older) now None) s

  -- ---- the next clause

  module _ (c : Clause) (cs : List Clause) (j : ComesBackTo (c ∷ cs)) where
    next : ComparesClause (IsBranch texts) (term_in texts) older w t removes c cs k s
    next = clause_compared (IsBranch texts) (term_in texts) 0 db n older w now s t removes c cs k j

    abbrev p : Place
    p = next.place

    abbrev work : Pending
    work = match_work next.place removes next.asked c

    -- the world is ready for it
    pub ready : IsReady texts w.0
    ready = (p.state, next.is_place.continuation.state.ready)

    pub asked_there : t < length w.0.heap.terms
    asked_there = read_live texts w.0.heap.terms t (rule next.asked) next.reads

    pub asked_is : (a : HeadBody) × (tree texts w.0.heap.terms t ≡ rule a)
    asked_is = (next.asked, tree_is texts w.0.heap.terms t (rule next.asked) next.reads)

    pub rest_there : k < length w.1
    rest_there = next.is_place.continuation.there

    module _ (kept : ClauseValue) (parts : c.parts ≡ as_parts texts kept) where
      -- over the choices that are left where it was the last
      last_one : IsComparedAt texts older w t k kept p next.asked c
      last_one = record { place = next.is_place.continuation; reads = next.reads; parts = parts }

      abbrev stays : Stack Contents
      stays = (w, Matches t removes cs k) ∷ older

      -- over those where its choice has the others left
      with_others : IsComparedAt texts stays w t k kept p next.asked c
      with_others = record {
        place = record {
          there = next.is_place.continuation.there;
          fits = fits_more (length older) (suc (length older)) (items_at w.1 k) (omega arith) next.is_place.continuation.fits;
          state = next.is_place.continuation.state;
          cells = items_older (IsBranch texts) (term_in texts) (w, Matches t removes cs k) older w.0 p.state (items_at w.1 k) p.rest next.is_place.continuation.fits
              next.is_place.continuation.cells;
        };
        reads = next.reads;
        parts = parts;
      }

      -- none waits where none is left
      older_wait : cs ≡ [] → AreWaiting (IsBranch texts) (term_in texts) older next.behind
      older_wait none =
          let left = subst (λ (l : List Clause). AreWaiting (IsBranch texts) (term_in texts) ((w, Matches t removes l k) ∷ older) next.behind) none next.waiting in
          subst (AreWaiting (IsBranch texts) (term_in texts) older) (sym (left.2 ∙ ap (λ (l : List Branch). l ++ left.1) left.3.2)) left.4

      -- ---- it is kept

      abbrev Came : ℕ → Database → Stack Contents → Value Contents → Option ℕ → Type 0
      Came steps d choices new current = Comes (IsBranch texts) (term_in texts) steps (engine d n choices new current) s

      abbrev removed : Database
      removed = if removes then clause_removed c.number db else db

      kept_over : (choices : Stack Contents) → IsComparedAt texts choices w t k kept p next.asked c → AreWaiting (IsBranch texts) (term_in texts) choices next.behind
          → (new : Value Contents) (i : ℕ) → MatchGoes texts w new t k kept i → (steps : ℕ) → Came steps removed choices new (Some i)
      kept_over choices at waiting new i goes steps =
          let b = goes choices p next.asked c removes at in
          record {
            reached = record s { database = after_removal (removed_by removes c) s.database; branches = settled b.left b.state ∷ next.behind };
            quiet = after (inl (ap is_selecting next.look)) (turn.keeps next.look b.settles) at_once;
            stands = record {
              database = ap (after_removal (removed_by removes c)) j.database ∙ removal_is removes c db;
              selected = j.selected;
              first = settled b.left b.state ∷ [];
              behind = next.behind;
              branches = refl;
              current = (b.left, b.state, refl, b.continuation);
              waiting = waiting;
            };
          }

      pub kept_with : (new : Value Contents) (i : ℕ) → MatchGoes texts w new t k kept i → (steps : ℕ) → Came steps removed stays new (Some i)
      kept_with new i goes steps = kept_over stays with_others next.waiting new i goes steps

      pub kept_last : (new : Value Contents) (i : ℕ) → MatchGoes texts w new t k kept i → (steps : ℕ) → cs ≡ [] → Came steps removed older new (Some i)
      kept_last new i goes steps none = kept_over older last_one (older_wait none) new i goes steps

      -- ---- it is pruned

      pruned_over : (choices : Stack Contents) → IsComparedAt texts choices w t k kept p next.asked c → AreWaiting (IsBranch texts) (term_in texts) choices next.behind
          → OfMatch texts w t k kept Prunes → (new : Value Contents) (steps : ℕ) → Came steps db choices new None
      pruned_over choices at waiting o new steps =
          let q = o choices p next.asked c removes at in
          child_pruned (IsBranch texts) (term_in texts) steps db n choices new s p.rest (clause_state p c) work next.behind j.database j.selected next.look refl
          q.0 (q.1 p.rest) waiting

      pub pruned_with : OfMatch texts w t k kept Prunes → (new : Value Contents) (steps : ℕ) → Came steps db stays new None
      pruned_with o new steps = pruned_over stays with_others next.waiting o new steps

      pub pruned_last : OfMatch texts w t k kept Prunes → (new : Value Contents) (steps : ℕ) → cs ≡ [] → Came steps db older new None
      pruned_last o new steps none = pruned_over older last_one (older_wait none) o new steps

      -- ---- stops

      stops_there : (budgets : Budgets) (why : Cause) → Due budgets None s why → ComesToStop budgets why s
      stops_there budgets why d = (_, coming.stops {r = s} {cause = why} at_once (coming.stops (inl (ap is_selecting next.look)) d), refl)

      pub refused : (pair : Pair) → OfMatch texts w t k kept (λ st q. MayRefuse st q pair) → (budgets : Budgets) → ComesToStop budgets (cause.Overflow pair) s
      refused pair o budgets =
          stops_there budgets (cause.Overflow pair)
          (refuses budgets s p.rest (clause_state p c) work next.behind pair next.look (o older p next.asked c removes last_one))

      pub taken : (m : ℕ) → OfMatch texts w t k kept (λ st q. MayTake st q m) → (budgets : Budgets) → budgets.pivots ≡ m → ComesToStop budgets (cause.Pivots m) s
      taken m o budgets e =
          let many = subst (λ (x : ℕ). MayTake (clause_state p c) work x) (sym e) (o older p next.asked c removes last_one) in
          subst (λ (x : ℕ). ComesToStop budgets (cause.Pivots x) s) e
          (stops_there budgets (cause.Pivots budgets.pivots) (takes budgets s p.rest (clause_state p c) work next.behind next.look many))

  -- ---- no clause is left

  pub came_past : ComesBackTo [] → (later : Value Contents) → IsStanding (IsBranch texts) (term_in texts) (engine db n older later None) s
  came_past j later = record {
    database = j.database;
    selected = j.selected;
    first = j.first;
    behind = j.waiting.1;
    branches = j.branches ∙ ap (λ l. j.first ++ l) (j.waiting.2 ∙ ap (λ l. l ++ j.waiting.1) j.waiting.3.2);
    current = j.current;
    waiting = j.waiting.4;
  }
