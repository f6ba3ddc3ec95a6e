-- The branch of a catch that has a ball, in a world to which the ball was added under new variables.
use Rattle.std.proofs.Common.{◌≡◌, ℕ, List, [], ◌∷◌, ◌++◌, length, Some, refl, sym, ap, ap₂, ◌∙◌, subst, arith, map}
use Rattle.spec_numbers.specs.Prefixes.{IsPrefix}
use Rattle.spec_numbers.specs.Texts.{Text}
use Rattle.spec_terms.specs.Term.{apply, named}
use Rattle.spec_syntax.specs.Trees.{Tree}
use Rattle.spec_builtins.specs.Alternatives.{◌≐◌}
use Rattle.spec_branch.specs.Branch.{State, Item, Copied, Pending, read}
use Rattle.spec_search.specs.Balls.{caught_work}
use Rattle.spec_search.specs.Control.{call_of}
use Rattle.spec_search.specs.Replies.{landed, landed_term, with_new}
use Rattle.cq_term.specs.Texts.{text_of}
use Rattle.cq_branch.specs.Begun.{IsPlacedAs, IsBegun, GoesOn, OfWork}
use Rattle.cq_branch.proofs.Newer.{ready_more, branch_more, read_still}
use Rattle.cq_control.specs.Items.{items_at}
use Rattle.cq_settle.specs.Equal.{IsWork}
use Rattle.cq_resolve.specs.Building.{moved_by}
use Rattle.cq_resolve.specs.StoredValue.{StoredValue}
use Rattle.cq_term.specs.HeapValue.{Terms}
use Rattle.cq_term.specs.Meaning.{HeapTerm, at}
use Rattle.cq_term.specs.Names.{KeepsNames}
use Rattle.cq_term.specs.Trees.{tree, KnowsTerms}
use Rattle.cq_unify.specs.Copied.{unbound_from}
use Rattle.cq_term.specs.declared.walk.pairs.Pair.{Pair}
use Rattle.cq_settle.specs.Contents.{Contents}
use Rattle.cq_settle.specs.Rest.{IsReadyAs}
use Rattle.spec_engine.specs.declared.machine.cell.Cell.{Cell}
use Rattle.spec_engine.specs.declared.machine.cell.Cell.TheVariants.{Call}
use Rattle.spec_engine.specs.Cells.{Fits, Value, Stack}
use Rattle.spec_engine.specs.Standing.{AreItems, IsStoredAs}
use Rattle.spec_engine.specs.Trying.{moved_on}
use Rattle.spec_engine.proofs.Kept.{items_read_on}
use Rattle.cq_branch.specs.Lists.{HasCells, KeepsLists}
use Rattle.cq_branch.specs.Stored.{IsCountedTerm, stored_tree}
use Rattle.cq_branch.specs.Worlds.{IsBranch, term_in, with_heap}
use Rattle.cq_branch.proofs.Added.{tree_is}
use Rattle.cq_catch.specs.Taking.{BallGoes, OfBall, CarriesBall}
use Rattle.cq_catch.proofs.Moved.{reads_itself, moved_named, landed_state, landed_as, no_rows, none_told}

-- ---- a world with more terms and so many more variables

module _ (texts : List Text) (c : Contents) (h : Terms) (n : ℕ) (terms : IsPrefix c.heap.terms h.terms) (images : h.images ≡ c.heap.images ++ unbound_from (length c.heap.images) n) where
  abbrev then_ : Contents
  then_ = with_heap h c

  module _ (choices : Stack Contents) (lists more : List (List Cell)) (keeps : KeepsLists lists more) (rest : ℕ) (items : List Item) (st : State)
      (place : IsPlacedAs texts choices (c, lists) rest items st) (names : KnowsTerms texts h.terms) where
    cells_still : AreItems (IsBranch texts) (term_in texts) choices then_ (with_new n st) (items_at lists rest) items
    cells_still =
        items_read_on (IsBranch texts) (term_in texts) choices c st then_ (with_new n st)
        (λ id t e. read_still texts c h n terms images names id (read st t) e) (items_at lists rest) items place.cells

    -- the continuation stands for the same items
    pub placed_more : IsPlacedAs texts choices (then_, more) rest items (with_new n st)
    placed_more =
        let same = keeps.same rest place.there in
        record {
          there = omega (arith, place.there, keeps.more);
          fits = subst (λ (cs : List Cell). Fits (length choices) cs) (sym same) place.fits;
          state = branch_more texts c h n terms images names st place.state;
          cells = subst (λ (cs : List Cell). AreItems (IsBranch texts) (term_in texts) choices then_ (with_new n st) cs items) (sym same) cells_still;
        }

    -- with the call of a term in front
    pub placed_call : (k goal : ℕ) (y : Tree) → HasCells more k (Call goal ∷ items_at lists rest) → term_in texts c goal ≡ Some (read st y)
        → IsPlacedAs texts choices (then_, more) k (call_of y ∷ items) (with_new n st)
    placed_call k goal y has reads = record {
      there = has.there;
      fits = subst (λ (cs : List Cell). Fits (length choices) cs) (sym has.are) place.fits;
      state = branch_more texts c h n terms images names st place.state;
      cells = subst (λ (cs : List Cell). AreItems (IsBranch texts) (term_in texts) choices then_ (with_new n st) cs (call_of y ∷ items)) (sym has.are)
          (y, 0, items, refl, read_still texts c h n terms images names goal (read st y) reads, cells_still);
    }

-- ---- the ball

module _ (texts : List Text) (c : Contents) (s : StoredValue) (counted : IsCountedTerm (length texts) s) (h : Terms) (copy catcher : ℕ)
    (moved : at h.terms copy ≡ apply (moved_by (length c.heap.images)) s.term) (terms : IsPrefix c.heap.terms h.terms)
    (images : h.images ≡ c.heap.images ++ unbound_from (length c.heap.images) s.variables) (names : KeepsNames (length texts) c.heap h) where
  abbrev mid : Contents
  mid = with_heap h c

  abbrev pub pair_of : List Pair
  pair_of = record { left = catcher; right = copy } ∷ []

  abbrev n : ℕ
  n = s.variables

  names_now : (st : State) → IsReadyAs texts c st → KnowsTerms texts h.terms
  names_now st r = names r.stands.names

  pub ready_now : (st : State) → IsReadyAs texts c st → IsReadyAs texts mid (with_new n st)
  ready_now st r = ready_more texts c h n terms images (names_now st r) st r

  module _ (st : State) (r : IsReadyAs texts c st) (ball : Copied) (x : Tree) (stored : IsStoredAs ball (stored_tree texts s)) (reads : term_in texts c catcher ≡ Some (read st x)) where
    abbrev p : Pending
    p = caught_work st ball x

    state_is : (landed st (ball ∷ [])).state ≡ with_new n st
    state_is = landed_state texts (length texts) s counted st ball stored

    left_is : apply st.bindings x ≡ tree texts h.terms catcher
    left_is = sym (tree_is texts h.terms catcher (read st x) (read_still texts c h n terms images (names_now st r) catcher (read st x) reads))

    right_is : apply st.bindings (landed_term st ball) ≡ tree texts h.terms copy
    right_is =
        ap (apply st.bindings) (landed_as texts (length texts) s counted st ball stored)
        ∙ reads_itself st st.fresh (stored_tree texts s) r.rests.read_through (omega arith)
        ∙ ap (λ (m : ℕ). apply (moved_on m) (stored_tree texts s)) (sym r.stands.fresh)
        ∙ sym (ap (λ (t : HeapTerm). named (text_of texts) t) moved ∙ moved_named (text_of texts) (length c.heap.images) s.term)

    -- the catcher and the ball are its work
    pub is_work : IsWork texts mid (with_new n st) pair_of [] [] p
    is_work = record {
      pairs_are = ap₂ (λ (t u : Tree). (t ≐ u) ∷ []) left_is right_is;
      told_are = ap (map (apply st.bindings)) (none_told texts (length texts) s counted st ball stored);
      rows_are = sym (no_rows texts (length texts) s counted st ball stored);
    }

    -- what holds of the state with the new variables holds of the state with the ball
    pub at_landed : (P : State → Type 0) → P (with_new n st) → P (landed st (ball ∷ [])).state
    at_landed P q = subst P (sym state_is) q

  -- ---- by what becomes of the branch

  pub of_ball : (P : State → Pending → Type 0) → OfWork texts mid pair_of [] P → OfBall texts c s catcher P
  of_ball P o st ball x r stored reads =
      at_landed st r ball x stored reads (λ (su : State). P su (caught_work st ball x))
      (o (with_new n st) (caught_work st ball x) (ready_now st r) (is_work st r ball x stored reads))

  module _ (lists more : List (List Cell)) (keeps : KeepsLists lists more) (rest : ℕ) where
    pub ball_goes : (recovery front k : ℕ) (new : Value Contents) → HasCells more front (Call recovery ∷ items_at lists rest) → GoesOn texts (mid, more) new pair_of [] front k
        → BallGoes texts (c, lists) new s catcher recovery rest k
    ball_goes recovery front k new has goes choices items st ball x y place at_ball =
        let r = place.state.ready in
        let work = is_work st r ball x at_ball.is_stored at_ball.reads_catcher in
        let there = placed_call texts c h n terms images choices lists more keeps rest items st place (names_now st r) front recovery y has at_ball.reads_recovery in
        let b = goes choices (call_of y ∷ items) (with_new n st) (caught_work st ball x) there work in
        at_landed st r ball x at_ball.is_stored at_ball.reads_catcher
        (λ (su : State). IsBegun texts choices (c, lists) new k (call_of y ∷ items) su (caught_work st ball x))
        (record {
          left = b.left;
          state = b.state;
          settles = b.settles;
          continuation = b.continuation;
          reads = λ id t e. b.reads id t (read_still texts c h n terms images (names_now st r) id (read st t) e);
        })

    pub ball_carried : (new : Contents) → new ≡ mid → CarriesBall texts (c, lists) (new, more) s rest
    ball_carried new same choices items st ball place stored =
        subst (λ (su : State). IsPlacedAs texts choices (new, more) rest items su) (sym (landed_state texts (length texts) s counted st ball stored))
        (subst (λ (w : Contents). IsPlacedAs texts choices (w, more) rest items (with_new n st)) (sym same)
        (placed_more texts c h n terms images choices lists more keeps rest items st place (names_now st place.state.ready)))
