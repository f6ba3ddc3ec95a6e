-- The branch of a findall's list, in a world to which the copies were added under new variables, and the list of them.
use Rattle.std.proofs.Common.{◌≡◌, ◌≤◌, ◌+◌, ℕ, List, [], ◌∷◌, ◌++◌, length, Some, refl, sym, ap, ap₂, ◌∙◌, subst, arith, map}
use Rattle.std.specs.List.{AllZip}
use Rattle.spec_numbers.specs.Prefixes.{IsPrefix}
use Rattle.spec_numbers.specs.Texts.{Text}
use Rattle.spec_terms.specs.Term.{apply}
use Rattle.spec_terms.specs.Variables.{variables}
use Rattle.spec_syntax.specs.Trees.{Tree, cell, list_tree}
use Rattle.spec_builtins.specs.Alternatives.{◌≐◌}
use Rattle.spec_branch.specs.Branch.{State, Copied, Pending, read}
use Rattle.spec_search.specs.Replies.{landed, with_new}
use Rattle.cq_branch.specs.Begun.{IsBegun, GoesOn, OfWork}
use Rattle.cq_branch.proofs.Newer.{ready_more, read_still}
use Rattle.cq_settle.specs.Equal.{IsWork}
use Rattle.cq_resolve.specs.StoredValue.{StoredValue}
use Rattle.cq_term.specs.HeapValue.{Terms}
use Rattle.cq_term.specs.Trees.{tree, KnowsTerms}
use Rattle.cq_unify.specs.Copied.{unbound_from}
use Rattle.cq_term.specs.declared.walk.pairs.Pair.{Pair}
use Rattle.cq_settle.specs.Contents.{Contents}
use Rattle.cq_settle.specs.Rest.{IsReadThrough, IsReadyAs}
use Rattle.spec_engine.specs.declared.machine.cell.Cell.{Cell}
use Rattle.spec_engine.specs.Cells.{Value}
use Rattle.spec_engine.specs.Standing.{IsStoredAs}
use Rattle.spec_engine.specs.Trying.{placed, variables_of, list_work, IsLanded}
use Rattle.spec_engine.proofs.Landed.{copies_landed}
use Rattle.cq_branch.specs.Lists.{KeepsLists}
use Rattle.cq_branch.specs.Stored.{stored_trees}
use Rattle.cq_branch.specs.Worlds.{term_in, with_heap}
use Rattle.cq_branch.proofs.Added.{tree_is}
use Rattle.cq_catch.specs.Listing.{ListGoes, OfList}
use Rattle.cq_catch.proofs.Moved.{reads_itself}
use Rattle.cq_catch.proofs.Recovered.{placed_more}

-- the list of copies reads as itself
list_itself : (st : State) (n : ℕ) (ts : List Tree) → IsReadThrough st → st.fresh ≤ n → apply st.bindings (list_tree (placed n ts)) ≡ list_tree (placed n ts)
list_itself st n [] r le = refl
list_itself st n (t ∷ ts) r le =
    ap₂ (λ (x y : Tree). cell x y) (reads_itself st n t r le) (list_itself st (n + length (variables t)) ts r (omega (arith, le)))

module _ (texts : List Text) (c : Contents) (copies : List StoredValue) (h : Terms) (third whole : ℕ)
    (built : tree texts h.terms whole ≡ list_tree (placed (length c.heap.images) (stored_trees texts copies))) (terms : IsPrefix c.heap.terms h.terms)
    (images : h.images ≡ c.heap.images ++ unbound_from (length c.heap.images) (variables_of (stored_trees texts copies))) (names : KnowsTerms texts h.terms) where
  abbrev mid : Contents
  mid = with_heap h c

  abbrev pub pair_of : List Pair
  pair_of = record { left = third; right = whole } ∷ []

  abbrev n : ℕ
  n = variables_of (stored_trees texts copies)

  pub ready_now : (st : State) → IsReadyAs texts c st → IsReadyAs texts mid (with_new n st)
  ready_now st r = ready_more texts c h n terms images names st r

  module _ (st : State) (r : IsReadyAs texts c st) (landing : List Copied) (t : Tree) (stored : AllZip IsStoredAs landing (stored_trees texts copies))
      (reads : term_in texts c third ≡ Some (read st t)) where
    abbrev p : Pending
    p = list_work t (landed st landing)

    is_landed : IsLanded st (stored_trees texts copies) (landed st landing)
    is_landed = copies_landed st landing (stored_trees texts copies) stored

    left_is : apply st.bindings t ≡ tree texts h.terms third
    left_is = sym (tree_is texts h.terms third (read st t) (read_still texts c h n terms images names third (read st t) reads))

    right_is : apply st.bindings (list_tree (landed st landing).terms) ≡ tree texts h.terms whole
    right_is =
        ap (λ (ts : List Tree). apply st.bindings (list_tree ts)) is_landed.terms
        ∙ list_itself st st.fresh (stored_trees texts copies) r.rests.read_through (omega arith)
        ∙ ap (λ (m : ℕ). list_tree (placed m (stored_trees texts copies))) (sym r.stands.fresh)
        ∙ sym built

    -- the third argument and the list are its work
    pub is_work : IsWork texts mid (with_new n st) pair_of [] [] p
    is_work = record {
      pairs_are = ap₂ (λ (x y : Tree). (x ≐ y) ∷ []) left_is right_is;
      told_are = ap (map (apply st.bindings)) is_landed.told;
      rows_are = sym is_landed.rows;
    }

    -- what holds of the state with the new variables holds of the state with the copies
    pub at_landed : (P : State → Type 0) → P (with_new n st) → P (landed st landing).state
    at_landed P q = subst P (sym is_landed.state) q

  -- ---- by what becomes of the branch

  pub of_list : (P : State → Pending → Type 0) → OfWork texts mid pair_of [] P → OfList texts c third copies P
  of_list P o st landing t r stored reads =
      at_landed st r landing t stored reads (λ (su : State). P su (list_work t (landed st landing)))
      (o (with_new n st) (list_work t (landed st landing)) (ready_now st r) (is_work st r landing t stored reads))

  pub list_goes : (lists : List (List Cell)) (rest k : ℕ) (new : Value Contents) → GoesOn texts (mid, lists) new pair_of [] rest k → ListGoes texts (c, lists) new third copies rest k
  list_goes lists rest k new goes choices items st landing t place stored reads =
      let r = place.state.ready in
      let work = is_work st r landing t stored reads in
      let same : KeepsLists lists lists = record { more = omega arith; same = λ i l. refl } in
      let there = placed_more texts c h n terms images choices lists lists same rest items st place names in
      let b = goes choices items (with_new n st) (list_work t (landed st landing)) there work in
      at_landed st r landing t stored reads (λ (su : State). IsBegun texts choices (c, lists) new k items su (list_work t (landed st landing)))
      (record {
        left = b.left;
        state = b.state;
        settles = b.settles;
        continuation = b.continuation;
        reads = λ id u e. b.reads id u (read_still texts c h n terms images names id (read st u) e);
      })
