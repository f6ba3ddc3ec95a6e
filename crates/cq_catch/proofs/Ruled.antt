-- The branch of a clause that is compared with the one asked for, in the world with its term.
use Rattle.std.proofs.Common.{◌≡◌, ◌<◌, ℕ, List, [], ◌∷◌, ◌++◌, length, Some, refl, sym, ap, ap₂, ◌∙◌, subst}
use Rattle.std.specs.Prelude.{Bool, IfOk, Ok, Err}
use Rattle.std.specs.declared.result.Result.{Result}
use Rattle.spec_numbers.specs.Prefixes.{IsPrefix}
use Rattle.spec_numbers.specs.Texts.{Text}
use Rattle.spec_terms.specs.Unifier.{read_under}
use Rattle.spec_syntax.specs.Trees.{Tree}
use Rattle.spec_builtins.specs.Alternatives.{◌≐◌}
use Rattle.spec_builtins.specs.Clauses.{HeadBody, rule, counted_on, variable_count}
use Rattle.spec_branch.specs.Branch.{State, Pending, read}
use Rattle.spec_search.specs.Control.{clause_state}
use Rattle.spec_search.specs.Database.{Clause}
use Rattle.spec_search.specs.Replies.{Place, with_new}
use Rattle.cq_control.specs.Items.{items_at}
use Rattle.cq_store.specs.declared.store.StoreFault.{StoreFault}
use Rattle.cq_resolve.specs.Database.{as_parts}
use Rattle.cq_settle.specs.Equal.{IsWork, work_of}
use Rattle.cq_resolve.specs.StoredValue.{ClauseValue}
use Rattle.cq_term.specs.HeapValue.{Terms}
use Rattle.cq_term.specs.Trees.{tree, KnowsTerms}
use Rattle.cq_unify.specs.Copied.{unbound_from}
use Rattle.cq_term.specs.declared.walk.pairs.Pair.{Pair}
use Rattle.cq_settle.specs.Contents.{Contents}
use Rattle.cq_settle.specs.Rest.{IsReadyAs}
use Rattle.spec_engine.specs.declared.machine.cell.Cell.{Cell}
use Rattle.spec_engine.specs.Cells.{Stack}
use Rattle.spec_engine.specs.Trying.{match_work}
use Rattle.spec_engine.proofs.Kept.{items_read_on}
use Rattle.cq_branch.specs.Worlds.{IsBranch, term_in, with_heap}
use Rattle.cq_branch.proofs.Added.{tree_is}
use Rattle.cq_branch.specs.declared.begin.beginning.Begun.{Begun}
use Rattle.cq_branch.specs.declared.begin.beginning.Begun.TheVariants.{Goes, Pruned}
use Rattle.cq_branch.specs.Begun.{IfGoes, IfPruned, IsPlacedAs, IsBegun, GoesOn, OfWork, Prunes}
use Rattle.cq_branch.proofs.Newer.{ready_more, branch_more, read_still}
use Rattle.cq_catch.specs.Matching.{moved_parts, IsComparedAt, MatchGoes, OfMatch}

-- what puts a clause under variables, and counts them
abbrev pub Moves : List Text → ClauseValue → Type 0
Moves texts kept = ((n : ℕ) → counted_on n (as_parts texts kept) ≡ moved_parts texts n kept) × (variable_count (as_parts texts kept) ≡ kept.variables)

module _ (texts : List Text) (c : Contents) (h : Terms) (kept : ClauseValue) (asked there : ℕ) (terms : IsPrefix c.heap.terms h.terms)
    (images : h.images ≡ c.heap.images ++ unbound_from (length c.heap.images) kept.variables) (names : KnowsTerms texts h.terms) (moves : Moves texts kept)
    (there_is : (a : HeadBody) → tree texts c.heap.terms asked ≡ rule a → tree texts h.terms there ≡ rule (moved_parts texts (length c.heap.images) kept)) where
  abbrev later : Contents
  later = with_heap h c

  abbrev pub pairs : List Pair
  pairs = record { left = asked; right = there } ∷ []

  module _ (works : (st : State) → IsReadyAs texts later st → IsWork texts later st pairs [] [] (work_of texts later pairs [] [])) where
    module _ (choices : Stack Contents) (lists : List (List Cell)) (rest : ℕ) (p : Place) (a : HeadBody) (cl : Clause) (removes : Bool)
        (at : IsComparedAt texts choices (c, lists) asked rest kept p a cl) where
      abbrev st : State
      st = with_new kept.variables p.state

      abbrev work : Pending
      work = match_work p removes a cl

      ready : IsReadyAs texts c p.state
      ready = at.place.state.ready

      ready_now : IsReadyAs texts later st
      ready_now = ready_more texts c h kept.variables terms images names p.state ready

      state_is : clause_state p cl ≡ st
      state_is = ap (λ (n : ℕ). with_new n p.state) (ap variable_count at.parts ∙ moves.1)

      reads_still : (id : ℕ) (t : Tree) → term_in texts c id ≡ Some (read p.state t) → term_in texts later id ≡ Some (read p.state t)
      reads_still id t e = read_still texts c h kept.variables terms images names id (read p.state t) e

      left_is : tree texts h.terms asked ≡ rule a
      left_is = tree_is texts h.terms asked (rule a) (read_still texts c h kept.variables terms images names asked (rule a) at.reads)

      instance_is : counted_on p.state.fresh cl.parts ≡ moved_parts texts (length c.heap.images) kept
      instance_is = ap₂ (λ (n : ℕ) (parts : HeadBody). counted_on n parts) (sym ready.stands.fresh) at.parts ∙ moves.0 (length c.heap.images)

      right_is : tree texts h.terms there ≡ rule (counted_on p.state.fresh cl.parts)
      right_is = there_is a (tree_is texts c.heap.terms asked (rule a) at.reads) ∙ sym (ap rule instance_is)

      is_work : IsWork texts later st pairs [] [] work
      is_work = record {
        pairs_are = ap (read_under st.bindings) (sym (ap₂ (λ (x y : Tree). (x ≐ y) ∷ []) left_is right_is)) ∙ (works st ready_now).pairs_are;
        told_are = refl;
        rows_are = refl;
      }

      placed : IsPlacedAs texts choices (later, lists) rest p.rest st
      placed = record {
        there = at.place.there;
        fits = at.place.fits;
        state = branch_more texts c h kept.variables terms images names p.state at.place.state;
        cells = items_read_on (IsBranch texts) (term_in texts) choices c p.state later st reads_still (items_at lists rest) p.rest at.place.cells;
      }

      begun_from : (d : Contents) (more : List (List Cell)) (k : ℕ) → IsBegun texts choices (later, lists) (d, more) k p.rest st work
          → IsBegun texts choices (c, lists) (d, more) k p.rest (clause_state p cl) work
      begun_from d more k b =
          subst (λ (x : State). IsBegun texts choices (c, lists) (d, more) k p.rest x work) (sym state_is)
          (record { left = b.left; state = b.state; settles = b.settles; continuation = b.continuation; reads = λ id t e. b.reads id t (reads_still id t e) })

      of_state : (P : State → Pending → Type 0) → P st work → P (clause_state p cl) work
      of_state P o = subst (λ (x : State). P x work) (sym state_is) o

    module _ (lists : List (List Cell)) (rest : ℕ) (told : List ℕ) (none : told ≡ []) where
      -- what holds of each such work holds of the branch of each such clause
      pub of_match : (P : State → Pending → Type 0) → OfWork texts later pairs told P → OfMatch texts (c, lists) asked rest kept P
      of_match P o choices p a cl removes at =
          of_state choices lists rest p a cl removes at P
          (subst (λ (l : List ℕ). OfWork texts later pairs l P) none o (st choices lists rest p a cl removes at) (work choices lists rest p a cl removes at)
          (ready_now choices lists rest p a cl removes at) (is_work choices lists rest p a cl removes at))

      module _ (d : Contents) (more : List (List Cell)) where
        match_goes : (k : ℕ) → GoesOn texts (later, lists) (d, more) pairs told rest k → MatchGoes texts (c, lists) (d, more) asked rest kept k
        match_goes k g choices p a cl removes at =
            begun_from choices lists rest p a cl removes at d more k
            (subst (λ (l : List ℕ). GoesOn texts (later, lists) (d, more) pairs l rest k) none g choices p.rest (st choices lists rest p a cl removes at)
            (work choices lists rest p a cl removes at) (placed choices lists rest p a cl removes at) (is_work choices lists rest p a cl removes at))

        pub goes_ok : (result : Result Begun StoreFault) → IfOk result (λ b. IfGoes b (GoesOn texts (later, lists) (d, more) pairs told rest))
            → IfOk result (λ b. IfGoes b (MatchGoes texts (c, lists) (d, more) asked rest kept))
        goes_ok (Ok (Goes k)) g = match_goes k g
        goes_ok (Ok Pruned) g = tt
        goes_ok (Err e) g = tt

      pub pruned_ok : (result : Result Begun StoreFault) → IfOk result (λ b. IfPruned b (OfWork texts later pairs told Prunes))
          → IfOk result (λ b. IfPruned b (OfMatch texts (c, lists) asked rest kept Prunes))
      pruned_ok (Ok (Goes k)) q = tt
      pruned_ok (Ok Pruned) q = of_match Prunes q
      pruned_ok (Err e) q = tt
