-- A clause of a call that was resolved with the goal, as work of the world with the clause's variables.
use Rattle.std.proofs.Common.{◌≡◌, ◌≤◌, ℕ, List, [], ◌∷◌, length, Bool, true, false, Some, refl, sym, ap, ap₂, ◌∙◌, subst}
use Rattle.std.specs.Prelude.{if◌then◌else◌, None, IfOk, Ok, Err}
use Rattle.std.specs.declared.result.Result.{Result}
use Rattle.spec_linear.specs.Solution.{Constraint}
use Rattle.spec_numbers.specs.Texts.{Text}
use Rattle.spec_terms.specs.Term.{Subst, Var, Number, Name, Compound, apply, named}
use Rattle.spec_terms.specs.Unifier.{HasNoUnifier, read_under}
use Rattle.spec_syntax.specs.Trees.{Tree}
use Rattle.spec_builtins.specs.Built.{is_atom}
use Rattle.spec_builtins.specs.Kinds.{is_callable}
use Rattle.spec_builtins.specs.Alternatives.{◌≐◌}
use Rattle.spec_builtins.specs.Clauses.{HeadBody, counted_on, variable_count}
use Rattle.spec_branch.specs.Branch.{State, Item, Branch, Pending, read}
use Rattle.spec_search.specs.Control.{put, instance, body_items, clause_items, clause_state, clause_work}
use Rattle.spec_search.specs.Database.{Clause}
use Rattle.spec_search.specs.Replies.{Place, with_new}
use Rattle.spec_search.specs.Search.{Search, look_at, Settling}
use Rattle.cq_term.specs.Texts.{text_of}
use Rattle.cq_control.specs.Items.{items_at}
use Rattle.cq_frac.specs.declared.VarId.{VarId}
use Rattle.cq_store.specs.declared.store.StoreFault.{StoreFault}
use Rattle.cq_resolve.specs.Database.{as_parts}
use Rattle.cq_resolve.specs.Resolved.{Resolved}
use Rattle.cq_settle.specs.Called.{IsCalled, OfCalls, bound_state}
use Rattle.cq_settle.specs.Settled.{IsPruned}
use Rattle.cq_resolve.specs.Building.{moved_by}
use Rattle.cq_resolve.specs.StoredValue.{ClauseValue, HaveNamesBelow}
use Rattle.cq_term.specs.HeapValue.{Terms}
use Rattle.cq_term.specs.Meaning.{HeapTerm}
use Rattle.cq_term.specs.Trees.{tree, KnowsTerms}
use Rattle.cq_settle.specs.Contents.{Contents}
use Rattle.cq_settle.specs.Rest.{IsReadyAs}
use Rattle.spec_engine.specs.declared.machine.cell.Cell.{Cell}
use Rattle.spec_engine.specs.Cells.{Fits, Value, Stack, below}
use Rattle.spec_engine.specs.Standing.{AreItems, KeepsReading, engine, AreWaiting}
use Rattle.spec_engine.specs.Coming.{Comes}
use Rattle.spec_engine.proofs.Kept.{fits_more, items_read_on}
use Rattle.spec_engine.proofs.Made.{child_kept, child_pruned}
use Rattle.cq_settle.specs.Equal.{IsWork}
use Rattle.cq_branch.specs.Lists.{HasCells, put_cell}
use Rattle.cq_branch.specs.Worlds.{IsBranch, term_in, with_heap}
use Rattle.cq_branch.proofs.Added.{tree_is}
use Rattle.cq_branch.proofs.Reading.{read_live, tree_read}
use Rattle.cq_branch.specs.declared.begin.beginning.Begun.{Begun}
use Rattle.cq_branch.specs.declared.begin.beginning.Begun.TheVariants.{Goes, Pruned}
use Rattle.cq_branch.specs.Begun.{IfGoes, IfPruned, HasWoken, IsBegun, Prunes}
use Rattle.cq_branch.specs.BeginCalls.{body_cells, IsCallOf, OfClause, ClauseComes}
use Rattle.cq_branch.proofs.Begins.{CallsForEach, begun, pruned_by, pruned_at_once}
use Rattle.cq_branch.proofs.Entered.{Works, ready_mid, unifier, entered, reads_entered, body_entered}
use Rattle.cq_branch.proofs.Renamed.{renamed, head_and, same_at, head_at, unified}

put_fits : (n t height : ℕ) (b : Bool) (cs : List Cell) → height ≤ n → Fits height cs → Fits n (put_cell b t height ∷ cs)
put_fits n t height true cs l f = (l, f)
put_fits n t height false cs l f = fits_more height n cs l f

-- a test of the body is one of the body under other variables
true_moved : (n : ℕ) (f : ℕ → Text) (t : HeapTerm) → is_atom "true" (named f (apply (moved_by n) t)) ≡ is_atom "true" (named f t)
true_moved n f (Var v) = refl
true_moved n f (Number q) = refl
true_moved n f (Name a) = refl
true_moved n f (Compound a ts) = refl

callable_moved : (n : ℕ) (f : ℕ → Text) (t : HeapTerm) → is_callable (named f (apply (moved_by n) t)) ≡ is_callable (named f t)
callable_moved n f (Var v) = refl
callable_moved n f (Number q) = refl
callable_moved n f (Name a) = refl
callable_moved n f (Compound a ts) = refl

-- a body in front of others, where the state reads it as the world does
module _ (texts : List Text) (choices : Stack Contents) (w : Contents) (st : State) (id height : ℕ) (cs : List Cell) (more : List Item)
    (are : AreItems (IsBranch texts) (term_in texts) choices w st cs more) where
  body_are : (t : Tree) → term_in texts w id ≡ Some (read st t)
      → AreItems (IsBranch texts) (term_in texts) choices w st (put_cell (is_callable t) id height ∷ cs) (put t (below choices height) ∷ more)
  body_are (Var v) e = (Var v, below choices height, more, refl, e, are)
  body_are (Number q) e = (Number q, below choices height, more, refl, e, are)
  body_are (Name a) e = (Name a, more, refl, e, are)
  body_are (Compound a ts) e = (Compound a ts, more, refl, e, are)

-- ---- the place of a call, and the work of its clause

-- what puts a clause under variables, and counts them
abbrev pub Moves : List Text → ClauseValue → Type 0
Moves texts kept = ((n : ℕ) → counted_on n (as_parts texts kept)
    ≡ record { head = named (text_of texts) (apply (moved_by n) kept.head); body = named (text_of texts) (apply (moved_by n) kept.body) })
    × (variable_count (as_parts texts kept) ≡ kept.variables)

module _ (texts : List Text) (c : Contents) (kept : ClauseValue) (known : HaveNamesBelow (length texts) kept) (moves : Moves texts kept) (id : ℕ) (works : Works texts c kept id)
    (choices : Stack Contents) (lists : List (List Cell)) (height rest : ℕ) (p : Place) (goal : Tree) (cl : Clause)
    (call : IsCallOf texts choices (c, lists) id height rest kept p goal cl) where
  abbrev mid : Contents
  mid = with_heap (renamed c.heap kept) c

  abbrev st : State
  st = with_new kept.variables p.state

  abbrev ready : IsReadyAs texts c p.state
  ready = call.place.state.ready

  abbrev body_then : Tree
  body_then = named (text_of texts) (apply (moved_by (length c.heap.images)) kept.body)

  state_is : clause_state p cl ≡ st
  state_is = ap (λ (n : ℕ). with_new n p.state) (ap variable_count call.parts ∙ moves.1)

  instance_is : instance p cl ≡ record { head = named (text_of texts) (apply (moved_by (length c.heap.images)) kept.head); body = body_then }
  instance_is = ap₂ (λ (n : ℕ) (parts : HeadBody). counted_on n parts) (sym ready.stands.fresh) call.parts ∙ moves.0 (length c.heap.images)

  left_is : tree texts mid.heap.terms id ≡ goal
  left_is = ap (named (text_of texts)) (same_at c.heap kept id (read_live texts c.heap.terms id goal call.reads)) ∙ tree_is texts c.heap.terms id goal call.reads

  right_is : tree texts mid.heap.terms (length c.heap.terms) ≡ (instance p cl).head
  right_is = ap (named (text_of texts)) (head_at c.heap kept) ∙ sym (ap (λ (b : HeadBody). b.head) instance_is)

  pub clause_is_work : IsWork texts mid st (head_and c.heap kept id ∷ []) [] [] (clause_work p goal cl)
  clause_is_work = record {
    pairs_are = ap (read_under st.bindings) (sym (ap₂ (λ (x y : Tree). (x ≐ y) ∷ []) left_is right_is))
        ∙ (works st (ready_mid texts c kept known p.state ready)).pairs_are;
    told_are = refl;
    rows_are = refl;
  }

  pub of_clause_state : (P : State → Pending → Type 0) → P st (clause_work p goal cl) → P (clause_state p cl) (clause_work p goal cl)
  of_clause_state P o = subst (λ (x : State). P x (clause_work p goal cl)) (sym state_is) o

  -- ---- the continuation, once the goal and the head are equal

  module _ (e : Contents) (u : Subst Text) (later : List (List Cell)) (body behind : ℕ) (reads : KeepsReading (term_in texts) c p.state e (bound_state st u))
      (body_reads : term_in texts e body ≡ Some (read (bound_state st u) body_then))
      (cells : HasCells later behind (body_cells (named (text_of texts) kept.body) body height (items_at lists rest))) where
    rest_are : AreItems (IsBranch texts) (term_in texts) choices e (bound_state st u) (items_at lists rest) p.rest
    rest_are = items_read_on (IsBranch texts) (term_in texts) choices c p.state e (bound_state st u) reads (items_at lists rest) p.rest call.place.cells

    abbrev cells_by : Bool → List Cell
    cells_by b = if b then items_at lists rest else put_cell (is_callable body_then) body height ∷ items_at lists rest

    abbrev items_by : Bool → List Item
    items_by b = if b then p.rest else put body_then p.height ∷ p.rest

    are_by : (b : Bool) → AreItems (IsBranch texts) (term_in texts) choices e (bound_state st u) (cells_by b) (items_by b)
    are_by true = rest_are
    are_by false = subst (λ (n : ℕ). AreItems (IsBranch texts) (term_in texts) choices e (bound_state st u) (cells_by false) (put body_then n ∷ p.rest)) (sym call.goes_back)
        (body_are texts choices e (bound_state st u) body height (items_at lists rest) p.rest rest_are body_then body_reads)

    fit_by : (b : Bool) → Fits (length choices) (cells_by b)
    fit_by true = fits_more height (length choices) (items_at lists rest) call.within call.fits
    fit_by false = put_fits (length choices) body height (is_callable body_then) (items_at lists rest) call.within call.fits

    cells_are : items_at later behind ≡ cells_by (is_atom "true" body_then)
    cells_are = cells.are
        ∙ ap₂ (λ (a b : Bool). if a then items_at lists rest else put_cell b body height ∷ items_at lists rest)
        (sym (true_moved (length c.heap.images) (text_of texts) kept.body)) (sym (callable_moved (length c.heap.images) (text_of texts) kept.body))

    items_are : clause_items p cl ≡ items_by (is_atom "true" body_then)
    items_are = ap (λ (b : HeadBody). body_items p b.body) instance_is

    pub clause_fits : Fits (length choices) (items_at later behind)
    clause_fits = subst (Fits (length choices)) (sym cells_are) (fit_by (is_atom "true" body_then))

    pub clause_cells : AreItems (IsBranch texts) (term_in texts) choices e (bound_state st u) (items_at later behind) (clause_items p cl)
    clause_cells =
        subst (λ (cs : List Cell). AreItems (IsBranch texts) (term_in texts) choices e (bound_state st u) cs (clause_items p cl)) (sym cells_are)
        (subst (λ (is : List Item). AreItems (IsBranch texts) (term_in texts) choices e (bound_state st u) (cells_by (is_atom "true" body_then)) is) (sym items_are) (are_by (is_atom "true" body_then)))

-- ---- what becomes of it

module _ (texts : List Text) (choices : Stack Contents) (now : Value Contents) (steps : ℕ) (s : Search) (p : Place) (goal : Tree) (cl : Clause) (behind : List Branch)
    (looks : look_at s.branches ≡ Settling (clause_items p cl) (clause_state p cl) (clause_work p goal cl) behind)
    (waiting : AreWaiting (IsBranch texts) (term_in texts) choices behind) where
  pub clause_comes : (old : Value Contents) (k : ℕ) → IsBegun texts choices old now k (clause_items p cl) (clause_state p cl) (clause_work p goal cl)
      → Comes (IsBranch texts) (term_in texts) steps (engine s.database s.selected choices now (Some k)) s
  clause_comes old k b = child_kept (IsBranch texts) (term_in texts) steps s.database s.selected choices now k s (clause_items p cl) (clause_state p cl) (clause_work p goal cl) behind
      refl refl looks refl b.left b.state b.settles b.continuation waiting

  pub clause_goes_back : Prunes (clause_state p cl) (clause_work p goal cl) → Comes (IsBranch texts) (term_in texts) steps (engine s.database s.selected choices now None) s
  clause_goes_back q = child_pruned (IsBranch texts) (term_in texts) steps s.database s.selected choices now s (clause_items p cl) (clause_state p cl) (clause_work p goal cl) behind
      refl refl looks refl q.0 (q.1 (clause_items p cl)) waiting

-- an engine that comes back does so from any world
comes_any : (texts : List Text) (choices : Stack Contents) (now later : Value Contents) (steps : ℕ) (s : Search)
    → Comes (IsBranch texts) (term_in texts) steps (engine s.database s.selected choices now None) s
    → Comes (IsBranch texts) (term_in texts) steps (engine s.database s.selected choices later None) s
comes_any texts choices now later steps s e = record {
  reached = e.reached;
  quiet = e.quiet;
  stands = record {
    database = e.stands.database;
    selected = e.stands.selected;
    first = e.stands.first;
    behind = e.stands.behind;
    branches = e.stands.branches;
    current = e.stands.current;
    waiting = e.stands.waiting;
  };
}

pub pruned_any : (texts : List Text) (old now later : Value Contents) (id height rest : ℕ) (kept : ClauseValue) → ClauseComes texts old now id height rest kept Pruned
    → ClauseComes texts old later id height rest kept Pruned
pruned_any texts old now later id height rest kept h choices p goal cl call steps s behind looks waiting =
    comes_any texts choices now later steps s (h choices p goal cl call steps s behind looks waiting)

-- nothing makes the goal and the head equal
pub none_comes : (texts : List Text) (c : Contents) (kept : ClauseValue) (known : HaveNamesBelow (length texts) kept) (moves : Moves texts kept) (id : ℕ) (works : Works texts c kept id)
    (lists later : List (List Cell)) (height rest : ℕ) (d : Contents)
    → ((st : State) (p : Pending) → IsWork texts (with_heap (renamed c.heap kept) c) st (head_and c.heap kept id ∷ []) [] [] p → HasNoUnifier (read_under st.bindings p.equations))
    → ClauseComes texts (c, lists) (d, later) id height rest kept Pruned
none_comes texts c kept known moves id works lists later height rest d none choices p goal cl call steps s behind looks waiting =
    let st : State = with_new kept.variables p.state in
    let w = clause_is_work texts c kept known moves id works choices lists height rest p goal cl call in
    clause_goes_back texts choices (d, later) steps s p goal cl behind looks waiting
    (of_clause_state texts c kept known moves id works choices lists height rest p goal cl call Prunes (pruned_at_once st (clause_work p goal cl) (none st (clause_work p goal cl) w)))

-- they were made equal, and the body goes in front
module _ (texts : List Text) (c : Contents) (kept : ClauseValue) (known : HaveNamesBelow (length texts) kept) (moves : Moves texts kept) (id : ℕ) (works : Works texts c kept id)
    (h : Terms) (body : ℕ) (told : List VarId) (r : Resolved c.heap h kept id body told) (names : KnowsTerms texts h.terms)
    (each : CallsForEach texts (with_heap (renamed c.heap kept) c) (unified c.heap kept h id body told r) (head_and c.heap kept id ∷ []) told [])
    (lists later : List (List Cell)) (height rest behind : ℕ) (cells : HasCells later behind (body_cells (named (text_of texts) kept.body) body height (items_at lists rest))) where
  abbrev e : Contents
  e = with_heap h c

  module _ (choices : Stack Contents) (p : Place) (goal : Tree) (cl : Clause) (call : IsCallOf texts choices (c, lists) id height rest kept p goal cl) where
    abbrev su : State
    su = with_new kept.variables p.state

    work : IsWork texts (with_heap (renamed c.heap kept) c) su (head_and c.heap kept id ∷ []) [] [] (clause_work p goal cl)
    work = clause_is_work texts c kept known moves id works choices lists height rest p goal cl call

    abbrev u : Subst Text
    u = unifier texts c kept known h id body told r names each p.state call.place.state.ready (clause_work p goal cl) work

    is_called : IsCalled texts e told [] [] su (clause_work p goal cl) u
    is_called = entered texts c kept known h id body told r names each p.state call.place.state.ready (clause_work p goal cl) work

    reads : KeepsReading (term_in texts) c p.state e (bound_state su u)
    reads = reads_entered texts c kept known h id body told r names each p.state call.place.state.ready (clause_work p goal cl) work

    body_reads : term_in texts e body ≡ Some (read (bound_state su u) (named (text_of texts) (apply (moved_by (length c.heap.images)) kept.body)))
    body_reads = tree_read texts h.terms body (read (bound_state su u) (named (text_of texts) (apply (moved_by (length c.heap.images)) kept.body))) r.live
        (body_entered texts c kept known h id body told r names each p.state call.place.state.ready (clause_work p goal cl) work works)

    begun_then : (d : Contents) (last : List (List Cell)) (k : ℕ) → HasWoken texts e d later last behind k su (clause_work p goal cl) u
        → IsBegun texts choices (c, later) (d, last) k (clause_items p cl) su (clause_work p goal cl)
    begun_then d last k w =
        begun texts choices c e d later last behind k (clause_items p cl) su (clause_work p goal cl) u is_called.unifier reads
        (clause_fits texts c kept known moves id works choices lists height rest p goal cl call e u later body behind reads body_reads cells)
        (clause_cells texts c kept known moves id works choices lists height rest p goal cl call e u later body behind reads body_reads cells) w

    at_state : (P : State → Pending → Type 0) → P su (clause_work p goal cl) → P (clause_state p cl) (clause_work p goal cl)
    at_state P o = of_clause_state texts c kept known moves id works choices lists height rest p goal cl call P o

  -- what a settling says of each call it says of each such clause
  module _ (ids : List ℕ) (none : ids ≡ []) (rows : List Constraint) (no_rows : rows ≡ []) where
    without : (P : State → Pending → Subst Text → Type 0) → OfCalls texts e told ids rows P → OfCalls texts e told [] [] P
    without P o = subst (λ (l : List ℕ). OfCalls texts e told l [] P) none (subst (λ (l : List Constraint). OfCalls texts e told ids l P) no_rows o)

    pub of_clause : (P : State → Pending → Type 0) → OfCalls texts e told ids rows (λ st p v. P st p) → OfClause texts (c, lists) id height rest kept P
    of_clause P o choices p goal cl call =
        at_state choices p goal cl call P
        (without (λ x q v. P x q) o (with_new kept.variables p.state) (clause_work p goal cl) (u choices p goal cl call) (is_called choices p goal cl call))

    module _ (d : Contents) (last : List (List Cell)) where
      comes_by : (b : Begun) → IfGoes b (λ k. OfCalls texts e told ids rows (HasWoken texts e d later last behind k)) → IfPruned b (OfCalls texts e told ids rows IsPruned)
          → ClauseComes texts (c, lists) (d, last) id height rest kept b
      comes_by (Goes k) g q choices p goal cl call steps s bs looks waiting =
          clause_comes texts choices (d, last) steps s p goal cl bs looks waiting (c, later) k
          (at_state choices p goal cl call (λ x q. IsBegun texts choices (c, later) (d, last) k (clause_items p cl) x q)
          (begun_then choices p goal cl call d last k (without (HasWoken texts e d later last behind k) g
          (with_new kept.variables p.state) (clause_work p goal cl) (u choices p goal cl call) (is_called choices p goal cl call))))
      comes_by Pruned g q choices p goal cl call steps s bs looks waiting =
          clause_goes_back texts choices (d, last) steps s p goal cl bs looks waiting
          (at_state choices p goal cl call Prunes
          (pruned_by texts e told [] [] (with_new kept.variables p.state) (clause_work p goal cl) (u choices p goal cl call) (without IsPruned q) (is_called choices p goal cl call)))

      pub comes_ok : (result : Result Begun StoreFault) → IfOk result (λ b. IfGoes b (λ k. OfCalls texts e told ids rows (HasWoken texts e d later last behind k)))
          → IfOk result (λ b. IfPruned b (OfCalls texts e told ids rows IsPruned)) → IfOk result (ClauseComes texts (c, lists) (d, last) id height rest kept)
      comes_ok (Ok b) g q = comes_by b g q
      comes_ok (Err f) g q = tt
