-- A branch that was begun, by what its settling made of the world.
use Rattle.std.proofs.Common.{◌≡◌, ◌<◌, ◌≤◌, ℕ, List, [], ◌++◌, length, Option, sym, ap, subst, arith}
use Rattle.std.specs.Prelude.{⊤, All, IfOk, Ok, Err}
use Rattle.std.specs.declared.result.Result.{Result}
use Rattle.std.proofs.lemmas.List.{length-map}
use Rattle.std.proofs.lemmas.List.Elements.{All-weaker}
use Rattle.spec_numbers.specs.Rational.{ℚ}
use Rattle.spec_linear.specs.Solution.{Constraint, Fixes}
use Rattle.spec_numbers.specs.Texts.{Text}
use Rattle.spec_terms.specs.Term.{Subst, apply}
use Rattle.spec_terms.specs.Unifier.{IsUnifier, HasNoUnifier, read_under}
use Rattle.spec_branch.specs.Branch.{State, Item, Pending, Branch, read}
use Rattle.spec_branch.specs.Settling.{Settles, no_unifier, unified, SettlesUnified, clash, no_solution, kept, Outcome, Kept, kept_branch, bindings_after, woken, Clash}
use Rattle.spec_branch.specs.Settling as outcome
use Rattle.cq_control.specs.Items.{items_at}
use Rattle.cq_frac.specs.declared.VarId.{VarId}
use Rattle.cq_store.specs.declared.store.StoreFault.{StoreFault}
use Rattle.cq_settle.specs.Called.{IsCalled, OfCalls, bound_state}
use Rattle.cq_settle.specs.Settled.{IsPruned, woken_goals}
use Rattle.cq_term.specs.HeapValue.{Terms}
use Rattle.cq_term.specs.Pairs.{IsLive}
use Rattle.cq_term.specs.declared.walk.pairs.Pair.{Pair}
use Rattle.cq_settle.specs.Contents.{Contents}
use Rattle.cq_settle.specs.Rest.{IsReadyAs}
use Rattle.spec_engine.specs.declared.machine.cell.Cell.{Cell}
use Rattle.spec_engine.specs.Cells.{Fits, Stack}
use Rattle.spec_engine.specs.Standing.{AreItems, KeepsReading}
use Rattle.spec_engine.proofs.Kept.{items_read_on}
use Rattle.cq_settle.specs.Equal.{MayBeEqual, AllEqual, IsWork, CallsFor}
use Rattle.cq_settle.specs.Ready.{MayBeTold, with_terms}
use Rattle.cq_branch.specs.Worlds.{IsBranch, term_in}
use Rattle.cq_branch.specs.declared.begin.beginning.Begun.{Begun}
use Rattle.cq_branch.specs.declared.begin.beginning.Begun.TheVariants.{Goes, Pruned}
use Rattle.cq_branch.specs.Begun.{calls, IfGoes, IfPruned, HasWoken, IsBegun, OfWork, GoesOn, Prunes}
use Rattle.cq_branch.proofs.Added.{tree_is}
use Rattle.cq_branch.proofs.Reading.{read_live, tree_read}
use Rattle.cq_branch.proofs.Woken.{woken_calls, calls_fit, calls_are}

-- ---- the values that are fixed

-- they are those of the linear constraints of the branch, where it is kept
abbrev FixedThere : Outcome → Type 0
FixedThere (Kept b) = (fixed : ℕ → Option ℚ) × Fixes b.state.linear fixed
FixedThere (outcome.Pruned why) = ⊤

kept_fixes : (items : List Item) (st : State) (p : Pending) (u : Subst Text) (o : Outcome) → SettlesUnified items st p u o → FixedThere o
kept_fixes items st p u o (clash c) = tt
kept_fixes items st p u o (no_solution n j x) = tt
kept_fixes items st p u o (kept n j s fixed fixes) = (fixed, fixes)

-- ---- the branch is kept

-- a settled world, in which the cells of a continuation are read under the unified bindings
module _ (texts : List Text) (choices : Stack Contents) (c e d : Contents) (lists later : List (List Cell)) (rest k : ℕ) (items : List Item) (st : State) (p : Pending)
    (u : Subst Text) (unifies : IsUnifier (read_under st.bindings p.equations) u)
    (reads : KeepsReading (term_in texts) c st e (bound_state st u)) (fits : Fits (length choices) (items_at lists rest))
    (cells : AreItems (IsBranch texts) (term_in texts) choices e (bound_state st u) (items_at lists rest) items)
    (w : HasWoken texts e d lists later rest k st p u) where
  abbrev after : Subst Text
  after = bindings_after st p u w.kept.fixed

  abbrev branch_then : List Item → Branch
  branch_then is = kept_branch is st p u w.kept.linear w.kept.waiting w.kept.fixed

  abbrev su : State
  su = (branch_then []).state

  abbrev left : List Item
  left = woken after st.sleepers ++ items

  is_branch : IsBranch texts d su
  is_branch =
      let f = kept_fixes [] st p u (Kept (branch_then [])) (w.kept.settles []) in
      record { ready = w.kept.ready; fixed = f.0; fixes = subst (λ (l : List Constraint). Fixes l f.0) (sym w.kept.ready.stands.linear) f.1 }

  reads_on : KeepsReading (term_in texts) e (bound_state st u) d su
  reads_on id t x =
      let l = read_live texts e.heap.terms id (read (bound_state st u) t) x in
      let live : id < length d.heap.terms = omega (arith, l, w.kept.live) in
      tree_read texts d.heap.terms id (read su t) live (w.kept.reads id t l (tree_is texts e.heap.terms id (read (bound_state st u) t) x))

  cells_are : AreItems (IsBranch texts) (term_in texts) choices d su (calls w.goals ++ items_at lists rest) left
  cells_are =
      subst (λ (is : List Item). AreItems (IsBranch texts) (term_in texts) choices d su (calls w.goals ++ items_at lists rest) (is ++ items)) (sym (woken_calls after st.sleepers))
      (calls_are texts choices d su w.goals (woken_goals after st.sleepers) (items_at lists rest) items w.kept.goals_live w.kept.woken
      (items_read_on (IsBranch texts) (term_in texts) choices e (bound_state st u) d su reads_on (items_at lists rest) items cells))

  pub begun : IsBegun texts choices (c, lists) (d, later) k items st p
  begun = record {
    left = left;
    state = su;
    settles = unified u unifies (w.kept.settles items);
    continuation = record {
      there = w.cells.there;
      fits = subst (Fits (length choices)) (sym w.cells.are) (calls_fit (length choices) w.goals (items_at lists rest) fits);
      state = is_branch;
      cells = subst (λ (cs : List Cell). AreItems (IsBranch texts) (term_in texts) choices d su cs left) (sym w.cells.are) cells_are;
    };
    reads = λ id t x. reads_on id t (reads id t x);
  }

-- ---- it is pruned

pub pruned_by : (texts : List Text) (c : Contents) (newly : List VarId) (told : List ℕ) (rows : List Constraint) (st : State) (p : Pending) (u : Subst Text)
    → OfCalls texts c newly told rows IsPruned → IsCalled texts c newly told rows st p u → Prunes st p
pruned_by texts c newly told rows st p u o call = let q = o st p u call in (q.0, λ items. unified u call.unifier (q.1 items))

pub pruned_at_once : (st : State) (p : Pending) → HasNoUnifier (read_under st.bindings p.equations) → Prunes st p
pruned_at_once st p none = (Clash, λ items. no_unifier none)

-- ---- pairs of terms were made equal

-- settling is called for of each work that these pairs and told terms are
abbrev pub CallsForEach : List Text → Contents → Terms → List Pair → List VarId → List ℕ → Type 0
CallsForEach texts c h pairs newly told = (st : State) (p : Pending) → IsReadyAs texts c st → IsWork texts c st pairs told [] p → CallsFor texts c h newly told [] st p

module _ (texts : List Text) (c : Contents) (h : Terms) (pairs : List Pair) (newly : List VarId) (told : List ℕ) (equal : AllEqual c.heap h pairs newly)
    (for_each : CallsForEach texts c h pairs newly told) where
  as_long : length c.heap.terms ≤ length h.terms
  as_long = omega (arith, ap length equal.terms, length-map c.heap.terms (apply equal.unifier))

  reads_bound : (st : State) (p : Pending) (call : CallsFor texts c h newly told [] st p) → KeepsReading (term_in texts) c st (with_terms c h) (bound_state st call.unifier)
  reads_bound st p call id t x =
      let l = read_live texts c.heap.terms id (read st t) x in
      tree_read texts h.terms id (read (bound_state st call.unifier) t) (omega (arith, l, as_long)) (call.reads id t l (tree_is texts c.heap.terms id (read st t) x))

  pub all_go_on : (d : Contents) (lists later : List (List Cell)) (rest k : ℕ) → OfCalls texts (with_terms c h) newly told [] (HasWoken texts (with_terms c h) d lists later rest k)
      → GoesOn texts (c, lists) (d, later) pairs told rest k
  all_go_on d lists later rest k o choices items st p place w =
      let call = for_each st p place.state.ready w in
      let reads = reads_bound st p call in
      begun texts choices c (with_terms c h) d lists later rest k items st p call.unifier call.called.unifier reads place.fits
      (items_read_on (IsBranch texts) (term_in texts) choices c st (with_terms c h) (bound_state st call.unifier) reads (items_at lists rest) items place.cells)
      (o st p call.unifier call.called)

  pub all_pruned : OfCalls texts (with_terms c h) newly told [] IsPruned → OfWork texts c pairs told Prunes
  all_pruned o st p r w = let call = for_each st p r w in pruned_by texts (with_terms c h) newly told [] st p call.unifier o call.called

  module _ (rows : List Constraint) (none : rows ≡ []) where
    without_rows : (P : State → Pending → Subst Text → Type 0) → OfCalls texts (with_terms c h) newly told rows P → OfCalls texts (with_terms c h) newly told [] P
    without_rows P o = subst (λ (l : List Constraint). OfCalls texts (with_terms c h) newly told l P) none o

    -- what a settling says of each call it says of each such work
    pub of_each : (P : State → Pending → Type 0) → OfCalls texts (with_terms c h) newly told rows (λ st p u. P st p) → OfWork texts c pairs told P
    of_each P o st p r w = let call = for_each st p r w in without_rows (λ x q u. P x q) o st p call.unifier call.called

    pub goes_ok : (d : Contents) (lists later : List (List Cell)) (rest : ℕ) (result : Result Begun StoreFault)
        → IfOk result (λ b. IfGoes b (λ k. OfCalls texts (with_terms c h) newly told rows (HasWoken texts (with_terms c h) d lists later rest k)))
        → IfOk result (λ b. IfGoes b (GoesOn texts (c, lists) (d, later) pairs told rest))
    goes_ok d lists later rest (Ok (Goes k)) o = all_go_on d lists later rest k (without_rows (HasWoken texts (with_terms c h) d lists later rest k) o)
    goes_ok d lists later rest (Ok Pruned) o = tt
    goes_ok d lists later rest (Err e) o = tt

    pub pruned_ok : (result : Result Begun StoreFault) → IfOk result (λ b. IfPruned b (OfCalls texts (with_terms c h) newly told rows IsPruned))
        → IfOk result (λ b. IfPruned b (OfWork texts c pairs told Prunes))
    pruned_ok (Ok (Goes k)) o = tt
    pruned_ok (Ok Pruned) o = all_pruned (without_rows IsPruned o)
    pruned_ok (Err e) o = tt

-- pairs that may be equal are there
pub pairs_live : (h : Terms) (pairs : List Pair) → All (MayBeEqual h) pairs → All (IsLive h.terms) pairs
pairs_live h pairs m = All-weaker (MayBeEqual h) (IsLive h.terms) (λ q k. (k.0.live, k.1.live)) pairs m

pub told_live : (h : Terms) (told : List ℕ) → All (MayBeTold h) told → All (λ id. id < length h.terms) told
told_live h told m i d l = (m i d l).live
