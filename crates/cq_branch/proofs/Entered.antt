-- A goal was resolved with a clause: settling is called for.
use Rattle.std.proofs.Common.{◌≡◌, ◌<◌, ℕ, List, [], ◌∷◌, length, refl, sym, ap, ◌∙◌, subst, arith, length-append}
use Rattle.std.specs.List.{AllZip}
use Rattle.spec_numbers.specs.Texts.{Text}
use Rattle.spec_terms.specs.Term.{Subst, apply, followed_by, named}
use Rattle.spec_syntax.specs.Trees.{Tree}
use Rattle.spec_branch.specs.Branch.{State, Asleep, Frozen, Sleeper, Pending, read}
use Rattle.spec_search.specs.Replies.{with_new}
use Rattle.cq_term.specs.Texts.{text_of}
use Rattle.cq_attr.specs.Attributes.{Waiting}
use Rattle.cq_attr.specs.declared.susp.Susp.{Susp}
use Rattle.cq_attr.specs.declared.susp.Susp.TheVariants.{Delayed, Goal}
use Rattle.cq_frac.specs.declared.VarId.{VarId}
use Rattle.cq_resolve.specs.Resolved.{Resolved}
use Rattle.cq_settle.specs.Equal.{IsWork, work_of, CallsFor}
use Rattle.cq_settle.specs.Called.{IsCalled, SomeIsCalled, bound_state}
use Rattle.cq_resolve.specs.StoredValue.{ClauseValue, HaveNamesBelow}
use Rattle.cq_resolve.specs.Building.{moved_by}
use Rattle.cq_term.specs.HeapValue.{Terms}
use Rattle.cq_term.specs.Trees.{tree, KnowsTerms}
use Rattle.cq_settle.specs.Contents.{Contents}
use Rattle.cq_settle.specs.Rest.{IsReadyAs}
use Rattle.cq_settle.specs.Standing.{Stands, AreRead, IsConstraint, IsSleeper, constraints, goals}
use Rattle.spec_engine.specs.Standing.{KeepsReading}
use Rattle.cq_branch.specs.Worlds.{term_in, with_heap}
use Rattle.cq_branch.proofs.Added.{tree_is}
use Rattle.cq_branch.proofs.Reading.{read_live, tree_read}
use Rattle.cq_branch.proofs.Begins.{CallsForEach}
use Rattle.cq_branch.proofs.Newer.{ready_more}
use Rattle.cq_branch.proofs.Renamed.{renamed, with_head, head_and, renamed_terms, renamed_names, same_at, body_at, body_live, unified, old_live, then_at, body_then}

first_same : (t u : Tree) → t ∷ [] ≡ u ∷ [] → t ≡ u
first_same t u e = cc

same_term : (x y : ℕ) → ◌≡◌ {A = Susp} (Delayed x) (Delayed y) → x ≡ y
same_term x y e = cc

same_goal : (v w : VarId) (x y : ℕ) → ◌≡◌ {A = Susp} (Goal v x) (Goal w y) → x ≡ y
same_goal v w x y e = cc

-- ---- the world with the clause's terms

-- the two terms that are to be equal, and the body, may be settled as work
abbrev pub Works : List Text → Contents → ClauseValue → ℕ → Type 0
Works texts c kept goal = (st : State) → IsReadyAs texts (with_heap (renamed c.heap kept) c) st
    → IsWork texts (with_heap (renamed c.heap kept) c) st (head_and c.heap kept goal ∷ []) (length (with_head c.heap kept) ∷ []) []
    (work_of texts (with_heap (renamed c.heap kept) c) (head_and c.heap kept goal ∷ []) (length (with_head c.heap kept) ∷ []) [])

module _ (texts : List Text) (c : Contents) (kept : ClauseValue) (known : HaveNamesBelow (length texts) kept) (st : State) (ready : IsReadyAs texts c st) where
  pub names_mid : KnowsTerms texts (renamed c.heap kept).terms
  names_mid = renamed_names c.heap kept (length texts) known ready.stands.names

  pub ready_mid : IsReadyAs texts (with_heap (renamed c.heap kept) c) (with_new kept.variables st)
  ready_mid = ready_more texts c (renamed c.heap kept) kept.variables (renamed_terms c.heap kept) refl names_mid st ready

-- ---- the world once the two are equal

module _ (texts : List Text) (c : Contents) (kept : ClauseValue) (known : HaveNamesBelow (length texts) kept) (h : Terms) (goal body : ℕ) (told : List VarId)
    (r : Resolved c.heap h kept goal body told) (names : KnowsTerms texts h.terms) where
  abbrev mid : Contents
  mid = with_heap (renamed c.heap kept) c

  abbrev then_ : Terms
  then_ = unified c.heap kept h goal body told r

  tree_then : (id : ℕ) → id < length c.heap.terms → tree texts h.terms id ≡ tree texts then_.terms id
  tree_then id l = ap (named (text_of texts)) (then_at c.heap kept h goal body told r id l)

  live_then : (id : ℕ) → id < length c.heap.terms → id < length h.terms
  live_then id l = old_live c.heap kept h goal body told r id l

  constraint_then : (a b s : Subst Text) (k : Waiting) (t : Tree) → IsConstraint texts c.heap a b k t → IsConstraint texts then_ a s k t → IsConstraint texts h a s k t
  constraint_then a b s k t e f =
      let l = subst (λ (id : ℕ). id < length c.heap.terms) (same_term e.id f.id (sym e.susp ∙ f.susp)) e.live in
      record { id = f.id; susp = f.susp; live = live_then f.id l; reads = tree_then f.id l ∙ f.reads; watched = f.watched }

  constraints_then : (a b s : Subst Text) (ks : List Waiting) (ts : List Tree) → AllZip (IsConstraint texts c.heap a b) ks ts → AllZip (IsConstraint texts then_ a s) ks ts
      → AllZip (IsConstraint texts h a s) ks ts
  constraints_then a b s [] [] y z = z
  constraints_then a b s [] (t ∷ ts) y z = absurd z
  constraints_then a b s (k ∷ ks) [] y z = absurd z
  constraints_then a b s (k ∷ ks) (t ∷ ts) y z = (constraint_then a b s k t y.0 z.0, constraints_then a b s ks ts y.1 z.1)

  read_then : (s : Subst Text) (x : VarId) (id : ℕ) (a : Asleep) → id < length c.heap.terms → AreRead texts then_ s x id a → AreRead texts h s x id a
  read_then s x id (Frozen y g) l q = (q.0, tree_then id l ∙ q.1)

  sleeper_then : (a b s : Subst Text) (k : Waiting) (z : Sleeper) → IsSleeper texts c.heap a b k z → IsSleeper texts then_ a s k z → IsSleeper texts h a s k z
  sleeper_then a b s k z e f =
      let l = subst (λ (id : ℕ). id < length c.heap.terms) (same_goal e.variable f.variable e.id f.id (sym e.susp ∙ f.susp)) e.live in
      record {
        variable = f.variable;
        id = f.id;
        susp = f.susp;
        variable_live = f.variable_live;
        live = live_then f.id l;
        reads = read_then s f.variable f.id z.asleep l f.reads;
        watched = f.watched;
      }

  sleepers_then : (a b s : Subst Text) (ks : List Waiting) (zs : List Sleeper) → AllZip (IsSleeper texts c.heap a b) ks zs → AllZip (IsSleeper texts then_ a s) ks zs
      → AllZip (IsSleeper texts h a s) ks zs
  sleepers_then a b s [] [] y z = z
  sleepers_then a b s [] (x ∷ zs) y z = absurd z
  sleepers_then a b s (k ∷ ks) [] y z = absurd z
  sleepers_then a b s (k ∷ ks) (x ∷ zs) y z = (sleeper_then a b s k x y.0 z.0, sleepers_then a b s ks zs y.1 z.1)

  module _ (each : CallsForEach texts mid then_ (head_and c.heap kept goal ∷ []) told []) (st : State) (ready : IsReadyAs texts c st) where
    abbrev su : State
    su = with_new kept.variables st

    module _ (p : Pending) (work : IsWork texts mid su (head_and c.heap kept goal ∷ []) [] [] p) where
      abbrev call : CallsFor texts mid then_ told [] [] su p
      call = each su p (ready_mid texts c kept known st ready) work

      abbrev pub unifier : Subst Text
      unifier = call.unifier

      k : IsCalled texts (with_heap then_ c) told [] [] su p unifier
      k = call.called

      stands : Stands texts (with_heap h c) su.bindings (followed_by su.bindings unifier) su
      stands = record {
        bindings = k.stands.bindings;
        linear = k.stands.linear;
        delayed = constraints_then st.bindings st.bindings (followed_by st.bindings unifier) (constraints c.attrs) st.delayed ready.stands.delayed k.stands.delayed;
        numeric = k.stands.numeric;
        sleepers = sleepers_then st.bindings st.bindings (followed_by st.bindings unifier) (goals c.attrs) st.sleepers ready.stands.sleepers k.stands.sleepers;
        fresh = k.stands.fresh;
        names = names;
      }

      pub entered : IsCalled texts (with_heap h c) told [] [] su p unifier
      entered = record {
        rests = k.rests;
        unifier = k.unifier;
        read_through = k.read_through;
        stands = stands;
        once = k.once;
        bound = k.bound;
        numeric = k.numeric;
        awaited = k.awaited;
        told_live = λ i d l. absurd (omega (arith, l));
        told_reads = k.told_reads;
        rows_are = k.rows_are;
      }

      pub some_entered : SomeIsCalled texts (with_heap h c) told [] []
      some_entered = record { state = su; pending = p; unifier = unifier; is = entered }

      -- what was read is read on
      pub reads_entered : KeepsReading (term_in texts) c st (with_heap h c) (bound_state su unifier)
      reads_entered id t x =
          let l = read_live texts c.heap.terms id (read st t) x in
          let here : tree texts mid.heap.terms id ≡ apply st.bindings t = ap (named (text_of texts)) (same_at c.heap kept id l) ∙ tree_is texts c.heap.terms id (read st t) x in
          let live : id < length mid.heap.terms = omega (arith, l, ap length (renamed_terms c.heap kept).1, length-append c.heap.terms (renamed_terms c.heap kept).0) in
          tree_read texts h.terms id (read (bound_state su unifier) t) (live_then id l) (tree_then id l ∙ call.reads id t live here)

      -- and the body as it was
      pub body_entered : Works texts c kept goal
          → tree texts h.terms body ≡ read (bound_state su unifier) (named (text_of texts) (apply (moved_by (length c.heap.images)) kept.body))
      body_entered works =
          let id : ℕ = length (with_head c.heap kept) in
          let itself = first_same (read su (tree texts mid.heap.terms id)) (tree texts mid.heap.terms id) (works su (ready_mid texts c kept known st ready)).told_are in
          ap (named (text_of texts)) (body_then c.heap kept h goal body told r)
          ∙ call.reads id (tree texts mid.heap.terms id) (body_live c.heap kept) (sym itself)
          ∙ ap (λ t. read (bound_state su unifier) (named (text_of texts) t)) (body_at c.heap kept)
