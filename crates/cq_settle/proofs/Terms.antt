-- A told term, or one that waits, is looked at: what becomes of each settling that is underway.
use Rattle.std.proofs.Common.{◌≡◌, ℕ, List, [], ◌∷◌, ◌++◌, true, Option, Some, refl, sym, ◌∙◌, subst, inl, inr, append_assoc}
use Rattle.std.specs.Prelude.{Contains}
use Rattle.std.proofs.lemmas.List.Elements.{Contains-append_left, Contains-append_right}
use Rattle.spec_numbers.specs.Rational.{ℚ}
use Rattle.spec_linear.specs.Solution.{Constraint, Solvable, Fixes}
use Rattle.spec_numbers.specs.Texts.{Text}
use Rattle.spec_terms.specs.Term.{Subst, Occurs, apply}
use Rattle.spec_syntax.specs.Trees.{Tree}
use Rattle.spec_branch.specs.Relations.{Is, Waits, False, lin}
use Rattle.spec_branch.specs.Alike.{no_values}
use Rattle.spec_branch.specs.Branch.{State, Pending}
use Rattle.spec_transcript.specs.Operands.{relation_operands}
use Rattle.cq_attr.specs.Attributes.{Waiting, Attributes, numbers, find, without, suspended}
use Rattle.cq_attr.specs.declared.susp.Susp.TheVariants as susp
use Rattle.cq_attr.proofs.Elements.{contains_cases}
use Rattle.cq_cexpr.specs.Overflows.{ComesFrom}
use Rattle.cq_frac.specs.declared.Pair.{Pair}
use Rattle.cq_frac.specs.declared.VarId.{VarId}
use Rattle.cq_term.specs.Meaning.{HeapTerm}
use Rattle.cq_term.specs.Trees.{tree}
use Rattle.cq_term.specs.Places.{numbers_of}
use Rattle.cq_settle.specs.Contents.{Contents}
use Rattle.cq_settle.specs.Standing.{IsConstraint, constraints, is_constraint}
use Rattle.cq_settle.specs.Settled.{IsPruned, MayRefuse, MayTake}
use Rattle.cq_settle.specs.Steps.{JoinsAndBinds, CannotJoin, Refuses, Takes}
use Rattle.cq_settle.specs.Underway.{IsReached, IsHere, IsUnderway, GoesOn, OfEach, WaitsOrToDo, to_do, unified, numeric_then, bindings_now}
use Rattle.cq_settle.proofs.Composed.{together}
use Rattle.cq_settle.proofs.Here.{over_list, on_heap, operations_over_list}
use Rattle.cq_settle.proofs.Joined.{numbers_behind}
use Rattle.cq_settle.proofs.Permuted.{IsOnce}
use Rattle.cq_settle.proofs.Progress.{front_reads, front_numeric, front_done, front_waits, looked_on, binds_on}
use Rattle.cq_settle.proofs.Stops.{joins, false_prunes, row_prunes, row_refuses, row_takes, term_refuses}
use Rattle.cq_settle.proofs.Taken.{place, reads, numeric, split, taken}
use Rattle.cq_settle.proofs.Unique.{susp_under}
use Rattle.cq_settle.proofs.Zips.{contains_unfiltered}

-- ---- one term among those that are left

-- the heap's term is one of those that wait or are told
pub record IsTermOf (texts : List Text) (c : Contents) (st : State) (p : Pending) (u : Subst Text) (values : ℕ → Option ℚ) (left : List Tree) (id : ℕ) : Type 0 where
  pub before : List Tree
  pub term : Tree
  pub after : List Tree
  pub split : left ≡ before ++ term ∷ after
  pub reads : tree texts c.heap.terms id ≡ apply (bindings_now st u values) term
  pub numeric : (v : ℕ) → Occurs v (apply (unified st u) term) → numeric_then st p u v ≡ true

module _ (texts : List Text) (c : Contents) (solvable : Solvable c.told) (fixed : ℕ → Option ℚ) (fixes : Fixes c.told fixed) (id : ℕ) where
  module _ (older : List HeapTerm) (st : State) (p : Pending) (u : Subst Text) (values : ℕ → Option ℚ) (waiting later : List Tree) (rest numbers bound all : List ℕ)
      (k : IsUnderway texts older c st p u values waiting later rest numbers bound all) (t : IsTermOf texts c st p u values (waiting ++ later) id) where
    reached_there : IsReached st p u c.told (t.before ++ t.term ∷ t.after)
    reached_there = subst (λ (ts : List Tree). IsReached st p u c.told ts) t.split k.reached

    pub is_over : lin no_values (tree texts c.heap.terms id) ≡ lin fixed (apply (unified st u) t.term)
    is_over =
        on_heap texts older c st p u values waiting later rest numbers bound all k.here fixed fixes id t.term t.reads
        ∙ over_list texts older c st p u values waiting later rest numbers bound all k.here fixed fixes t.term t.numeric

    pub of_false : lin no_values (tree texts c.heap.terms id) ≡ False → IsPruned st p u
    of_false e = false_prunes st p u k.here.task c.told t.before t.after t.term reached_there solvable fixed fixes (sym is_over ∙ e)

    pub of_refusal : (pair : Pair) → ComesFrom (relation_operands no_values (tree texts c.heap.terms id)) pair → MayRefuse st p pair
    of_refusal pair h = term_refuses st p u k.here.task c.told t.before t.after t.term reached_there solvable fixed fixes pair
        (subst (λ ops. ComesFrom ops pair)
        (operations_over_list texts older c st p u values waiting later rest numbers bound all k.here fixed fixes id t.term t.reads t.numeric) h)

    module _ (row : Constraint) (e : lin no_values (tree texts c.heap.terms id) ≡ Is row) where
      pub of_join : IsReached st p u (c.told ++ row ∷ []) (t.before ++ t.after)
      of_join = joins st p u k.here.task c.told t.before t.after t.term reached_there solvable fixed fixes row (sym is_over ∙ e)

      pub of_none : CannotJoin c.told row → IsPruned st p u
      of_none = row_prunes st p u k.here.task c.told t.before t.after t.term reached_there solvable fixed fixes row (sym is_over ∙ e)

      pub of_overflow : (pair : Pair) → Refuses pair c.told row → MayRefuse st p pair
      of_overflow = row_refuses st p u k.here.task c.told t.before t.after t.term reached_there solvable fixed fixes row (sym is_over ∙ e)

      pub of_pivots : (n : ℕ) → Takes n c.told row → MayTake st p n
      of_pivots = row_takes st p u k.here.task c.told t.before t.after t.term reached_there solvable fixed fixes row (sym is_over ∙ e)

  -- ---- the told term in front

  abbrev front : (older : List HeapTerm) (st : State) (p : Pending) (u : Subst Text) (values : ℕ → Option ℚ) (waiting : List Tree) (t : Tree) (later : List Tree) (rest numbers bound all : List ℕ)
      → IsHere texts older c st p u values waiting (t ∷ later) (id ∷ rest) numbers bound all → IsTermOf texts c st p u values (waiting ++ t ∷ later) id
  front older st p u values waiting t later rest numbers bound all k = record {
    before = waiting;
    term = t;
    after = later;
    split = refl;
    reads = front_reads texts older st p u c values waiting later t id rest numbers bound all k;
    numeric = front_numeric texts older st p u c values waiting later t id rest numbers bound all k;
  }

  -- a fact of each settling that is underway, where the term in front gives it
  of_front : (all rest : List ℕ) (P : State → Pending → Subst Text → Type 0)
      → ((older : List HeapTerm) (st : State) (p : Pending) (u : Subst Text) (values : ℕ → Option ℚ) (waiting later : List Tree) (rest numbers bound all : List ℕ)
      → IsUnderway texts older c st p u values waiting later rest numbers bound all → IsTermOf texts c st p u values (waiting ++ later) id → P st p u)
      → OfEach texts c (to_do (id ∷ rest) [] all all) P
  of_front all rest P f st p u older values waiting [] k = let e = k.here.rest_reads in cc
  of_front all rest P f st p u older values waiting (t ∷ later) k =
      f older st p u values waiting (t ∷ later) (id ∷ rest) [] all all k (front older st p u values waiting t later rest [] all all k.here)

  pub front_false : lin no_values (tree texts c.heap.terms id) ≡ False → (all rest : List ℕ) → OfEach texts c (to_do (id ∷ rest) [] all all) IsPruned
  front_false e all rest = of_front all rest IsPruned (λ older st p u values waiting later rest numbers bound all k t. of_false older st p u values waiting later rest numbers bound all k t e)

  pub front_refusal : (pair : Pair) → ComesFrom (relation_operands no_values (tree texts c.heap.terms id)) pair → (all rest : List ℕ)
      → OfEach texts c (to_do (id ∷ rest) [] all all) (λ st p u. MayRefuse st p pair)
  front_refusal pair h all rest = of_front all rest (λ st p u. MayRefuse st p pair)
      (λ older st p u values waiting later rest numbers bound all k t. of_refusal older st p u values waiting later rest numbers bound all k t pair h)

  module _ (row : Constraint) (e : lin no_values (tree texts c.heap.terms id) ≡ Is row) where
    pub front_none : CannotJoin c.told row → (all rest : List ℕ) → OfEach texts c (to_do (id ∷ rest) [] all all) IsPruned
    front_none h all rest = of_front all rest IsPruned (λ older st p u values waiting later rest numbers bound all k t. of_none older st p u values waiting later rest numbers bound all k t row e h)

    pub front_overflow : (pair : Pair) → Refuses pair c.told row → (all rest : List ℕ) → OfEach texts c (to_do (id ∷ rest) [] all all) (λ st p u. MayRefuse st p pair)
    front_overflow pair h all rest = of_front all rest (λ st p u. MayRefuse st p pair)
        (λ older st p u values waiting later rest numbers bound all k t. of_overflow older st p u values waiting later rest numbers bound all k t row e pair h)

    pub front_pivots : (n : ℕ) → Takes n c.told row → (all rest : List ℕ) → OfEach texts c (to_do (id ∷ rest) [] all all) (λ st p u. MayTake st p n)
    front_pivots n h all rest = of_front all rest (λ st p u. MayTake st p n)
        (λ older st p u values waiting later rest numbers bound all k t. of_pivots older st p u values waiting later rest numbers bound all k t row e n h)

    pub front_joins : (d : Contents) (before after : List VarId) → JoinsAndBinds c row d before after → (rest : List ℕ)
        → GoesOn texts c d (to_do (id ∷ rest) [] (numbers_of before) (numbers_of before)) (to_do rest [] (numbers_of after) (numbers_of after))
    front_joins d before after j rest st p u older values waiting [] k = let e = k.here.rest_reads in cc
    front_joins d before after j rest st p u older values waiting (t ∷ later) k =
        let o = front older st p u values waiting t later rest [] (numbers_of before) (numbers_of before) k.here in (
          together values j.values,
          waiting,
          later,
          record {
            reached = subst (λ (l : List Constraint). IsReached st p u l (waiting ++ later)) (sym j.list)
                (of_join older st p u values waiting (t ∷ later) (id ∷ rest) [] (numbers_of before) (numbers_of before) k o row e);
            here = binds_on texts older st p u c d row before after j values waiting later rest [] (numbers_of before) (numbers_of after)
                (front_done texts older st p u c values waiting later t id rest [] (numbers_of before) (numbers_of before) k.here) (sums before after j) (new_sums before after j);
          },
        ) where
          sums : (before after : List VarId) (j : JoinsAndBinds c row d before after) (v : ℕ) → Contains (numbers_of before) v → Contains (numbers_of after) v
          sums before after j v h = subst (λ (vs : List VarId). Contains (numbers_of vs) v) (sym j.binds.list)
              (subst (λ (ns : List ℕ). Contains ns v) (sym (numbers_behind before j.binds.more)) (Contains-append_left (numbers_of before) (numbers_of j.binds.more) v h))

          new_sums : (before after : List VarId) (j : JoinsAndBinds c row d before after) (v : ℕ) → Contains (numbers_of j.binds.more) v → Contains (numbers_of after) v
          new_sums before after j v h = subst (λ (vs : List VarId). Contains (numbers_of vs) v) (sym j.binds.list)
              (subst (λ (ns : List ℕ). Contains ns v) (sym (numbers_behind before j.binds.more)) (Contains-append_right (numbers_of before) (numbers_of j.binds.more) v h))

  pub front_suspends : lin no_values (tree texts c.heap.terms id) ≡ Waits → (vs : List ℕ) → ((v : ℕ) → Occurs v (tree texts c.heap.terms id) → Contains vs v) → (all rest : List ℕ)
      → GoesOn texts c (record c { attrs = suspended c.attrs vs (susp.Delayed id) }) (to_do (id ∷ rest) [] all all) (to_do rest [] all all)
  front_suspends e vs w all rest st p u older values waiting [] k = let e = k.here.rest_reads in cc
  front_suspends e vs w all rest st p u older values waiting (t ∷ later) k =
      let o = front older st p u values waiting t later rest [] all all k.here in
      let waits : lin values (apply (unified st u) t) ≡ Waits =
      sym (on_heap texts older c st p u values waiting (t ∷ later) (id ∷ rest) [] all all k.here fixed fixes id t o.reads) ∙ e in (
        values,
        waiting ++ t ∷ [],
        later,
        record {
          reached = subst (λ (ts : List Tree). IsReached st p u c.told ts) (sym (append_assoc waiting (t ∷ []) later)) k.reached;
          here = front_waits texts older st p u c values waiting later t id rest [] all all k.here vs waits w;
        },
      )

  -- ---- the term that waits under a number

  module _ (n : ℕ) (once : IsOnce (numbers c.attrs.waiting)) (found : find c.attrs.waiting n ≡ Some (susp.Delayed id)) where
    abbrev under : (older : List HeapTerm) (st : State) (p : Pending) (u : Subst Text) (values : ℕ → Option ℚ) (waiting later : List Tree) (rest ns bound all : List ℕ)
        → IsHere texts older c st p u values waiting later rest (n ∷ ns) bound all → IsTermOf texts c st p u values (waiting ++ later) id
    under older st p u values waiting later rest ns bound all k =
        let q = place texts older c st p u values waiting later rest ns bound all n id k once found in
        record {
          before = q.before;
          term = q.partner;
          after = q.after ++ later;
          split = split texts older c st p u values waiting later rest ns bound all n id k once found;
          reads = reads texts older c st p u values waiting later rest ns bound all n id k once found;
          numeric = numeric texts older c st p u values waiting later rest ns bound all n id k once found;
        }

    of_under : (ns bound all : List ℕ) (P : State → Pending → Subst Text → Type 0)
        → ((older : List HeapTerm) (st : State) (p : Pending) (u : Subst Text) (values : ℕ → Option ℚ) (waiting later : List Tree) (rest numbers bound all : List ℕ)
        → IsUnderway texts older c st p u values waiting later rest numbers bound all → IsTermOf texts c st p u values (waiting ++ later) id → P st p u)
        → OfEach texts c (to_do [] (n ∷ ns) bound all) P
    of_under ns bound all P f st p u older values waiting later k =
        f older st p u values waiting later [] (n ∷ ns) bound all k (under older st p u values waiting later [] ns bound all k.here)

    pub under_false : lin no_values (tree texts c.heap.terms id) ≡ False → (all ns bound : List ℕ) → OfEach texts c (to_do [] (n ∷ ns) bound all) IsPruned
    under_false e all ns bound = of_under ns bound all IsPruned (λ older st p u values waiting later rest numbers bound all k t. of_false older st p u values waiting later rest numbers bound all k t e)

    pub under_refusal : (pair : Pair) → ComesFrom (relation_operands no_values (tree texts c.heap.terms id)) pair → (all ns bound : List ℕ)
        → OfEach texts c (to_do [] (n ∷ ns) bound all) (λ st p u. MayRefuse st p pair)
    under_refusal pair h all ns bound = of_under ns bound all (λ st p u. MayRefuse st p pair)
        (λ older st p u values waiting later rest numbers bound all k t. of_refusal older st p u values waiting later rest numbers bound all k t pair h)

    module _ (row : Constraint) (e : lin no_values (tree texts c.heap.terms id) ≡ Is row) where
      pub under_none : CannotJoin c.told row → (all ns bound : List ℕ) → OfEach texts c (to_do [] (n ∷ ns) bound all) IsPruned
      under_none h all ns bound = of_under ns bound all IsPruned (λ older st p u values waiting later rest numbers bound all k t. of_none older st p u values waiting later rest numbers bound all k t row e h)

      pub under_overflow : (pair : Pair) → Refuses pair c.told row → (all ns bound : List ℕ) → OfEach texts c (to_do [] (n ∷ ns) bound all) (λ st p u. MayRefuse st p pair)
      under_overflow pair h all ns bound = of_under ns bound all (λ st p u. MayRefuse st p pair)
          (λ older st p u values waiting later rest numbers bound all k t. of_overflow older st p u values waiting later rest numbers bound all k t row e pair h)

      pub under_pivots : (m : ℕ) → Takes m c.told row → (all ns bound : List ℕ) → OfEach texts c (to_do [] (n ∷ ns) bound all) (λ st p u. MayTake st p m)
      under_pivots m h all ns bound = of_under ns bound all (λ st p u. MayTake st p m)
          (λ older st p u values waiting later rest numbers bound all k t. of_pivots older st p u values waiting later rest numbers bound all k t row e m h)

      pub under_joins : (a : Attributes) → a ≡ without c.attrs n → (d : Contents) (before after more : List VarId) (j : JoinsAndBinds (record c { attrs = a }) row d before after)
          → j.binds.more ≡ more → (ns bound : List ℕ)
          → GoesOn texts c d (to_do [] (n ∷ ns) bound (numbers_of before)) (to_do [] ns (bound ++ numbers_of more) (numbers_of after))
      under_joins a i d before after more j m ns bound st p u older values waiting later k =
          let o = under older st p u values waiting later [] ns bound (numbers_of before) k.here in
          let q = place texts older c st p u values waiting later [] ns bound (numbers_of before) n id k.here once found in
          let t = taken texts older c st p u values waiting later [] ns bound (numbers_of before) n id k.here once found in (
            together values j.values,
            q.before ++ q.after,
            later,
            record {
              reached = subst (λ (l : List Constraint). IsReached st p u l ((q.before ++ q.after) ++ later)) (sym j.list)
                  (subst (λ (ts : List Tree). IsReached st p u (c.told ++ row ∷ []) ts) (sym (append_assoc q.before q.after later))
                  (of_join older st p u values waiting later [] (n ∷ ns) bound (numbers_of before) k o row e));
              here = binds_on texts older st p u (record c { attrs = a }) d row before after j values (q.before ++ q.after) later [] ns bound (bound ++ numbers_of more)
                  (subst (λ (x : Attributes). IsHere texts older (record c { attrs = x }) st p u values (q.before ++ q.after) later [] ns bound (numbers_of before)) (sym i) t)
                  (λ v h. Contains-append_left bound (numbers_of more) v h)
                  (λ v h. Contains-append_right bound (numbers_of more) v (subst (λ (vs : List VarId). Contains (numbers_of vs) v) m h));
            },
          )

    -- it waits on
    pub under_waits : lin no_values (tree texts c.heap.terms id) ≡ Waits → (all ns bound : List ℕ) → GoesOn texts c c (to_do [] (n ∷ ns) bound all) (to_do [] ns bound all)
    under_waits e all ns bound st p u older values waiting later k = (
      values,
      waiting,
      later,
      record { reached = k.reached; here = looked_on texts older st p u c values waiting later [] (n ∷ ns) bound ns bound all k.here on },
    ) where
      here_waits : (w : Waiting) (t : Tree) → Contains (constraints c.attrs) w → IsConstraint texts c.heap (bindings_now st u values) (bindings_now st u values) w t
          → w.number ≡ n → lin values (apply (unified st u) t) ≡ Waits
      here_waits w t h s i =
          let d : susp.Delayed s.id ≡ susp.Delayed id =
          sym s.susp ∙ susp_under c.attrs.waiting n (susp.Delayed id) w once found (contains_unfiltered (λ (w : Waiting). is_constraint w.susp) c.attrs.waiting w h) i in
          let same : s.id ≡ id = cc in
          sym (on_heap texts older c st p u values waiting later [] (n ∷ ns) bound all k.here fixed fixes id t
          (subst (λ (x : ℕ). tree texts c.heap.terms x ≡ apply (bindings_now st u values) t) same s.reads)) ∙ e

      on : (w : Waiting) (t : Tree) → Contains (constraints c.attrs) w → IsConstraint texts c.heap (bindings_now st u values) (bindings_now st u values) w t
          → WaitsOrToDo (unified st u) values (n ∷ ns) bound w t → WaitsOrToDo (unified st u) values ns bound w t
      on w t h s (inl i) = inl i
      on w t h s (inr (inr m)) = inr (inr m)
      on w t h s (inr (inl m)) = elim (contains_cases n ns w.number m) [ inl i ↦ inl (here_waits w t h s (sym i)) | inr r ↦ inr (inl r) ]
