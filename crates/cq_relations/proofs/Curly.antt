-- {C}, as the relations that are told or the two goals that it becomes.
use Rattle.std.proofs.Common.{◌≡◌, ℕ, List, [], ◌∷◌, Option, None, Some, sym, ap, ◌∙◌, subst}
use Rattle.spec_numbers.specs.Prefixes.{IsPrefix}
use Rattle.spec_numbers.specs.Texts.{Text}
use Rattle.spec_syntax.specs.Trees.{Tree}
use Rattle.spec_builtins.specs.Built.{compound1}
use Rattle.spec_branch.specs.Branch.{State, Branch, Pending, read}
use Rattle.spec_search.specs.Constraints.{curly_row, tell_or_split, told_child}
use Rattle.spec_search.specs.Control.{or_row}
use Rattle.spec_search.specs.Replies.{Place, Reply, makes, unless_error}
use Rattle.spec_branch.specs.Checks.{constraint_error, members, halves}
use Rattle.cq_frac.specs.declared.Pair.{Pair}
use Rattle.cq_goals.specs.declared.faults.GoalFault.{GoalFault}
use Rattle.cq_store.specs.declared.store.StoreFault.{StoreFault}
use Rattle.cq_store.specs.declared.store.StoreFault.TheVariants as store
use Rattle.cq_settle.specs.Ready.{MayBeTold}
use Rattle.cq_settle.specs.Settled.{MayRefuse, MayTake}
use Rattle.cq_term.specs.HeapValue.{Terms}
use Rattle.cq_term.specs.Trees.{tree, trees, KnowsTerms}
use Rattle.cq_settle.specs.Contents.{Contents}
use Rattle.cq_settle.specs.Rest.{IsReadyAs}
use Rattle.spec_engine.specs.declared.machine.cell.Cell.{Cell}
use Rattle.spec_engine.specs.Cells.{Value, Stack}
use Rattle.cq_branch.specs.Worlds.{IsBranch, with_heap, ReadsAs, Placed, Selected, Leads, Grown}
use Rattle.cq_branch.proofs.Added.{reads_tree}
use Rattle.cq_branch.proofs.Disjunctions.{term_there}
use Rattle.cq_branch.specs.declared.begin.beginning.Begun.{Begun}
use Rattle.cq_branch.specs.Begun.{goes_to, told_work, AtPlaces}
use Rattle.cq_relations.specs.declared.faults.RelationFault.TheVariants as fault
use Rattle.cq_relations.specs.Faults.{IsRefused, Explains}
use Rattle.cq_relations.specs.Goals.{AtGoals, OverChoices, AreGoals}
use Rattle.cq_relations.proofs.Equating.{stopped_by}
use Rattle.cq_relations.proofs.Growing.{ready_grown, grown_terms, placed_grown, selected_grown}

-- ---- rows

module _ (p : Place) (c : Tree) (lawful : constraint_error c ≡ None) where
  tells : (ts : List Tree) → halves c ≡ None → ts ≡ members c → curly_row p c ≡ makes p (told_child p ts ∷ [])
  tells ts whole same =
      ap (λ (e : Option Tree). unless_error e (tell_or_split p c (halves c))) lawful ∙ ap (tell_or_split p c) whole
      ∙ ap (λ (us : List Tree). makes p (told_child p us ∷ [])) (sym same)

  splits : (left right : Tree) → halves c ≡ Some (record { left = left; right = right }) → curly_row p c ≡ or_row p (compound1 "{}" left) (compound1 "{}" right)
  splits left right both = ap (λ (e : Option Tree). unless_error e (tell_or_split p c (halves c))) lawful ∙ ap (tell_or_split p c) both

-- ---- relations that are told

module _ (texts : List Text) (c : Contents) (h : Terms) (lists : List (List Cell)) (terms : IsPrefix c.heap.terms h.terms) (images : h.images ≡ c.heap.images) (names : KnowsTerms texts h.terms)
    (constraint rest : ℕ) (lawful : constraint_error (tree texts c.heap.terms constraint) ≡ None) (ids : List ℕ)
    (told : (halves (tree texts c.heap.terms constraint) ≡ None) × (trees texts h.terms ids ≡ members (tree texts c.heap.terms constraint))) where
  abbrev mid : Value Contents
  mid = (with_heap h c, lists)

  abbrev work : Pending
  work = told_work (trees texts h.terms ids)

  row_is : (p : Place) (t : Tree) → ReadsAs texts c p.state constraint t → curly_row p t ≡ makes p (told_child p (trees texts h.terms ids) ∷ [])
  row_is p t r =
      subst (λ (u : Tree). curly_row p u ≡ makes p (told_child p (trees texts h.terms ids) ∷ [])) (reads_tree texts c p.state constraint t r)
      (tells p (tree texts c.heap.terms constraint) lawful (trees texts h.terms ids) told.0 told.1)

  pub told_leads : (new : Value Contents) (b : Begun)
      → ((choices : Stack Contents) (p : Place) (behind : List Branch) → Placed texts choices mid rest p behind
      → Leads texts choices new (goes_to b) p behind (makes p (told_child p (trees texts h.terms ids) ∷ [])))
      → AtGoals texts (c, lists) constraint rest (λ choices p behind t. Leads texts choices new (goes_to b) p behind (curly_row p t))
  told_leads new b row = λ choices p behind t place r.
      subst (Leads texts choices new (goes_to b) p behind) (sym (row_is p t r))
      (row choices p behind (placed_grown texts choices (c, lists) mid (grown_terms texts c h terms images names lists) p behind rest place))

  pub told_stops : (n : ℕ) (f : StoreFault) → ((pair : Pair) → f ≡ store.Overflow pair → AtPlaces texts mid rest (λ st. MayRefuse st work pair))
      → ((k : ℕ) → f ≡ store.Pivots k → (k ≡ n) × AtPlaces texts mid rest (λ st. MayTake st work k))
      → AtGoals texts (c, lists) constraint rest (λ choices p behind t. Explains texts c.heap.terms n (fault.Settling f) p (curly_row p t))
  told_stops n f refuses takes = λ choices p behind t place r.
      let there = placed_grown texts choices (c, lists) mid (grown_terms texts c h terms images names lists) p behind rest place in
      stopped_by n f p (curly_row p t) work (row_is p t r) (λ pair q. refuses pair q choices p behind there) (λ k q. (let t = takes k q in (t.0, t.1 choices p behind there)))

-- ---- two goals

module _ (texts : List Text) (c : Contents) (h later : Terms) (lists : List (List Cell)) (terms : IsPrefix c.heap.terms later.terms) (images : later.images ≡ c.heap.images)
    (names : KnowsTerms texts later.terms) (left right : ℕ) (goals : ℕ × ℕ) (g : AreGoals texts h later left right goals)
    (through : (st : State) (id : ℕ) → IsReadyAs texts (with_heap later c) st → MayBeTold later id → read st (tree texts later.terms id) ≡ tree texts later.terms id) where
  goal_reads : (st : State) → IsBranch texts c st → (id : ℕ) (t : Tree) → MayBeTold later id → tree texts later.terms id ≡ t → ReadsAs texts (with_heap later c) st id t
  goal_reads st b id t m e = (
    term_there texts later.terms id m.live ∙ ap (λ (u : Tree). Some u) e,
    subst (λ (u : Tree). read st u ≡ u) e (through st id (ready_grown texts c later terms images names st b.ready) m),
  )

  pub split_leads : (constraint height rest : ℕ) → constraint_error (tree texts c.heap.terms constraint) ≡ None
      → halves (tree texts c.heap.terms constraint) ≡ Some (record { left = tree texts h.terms left; right = tree texts h.terms right })
      → (choices after : Stack Contents) (new : Value Contents) (k : ℕ)
      → ((p : Place) (behind : List Branch) (a b : Tree) → Selected texts choices (with_heap later c, lists) height rest p behind
      → ReadsAs texts (with_heap later c) p.state goals.0 a → ReadsAs texts (with_heap later c) p.state goals.1 b → Leads texts after new (Some k) p behind (or_row p a b))
      → OverChoices texts choices (c, lists) constraint height rest (λ p behind t. Leads texts after new (Some k) p behind (curly_row p t))
  split_leads constraint height rest lawful both choices after new k row = λ p behind t s r.
      let first = compound1 "{}" (tree texts h.terms left) in
      let second = compound1 "{}" (tree texts h.terms right) in
      let state = s.place.continuation.state in
      let is : curly_row p t ≡ or_row p first second =
      ap (curly_row p) (sym (reads_tree texts c p.state constraint t r))
      ∙ splits p (tree texts c.heap.terms constraint) lawful (tree texts h.terms left) (tree texts h.terms right) both in
      subst (Leads texts after new (Some k) p behind) (sym is)
      (row p behind first second
      (selected_grown texts choices (c, lists) (with_heap later c, lists) (grown_terms texts c later terms images names lists) p behind height rest s)
      (goal_reads p.state state goals.0 first g.first_read g.first) (goal_reads p.state state goals.1 second g.second_read g.second))

-- ---- faults

-- the constraint has an error
pub refused_at : (texts : List Text) (c : Contents) (lists : List (List Cell)) (constraint rest n : ℕ) (f : GoalFault)
    → ((reply : Reply) → IsRefused texts c.heap.terms f (unless_error (constraint_error (tree texts c.heap.terms constraint)) reply))
    → AtGoals texts (c, lists) constraint rest (λ choices p behind t. Explains texts c.heap.terms n (fault.Goal f) p (curly_row p t))
refused_at texts c lists constraint rest n f refused = λ choices p behind t place r.
    subst (λ (u : Tree). IsRefused texts c.heap.terms f (curly_row p u)) (reads_tree texts c p.state constraint t r)
    (let u = tree texts c.heap.terms constraint in refused (tell_or_split p u (halves u)))
