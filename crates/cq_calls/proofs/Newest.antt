-- The newest choice, which is of a call, as its clauses are tried.
use Rattle.std.proofs.Common.{◌≡◌, inl, inr, ℕ, ◌<◌, List, [], ◌∷◌, length, None, Some, refl, sym, ap, ◌∙◌, subst, map, arith}
use Rattle.std.specs.Prelude.{slice_get}
use Rattle.std.specs.List.{AllByRecursion}
use Rattle.std.proofs.lemmas.List.{length-map}
use Rattle.spec_numbers.specs.Texts.{Text}
use Rattle.spec_search.specs.Database.{Database, Clause}
use Rattle.spec_search.specs.Search.{Search}
use Rattle.cq_clauses.specs.Walks.{IsWalk}
use Rattle.cq_clauses.specs.declared.walk.Walk.{Walk}
use Rattle.cq_control.specs.Open.{open_choices}
use Rattle.cq_frac.specs.declared.Pair.{Pair}
use Rattle.cq_store.specs.declared.store.StoreFault.{StoreFault}
use Rattle.cq_store.specs.declared.store.StoreFault.TheVariants as fault
use Rattle.cq_resolve.specs.Database.{Program, as_clause, as_parts}
use Rattle.cq_settle.specs.Settled.{MayRefuse, MayTake}
use Rattle.cq_resolve.specs.StoredValue.{ClauseValue}
use Rattle.cq_settle.specs.Contents.{Contents}
use Rattle.cq_settle.specs.Rest.{IsReady}
use Rattle.spec_engine.specs.Cells.{Clauses, Stack, Value}
use Rattle.spec_engine.specs.Coming.{Comes}
use Rattle.spec_engine.specs.Standing.{engine, IsStanding}
use Rattle.cq_branch.specs.Choices.{AreOpen, CanBeTried}
use Rattle.cq_branch.specs.Worlds.{IsBranch, term_in, Stands, Arrives, Grown, stack, left_at}
use Rattle.cq_branch.specs.declared.alternatives.Alternatives.{Alternatives}
use Rattle.cq_branch.specs.declared.alternatives.Alternatives.TheVariants as alternatives
use Rattle.cq_branch.proofs.Arrived.{comes_at_once}
use Rattle.cq_branch.specs.declared.begin.beginning.Begun.{Begun}
use Rattle.cq_branch.specs.Begun.{goes_to}
use Rattle.cq_branch.specs.BeginCalls.{ClauseComes, OfClause}
use Rattle.cq_branch.specs.Stops.{FaultStops, waiting_in}
use Rattle.cq_calls.specs.Calling.{numbers_left}
use Rattle.cq_calls.proofs.Left.{Opened, AreLeft, content_is, none_left}
use Rattle.cq_calls.proofs.Turns.{ComesBackTo, ready, goal_there, rest_there, comes_with_others, comes_without, refused, taken, came_past}

-- ---- the searches for which the engine stands

module _ (texts : List Text) (v : Program) (saved : List (Value Contents)) (choices : List Alternatives) (now w : Value Contents) (t k : ℕ) (walk : Walk) (others : Opened)
    (was : open_choices saved choices ≡ (w, alternatives.Clauses t walk k) ∷ others) where
  abbrev older : Stack Contents
  older = map (left_at texts v) others

  abbrev clauses : List ℕ → List Clause
  clauses ns = map (as_clause texts v.contents) ns

  stack_was : (ns : List ℕ) → numbers_left v walk ≡ ns → stack texts v saved choices ≡ (w, Clauses t (clauses ns) k) ∷ older
  stack_was ns e = ap (map (left_at texts v)) was ∙ ap (λ (ms : List ℕ). (w, Clauses t (clauses ms) k) ∷ older) e

  module _ (db : Database) (m : ℕ) (s : Search) where
    -- it comes back to a choice that has these clauses to try
    pub comes_back_to : (ns : List ℕ) → numbers_left v walk ≡ ns → Stands texts v db m saved choices now None s → ComesBackTo texts db m s older now w t k (clauses ns)
    comes_back_to ns e j = subst (λ st. IsStanding (IsBranch texts) (term_in texts) (engine db m st now None) s) (stack_was ns e) j

    -- with none left the choice is gone
    pub arrives_past : (fewer : List (Value Contents)) (after : List Alternatives) (later : Value Contents) (steps : ℕ) → numbers_left v walk ≡ []
        → open_choices fewer after ≡ others → Stands texts v db m saved choices now None s → Arrives steps texts v db m fewer after later None s
    arrives_past fewer after later steps none same j =
        comes_at_once (IsBranch texts) (term_in texts) steps _ s
        (subst (λ st. IsStanding (IsBranch texts) (term_in texts) (engine db m st later None) s) (sym (ap (map (left_at texts v)) same))
        (came_past texts db m s older now w t k (comes_back_to [] none j) later))

  -- ---- the next clause is begun

  module _ (rest : Walk) (n : ℕ) (next : numbers_left v walk ≡ n ∷ numbers_left v rest) where
    abbrev first : Clause
    first = as_clause texts v.contents n

    abbrev others_left : List Clause
    others_left = clauses (numbers_left v rest)

    module _ (db : Database) (m : ℕ) (s : Search) (j : Stands texts v db m saved choices now None s) where
      abbrev back : ComesBackTo texts db m s older now w t k (first ∷ others_left)
      back = comes_back_to db m s (n ∷ numbers_left v rest) next j

      -- the world is ready for it
      pub begins_ready : IsReady texts w.0
      begins_ready = ready texts db m s older now w t k first others_left back

      pub begins_goal : t < length w.0.heap.terms
      begins_goal = goal_there texts db m s older now w t k first others_left back

      pub begins_rest : k < length w.1
      begins_rest = rest_there texts db m s older now w t k first others_left back

      module _ (cur : Value Contents) (grown : Grown texts w cur) (kept : ClauseValue) (got : slice_get v.contents n ≡ Some kept) (height : ℕ) (high : height ≡ length others) where
        parts : first.parts ≡ as_parts texts kept
        parts = content_is texts v n kept got

        high_stack : height ≡ length older
        high_stack = high ∙ sym (length-map others (left_at texts v))

        -- what becomes of it, with the choices that are left
        module _ (new later : Value Contents) (same : later ≡ new) (b : Begun) (comes : ClauseComes texts cur new t height k kept b) (fewer : List (Value Contents))
            (after : List Alternatives) (steps : ℕ) where
          abbrev Came : Stack Contents → Type 0
          Came st = Comes (IsBranch texts) (term_in texts) steps (engine db m st later (goes_to b)) s

          abbrev came_later : (st : Stack Contents) → Comes (IsBranch texts) (term_in texts) steps (engine db m st new (goes_to b)) s → Came st
          came_later st a = subst (λ (x : Value Contents). Comes (IsBranch texts) (term_in texts) steps (engine db m st x (goes_to b)) s) (sym same) a

          pub arrives_left : AreLeft (alternatives.Clauses t rest k) rest w others (open_choices fewer after) → Arrives steps texts v db m fewer after later (goes_to b) s
          arrives_left (inl l) =
              subst Came (sym (ap (map (left_at texts v)) l.1))
              (came_later older (comes_without texts db m s older now w t k first others_left back cur grown height high_stack kept parts new b comes steps
              (ap clauses (none_left v rest l.0))))
          arrives_left (inr e) =
              subst Came (sym (ap (map (left_at texts v)) e))
              (came_later ((w, Clauses t others_left k) ∷ older) (comes_with_others texts db m s older now w t k first others_left back cur grown height high_stack kept parts new b comes steps))

        -- why the query stops while it is settled
        pub fault_stops : (why : StoreFault) (budget pivots : ℕ) → budget ≡ pivots
            → ((pair : Pair) → why ≡ fault.Overflow pair → OfClause texts cur t height k kept (λ st p. MayRefuse st p pair))
            → ((x : ℕ) → why ≡ fault.Pivots x → (x ≡ budget) × OfClause texts cur t height k kept (λ st p. MayTake st p x)) → FaultStops pivots why s
        fault_stops (fault.Overflow pair) budget pivots e o q = λ budgets b.
            refused texts db m s older now w t k first others_left back cur grown height high_stack kept parts pair (o pair refl) budgets
        fault_stops (fault.Pivots x) budget pivots e o q = λ budgets b.
            taken texts db m s older now w t k first others_left back cur grown height high_stack kept parts x (q x refl).1 budgets (b ∙ sym e ∙ sym (q x refl).0)
        fault_stops fault.NoMemory budget pivots e o q = tt

    -- fewer branches and choices wait
    pub fewer_wait : (fewer : List (Value Contents)) (after : List Alternatives) → AreLeft (alternatives.Clauses t rest k) rest w others (open_choices fewer after)
        → waiting_in (stack texts v fewer after) < waiting_in (stack texts v saved choices)
    fewer_wait fewer after (inl l) =
        let old = ap waiting_in (stack_was (n ∷ numbers_left v rest) next) in
        let new = ap (λ (o : Opened). waiting_in (map (left_at texts v) o)) l.1 in
        omega (arith, old, new)
    fewer_wait fewer after (inr e) =
        let old = ap waiting_in (stack_was (n ∷ numbers_left v rest) next) in
        let new = ap (λ (o : Opened). waiting_in (map (left_at texts v) o)) e in
        omega (arith, old, new)

  pub fewer_past : (fewer : List (Value Contents)) (after : List Alternatives) → numbers_left v walk ≡ [] → open_choices fewer after ≡ others
      → waiting_in (stack texts v fewer after) < waiting_in (stack texts v saved choices)
  fewer_past fewer after none same =
      let old = ap waiting_in (stack_was [] none) in
      let new = ap (λ (o : Opened). waiting_in (map (left_at texts v) o)) same in
      omega (arith, old, new)

  -- ---- the choices that are open

  abbrev Each : Opened → Type 0
  Each o = AllByRecursion (λ (c : Value Contents × Alternatives). CanBeTried texts v c.0.0.heap.terms c.1) o

  pub is_walk : AreOpen texts v saved choices → IsWalk walk v
  is_walk a = (subst Each was a).0

  pub open_left : (fewer : List (Value Contents)) (after : List Alternatives) (rest : Walk) → IsWalk rest v → AreOpen texts v saved choices
      → AreLeft (alternatives.Clauses t rest k) rest w others (open_choices fewer after) → AreOpen texts v fewer after
  open_left fewer after rest i a (inl l) = subst Each (sym l.1) (subst Each was a).1
  open_left fewer after rest i a (inr e) = subst Each (sym e) (i, (subst Each was a).1)

  pub open_past : (fewer : List (Value Contents)) (after : List Alternatives) → AreOpen texts v saved choices → open_choices fewer after ≡ others → AreOpen texts v fewer after
  open_past fewer after a e = subst Each (sym e) (subst Each was a).1
