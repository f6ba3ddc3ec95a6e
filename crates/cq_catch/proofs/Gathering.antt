-- What an engine comes to from a findall that has gathered.
use Rattle.std.proofs.Common.{inl, ◌≡◌, ◌<◌, ℕ, List, [], ◌∷◌, length, map, Option, None, Some, refl, sym, ap, ◌∙◌, subst}
use Rattle.std.specs.Prelude.{All}
use Rattle.spec_numbers.specs.Prefixes.{IsPrefix}
use Rattle.spec_numbers.proofs.Prefixes.{prefix_same}
use Rattle.spec_numbers.specs.Texts.{Text}
use Rattle.spec_branch.specs.Branch.{State, Pending}
use Rattle.spec_search.specs.Database.{Database}
use Rattle.spec_search.specs.Replies.{landed}
use Rattle.spec_search.specs.Search.{Search, is_selecting}
use Rattle.spec_search.specs.Turns.{with_branches}
use Rattle.spec_transcript.specs.Causes.{Budgets, Cause}
use Rattle.spec_transcript.specs.Causes as cause
use Rattle.spec_transcript.specs.Due.{Due}
use Rattle.cq_branch.specs.Begun.{Prunes}
use Rattle.cq_branch.specs.Stops.{FaultStops}
use Rattle.cq_branch.proofs.Back.{fault_after}
use Rattle.cq_branch.proofs.Stopping.{refuses, takes}
use Rattle.cq_control.specs.Open.{open_choices}
use Rattle.cq_frac.specs.declared.Pair.{Pair}
use Rattle.cq_store.specs.declared.store.StoreFault.{StoreFault}
use Rattle.cq_store.specs.declared.store.StoreFault.TheVariants.{Overflow, Pivots, NoMemory}
use Rattle.cq_resolve.specs.Database.{Program}
use Rattle.cq_settle.specs.Settled.{MayRefuse, MayTake}
use Rattle.cq_resolve.specs.StoredValue.{StoredValue}
use Rattle.cq_settle.specs.Contents.{Contents}
use Rattle.spec_engine.specs.Cells.{Gathers, Value, Stack}
use Rattle.spec_engine.specs.Standing.{engine, IsStanding}
use Rattle.spec_engine.specs.Coming.{Quietly, at_once, Comes, Tells, Stops}
use Rattle.spec_engine.specs.Coming as coming
use Rattle.spec_engine.specs.Trying.{MakesList, list_work}
use Rattle.spec_engine.proofs.Gathered.{list_begun}
use Rattle.spec_engine.proofs.Made.{child_kept, child_pruned}
use Rattle.cq_branch.specs.declared.alternatives.Alternatives.{Alternatives}
use Rattle.cq_branch.specs.declared.alternatives.Alternatives.TheVariants as alternatives
use Rattle.cq_branch.specs.Stored.{IsCountedTerm, stored_trees}
use Rattle.cq_branch.specs.Worlds.{IsBranch, term_in, left_at, Stands}
use Rattle.cq_branch.proofs.Arrived.{quietly_on}
use Rattle.cq_branch.proofs.Branches.{branches_rest}
use Rattle.cq_branch.proofs.Reading.{read_live}
use Rattle.cq_choices.specs.Held.{Held, IsOver, StaysOver, AreNamedByTerms, open_of}
use Rattle.cq_choices.specs.Trying.{IsSearching, ComesOver, StopsOver}
use Rattle.cq_choices.proofs.Ending.{Open, over_with, over_same, comes_same, comes_then, stays_then, stops_then}
use Rattle.cq_catch.specs.Listing.{ListGoes, OfList}

module _ (old : Held) (start : Value Contents) (third : ℕ) (copies : List StoredValue) (rest : ℕ) (older : List (Value Contents × Alternatives))
    (was : open_of old ≡ (start, alternatives.Gathers third copies rest) ∷ older) where
  -- the older choices as the definitions see them
  abbrev below : Program → Stack Contents
  below v = map (left_at old.texts v) older

  module _ (v : Program) (db : Database) (n : ℕ) (t : Search) (j : Stands old.texts v db n old.saved old.choices old.now None t) where
    stands_there : IsStanding (IsBranch old.texts) (term_in old.texts) (engine db n ((start, Gathers third (stored_trees old.texts copies) rest) ∷ below v) old.now None) t
    stands_there = subst (λ (xs : List (Value Contents × Alternatives)). IsStanding (IsBranch old.texts) (term_in old.texts) (engine db n (map (left_at old.texts v) xs) old.now None) t) was j

    abbrev Makes : Search → Type 0
    Makes r = MakesList (IsBranch old.texts) (term_in old.texts) (below v) start third (stored_trees old.texts copies) rest r

    making : (steps : ℕ) → (r : Search) × Quietly steps t r × (r.database ≡ db) × (r.selected ≡ n) × Makes r
    making steps =
        list_begun (IsBranch old.texts) (term_in old.texts) db n (below v) start old.now t steps third (stored_trees old.texts copies) rest (branches_rest old.texts) stands_there

    of_it : (r : Search) (m : Makes r) (P : State → Pending → Type 0) → OfList old.texts start.0 third copies P
        → P (landed m.state m.copies).state (list_work m.list (landed m.state m.copies))
    of_it r m P q = q m.state m.copies m.list m.continuation.state.ready m.are_stored m.reads

    -- ---- it is kept, or pruned

    abbrev Arrived : ℕ → Value Contents → Option ℕ → Search → Type 0
    Arrived steps now current r = Comes (IsBranch old.texts) (term_in old.texts) steps (engine db n (below v) now current) r

    first_quiet : (steps : ℕ) (now : Value Contents) (current : Option ℕ) (r : Search) → Quietly steps t r → Arrived steps now current r → Arrived steps now current t
    first_quiet steps now current r q d = record { reached = d.reached; quiet = quietly_on q d.quiet; stands = d.stands }

    kept : (steps k : ℕ) (now : Value Contents) → ListGoes old.texts start now third copies rest k → Arrived steps now (Some k) t
    kept steps k now goes =
        let begun = making steps in
        let m = begun.4 in
        let b = goes (below v) m.items m.state m.copies m.list m.continuation m.are_stored m.reads in
        first_quiet steps now (Some k) begun.0 begun.1
        (child_kept (IsBranch old.texts) (term_in old.texts) steps db n (below v) now k begun.0 m.items (landed m.state m.copies).state (list_work m.list (landed m.state m.copies)) m.behind
        begun.2 begun.3 m.look refl b.left b.state b.settles b.continuation m.waiting)

    pruned : (steps : ℕ) (now : Value Contents) → OfList old.texts start.0 third copies Prunes → Arrived steps now None t
    pruned steps now prunes =
        let begun = making steps in
        let m = begun.4 in
        let q = of_it begun.0 m Prunes prunes in
        first_quiet steps now None begun.0 begun.1
        (child_pruned (IsBranch old.texts) (term_in old.texts) steps db n (below v) now begun.0 m.items (landed m.state m.copies).state (list_work m.list (landed m.state m.copies)) m.behind
        begun.2 begun.3 m.look refl q.0 (q.1 m.items) m.waiting)

    -- ---- the query stops

    module _ (r : Search) (m : Makes r) where
      abbrev su : State
      su = (landed m.state m.copies).state

      abbrev p : Pending
      p = list_work m.list (landed m.state m.copies)

      stops_there : (budgets : Budgets) (cause : Cause) → Due budgets None r cause → Tells budgets r (Stops cause) (with_branches [] r)
      stops_there budgets cause d = coming.stops at_once (coming.stops (inl (ap is_selecting m.look)) d)

      stopped : (pivots : ℕ) (fault : StoreFault) → ((pair : Pair) → fault ≡ Overflow pair → OfList old.texts start.0 third copies (λ st q. MayRefuse st q pair))
          → ((i : ℕ) → fault ≡ Pivots i → (i ≡ pivots) × OfList old.texts start.0 third copies (λ st q. MayTake st q i)) → FaultStops pivots fault r
      stopped pivots (Overflow pair) refused taken = λ budgets e.
          (with_branches [] r, stops_there budgets (cause.Overflow pair) (refuses budgets r m.items su p m.behind pair m.look (of_it r m (λ st q. MayRefuse st q pair) (refused pair refl))), refl)
      stopped pivots (Pivots i) refused taken = λ budgets e.
          let k = taken i refl in
          let same : i ≡ budgets.pivots = k.0 ∙ sym e in (
            with_branches [] r,
            subst (λ l. Tells budgets r (Stops (cause.Pivots l)) (with_branches [] r)) (sym same)
                (stops_there budgets (cause.Pivots budgets.pivots)
                (takes budgets r m.items su p m.behind m.look (subst (λ l. MayTake su p l) same (of_it r m (λ st q. MayTake st q i) k.1)))),
            refl,
          )
      stopped pivots NoMemory refused taken = tt

  -- ---- by what the code has done

  open_there : (v : Program) → IsOver v old → Open old.texts v ((start, alternatives.Gathers third copies rest) ∷ older)
  open_there v o = subst (Open old.texts v) was o.choices

  pub counted_there : IsSearching old → All (IsCountedTerm (length old.texts)) copies
  counted_there w = (open_there w.0 w.1).0

  pub branch_there : IsSearching old → (st : State) × IsBranch old.texts start.0 st
  branch_there w = let m = (making w.0 w.2 w.3 w.4 w.5 0).4 in (m.state, m.continuation.state)

  pub third_there : IsSearching old → third < length start.0.heap.terms
  third_there w = let m = (making w.0 w.2 w.3 w.4 w.5 0).4 in read_live old.texts start.0.heap.terms third _ m.reads

  pub rest_there : IsSearching old → rest < length start.1
  rest_there w = (making w.0 w.2 w.3 w.4 w.5 0).4.continuation.there

  -- these choices and this world, once the branch is settled
  module _ (saved : List (Value Contents)) (choices : List Alternatives) (now : Value Contents) (left : open_choices saved choices ≡ older) where
    abbrev new : Held
    new = record { texts = old.texts; saved = saved; choices = choices; now = now }

    abbrev OverStack : Program → ℕ → Database → ℕ → Search → Option ℕ → List (Value Contents × Alternatives) → Type 0
    OverStack v steps db n t current xs = Comes (IsBranch old.texts) (term_in old.texts) steps (engine db n (map (left_at old.texts v) xs) now current) t

    list_kept : (k : ℕ) → ListGoes old.texts start now third copies rest k → ComesOver old new (Some k)
    list_kept k goes v o steps db n t j = subst (OverStack v steps db n t (Some k)) (sym left) (kept v db n t j steps k now goes)

    list_pruned : OfList old.texts start.0 third copies Prunes → ComesOver old new None
    list_pruned prunes v o steps db n t j = subst (OverStack v steps db n t None) (sym left) (pruned v db n t j steps now prunes)

    list_left : StaysOver old new
    list_left v o = over_with old new v o (prefix_same old.texts old.texts refl) older left (open_there v o).1

  list_stops : (pivots : ℕ) (fault : StoreFault) → ((pair : Pair) → fault ≡ Overflow pair → OfList old.texts start.0 third copies (λ st q. MayRefuse st q pair))
      → ((i : ℕ) → fault ≡ Pivots i → (i ≡ pivots) × OfList old.texts start.0 third copies (λ st q. MayTake st q i)) → StopsOver old pivots fault
  list_stops pivots fault refused taken v o db n t j =
      fault_after pivots pivots fault t refl
      (λ steps. let begun = making v db n t j steps in
      (begun.0, begun.1, begun.2 ∙ sym j.database, stopped v db n t j begun.0 begun.4 pivots fault refused taken))

-- ---- where names are added meanwhile

module _ (old : Held) (start : Value Contents) (third : ℕ) (copies : List StoredValue) (rest : ℕ) (older : List (Value Contents × Alternatives))
    (was : open_of old ≡ (start, alternatives.Gathers third copies rest) ∷ older) (known : AreNamedByTerms (open_of old)) (more : List Text) (longer : IsPrefix old.texts more) where
  abbrev named : Held
  named = record old { texts = more }

  named_over : StaysOver old named
  named_over v o = over_same old named v o longer refl

  named_comes : ComesOver old named None
  named_comes = comes_same old named known longer refl

  module _ (saved : List (Value Contents)) (choices : List Alternatives) (now : Value Contents) where
    abbrev new_named : Held
    new_named = record { texts = more; saved = saved; choices = choices; now = now }

    pub goes_on : (k : ℕ) → open_choices saved choices ≡ older → ListGoes more start now third copies rest k → ComesOver old new_named (Some k)
    goes_on k left goes =
        comes_then old named new_named (Some k) named_over named_comes (list_kept named start third copies rest older was saved choices now left k goes)

    pub comes_back : open_choices saved choices ≡ older → OfList more start.0 third copies Prunes → ComesOver old new_named None
    comes_back left prunes =
        comes_then old named new_named None named_over named_comes (list_pruned named start third copies rest older was saved choices now left prunes)

    pub stays_left : open_choices saved choices ≡ older → StaysOver old new_named
    stays_left left = stays_then old named new_named named_over (list_left named start third copies rest older was saved choices now left)

  pub query_stops : (pivots : ℕ) (fault : StoreFault) → ((pair : Pair) → fault ≡ Overflow pair → OfList more start.0 third copies (λ st q. MayRefuse st q pair))
      → ((i : ℕ) → fault ≡ Pivots i → (i ≡ pivots) × OfList more start.0 third copies (λ st q. MayTake st q i)) → StopsOver old pivots fault
  query_stops pivots fault refused taken =
      stops_then old named pivots fault named_over named_comes (list_stops named start third copies rest older was pivots fault refused taken)
