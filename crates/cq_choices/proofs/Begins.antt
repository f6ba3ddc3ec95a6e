-- The branch of an alternative that was taken, and what becomes of it.
use Rattle.std.proofs.Common.{◌≡◌, ◌<◌, ◌+◌, inl, inr, ℕ, suc, List, [], ◌∷◌, ◌++◌, length, map, Option, None, Some, refl, sym, ap, ◌∙◌, subst, arith}
use Rattle.spec_numbers.specs.Prefixes.{IsPrefix}
use Rattle.spec_numbers.proofs.Prefixes.{prefix_same, prefix_get_or, prefix_within}
use Rattle.spec_numbers.specs.Texts.{Text}
use Rattle.spec_terms.specs.Unifier.{Equation}
use Rattle.spec_branch.specs.Branch.{State, Item, Branch}
use Rattle.spec_search.specs.Database.{Database}
use Rattle.spec_search.specs.Replies.{Place, alternative_child, with_new, with_equations}
use Rattle.spec_search.specs.Search.{Search, is_selecting, look_at, Settling}
use Rattle.spec_search.specs.Turns.{with_branches}
use Rattle.spec_transcript.specs.Causes.{Budgets, Cause}
use Rattle.spec_transcript.specs.Causes as cause
use Rattle.spec_transcript.specs.Due.{Due}
use Rattle.cq_builtin.specs.Over.{equations_of, AreLive}
use Rattle.cq_control.specs.Items.{items_at}
use Rattle.cq_control.specs.Open.{open_choices}
use Rattle.cq_frac.specs.declared.Pair.{Pair}
use Rattle.cq_store.specs.declared.store.StoreFault.{StoreFault}
use Rattle.cq_store.specs.declared.store.StoreFault.TheVariants.{Overflow, Pivots, NoMemory}
use Rattle.cq_predicates.specs.Given.{CanGoOn, over, ways_left}
use Rattle.cq_predicates.specs.declared.solutions.Solutions.{Solutions}
use Rattle.cq_predicates.proofs.Staying.{ways_kept}
use Rattle.cq_resolve.specs.Database.{Program}
use Rattle.cq_settle.specs.Settled.{MayRefuse, MayTake}
use Rattle.cq_term.specs.HeapValue.{HeapValue, Terms}
use Rattle.cq_term.specs.Names.{HasNamesBelow}
use Rattle.cq_term.specs.Trees.{KnowsTerms}
use Rattle.cq_settle.specs.Contents.{Contents}
use Rattle.spec_engine.specs.declared.machine.cell.Cell.{Cell}
use Rattle.spec_engine.specs.Cells.{Left, Ways, Value, Stack}
use Rattle.spec_engine.specs.Standing.{engine, IsPlace, AreWaiting, IsStanding}
use Rattle.spec_engine.specs.Coming.{Quietly, at_once, Comes, Tells, Stops}
use Rattle.spec_engine.specs.Coming as coming
use Rattle.spec_engine.proofs.Kept.{fits_more, items_older}
use Rattle.spec_engine.proofs.Made.{child_kept, child_pruned}
use Rattle.spec_engine.proofs.Passed.{way_begun}
use Rattle.cq_branch.specs.declared.alternatives.Alternatives.{Alternatives}
use Rattle.cq_branch.specs.declared.alternatives.Alternatives.TheVariants as alternatives
use Rattle.cq_branch.specs.Lists.{KeepsLists}
use Rattle.cq_branch.specs.Worlds.{IsBranch, term_in, with_heap, Stands, left_at}
use Rattle.cq_branch.proofs.Grown.{grown}
use Rattle.cq_branch.proofs.Selected.{continuation_grown}
use Rattle.cq_branch.specs.Begun.{IsPlacedAs}
use Rattle.cq_branch.specs.Stops.{FaultStops}
use Rattle.cq_branch.proofs.Stopping.{refuses, takes}
use Rattle.cq_choices.specs.Held.{Held, IsOver, StaysOver, AreNamedByTerms, open_of}
use Rattle.cq_choices.specs.Newest.{IsLeft}
use Rattle.cq_choices.specs.Trying.{IsTaken, ComesOver, StopsOver, AtStates, EquationsGo, EquationsPrune, newest_count}
use Rattle.cq_choices.specs.declared.taking.Way.{Way}
use Rattle.cq_choices.proofs.Ending.{Open, over_ended}
use Rattle.cq_choices.proofs.Taken.{over_left, over_built}
use Rattle.cq_choices.proofs.Stacked.{waits_more, place_more}

-- ---- an alternative that is to be begun

none_new : (p : Place) → with_new 0 p.state ≡ p.state
none_new p = (let e : p.state.fresh + 0 ≡ p.state.fresh = omega arith in λ i. record p.state { fresh = e i })

abbrev heap_of : Terms → HeapValue
heap_of h = record { now = h; saved = []; room = 0 }

-- the continuation over one more choice
one_more_choice : (texts : List Text) (x : Value Contents × Left) (older : Stack Contents) (now : Value Contents) (k : ℕ) (items : List Item) (st : State)
    → IsPlacedAs texts older now k items st → IsPlacedAs texts (x ∷ older) now k items st
one_more_choice texts x older now k items st c = record {
  there = c.there;
  fits = fits_more (length older) (suc (length older)) (items_at now.1 k) (omega arith) c.fits;
  state = c.state;
  cells = items_older (IsBranch texts) (term_in texts) x older now.0 st (items_at now.1 k) items c.fits c.cells;
}

module _ (old mid : Held) (w : Way) (t : IsTaken old mid w) where
  abbrev more : List Text
  more = mid.texts

  abbrev es : List (Equation Text)
  es = equations_of more t.built.terms w.alternative

  abbrev others : List (List (Equation Text))
  others = ways_left more t.start.0.heap.terms w.others

  terms_known : KnowsTerms more t.start.0.heap.terms
  terms_known i d l = subst (HasNamesBelow (length more)) (prefix_get_or t.start.0.heap.terms t.built.terms i d t.terms l)
      (t.names i d (prefix_within t.start.0.heap.terms t.built.terms i t.terms l))

  -- those that are still to come read so over the choice's own terms
  others_same : ways_left more t.built.terms w.others ≡ others
  others_same =
      ways_kept more more (heap_of t.start.0.heap) (heap_of t.built)
      (record {
        longer = prefix_same more more refl;
        terms = t.terms;
        images = prefix_same t.start.0.heap.images t.built.images t.images;
        names = λ k. t.names;
        saved = refl;
        room = omega arith;
      }) terms_known w.others t.can_go_back

  was_left : ways_left old.texts t.start.0.heap.terms t.before ≡ es ∷ others
  was_left = t.next ∙ ap (λ ws. es ∷ ws) others_same

  pub fewer_left : (xs : List (Value Contents × Alternatives)) → xs ≡ (t.start, alternatives.Ways w.others w.rest) ∷ t.older
      → newest_count more xs < newest_count old.texts (open_of old)
  fewer_left xs is =
      let now : newest_count more xs ≡ length others = ap (newest_count more) is in
      let was : newest_count old.texts (open_of old) ≡ length (ways_left old.texts t.start.0.heap.terms t.before) = ap (newest_count old.texts) t.was in
      omega (arith, now, was, ap length was_left)

  -- the older choices, where the names are added
  abbrev older : Program → Stack Contents
  older v = map (left_at more v) t.older

module _ (old mid : Held) (w : Way) (t : IsTaken old mid w) (known : AreNamedByTerms (open_of mid)) (v : Program) (o : IsOver v old) where
  open_there : Open old.texts v ((t.start, alternatives.Ways t.before w.rest) ∷ t.older)
  open_there = subst (Open old.texts v) t.was o.choices

  known_there : AreNamedByTerms ((t.start, alternatives.Ways t.before w.rest) ∷ t.older)
  known_there = subst AreNamedByTerms t.is known

  older_open : Open old.texts v t.older
  older_open = open_there.1

  module _ (db : Database) (n : ℕ) (s : Search) (j : Stands old.texts v db n old.saved old.choices old.now None s) where
    abbrev before : Stack Contents
    before = map (left_at old.texts v) t.older

    waiting_there : AreWaiting (IsBranch old.texts) (term_in old.texts) (map (left_at old.texts v) ((t.start, alternatives.Ways t.before w.rest) ∷ t.older)) j.behind
    waiting_there = subst (λ xs. AreWaiting (IsBranch old.texts) (term_in old.texts) (map (left_at old.texts v) xs) j.behind) t.was j.waiting

    stands_there : IsStanding (IsBranch old.texts) (term_in old.texts) (engine db n ((t.start, Ways (over 0 (es old mid w t) ∷ map (over 0) (others old mid w t)) w.rest) ∷ before) old.now None) s
    stands_there = record {
      database = j.database;
      selected = j.selected;
      first = j.first;
      behind = j.behind;
      branches = j.branches;
      current = j.current;
      waiting = subst (λ ws. AreWaiting (IsBranch old.texts) (term_in old.texts) ((t.start, Ways (map (over 0) ws) w.rest) ∷ before) j.behind) (was_left old mid w t) waiting_there;
    }

    abbrev Begins : Type 0
    Begins = (p : Place) × (behind : List Branch) × (look_at s.branches ≡ Settling p.rest (with_new 0 p.state) (with_equations (es old mid w t)) behind)
        × IsPlace (IsBranch old.texts) (term_in old.texts) before t.start w.rest p
        × AreWaiting (IsBranch old.texts) (term_in old.texts) ((t.start, Ways (map (over 0) (others old mid w t)) w.rest) ∷ before) behind

    begins : Begins
    begins = way_begun (IsBranch old.texts) (term_in old.texts) 0 db n before t.start old.now s w.rest (over 0 (es old mid w t)) (map (over 0) (others old mid w t)) stands_there

    abbrev p : Place
    p = begins.0

    abbrev behind : List Branch
    behind = begins.1

    looks : look_at s.branches ≡ Settling p.rest p.state (with_equations (es old mid w t)) behind
    looks = begins.2 ∙ ap (λ (st : State). Settling p.rest st (with_equations (es old mid w t)) behind) (none_new p)

    place_there : IsPlace (IsBranch mid.texts) (term_in mid.texts) (older old mid w t v) t.start w.rest p
    place_there = place_more old.texts mid.texts t.longer v o.program t.older older_open known_there.1 begins.4.1 begins.4.4 t.start known_there.0 w.rest p begins.3

    -- the others wait
    others_wait : AreWaiting (IsBranch mid.texts) (term_in mid.texts) ((t.start, Ways (map (over 0) (others old mid w t)) w.rest) ∷ (older old mid w t v)) behind
    others_wait =
        let own = begins.4.3 in (
          begins.4.0,
          begins.4.1,
          begins.4.2,
          (own.0, own.1, place_more old.texts mid.texts t.longer v o.program t.older older_open known_there.1 begins.4.1 begins.4.4 t.start known_there.0 w.rest own.0 own.2),
          waits_more old.texts mid.texts t.longer v o.program t.older older_open known_there.1 begins.4.1 begins.4.4,
        )

    -- none waits where none is left
    older_wait : (others old mid w t) ≡ [] → AreWaiting (IsBranch mid.texts) (term_in mid.texts) (older old mid w t v) behind
    older_wait e =
        let own : begins.4.0 ≡ [] = begins.4.3.1 ∙ ap (λ ws. map (alternative_child begins.4.3.0) (map (over 0) ws)) e in
        subst (AreWaiting (IsBranch mid.texts) (term_in mid.texts) (older old mid w t v)) (sym (begins.4.2 ∙ ap (λ bs. bs ++ begins.4.1) own))
        (waits_more old.texts mid.texts t.longer v o.program t.older older_open known_there.1 begins.4.1 begins.4.4)

    -- the continuation in the world with the terms that were added
    place_then : (lists : List (List Cell)) → KeepsLists t.start.1 lists → (q : Place) → IsPlace (IsBranch mid.texts) (term_in mid.texts) (older old mid w t v) t.start w.rest q
        → IsPlace (IsBranch mid.texts) (term_in mid.texts) (older old mid w t v) (with_heap t.built t.start.0, lists) w.rest q
    place_then lists keeps q i = record {
      continuation = continuation_grown (IsBranch mid.texts) (term_in mid.texts) (older old mid w t v) t.start (with_heap t.built t.start.0, lists)
          (grown mid.texts t.start.0 t.built t.terms t.images t.names t.start.1 lists keeps) w.rest q.rest q.state i.continuation;
      height = i.height;
    }

    placed : IsPlacedAs mid.texts (older old mid w t v) mid.now w.rest p.rest p.state
    placed =
        subst (λ (x : Value Contents). IsPlacedAs mid.texts (older old mid w t v) x w.rest p.rest p.state) (sym t.now)
        (place_then t.start.1 (record { more = omega arith; same = λ k l. refl }) p place_there).continuation

    -- ---- it is kept

    module _ (steps : ℕ) (now : Value Contents) where
      abbrev Arrived : Stack Contents → Option ℕ → Type 0
      Arrived choices current = Comes (IsBranch mid.texts) (term_in mid.texts) steps (engine db n choices now current) s

      kept_over : (k : ℕ) → EquationsGo mid.texts mid.now now (es old mid w t) w.rest k → (choices : Stack Contents) → IsPlacedAs mid.texts choices mid.now w.rest p.rest p.state
          → AreWaiting (IsBranch mid.texts) (term_in mid.texts) choices behind → Arrived choices (Some k)
      kept_over k goes choices place wait =
          let b = goes choices p.rest p.state place in
          child_kept (IsBranch mid.texts) (term_in mid.texts) steps db n choices now k s p.rest p.state (with_equations (es old mid w t)) behind j.database j.selected looks refl b.left b.state b.settles
          b.continuation wait

      kept_with : (k : ℕ) → EquationsGo mid.texts mid.now now (es old mid w t) w.rest k → Arrived ((t.start, Ways (map (over 0) (others old mid w t)) w.rest) ∷ (older old mid w t v)) (Some k)
      kept_with k goes =
          kept_over k goes ((t.start, Ways (map (over 0) (others old mid w t)) w.rest) ∷ (older old mid w t v))
          (one_more_choice mid.texts (t.start, Ways (map (over 0) (others old mid w t)) w.rest) (older old mid w t v) mid.now w.rest p.rest p.state placed) others_wait

      kept_last : (k : ℕ) → EquationsGo mid.texts mid.now now (es old mid w t) w.rest k → (others old mid w t) ≡ [] → Arrived (older old mid w t v) (Some k)
      kept_last k goes none = kept_over k goes (older old mid w t v) placed (older_wait none)

      -- ---- it is pruned

      pruned_with : EquationsPrune mid.texts mid.now.0 (es old mid w t) → Arrived ((t.start, Ways (map (over 0) (others old mid w t)) w.rest) ∷ (older old mid w t v)) None
      pruned_with prunes =
          let q = prunes p.state placed.state.ready in
          child_pruned (IsBranch mid.texts) (term_in mid.texts) steps db n ((t.start, Ways (map (over 0) (others old mid w t)) w.rest) ∷ (older old mid w t v)) now s p.rest p.state (with_equations (es old mid w t)) behind
          j.database j.selected looks refl q.0 (q.1 p.rest) others_wait

      -- ---- it is given back

      given_back : (lists : List (List Cell)) → KeepsLists t.start.1 lists → (ways : List (List (Equation Text))) → ways ≡ (es old mid w t) ∷ ways_left mid.texts t.built.terms w.others
          → Arrived (((with_heap t.built t.start.0, lists), Ways (map (over 0) ways) w.rest) ∷ (older old mid w t v)) None
      given_back lists keeps ways e =
          let own = waiting_there.3 in
          let all : ways ≡ ways_left old.texts t.start.0.heap.terms t.before = e ∙ sym t.next in
          record {
            reached = s;
            quiet = at_once;
            stands = record {
              database = j.database;
              selected = j.selected;
              first = j.first;
              behind = j.behind;
              branches = j.branches;
              current = j.current;
              waiting = (
                waiting_there.0,
                waiting_there.1,
                waiting_there.2,
                (
                  own.0,
                  own.1 ∙ ap (λ ws. map (alternative_child own.0) (map (over 0) ws)) (sym all),
                  place_then lists keeps own.0
                      (place_more old.texts mid.texts t.longer v o.program t.older older_open known_there.1 waiting_there.1 waiting_there.4 t.start known_there.0 w.rest own.0 own.2),
                ),
                waits_more old.texts mid.texts t.longer v o.program t.older older_open known_there.1 waiting_there.1 waiting_there.4,
              );
            };
          }

    -- ---- the query stops

    stops_there : (budgets : Budgets) (cause : Cause) → Due budgets None s cause → Tells budgets s (Stops cause) (with_branches [] s)
    stops_there budgets cause d = coming.stops at_once (coming.stops (inl (ap is_selecting looks)) d)

    fault_stops : (pivots : ℕ) (fault : StoreFault) → ((pair : Pair) → fault ≡ Overflow pair → (st : State) → IsBranch mid.texts mid.now.0 st → MayRefuse st (with_equations (es old mid w t)) pair)
        → ((m : ℕ) → fault ≡ Pivots m → (m ≡ pivots) × ((st : State) → IsBranch mid.texts mid.now.0 st → MayTake st (with_equations (es old mid w t)) m)) → FaultStops pivots fault s
    fault_stops pivots (Overflow pair) refused taken = λ budgets e.
        (with_branches [] s, stops_there budgets (cause.Overflow pair) (refuses budgets s p.rest p.state (with_equations (es old mid w t)) behind pair looks (refused pair refl p.state placed.state)), refl)
    fault_stops pivots (Pivots m) refused taken = λ budgets e.
        let k = taken m refl in
        let same : m ≡ budgets.pivots = k.0 ∙ sym e in (
          with_branches [] s,
          subst (λ i. Tells budgets s (Stops (cause.Pivots i)) (with_branches [] s)) (sym same)
              (stops_there budgets (cause.Pivots budgets.pivots)
              (takes budgets s p.rest p.state (with_equations (es old mid w t)) behind looks (subst (λ i. MayTake p.state (with_equations (es old mid w t)) i) same (k.1 p.state placed.state)))),
          refl,
        )
    fault_stops pivots NoMemory refused taken = tt

-- ---- by what the code has done

module _ (old mid : Held) (w : Way) (t : IsTaken old mid w) (known : AreNamedByTerms (open_of mid)) where
  -- the equations as the world reads them
  abbrev read_now : List (Equation Text)
  read_now = equations_of mid.texts mid.now.0.heap.terms w.alternative

  same_read : read_now ≡ equations_of mid.texts t.built.terms w.alternative
  same_read = ap (λ (x : Value Contents). equations_of mid.texts x.0.heap.terms w.alternative) t.now

  module _ (saved : List (Value Contents)) (choices : List Alternatives) (now : Value Contents) where
    abbrev new : Held
    new = record { texts = mid.texts; saved = saved; choices = choices; now = now }

    -- the engine over these choices goes on with the continuation
    abbrev OverStack : Program → ℕ → Database → ℕ → Search → ℕ → List (Value Contents × Alternatives) → Type 0
    OverStack v steps db n s k xs = Comes (IsBranch mid.texts) (term_in mid.texts) steps (engine db n (map (left_at mid.texts v) xs) now (Some k)) s

    pub goes_on : (k : ℕ) → EquationsGo mid.texts mid.now now read_now w.rest k → IsLeft t.start w.others w.rest t.older (open_choices saved choices)
        → ComesOver old new (Some k)
    goes_on k goes left v o steps db n s j =
        let g = subst (λ es. EquationsGo mid.texts mid.now now es w.rest k) same_read goes in
        elim left [ inl e ↦ subst (OverStack v steps db n s k) (sym e) (kept_with old mid w t known v o db n s j steps now k g) | inr e ↦ subst (OverStack v steps db n s k) (sym e.0) (kept_last old mid w t known v o db n s j steps now k g (e.1 mid.texts t.start.0.heap.terms)) ]

    pub comes_back : EquationsPrune mid.texts mid.now.0 read_now → open_choices saved choices ≡ (t.start, alternatives.Ways w.others w.rest) ∷ t.older
        → ComesOver old new None
    comes_back prunes e v o steps db n s j =
        subst (λ xs. Comes (IsBranch mid.texts) (term_in mid.texts) steps (engine db n (map (left_at mid.texts v) xs) now None) s) (sym e)
        (pruned_with old mid w t known v o db n s j steps now (subst (λ es. EquationsPrune mid.texts mid.now.0 es) same_read prunes))

    pub comes_again : (lists : List (List Cell)) → KeepsLists mid.now.1 lists → (left : Solutions)
        → ways_left mid.texts mid.now.0.heap.terms left ≡ read_now ∷ ways_left mid.texts mid.now.0.heap.terms w.others
        → open_choices saved choices ≡ ((mid.now.0, lists), alternatives.Ways left w.rest) ∷ t.older → ComesOver old new None
    comes_again lists keeps left first e v o steps db n s j =
        let kept : KeepsLists t.start.1 lists = subst (λ (x : Value Contents). KeepsLists x.1 lists) t.now keeps in
        let ways : ways_left mid.texts t.built.terms left ≡ equations_of mid.texts t.built.terms w.alternative ∷ ways_left mid.texts t.built.terms w.others =
        subst (λ (x : Value Contents). ways_left mid.texts x.0.heap.terms left ≡ equations_of mid.texts x.0.heap.terms w.alternative ∷ ways_left mid.texts x.0.heap.terms w.others) t.now first in
        let is : open_choices saved choices ≡ ((with_heap t.built t.start.0, lists), alternatives.Ways left w.rest) ∷ t.older =
        e ∙ ap (λ (x : Value Contents). ((x.0, lists), alternatives.Ways left w.rest) ∷ t.older) t.now in
        subst (λ xs. Comes (IsBranch mid.texts) (term_in mid.texts) steps (engine db n (map (left_at mid.texts v) xs) now None) s) (sym is)
        (given_back old mid w t known v o db n s j steps now lists kept (ways_left mid.texts t.built.terms left) ways)

  pub query_stops : (pivots : ℕ) (fault : StoreFault)
      → ((pair : Pair) → fault ≡ Overflow pair → AtStates mid.texts mid.now.0 (λ st. MayRefuse st (with_equations read_now) pair))
      → ((m : ℕ) → fault ≡ Pivots m → (m ≡ pivots) × AtStates mid.texts mid.now.0 (λ st. MayTake st (with_equations read_now) m)) → StopsOver old pivots fault
  query_stops pivots fault refused taken v o db n s j =
      fault_stops old mid w t known v o db n s j pivots fault
      (λ pair e st b. subst (λ es. MayRefuse st (with_equations es) pair) same_read (refused pair e st b.ready))
      (λ m e. ((taken m e).0, λ st b. subst (λ es. MayTake st (with_equations es) m) same_read ((taken m e).1 st b.ready)))

-- ---- each choice can be gone on with

module _ (old mid : Held) (w : Way) (t : IsTaken old mid w) where
  pub over_after : (new : Held) → new.texts ≡ mid.texts → IsLeft t.start w.others w.rest t.older (open_of new) → StaysOver old new
  over_after new named left =
      let longer = subst (λ ts. IsPrefix old.texts ts) (sym named) t.longer in
      elim left [ inl e ↦ over_left old new longer t.start t.before w.others w.rest t.older t.was e t.can_go_back | inr e ↦ over_ended old new longer t.start t.before w.rest t.older t.was e.0 ]

  pub over_again : (new : Held) → new.texts ≡ mid.texts → (lists : List (List Cell)) (left : Solutions)
      → open_of new ≡ ((mid.now.0, lists), alternatives.Ways left w.rest) ∷ t.older → CanGoOn mid.now.0.heap.terms left → StaysOver old new
  over_again new named lists left e can =
      over_built old new (subst (λ ts. IsPrefix old.texts ts) (sym named) t.longer) t.start t.before left w.rest t.older t.was (mid.now.0, lists) e can

  -- what was taken can be gone on with where the world is now
  pub can_now : CanGoOn mid.now.0.heap.terms w.others
  can_now = subst (λ (x : Value Contents). CanGoOn x.0.heap.terms w.others) (sym t.now) t.can_go_on

  pub live_now : AreLive mid.now.0.heap.terms w.alternative
  live_now = subst (λ (x : Value Contents). AreLive x.0.heap.terms w.alternative) (sym t.now) t.live
