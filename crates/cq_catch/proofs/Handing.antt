-- What an engine comes to from a catch that has a ball.
use Rattle.std.proofs.Common.{inl, ◌≡◌, ◌≢◌, ◌<◌, ℕ, List, [], ◌∷◌, length, map, None, Some, refl, sym, ap, ◌∙◌, subst}
use Rattle.std.specs.Prelude.{reverse}
use Rattle.std.specs.List.{zip}
use Rattle.spec_numbers.proofs.Prefixes.{prefix_same}
use Rattle.spec_numbers.specs.Texts.{Text}
use Rattle.spec_branch.specs.Branch.{State, Item, Copied, Pending}
use Rattle.spec_search.specs.Balls.{caught_work, handed}
use Rattle.spec_search.specs.Control.{call_of}
use Rattle.spec_search.specs.Database.{Database}
use Rattle.spec_search.specs.Replies.{landed}
use Rattle.spec_search.specs.Search.{Search, is_selecting}
use Rattle.spec_search.specs.Turns as turn
use Rattle.spec_search.specs.Turns.{with_branches}
use Rattle.spec_transcript.specs.Causes.{Budgets, Cause}
use Rattle.spec_transcript.specs.Causes as cause
use Rattle.spec_transcript.specs.Due.{Due}
use Rattle.cq_branch.specs.Begun.{Prunes}
use Rattle.cq_branch.specs.Stops.{FaultStops}
use Rattle.cq_branch.proofs.Stopping.{refuses, takes}
use Rattle.cq_control.specs.Open.{open_choices}
use Rattle.cq_frac.specs.declared.Pair.{Pair}
use Rattle.cq_store.specs.declared.store.StoreFault.{StoreFault}
use Rattle.cq_store.specs.declared.store.StoreFault.TheVariants.{Overflow, Pivots, NoMemory}
use Rattle.cq_resolve.specs.Database.{Program}
use Rattle.cq_settle.specs.Settled.{MayRefuse, MayTake}
use Rattle.cq_resolve.specs.StoredValue.{StoredValue}
use Rattle.cq_settle.specs.Contents.{Contents}
use Rattle.cq_settle.specs.Rest.{IsReady}
use Rattle.spec_engine.specs.Cells.{Caught, Value, Stack}
use Rattle.spec_engine.specs.Standing.{engine, IsStanding}
use Rattle.spec_engine.specs.Coming.{at_once, after, Comes, Tells, Stops}
use Rattle.spec_engine.specs.Coming as coming
use Rattle.spec_engine.specs.Trying.{TakesBall}
use Rattle.spec_engine.proofs.Made.{child_kept}
use Rattle.spec_engine.proofs.Passed.{ball_taken}
use Rattle.cq_branch.specs.declared.alternatives.Alternatives.{Alternatives}
use Rattle.cq_branch.specs.declared.alternatives.Alternatives.TheVariants as alternatives
use Rattle.cq_branch.specs.Choices.{AreOpen}
use Rattle.cq_branch.specs.Stored.{IsCountedTerm, stored_tree}
use Rattle.cq_branch.specs.Worlds.{IsBranch, term_in, stack, left_at, Stands}
use Rattle.cq_branch.proofs.Reading.{read_live}
use Rattle.cq_choices.specs.Held.{Held, IsOver, StaysOver, open_of}
use Rattle.cq_choices.specs.Trying.{IsSearching, ComesOver, StopsOver}
use Rattle.cq_choices.proofs.Ending.{Open, over_with}
use Rattle.cq_catch.specs.Balls.{ComesUp, ComesUpSomewhere, IsCaughtBy, HandsBall, Misses}
use Rattle.cq_catch.specs.Taking.{TakesTo, EscapesOver, Escapes, IsBallAt, BallGoes, OfBall, CarriesBall}
use Rattle.cq_catch.specs.declared.saved.taking.Taken.{Taken}
use Rattle.cq_catch.specs.declared.saved.taking.Taken.TheVariants as taken

no_pairs : (xs : List (Value Contents)) → zip xs (let none : List Alternatives = [] in none) ≡ []
no_pairs [] = refl
no_pairs (x ∷ xs) = refl

-- no choice is open where there is none
pub none_open : (saved : List (Value Contents)) (choices : List Alternatives) → choices ≡ [] → open_choices saved choices ≡ []
none_open saved choices e = ap (open_choices saved) e ∙ no_pairs (reverse saved)

module _ (old : Held) (start : Value Contents) (s : StoredValue) (c r rest : ℕ) (older : List (Value Contents × Alternatives))
    (was : open_of old ≡ (start, alternatives.Caught s c r rest) ∷ older) where
  -- the older choices as the definitions see them
  abbrev below : Program → Stack Contents
  below v = map (left_at old.texts v) older

  module _ (v : Program) (db : Database) (n : ℕ) (t : Search) (j : Stands old.texts v db n old.saved old.choices old.now None t) where
    stands_there : IsStanding (IsBranch old.texts) (term_in old.texts) (engine db n ((start, Caught (stored_tree old.texts s) c r rest) ∷ below v) old.now None) t
    stands_there = subst (λ (xs : List (Value Contents × Alternatives)). IsStanding (IsBranch old.texts) (term_in old.texts) (engine db n (map (left_at old.texts v) xs) old.now None) t) was j

    taking : TakesBall (IsBranch old.texts) (term_in old.texts) (below v) start (stored_tree old.texts s) c r rest t
    taking = ball_taken (IsBranch old.texts) (term_in old.texts) 0 db n (below v) start old.now t (stored_tree old.texts s) c r rest stands_there

    abbrev items : List Item
    items = call_of taking.recovery ∷ taking.items

    abbrev st : State
    st = (landed taking.state (taking.ball ∷ [])).state

    abbrev p : Pending
    p = caught_work taking.state taking.ball taking.catcher

    at_ball : IsBallAt old.texts start.0 s c r taking.state taking.ball taking.catcher taking.recovery
    at_ball = record { is_stored = taking.is_stored; reads_catcher = taking.reads_catcher; reads_recovery = taking.reads_recovery }

    of_it : (P : State → Pending → Type 0) → OfBall old.texts start.0 s c P → P st p
    of_it P q = q taking.state taking.ball taking.catcher taking.continuation.state.ready taking.is_stored taking.reads_catcher

    -- ---- it is kept

    kept : (steps k : ℕ) (now : Value Contents) → BallGoes old.texts start now s c r rest k
        → Comes (IsBranch old.texts) (term_in old.texts) steps (engine db n (below v) now (Some k)) t
    kept steps k now goes =
        let b = goes (below v) taking.items taking.state taking.ball taking.catcher taking.recovery taking.continuation at_ball in
        child_kept (IsBranch old.texts) (term_in old.texts) steps db n (below v) now k t items st p taking.behind j.database j.selected taking.look refl b.left b.state b.settles
        b.continuation taking.waiting

    -- ---- it is pruned: the ball comes up in front of its items

    comes_up : (now : Value Contents) → CarriesBall old.texts start now s rest → ComesUp old.texts (below v) now rest taking.items st taking.behind
    comes_up now carries = record {
      continuation = carries (below v) taking.items taking.state taking.ball taking.continuation taking.is_stored;
      waiting = taking.waiting;
    }

    module _ (prunes : OfBall old.texts start.0 s c Prunes) where
      pruned : Prunes st p
      pruned = of_it Prunes prunes

      handed_on : (steps : ℕ) (now : Value Contents) (rs : Stack Contents) → IsCaughtBy old.texts rs taking.ball taking.items taking.behind
          → Comes (IsBranch old.texts) (term_in old.texts) steps (engine db n rs now None) t
      handed_on steps now rs caught = record {
        reached = with_branches caught.next t;
        quiet = after (inl (ap is_selecting taking.look)) (turn.hands_on taking.look (pruned.1 items) refl caught.handed_on) at_once;
        stands = record {
          database = j.database;
          selected = j.selected;
          first = [];
          behind = caught.next;
          branches = refl;
          current = refl;
          waiting = caught.waiting;
        };
      }

      shown : (b : Copied) → turn.Threw b ≡ turn.Wrote [] → ⊥
      shown b e = cc

      escapes : (budgets : Budgets) (new : Held) → new.texts ≡ old.texts → open_of new ≡ [] → handed taking.ball taking.items taking.behind ≡ None → Escapes budgets v new s db n t
      escapes budgets new named none missed = record {
        ball = taking.ball;
        is_stored = record {
          plain = taking.is_stored.plain;
          renamed = ap (λ ts. stored_tree ts s) named ∙ taking.is_stored.renamed;
        };
        next = with_branches [] t;
        tells = coming.shows at_once (inl (ap is_selecting taking.look)) (turn.escapes taking.look (pruned.1 items) refl missed) (shown taking.ball);
        stands = subst (λ (xs : List (Value Contents × Alternatives)). IsStanding (IsBranch new.texts) (term_in new.texts) (engine db n (map (left_at new.texts v) xs) new.now None) (with_branches [] t))
            (sym none) (record {
              database = j.database;
              selected = j.selected;
              first = [];
              behind = [];
              branches = refl;
              current = refl;
              waiting = refl;
            });
      }

    -- ---- the query stops

    stops_there : (budgets : Budgets) (cause : Cause) → Due budgets None t cause → Tells budgets t (Stops cause) (with_branches [] t)
    stops_there budgets cause d = coming.stops at_once (coming.stops (inl (ap is_selecting taking.look)) d)

    stopped : (pivots : ℕ) (fault : StoreFault) → ((pair : Pair) → fault ≡ Overflow pair → OfBall old.texts start.0 s c (λ su q. MayRefuse su q pair))
        → ((m : ℕ) → fault ≡ Pivots m → (m ≡ pivots) × OfBall old.texts start.0 s c (λ su q. MayTake su q m)) → FaultStops pivots fault t
    stopped pivots (Overflow pair) refused taken = λ budgets e.
        (with_branches [] t, stops_there budgets (cause.Overflow pair) (refuses budgets t items st p taking.behind pair taking.look (of_it (λ su q. MayRefuse su q pair) (refused pair refl))), refl)
    stopped pivots (Pivots m) refused taken = λ budgets e.
        let k = taken m refl in
        let same : m ≡ budgets.pivots = k.0 ∙ sym e in (
          with_branches [] t,
          subst (λ i. Tells budgets t (Stops (cause.Pivots i)) (with_branches [] t)) (sym same)
              (stops_there budgets (cause.Pivots budgets.pivots)
              (takes budgets t items st p taking.behind taking.look (subst (λ i. MayTake st p i) same (of_it (λ su q. MayTake su q m) k.1)))),
          refl,
        )
    stopped pivots NoMemory refused taken = tt

  -- ---- by what the code has done

  open_there : (v : Program) → IsOver v old → Open old.texts v ((start, alternatives.Caught s c r rest) ∷ older)
  open_there v o = subst (Open old.texts v) was o.choices

  pub counted_there : IsSearching old → IsCountedTerm (length old.texts) s
  counted_there w = (open_there w.0 w.1).0

  pub ready_there : IsSearching old → IsReady old.texts start.0
  ready_there w = let k = taking w.0 w.2 w.3 w.4 w.5 in (k.state, k.continuation.state.ready)

  pub catcher_there : IsSearching old → c < length start.0.heap.terms
  catcher_there w = let k = taking w.0 w.2 w.3 w.4 w.5 in read_live old.texts start.0.heap.terms c _ k.reads_catcher

  pub rest_there : IsSearching old → rest < length start.1
  rest_there w = (taking w.0 w.2 w.3 w.4 w.5).continuation.there

  -- these choices and this world, once it is settled
  module _ (saved : List (Value Contents)) (choices : List Alternatives) (now : Value Contents) (left : open_choices saved choices ≡ older) where
    abbrev mid : Held
    mid = record { texts = old.texts; saved = saved; choices = choices; now = now }

    stack_is : (v : Program) → stack old.texts v saved choices ≡ below v
    stack_is v = ap (map (left_at old.texts v)) left

    pub goes_on : (k : ℕ) → BallGoes old.texts start now s c r rest k → ComesOver old mid (Some k)
    goes_on k goes v o steps db n t j =
        subst (λ (rs : Stack Contents). Comes (IsBranch old.texts) (term_in old.texts) steps (engine db n rs now (Some k)) t) (sym (stack_is v)) (kept v db n t j steps k now goes)

    pub stays_left : StaysOver old mid
    stays_left v o = over_with old mid v o (prefix_same old.texts old.texts refl) older left (open_there v o).1

    up_there : (v : Program) (db : Database) (n : ℕ) (t : Search) (j : Stands old.texts v db n old.saved old.choices old.now None t) → CarriesBall old.texts start now s rest
        → ComesUp old.texts (stack old.texts v saved choices) now rest (taking v db n t j).items (st v db n t j) (taking v db n t j).behind
    up_there v db n t j carries =
        subst (λ (rs : Stack Contents). ComesUp old.texts rs now rest (taking v db n t j).items (st v db n t j) (taking v db n t j).behind) (sym (stack_is v)) (comes_up v db n t j now carries)

    pub somewhere : IsSearching old → CarriesBall old.texts start now s rest → ComesUpSomewhere saved choices now rest
    somewhere w carries =
        let k = taking w.0 w.2 w.3 w.4 w.5 in
        (old.texts, w.0, k.items, st w.0 w.2 w.3 w.4 w.5, k.behind, up_there w.0 w.2 w.3 w.4 w.5 carries)

    module _ (prunes : OfBall old.texts start.0 s c Prunes) (carries : CarriesBall old.texts start now s rest) (more : List (Value Contents)) (others : List Alternatives)
        (later : Value Contents) where
      pub hands_on : HandsBall saved choices now rest s more others → ComesOver old (record { texts = old.texts; saved = more; choices = others; now = later }) None
      hands_on hands v o steps db n t j =
          let k = taking v db n t j in
          handed_on v db n t j prunes steps later (stack old.texts v more others)
          (hands old.texts v k.items (st v db n t j) k.behind k.ball (up_there v db n t j carries) k.is_stored)

      pub escapes_all : Misses saved choices now rest → others ≡ [] → EscapesOver old (record { texts = old.texts; saved = more; choices = others; now = later }) s
      escapes_all misses none budgets v o db n t j =
          let k = taking v db n t j in
          escapes v db n t j prunes budgets (record { texts = old.texts; saved = more; choices = others; now = later }) refl (none_open more others none)
          (misses old.texts v k.items (st v db n t j) k.behind k.ball (up_there v db n t j carries))

  pub query_stops : (pivots : ℕ) (fault : StoreFault) → ((pair : Pair) → fault ≡ Overflow pair → OfBall old.texts start.0 s c (λ su q. MayRefuse su q pair))
      → ((m : ℕ) → fault ≡ Pivots m → (m ≡ pivots) × OfBall old.texts start.0 s c (λ su q. MayTake su q m)) → StopsOver old pivots fault
  query_stops pivots fault refused taken v o db n t j = stopped v db n t j pivots fault refused taken

  -- the ball is handed on, or it escapes
  pub stays_handed : (saved more : List (Value Contents)) (choices others : List Alternatives) (later : Value Contents) → open_choices saved choices ≡ older
      → ((texts : List Text) (v : Program) → IsCountedTerm (length texts) s → AreOpen texts v saved choices → AreOpen texts v more others)
      → StaysOver old (record { texts = old.texts; saved = more; choices = others; now = later })
  stays_handed saved more choices others later left opens v o =
      record { program = o.program; choices = opens old.texts v (open_there v o).0 (subst (Open old.texts v) (sym left) (open_there v o).1) }

-- ---- what became of the ball

pub takes_to : (old new : Held) (r : Taken) → ((k : ℕ) → r ≢ taken.Goes k) → (r ≡ taken.HandedOn → ComesOver old new None)
    → ((b : StoredValue) → r ≡ taken.Escaped b → EscapesOver old new b) → TakesTo old new r
takes_to old new (taken.Goes k) goes on out = absurd (goes k refl)
takes_to old new taken.HandedOn goes on out = on refl
takes_to old new (taken.Escaped b) goes on out = out b refl
