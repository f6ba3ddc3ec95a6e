-- The clauses of a call, which would wait as one more choice.
use Rattle.std.proofs.Common.{◌≡◌, ℕ, List, [], ◌∷◌, length, map, Option, None, Some, refl, sym, ap, ◌∙◌, subst, arith}
use Rattle.std.specs.Prelude.{slice_get}
use Rattle.std.specs.List.{AllByRecursion}
use Rattle.std.proofs.lemmas.List.{length-map}
use Rattle.spec_numbers.specs.Texts.{Text}
use Rattle.spec_search.specs.Database.{Database}
use Rattle.spec_search.specs.Search.{Search}
use Rattle.cq_term.specs.Meaning.{at}
use Rattle.cq_clauses.specs.Walks.{IsWalk}
use Rattle.cq_clauses.specs.declared.walk.Walk.{Walk}
use Rattle.cq_control.specs.Items.{ContinuationsValue, items_at}
use Rattle.cq_control.specs.Open.{AreMarked, open_choices}
use Rattle.cq_resolve.specs.Database.{Program, as_clause}
use Rattle.cq_resolve.specs.StoredValue.{ClauseValue}
use Rattle.cq_settle.specs.Contents.{Contents}
use Rattle.cq_settle.specs.declared.world.World.{World}
use Rattle.spec_engine.specs.declared.machine.cell.Cell.{Cell}
use Rattle.spec_engine.specs.Cells.{Clauses, Stack, Value}
use Rattle.spec_engine.specs.Coming.{Comes}
use Rattle.spec_engine.specs.Standing.{engine, AreWaiting, IsStanding}
use Rattle.cq_branch.specs.Choices.{AreOpen, CanBeTried, LeavesAlso}
use Rattle.cq_branch.specs.Lists.{KeepsLists}
use Rattle.cq_branch.specs.Worlds.{IsBranch, term_in, value, saved_values, clauses_left, stack, left_at, Grown}
use Rattle.cq_branch.specs.declared.alternatives.Alternatives.{Alternatives}
use Rattle.cq_branch.specs.declared.alternatives.Alternatives.TheVariants as alternatives
use Rattle.cq_branch.proofs.Arrived.{comes_at_once}
use Rattle.cq_branch.proofs.Selected.{continuation_grown}
use Rattle.cq_branch.specs.declared.begin.beginning.Begun.{Begun}
use Rattle.cq_branch.specs.Begun.{goes_to}
use Rattle.cq_branch.specs.BeginCalls.{ClauseComes}
use Rattle.cq_branch.specs.Stops.{ComesOn}
use Rattle.cq_calls.specs.Calling.{WalkComes, WouldStand, numbers_left}
use Rattle.cq_calls.specs.Matching.{Narrows, all}
use Rattle.cq_calls.proofs.Left.{content_is, length-opened}
use Rattle.cq_calls.proofs.Turns.{came_past, comes_without}

-- the same world, and more continuations
pub same_grown : (texts : List Text) (old later : Contents) (lists more : List (List Cell)) → later ≡ old → KeepsLists lists more → Grown texts (old, lists) (later, more)
same_grown texts old later lists more e keeps =
    subst (λ (c : Contents). Grown texts (old, lists) (c, more)) (sym e) (record { state = λ st i. i; terms = λ id t r. r; lists = keeps })

pub keeps_all : (lists : List (List Cell)) → KeepsLists lists lists
keeps_all lists = record { more = omega arith; same = λ k l. refl }

-- equal lists keep what each has to do
pub keeps_same : (lists more : List (List Cell)) → more ≡ lists → KeepsLists lists more
keeps_same lists more e = record { more = omega (arith, ap length e); same = λ k l. ap (λ ls. items_at ls k) e }

pub keeps_on : (lists more last : List (List Cell)) → KeepsLists lists more → last ≡ more → KeepsLists lists last
keeps_on lists more last k e = subst (KeepsLists lists) (sym e) k

pub keeps_both : (lists more last : List (List Cell)) → KeepsLists lists more → KeepsLists more last → KeepsLists lists last
keeps_both lists more last a b = record { more = omega (arith, a.more, b.more); same = λ k l. b.same k (omega (arith, a.more, l)) ∙ a.same k l }

-- the choices are open that were, and the clauses of a walk
pub opens_also : (texts : List Text) (v : Program) (saved : List (Value Contents)) (choices : List Alternatives) (t k : ℕ) (walk : Walk) (now : Value Contents)
    (more : List (Value Contents)) (after : List Alternatives) → LeavesAlso saved choices now (alternatives.Clauses t walk k) more after → IsWalk walk v → AreOpen texts v saved choices
    → AreOpen texts v more after
opens_also texts v saved choices t k walk now more after l i a =
    subst (AllByRecursion (λ (c : Value Contents × Alternatives). CanBeTried texts v c.0.0.heap.terms c.1)) (sym l) (i, a)

module _ (texts : List Text) (v : Program) (saved : List (Value Contents)) (choices : List Alternatives) (now : Value Contents) (t k : ℕ) (walk : Walk) where
  abbrev older : Stack Contents
  older = stack texts v saved choices

  abbrev one_more : Stack Contents
  one_more = (now, Clauses t (clauses_left texts v walk) k) ∷ older

  module _ (db : Database) (n : ℕ) (s : Search) (j : WouldStand texts v saved choices now t (numbers_left v walk) k db n s) where
    waiting : AreWaiting (IsBranch texts) (term_in texts) one_more j.behind
    waiting = j.waiting

    -- so it is in a world in which more was built
    grown_waiting : (grown : Value Contents) → Grown texts now grown → AreWaiting (IsBranch texts) (term_in texts) ((grown, Clauses t (clauses_left texts v walk) k) ∷ older) j.behind
    grown_waiting grown g = (
      waiting.0,
      waiting.1,
      waiting.2,
      (
        waiting.3.0,
        waiting.3.1,
        waiting.3.2,
        g.terms t waiting.3.1 waiting.3.3,
        record {
          continuation = continuation_grown (IsBranch texts) (term_in texts) older now grown g k waiting.3.0.rest waiting.3.0.state waiting.3.4.continuation;
          height = waiting.3.4.height;
        },
      ),
      waiting.4,
    )

    grown_stands : (grown : Value Contents) → Grown texts now grown → (more : List (Value Contents)) (after : List Alternatives) (later : Value Contents)
        → LeavesAlso saved choices grown (alternatives.Clauses t walk k) more after
        → IsStanding (IsBranch texts) (term_in texts) (engine db n (stack texts v more after) later None) s
    grown_stands grown g more after later l = record {
      database = j.database;
      selected = j.selected;
      first = j.first;
      behind = j.behind;
      branches = j.branches;
      current = j.current;
      waiting = subst (λ st. AreWaiting (IsBranch texts) (term_in texts) st j.behind) (sym (ap (map (left_at texts v)) l)) (grown_waiting grown g);
    }

  -- once they wait it stands for the same
  pub waits_come : (grown : Value Contents) → Grown texts now grown → (more : List (Value Contents)) (after : List Alternatives) (later : Value Contents)
      → LeavesAlso saved choices grown (alternatives.Clauses t walk k) more after → WalkComes texts v saved choices now t walk k more after later None
  waits_come grown g more after later l = record {
    some = numbers_left v walk;
    narrows = all;
    comes = λ steps db n s j. comes_at_once (IsBranch texts) (term_in texts) steps _ s (grown_stands db n s j grown g more after later l);
  }

  -- as they are tried where they wait, it comes to the same
  pub waited_come : (w : World) (lists : ContinuationsValue Cell) (after : List Alternatives)
      → LeavesAlso saved choices now (alternatives.Clauses t walk k) (saved_values w lists.saved) after
      → (new : World) (more : ContinuationsValue Cell) (left : List Alternatives) (current : Option ℕ) → ComesOn texts v w lists after new more left current
      → WalkComes texts v saved choices now t walk k (saved_values new more.saved) left (value new more.now) current
  waited_come w lists after l new more left current g = record {
    some = numbers_left v walk;
    narrows = all;
    comes = λ steps db n s j.
        g steps db n s (grown_stands db n s j now (same_grown texts now.0 now.0 now.1 now.1 refl (keeps_all now.1)) (saved_values w lists.saved) after (value w lists.now) l);
  }

  -- there is none
  pub none_comes : numbers_left v walk ≡ [] → WalkComes texts v saved choices now t walk k saved choices now None
  none_comes none = record {
    some = [];
    narrows = subst (λ ns. Narrows v (at now.0.heap.terms t) ns []) (sym none) all;
    comes = λ steps db n s j. comes_at_once (IsBranch texts) (term_in texts) steps _ s (came_past texts db n s older now now t k j now);
  }

  -- ---- its only clause

  module _ (n : ℕ) (only : Narrows v (at now.0.heap.terms t) (numbers_left v walk) (n ∷ [])) (marked : AreMarked saved choices) where
    high_stack : (height : ℕ) → height ≡ length choices → height ≡ length older
    high_stack height high = high ∙ sym (length-map (open_choices saved choices) (left_at texts v) ∙ length-opened saved choices marked)

    -- it begins with no choice
    pub only_comes : (kept : ClauseValue) → slice_get v.contents n ≡ Some kept → (height : ℕ) → height ≡ length choices → (later : Value Contents) (b : Begun)
        → ClauseComes texts now later t height k kept b → (more : List (Value Contents)) → more ≡ saved
        → WalkComes texts v saved choices now t walk k more choices later (goes_to b)
    only_comes kept got height high later b comes more same = record {
      some = n ∷ [];
      narrows = only;
      comes = λ steps db m s j.
          subst (λ (l : List (Value Contents)). Comes (IsBranch texts) (term_in texts) steps (engine db m (stack texts v l choices) later (goes_to b)) s) (sym same)
          (comes_without texts db m s older now now t k (as_clause texts v.contents n) [] j now (same_grown texts now.0 now.0 now.1 now.1 refl (keeps_all now.1)) height (high_stack height high) kept
          (content_is texts v n kept got) later b comes steps refl);
    }
