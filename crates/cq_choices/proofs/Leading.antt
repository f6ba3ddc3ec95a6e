-- A call of a predicate leads an engine to the alternatives that it left.
use Rattle.std.proofs.Common.{inr, ◌≡◌, ◌<◌, ◌+◌, ℕ, suc, List, [], ◌∷◌, ◌++◌, length, map, Option, None, Some, refl, sym, ap, ap₂, ◌∙◌, subst, arith}
use Rattle.spec_numbers.specs.Prefixes.{IsPrefix}
use Rattle.spec_numbers.specs.Texts.{Text}
use Rattle.spec_terms.specs.Unifier.{Equation}
use Rattle.spec_syntax.specs.Trees.{Tree}
use Rattle.spec_builtins.specs.Built.{indicator_of}
use Rattle.spec_builtins.specs.Alternatives.{Solutions, Faults, Offers}
use Rattle.spec_builtins.specs.Terms.{arguments}
use Rattle.spec_branch.specs.Branch.{State, Item, Branch, read}
use Rattle.spec_search.specs.Replies.{Place, Reply, Makes, Made, child, made, offers, with_new, with_equations, alternative_child}
use Rattle.spec_search.specs.Search.{Search, look_at, Selecting}
use Rattle.spec_search.specs.Steps.{Children}
use Rattle.spec_search.specs.Turns as turn
use Rattle.spec_search.specs.Turns.{Turn, Wrote, place_of, after_step}
use Rattle.spec_search.specs.Predicates.{Predicate, predicate_named}
use Rattle.spec_search.specs.Calls.{solutions_of, stepped_by}
use Rattle.spec_search.proofs.PredicatesStepping.{called}
use Rattle.cq_built.specs.Errors.{Explains}
use Rattle.cq_built.specs.declared.errors.BuiltinFault.{BuiltinFault}
use Rattle.cq_built.specs.declared.errors.BuiltinFault.TheVariants as fault
use Rattle.cq_control.specs.Items.{items_at}
use Rattle.cq_control.specs.Open.{open_choices}
use Rattle.cq_predicates.specs.Given.{over, ways_left, offers as offered}
use Rattle.cq_predicates.specs.declared.solutions.Solutions as given
use Rattle.cq_resolve.specs.Database.{Program}
use Rattle.cq_term.specs.HeapValue.{Terms}
use Rattle.cq_term.specs.Names.{HasNamesOfTerms}
use Rattle.cq_term.specs.Trees.{trees, KnowsTerms}
use Rattle.cq_unify.specs.Copied.{unbound_from}
use Rattle.cq_settle.specs.Contents.{Contents}
use Rattle.spec_engine.specs.Cells.{Ways, Value, Stack}
use Rattle.spec_engine.specs.Standing.{engine, IsPlace, AreWaiting}
use Rattle.spec_engine.specs.Coming.{at_once, after, Comes}
use Rattle.spec_engine.proofs.Kept.{items_read_on}
use Rattle.cq_branch.specs.declared.alternatives.Alternatives.{Alternatives}
use Rattle.cq_branch.specs.declared.alternatives.Alternatives.TheVariants as alternatives
use Rattle.cq_branch.specs.Calls.{IsRaised}
use Rattle.cq_branch.specs.Worlds.{IsBranch, term_in, with_heap, Placed, Leads, left_at, stack}
use Rattle.cq_branch.proofs.Added.{tree_is}
use Rattle.cq_branch.proofs.Newer.{branch_more, read_still}
use Rattle.cq_choices.specs.Calls.{AreRead, row_of}
use Rattle.cq_choices.specs.Held.{Held, IsOver, AreNamedByTerms, open_of, stack_of}
use Rattle.cq_choices.proofs.Stacked.{waits_more, place_more}

-- ---- alternatives without new variables, in the state with those of the call

fresh_same : (p : Place) (count : ℕ) (es : List (Equation Text))
    → alternative_child p (over count es) ≡ alternative_child (record p { state = with_new count p.state }) (over 0 es)
fresh_same p count es =
    let e : p.state.fresh + count ≡ p.state.fresh + count + 0 = omega arith in
    λ i. child p.rest (record p.state { fresh = e i }) (with_equations es)

pub children_same : (p : Place) (count : ℕ) (ways : List (List (Equation Text)))
    → map (alternative_child p) (map (over count) ways) ≡ map (alternative_child (record p { state = with_new count p.state })) (map (over 0) ways)
children_same p count [] = refl
children_same p count (es ∷ ways) = ap₂ (λ b bs. b ∷ bs) (fresh_same p count es) (children_same p count ways)

-- ---- the call's terms and variables

module _ (more : List Text) (v : Program) (h : Held) (longer : IsPrefix h.texts more) (o : IsOver v h) (known : AreNamedByTerms (open_of h))
    (start : Value Contents) (known_there : HasNamesOfTerms start.0.heap)
    (built : Terms) (count : ℕ) (terms : IsPrefix start.0.heap.terms built.terms) (images : built.images ≡ start.0.heap.images ++ unbound_from (length start.0.heap.images) count)
    (names : KnowsTerms more built.terms) where
  abbrev c : Contents
  c = start.0

  abbrev later : Value Contents
  later = (with_heap built c, start.1)

  abbrev older : Stack Contents
  older = map (left_at more v) (open_of h)

  abbrev newer : ℕ → Place → Place
  newer n p = record p { state = with_new n p.state }

  module _ (rest : ℕ) (p : Place) (behind : List Branch) (placed : Placed h.texts (stack_of v h) start rest p behind) where
    -- the place in the state with the new variables
    newer_place : IsPlace (IsBranch more) (term_in more) older later rest (newer count p)
    newer_place =
        let j = place_more h.texts more longer v o.program (open_of h) o.choices known behind placed.1 start known_there rest p placed.0 in
        record {
          continuation = record {
            there = j.continuation.there;
            fits = j.continuation.fits;
            state = branch_more more c built count terms images names p.state j.continuation.state;
            cells = items_read_on (IsBranch more) (term_in more) older c p.state (with_heap built c) (with_new count p.state)
                (λ id t e. read_still more c built count terms images names id (read p.state t) e) (items_at start.1 rest) p.rest j.continuation.cells;
          };
          height = j.height;
        }

    module _ (s : given.Solutions) where
      abbrev ways : List (List (Equation Text))
      ways = ways_left more built.terms s

      abbrev children : List Branch
      children = map (alternative_child p) (map (over count) ways)

      waits : AreWaiting (IsBranch more) (term_in more) ((later, Ways (map (over 0) ways) rest) ∷ older) (children ++ behind)
      waits = (
        children,
        behind,
        refl,
        (newer count p, children_same p count ways, newer_place),
        waits_more h.texts more longer v o.program (open_of h) o.choices known behind placed.1,
      )

      pub ways_lead : (saved : List (Value Contents)) (choices : List Alternatives) (now : Value Contents)
          → open_choices saved choices ≡ (later, alternatives.Ways s rest) ∷ open_of h
          → Leads more (stack more v saved choices) now None p behind (offers p (offered count more built.terms s))
      ways_lead saved choices now opened = record {
        made = made p children;
        row = refl;
        database = refl;
        output = refl;
        comes = λ steps t d e. record {
          reached = t;
          quiet = at_once;
          stands = record {
            database = d;
            selected = refl;
            first = [];
            behind = children ++ behind;
            branches = e;
            current = refl;
            waiting = subst (λ (x : Stack Contents). AreWaiting (IsBranch more) (term_in more) x (children ++ behind)) (sym (ap (map (left_at more v)) opened)) waits;
          };
        };
      }

-- ---- arguments

pub trees_read : (texts : List Text) (c : Contents) (st : State) (ids : List ℕ) (ts : List Tree) → AreRead texts c st ids ts → trees texts c.heap.terms ids ≡ ts
trees_read texts c st [] [] r = refl
trees_read texts c st [] (t ∷ ts) r = absurd r
trees_read texts c st (id ∷ ids) [] r = absurd r
trees_read texts c st (id ∷ ids) (t ∷ ts) r = ap₂ (λ x xs. x ∷ xs) (tree_is texts c.heap.terms id t r.0.0) (trees_read texts c st ids ts r.1)

-- the call's row at a place
pub row_is : (texts : List Text) (c : Contents) (q : Predicate) (p : Place) (ids : List ℕ) (ts : List Tree) → IsBranch texts c p.state → AreRead texts c p.state ids ts
    → row_of q p ts ≡ offers p (solutions_of q (length c.heap.images) (trees texts c.heap.terms ids))
row_is texts c q p ids ts b r =
    ap₂ (λ (n : ℕ) (us : List Tree). offers p (solutions_of q n us)) (sym b.ready.stands.fresh) (sym (trees_read texts c p.state ids ts r))

pub raised : (texts : List Text) (c : Contents) (p : Place) (s : Solutions) (r : Reply) (f : BuiltinFault) → r ≡ offers p s → Explains texts c.heap.terms s f
    → IsRaised texts c.heap.terms f r
raised texts c p s r (fault.Error e) is x = is ∙ ap (offers p) x
raised texts c p s r fault.NoMemory is x = tt

-- ---- the search

pub same_made : (m n : Made) → Makes m ≡ Makes n → m ≡ n
same_made m n e = cc

pub made_is : (p : Place) (goal : Tree) (s : Solutions) (m : Made) → offers p s ≡ Makes m → stepped_by p goal s ≡ Children m
made_is p goal (Faults e) m h = cc
made_is p goal (Offers ways) m h = ap Children (same_made (made p (map (alternative_child p) ways)) m h)

pub call_comes : (texts : List Text) (steps : ℕ) (s : Search) (goal : Tree) (cut : ℕ) (items : List Item) (st : State) (behind : List Branch)
    → look_at s.branches ≡ Selecting goal cut items st behind → s.selected < steps
    → (q : Predicate) → predicate_named (indicator_of (read st goal)) ≡ Some q → read st (read st goal) ≡ read st goal
    → (choices : Stack Contents) (now : Value Contents) (current : Option ℕ)
    → Leads texts choices now current (place_of s st items cut behind) behind (row_of q (place_of s st items cut behind) (arguments (read st goal)))
    → Comes (IsBranch texts) (term_in texts) steps (engine s.database (suc s.selected) choices now current) s
call_comes texts steps s goal cut items st behind look few q found itself choices now current b =
    let p = place_of s st items cut behind in
    let step = (called p (read st goal) q found itself (Children b.made)).1 (sym (made_is p (read st goal) (solutions_of q st.fresh (arguments (read st goal))) b.made b.row)) in
    let t : Turn s (Wrote []) (after_step s b.made behind) = subst (λ text. Turn s (Wrote text) (after_step s b.made behind)) b.output (turn.steps look step) in
    let c = b.comes steps (after_step s b.made behind) b.database refl in
    record { reached = c.reached; quiet = after (inr few) t c.quiet; stands = c.stands }
