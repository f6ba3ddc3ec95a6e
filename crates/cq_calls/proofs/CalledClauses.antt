-- A goal that calls the clauses of a procedure, and what the search comes to then.
use Rattle.std.proofs.Common.{◌≡◌, ℕ, suc, ◌<◌, List, [], ◌∷◌, ◌++◌, Option, None, Some, Bool, true, false, refl, sym, ap, ap₂, ◌∙◌, subst, map, inr}
use Rattle.std.specs.Prelude.{filter, is_some, not}
use Rattle.std.specs.Option.{option_map}
use Rattle.std.proofs.lemmas.Option.{none-some}
use Rattle.spec_numbers.specs.Texts.{Text}
use Rattle.spec_terms.specs.Term.{named}
use Rattle.spec_syntax.specs.Trees.{Tree}
use Rattle.spec_builtins.specs.Built.{Indicator, indicator_of}
use Rattle.spec_builtins.specs.Errors.{existence_error}
use Rattle.spec_branch.specs.Branch.{State, Item, Branch, read}
use Rattle.spec_search.specs.Control.{clause_child, calls, user_row}
use Rattle.spec_search.specs.Database.{Database, Clause, Procedure, procedure_of, snapshot}
use Rattle.spec_search.specs.Database as search
use Rattle.spec_search.specs.Replies.{Place, Calls, Raises, made}
use Rattle.spec_search.specs.Rows.{reply_of}
use Rattle.spec_search.specs.Search.{Search, look_at, Selecting}
use Rattle.spec_search.specs.Steps.{IsSelection}
use Rattle.spec_search.specs.Steps as step
use Rattle.spec_search.specs.Turns.{place_of, after_step}
use Rattle.spec_search.specs.Turns as turn
use Rattle.cq_term.specs.Texts.{text_of}
use Rattle.cq_clauses.specs.Database.{clauses_of, database}
use Rattle.cq_clauses.specs.Keys.{may_match}
use Rattle.cq_clauses.specs.Selected.{key_at, matching}
use Rattle.cq_clauses.specs.Walks.{HasNoneLeft}
use Rattle.cq_clauses.specs.declared.key.Key.{Key}
use Rattle.cq_clauses.specs.declared.walk.Walk.{Walk}
use Rattle.cq_resolve.specs.Database.{Program, as_clause, as_database, as_indicator}
use Rattle.cq_resolve.specs.Keys.{key_of}
use Rattle.cq_resolve.specs.StoredValue.{ClauseValue}
use Rattle.cq_term.specs.Meaning.{at}
use Rattle.cq_term.specs.declared.names.Pred.{Pred}
use Rattle.cq_settle.specs.Contents.{Contents}
use Rattle.spec_engine.specs.Cells.{Stack, Value}
use Rattle.spec_engine.specs.Coming.{after, Comes}
use Rattle.spec_engine.specs.Standing.{engine}
use Rattle.cq_branch.specs.Worlds.{IsBranch, term_in, stack}
use Rattle.cq_branch.specs.declared.alternatives.Alternatives.{Alternatives}
use Rattle.cq_branch.specs.declared.alternatives.Alternatives.TheVariants as alternatives
use Rattle.cq_branch.proofs.Added.{reads_tree}
use Rattle.cq_calls.specs.Calling.{IsCalledAt, CallBecomes, WouldStand, WouldCome, numbers_left}

-- ---- the procedure

-- a procedure of some kind is called, by its clauses
known_row : (i : Indicator) (o : Option Procedure) (kind : search.Kind) (all : List Clause) → option_map (λ p. p.kind) o ≡ Some kind → snapshot o ≡ all → calls i o ≡ Calls all
known_row i None kind all e f = absurd (none-some kind e)
known_row i (Some q) kind all e f = ap (λ (cs : List Clause). Calls cs) f

unknown_row : (i : Indicator) (o : Option Procedure) → option_map (λ p. p.kind) o ≡ None → calls i o ≡ Raises (existence_error i)
unknown_row i None e = refl
unknown_row i (Some q) e = cc

-- one with clauses is there
clauses_row : (i : Indicator) (o : Option Procedure) (all : List Clause) → (all ≡ [] → ⊥) → snapshot o ≡ all → calls i o ≡ Calls all
clauses_row i None all some f = absurd (some (sym f))
clauses_row i (Some q) all some f = ap (λ (cs : List Clause). Calls cs) f

none_mapped : {A B : Type 0} (f : A → B) (xs : List A) → map f xs ≡ [] → xs ≡ []
none_mapped f [] e = refl
none_mapped f (x ∷ xs) e = cc

none_matching : (key : ℕ → Option Key) (k : Option Key) (ns : List ℕ) → ns ≡ [] → matching key k ns ≡ []
none_matching key None ns e = e
none_matching key (Some k) ns e = ap (filter (λ n. may_match k (key n))) e

is_left : (v : Program) (walk : Walk) → HasNoneLeft false walk → numbers_left v walk ≡ [] → ⊥
is_left v walk h e = (let t : false ≡ true = (h.tells_so (key_at (λ (c : ClauseValue). key_of c.head) v.contents) v.procedures).1 e in cc)

pub none_known : {A : Type 0} (o : Option A) (none : Bool) → is_some o ≡ not none → none ≡ true → o ≡ None
none_known None none e f = refl
none_known (Some x) true e f = cc
none_known (Some x) false e f = cc

pub some_known : {A : Type 0} (o : Option A) (none : Bool) → is_some o ≡ not none → none ≡ false → (x : A) × (o ≡ Some x)
some_known None true e f = cc
some_known None false e f = cc
some_known (Some x) none e f = (x, refl)

-- ---- a goal that calls a predicate

module _ (texts : List Text) (v : Program) (saved : List (Value Contents)) (choices : List Alternatives) (now : Value Contents) (pred : Pred) (id rest : ℕ) (p : Place)
    (behind : List Branch) (g : Tree) (c : IsCalledAt texts v (stack texts v saved choices) now pred id rest p behind g) where
  abbrev procedure : Option Procedure
  procedure = procedure_of (as_database texts c.operators v) (as_indicator texts pred)

  row_is : user_row p (indicator_of g) ≡ calls (indicator_of g) procedure
  row_is = ap₂ (λ (db : Database) (i : Indicator). calls (indicator_of g) (procedure_of db i)) c.database (sym c.indicator)

  pub raises : option_map (λ q. q.kind) procedure ≡ None → user_row p (indicator_of g) ≡ Raises (existence_error (indicator_of g))
  raises e = row_is ∙ unknown_row (indicator_of g) procedure e

  abbrev clause : ℕ → Clause
  clause = as_clause texts v.contents

  abbrev all : List ℕ
  all = clauses_of pred (database v.procedures)

  abbrev some : List ℕ
  some = matching (key_at (λ (d : ClauseValue). key_of d.head) v.contents) (key_of (at now.0.heap.terms id)) all

  -- a procedure of some kind is called, and so is one of which a walk leaves a clause
  pub known : (kind : search.Kind) → option_map (λ q. q.kind) procedure ≡ Some kind → snapshot procedure ≡ map clause all → user_row p (indicator_of g) ≡ Calls (map clause all)
  known kind found clauses_are = row_is ∙ known_row (indicator_of g) procedure kind (map clause all) found clauses_are

  pub some_left : (walk : Walk) → numbers_left v walk ≡ some → HasNoneLeft false walk → snapshot procedure ≡ map clause all → user_row p (indicator_of g) ≡ Calls (map clause all)
  some_left walk tried left clauses_are =
      row_is ∙ clauses_row (indicator_of g) procedure (map clause all)
      (λ e. is_left v walk left (tried ∙ none_matching (key_at (λ (d : ClauseValue). key_of d.head) v.contents) (key_of (at now.0.heap.terms id)) all (none_mapped clause all e)))
      clauses_are

  -- ---- some of its clauses

  module _ (fewer : List ℕ) where
    -- it would stand for a search with their branches in front
    would_stand : (s : Search) → s.database ≡ p.database → s.branches ≡ map (clause_child p g) (map clause fewer) ++ behind
        → WouldStand texts v saved choices now id fewer rest p.database s.selected s
    would_stand s d b = record {
      database = d;
      selected = refl;
      first = [];
      behind = map (clause_child p g) (map clause fewer) ++ behind;
      branches = b;
      current = refl;
      waiting = (map (clause_child p g) (map clause fewer), behind, refl, (p, g, refl, c.reads.0, c.place.0), c.place.1);
    }

    module _ (row : user_row p (indicator_of g) ≡ Calls (map clause all))
        (selects : IsSelection p (named (text_of texts) (at now.0.heap.terms id)) (map clause all) (map clause fewer)) where
      pub becomes : (more : List (Value Contents)) (left : List Alternatives) (later : Value Contents) (current : Option ℕ)
          → WouldCome texts v saved choices now id fewer rest more left later current → CallBecomes texts (stack texts v more left) later current p behind g
      becomes more left later current comes = record {
        all = map clause all;
        some = map clause fewer;
        row = row;
        selection = subst (λ (t : Tree). IsSelection p t (map clause all) (map clause fewer)) (reads_tree texts now.0 p.state id g c.reads) selects;
        comes = λ steps s d b. comes steps p.database s.selected s (would_stand s d b);
      }

-- ---- the search

pub calls_come : (texts : List Text) (steps : ℕ) (s : Search) (goal : Tree) (cut : ℕ) (items : List Item) (st : State) (behind : List Branch)
    → look_at s.branches ≡ Selecting goal cut items st behind → s.selected < steps
    → reply_of (place_of s st items cut behind) (read st goal) ≡ user_row (place_of s st items cut behind) (indicator_of (read st goal))
    → (choices : Stack Contents) (now : Value Contents) (current : Option ℕ)
    → CallBecomes texts choices now current (place_of s st items cut behind) behind (read st goal)
    → Comes (IsBranch texts) (term_in texts) steps (engine s.database (suc s.selected) choices now current) s
calls_come texts steps s goal cut items st behind look few reply choices now current c =
    let p = place_of s st items cut behind in
    let m = made p (map (clause_child p (read st goal)) c.some) in
    let d = c.comes steps (after_step s m behind) refl refl in
    record {
      reached = d.reached;
      quiet = after (inr few) (turn.steps {m = m} look (step.calls (reply ∙ c.row) c.selection)) d.quiet;
      stands = d.stands;
    }
