-- The world and the choices of an engine, as the definitions see them.
use Rattle.std.specs.Prelude.{◌≡◌, ℕ, ◌<◌, List, [], map, length, slice_get, Option}
use Rattle.std.specs.Option.{option_map}
use Rattle.std.specs.List.{zip}
use Rattle.spec_numbers.specs.Rational.{ℚ}
use Rattle.spec_linear.specs.Solution.{Fixes}
use Rattle.spec_numbers.specs.Texts.{Text}
use Rattle.spec_terms.specs.Term.{Var, named}
use Rattle.spec_syntax.specs.Trees.{Tree}
use Rattle.spec_branch.specs.Branch.{State, Branch}
use Rattle.spec_search.specs.Database.{Database, Clause}
use Rattle.spec_search.specs.Replies.{Place, Reply}
use Rattle.spec_search.specs.Search.{Search}
use Rattle.cq_term.specs.Texts.{text_of}
use Rattle.cq_attr.specs.Attributes.{nothing}
use Rattle.cq_term.specs.HeapValue.{Terms}
use Rattle.cq_term.specs.Meaning.{HeapTerm, at}
use Rattle.cq_term.specs.Trees.{KnowsTerms}
use Rattle.cq_settle.specs.Contents.{Contents}
use Rattle.cq_settle.specs.Rest.{IsReadyAs}
use Rattle.cq_settle.specs.Worlds.{now_of, saved_of}
use Rattle.cq_settle.specs.declared.world.World.{World}
use Rattle.cq_resolve.specs.Database.{Program, as_clause}
use Rattle.cq_resolve.specs.Keys.{key_of}
use Rattle.cq_clauses.specs.Walks.{left}
use Rattle.cq_clauses.specs.declared.walk.Walk.{Walk}
use Rattle.cq_predicates.specs.Given.{over, ways_left}
use Rattle.cq_resolve.specs.StoredValue.{ClauseValue}
use Rattle.cq_control.specs.Open.{open_choices}
use Rattle.spec_engine.specs.declared.machine.cell.Cell.{Cell}
use Rattle.spec_engine.specs.Cells.{Left, One, Clauses, Ways, Barrier, Catches, Caught, Gathers, Matches, Value, Stack}
use Rattle.spec_engine.specs.Standing.{engine, IsPlace, AreWaiting, IsStanding}
use Rattle.spec_engine.specs.Coming.{Comes}
use Rattle.cq_branch.specs.declared.alternatives.Alternatives.{Alternatives}
use Rattle.cq_branch.specs.declared.alternatives.Alternatives.TheVariants as alternatives
use Rattle.cq_branch.specs.Selecting.{Reads, IsSelected, Becomes, HasGrown}
use Rattle.cq_branch.specs.Stored.{stored_tree, stored_trees}

-- ---- worlds

-- the world is the state of a branch in which nothing is left to settle, and these are the values that the linear constraints fix
pub record IsBranch (texts : List Text) (c : Contents) (st : State) : Type 0 where
  pub ready : IsReadyAs texts c st
  pub fixed : ℕ → Option ℚ
  pub fixes : Fixes c.told fixed

-- the term of a number
abbrev pub term_in : List Text → Contents → ℕ → Option Tree
term_in texts c id = option_map (named (text_of texts)) (slice_get c.heap.terms id)

-- the world with another heap
abbrev pub with_heap : Terms → Contents → Contents
with_heap h c = record c { heap = h }

-- a world, and what each continuation has to do
abbrev pub value : World → List (List Cell) → Value Contents
value w lists = (now_of w, lists)

-- the same at the live marks, the oldest first
abbrev pub saved_values : World → List (List (List Cell)) → List (Value Contents)
saved_values w saved = zip (saved_of w) saved

-- ---- choices

-- the clauses that a walk leaves
abbrev pub clauses_left : List Text → Program → Walk → List Clause
clauses_left texts v walk = map (as_clause texts v.contents) (left (λ (c : ClauseValue). key_of c.head) walk v)

-- what a choice leaves to try, by the clauses of the program and the terms of its world, in which an alternative has no new variables
abbrev pub left_of : List Text → Program → List HeapTerm → Alternatives → Left
left_of texts v ts (alternatives.One k) = One k
left_of texts v ts (alternatives.Clauses t walk k) = Clauses t (clauses_left texts v walk) k
left_of texts v ts (alternatives.Ways s k) = Ways (map (over 0) (ways_left texts ts s)) k
left_of texts v ts alternatives.Barrier = Barrier
left_of texts v ts (alternatives.Catches k) = Catches k
left_of texts v ts (alternatives.Caught ball c r k) = Caught (stored_tree texts ball) c r k
left_of texts v ts (alternatives.Gathers t copies k) = Gathers t (stored_trees texts copies) k
left_of texts v ts (alternatives.Matches t walk removes k) = Matches t removes (clauses_left texts v walk) k

abbrev pub left_at : List Text → Program → Value Contents × Alternatives → Value Contents × Left
left_at texts v c = (c.0, left_of texts v c.0.0.heap.terms c.1)

abbrev pub stack : List Text → Program → List (Value Contents) → List Alternatives → Stack Contents
stack texts v saved choices = map (left_at texts v) (open_choices saved choices)

-- ---- rows

-- the world reads the number as this term, which reads as itself in the state
abbrev pub ReadsAs : List Text → Contents → State → ℕ → Tree → Type 0
ReadsAs texts c st id t = Reads (IsBranch texts) (term_in texts) c st id t

-- a goal is selected at the place, with this continuation and these branches behind it
abbrev pub Selected : List Text → Stack Contents → Value Contents → ℕ → ℕ → Place → List Branch → Type 0
Selected texts choices now height rest p behind = IsSelected (IsBranch texts) (term_in texts) choices now height rest p behind

-- call of a term is selected at the place, with this continuation and these branches behind it
abbrev pub Placed : List Text → Stack Contents → Value Contents → ℕ → Place → List Branch → Type 0
Placed texts choices now rest p behind = IsPlace (IsBranch texts) (term_in texts) choices now rest p × AreWaiting (IsBranch texts) (term_in texts) choices behind

-- the engine leads to what the reply makes: it goes on with the continuation, if it doesn't come back
abbrev pub Leads : List Text → Stack Contents → Value Contents → Option ℕ → Place → List Branch → Reply → Type 0
Leads texts choices now current p behind reply = Becomes (IsBranch texts) (term_in texts) choices now current p behind reply

-- more was built: what was there is as it was
abbrev pub Grown : List Text → Value Contents → Value Contents → Type 0
Grown texts old new = HasGrown (IsBranch texts) (term_in texts) old new

-- ---- the engine

-- the engine stands for the search
abbrev pub Stands : List Text → Program → Database → ℕ → List (Value Contents) → List Alternatives → Value Contents → Option ℕ → Search → Type 0
Stands texts v db n saved choices now current s = IsStanding (IsBranch texts) (term_in texts) (engine db n (stack texts v saved choices) now current) s

-- it stands for some search
abbrev pub IsWorking : List (Value Contents) → List Alternatives → Value Contents → Option ℕ → Type 0
IsWorking saved choices now current = (texts : List Text) × (v : Program) × (db : Database) × (n : ℕ) × (s : Search) × Stands texts v db n saved choices now current s

-- the search comes quietly to one for which the engine stands
abbrev pub Arrives : ℕ → List Text → Program → Database → ℕ → List (Value Contents) → List Alternatives → Value Contents → Option ℕ → Search → Type 0
Arrives steps texts v db n saved choices now current s = Comes (IsBranch texts) (term_in texts) steps (engine db n (stack texts v saved choices) now current) s

-- nothing is known of a world's terms but themselves: no variable is bound or numeric, nothing was told, and nothing waits
pub record KnowsNothing (texts : List Text) (c : Contents) : Type 0 where
  pub names : KnowsTerms texts c.heap.terms
  pub images : (v : ℕ) → v < length c.heap.images → at c.heap.images v ≡ Var v
  pub attrs : c.attrs ≡ nothing
  pub told : c.told ≡ []
