-- What an engine comes to where clauses may be removed as it goes on.
use Rattle.std.specs.Prelude.{◌≡◌, ◌<◌, ℕ, List, ◌∷◌, length, Bool, if◌then◌else◌, Option, None, Some, ⊤}
use Rattle.spec_numbers.specs.Texts.{Text}
use Rattle.spec_terms.specs.Term.{apply, named}
use Rattle.spec_syntax.specs.Operators.{Ops}
use Rattle.spec_branch.specs.Branch.{State, Pending}
use Rattle.spec_builtins.specs.Clauses.{HeadBody, rule}
use Rattle.spec_search.specs.Control.{clause_state}
use Rattle.spec_search.specs.Database.{Database, Clause, clause_removed}
use Rattle.spec_search.specs.Replies.{Place}
use Rattle.spec_search.specs.Search.{Search}
use Rattle.spec_transcript.specs.Causes.{Budgets, Cause}
use Rattle.spec_transcript.specs.Causes as cause
use Rattle.spec_engine.specs.Cells.{Value, Stack}
use Rattle.spec_engine.specs.Coming.{Tells, Stops}
use Rattle.spec_engine.specs.Trying.{match_work}
use Rattle.cq_term.specs.Texts.{text_of}
use Rattle.cq_clauses.specs.declared.walk.Walk.{Walk}
use Rattle.cq_control.specs.Items.{ContinuationsValue}
use Rattle.cq_store.specs.declared.store.StoreFault.{StoreFault}
use Rattle.cq_store.specs.declared.store.StoreFault.TheVariants.{Overflow, Pivots, NoMemory}
use Rattle.cq_resolve.specs.Database.{Program, as_database, as_parts}
use Rattle.cq_resolve.specs.Building.{moved_by}
use Rattle.cq_resolve.specs.StoredValue.{ClauseValue}
use Rattle.cq_settle.specs.Contents.{Contents}
use Rattle.cq_settle.specs.declared.world.World.{World}
use Rattle.spec_engine.specs.declared.machine.cell.Cell.{Cell}
use Rattle.cq_branch.specs.declared.alternatives.Alternatives.{Alternatives}
use Rattle.cq_branch.specs.declared.alternatives.Alternatives.TheVariants.{Matches}
use Rattle.cq_branch.specs.Worlds.{value, saved_values, term_in, Stands, Arrives}
use Rattle.cq_calls.specs.Trying.{IsGone}
use Rattle.cq_branch.specs.Begun.{IsPlacedAs, IsBegun}
use Rattle.cq_choices.specs.Held.{Held}
use Rattle.cq_catch.specs.declared.matching.matching.Matched.{Matched}
use Rattle.cq_catch.specs.declared.matching.matching.Compared.{Compared}
use Rattle.cq_catch.specs.declared.matching.matching.Compared.TheVariants.{Goes, Pruned, Ended}

-- the newest choice has these clauses left that are to be compared with one that is asked for
abbrev pub HasLeft : ℕ → Walk → Bool → ℕ → List Alternatives → Type 0
HasLeft t walk removes rest choices = (older : List Alternatives) × (choices ≡ Matches t walk removes rest ∷ older)

-- it has some clauses so
abbrev pub HasMatches : List Alternatives → Type 0
HasMatches choices = (t : ℕ) × (walk : Walk) × (removes : Bool) × (rest : ℕ) × HasLeft t walk removes rest choices

-- the engine, over the database of the program, stands for some search
abbrev pub IsGoing : Program → Held → Option ℕ → Type 0
IsGoing v h current = (ops : Ops) × (n : ℕ) × (s : Search) × Stands h.texts v (as_database h.texts ops v) n h.saved h.choices h.now current s

-- Each search for which it stood comes quietly to one for which it stands now, over the database of the program then.
abbrev pub Reaches : Program → Held → Option ℕ → Program → Held → Option ℕ → Type 0
Reaches v old start w new current = (steps : ℕ) (ops : Ops) (n : ℕ) (s : Search)
    → Stands old.texts v (as_database old.texts ops v) n old.saved old.choices old.now start s
    → Arrives steps new.texts w (as_database new.texts ops w) n new.saved new.choices new.now current s

-- the search comes quietly to where the query stops for the cause, with this database
abbrev pub ComesToStop : Budgets → Cause → Database → Search → Type 0
ComesToStop budgets cause db s = (t : Search) × Tells budgets s (Stops cause) t × (t.database ≡ db)

-- the same for the fault, where one maximisation may make so many exchanges; want of memory tells nothing
abbrev pub FaultStops : ℕ → StoreFault → Database → Search → Type 0
FaultStops pivots (Overflow pair) db s = (budgets : Budgets) → budgets.pivots ≡ pivots → ComesToStop budgets (cause.Overflow pair) db s
FaultStops pivots (Pivots n) db s = (budgets : Budgets) → budgets.pivots ≡ pivots → ComesToStop budgets (cause.Pivots n) db s
FaultStops pivots NoMemory db s = ⊤

-- each search for which it stood comes quietly to where its query stops for the fault, over the database of the program then
abbrev pub AllStop : Program → Held → Option ℕ → Program → Held → ℕ → StoreFault → Type 0
AllStop v old start w new pivots fault = (ops : Ops) (n : ℕ) (s : Search)
    → Stands old.texts v (as_database old.texts ops v) n old.saved old.choices old.now start s
    → FaultStops pivots fault (as_database new.texts ops w) s

-- ---- the branch of a clause

-- the head and the body under the variables from n on
abbrev pub moved_parts : List Text → ℕ → ClauseValue → HeadBody
moved_parts texts n c = record { head = named (text_of texts) (apply (moved_by n) c.head); body = named (text_of texts) (apply (moved_by n) c.body) }

-- a clause, which is kept so, is compared with the one asked for, at the place
pub record IsComparedAt (texts : List Text) (choices : Stack Contents) (now : Value Contents) (id rest : ℕ) (kept : ClauseValue) (p : Place)
    (asked : HeadBody) (c : Clause) : Type 0 where
  pub place : IsPlacedAs texts choices now rest p.rest p.state
  pub reads : term_in texts now.0 id ≡ Some (rule asked)
  pub parts : c.parts ≡ as_parts texts kept

-- it is kept, and goes on so
abbrev pub MatchGoes : List Text → Value Contents → Value Contents → ℕ → ℕ → ClauseValue → ℕ → Type 0
MatchGoes texts old new id rest kept k = (choices : Stack Contents) (p : Place) (asked : HeadBody) (c : Clause) (removes : Bool)
    → IsComparedAt texts choices old id rest kept p asked c → IsBegun texts choices old new k p.rest (clause_state p c) (match_work p removes asked c)

-- what holds of its state and its work
abbrev pub OfMatch : List Text → Value Contents → ℕ → ℕ → ClauseValue → (State → Pending → Type 0) → Type 0
OfMatch texts now id rest kept P = (choices : Stack Contents) (p : Place) (asked : HeadBody) (c : Clause) (removes : Bool)
    → IsComparedAt texts choices now id rest kept p asked c → P (clause_state p c) (match_work p removes asked c)

-- ---- a clause that was compared

-- what the engine goes on with, if it doesn't come back
abbrev pub goes_on : Option Matched → Option ℕ
goes_on None = None
goes_on (Some m) = Some m.first

-- the database then: where clauses are removed, the clause of a branch that is kept is gone
abbrev pub database_then : Bool → Option Matched → Database → Database
database_then removes None db = db
database_then removes (Some m) db = if removes then clause_removed m.clause db else db

-- the clause whose branch is kept
abbrev pub matched : Compared → Option Matched
matched (Goes m) = Some m
matched (Pruned walk) = None
matched Ended = None

-- each search for which the engine stood, where it came back, comes quietly to one for which it stands over the database then
abbrev pub ComparesTo : List Text → Program → Bool → World → ContinuationsValue Cell → List Alternatives
    → World → ContinuationsValue Cell → List Alternatives → Option Matched → Type 0
ComparesTo texts v removes old lists before new more choices m = (steps : ℕ) (db : Database) (n : ℕ) (s : Search)
    → Stands texts v db n (saved_values old lists.saved) before (value old lists.now) None s
    → Arrives steps texts v (database_then removes m db) n (saved_values new more.saved) choices (value new more.now) (goes_on m) s

-- a clause whose branch is kept is one of the program's; where it is pruned the choice has the clauses that are left, and where there
-- was none it is gone
abbrev pub IsCompared : Program → ℕ → Bool → ℕ → List Alternatives → List Alternatives → Compared → Type 0
IsCompared v t removes rest old new (Goes m) = m.clause < length v.contents
IsCompared v t removes rest old new (Pruned walk) =
    (c : Alternatives) × (older : List Alternatives) × (old ≡ c ∷ older) × (new ≡ Matches t walk removes rest ∷ older)
IsCompared v t removes rest old new Ended = IsGone old new
