-- How an engine goes on, as the newest choices are passed and tried.
use Rattle.std.proofs.Common.{◌≡◌, ◌<◌, ◌≤◌, ◌+◌, ℕ, List, [], ◌∷◌, ◌++◌, length, map, Option, None, Some, sym, ap, ◌∙◌, subst, arith}
use Rattle.std.specs.Prelude.{IfSome, IfNone}
use Rattle.std.specs.List.{AllByRecursion}
use Rattle.std.proofs.lemmas.List.{length-map}
use Rattle.spec_numbers.specs.Texts.{Text}
use Rattle.spec_syntax.specs.Operators.{Ops}
use Rattle.spec_search.specs.Database.{Database}
use Rattle.spec_search.specs.Search.{Search}
use Rattle.spec_transcript.specs.Causes.{Budgets, Cause}
use Rattle.spec_transcript.specs.Causes as cause
use Rattle.spec_branch.proofs.Members.{both_parts}
use Rattle.cq_control.specs.Heights.{total}
use Rattle.cq_control.proofs.Opened.{length-open}
use Rattle.cq_store.specs.declared.store.StoreFault.{StoreFault}
use Rattle.cq_store.specs.declared.store.StoreFault.TheVariants.{Overflow, Pivots, NoMemory}
use Rattle.cq_resolve.specs.Database.{Program, IsProgram, as_database}
use Rattle.cq_resolve.specs.StoredValue.{StoredValue}
use Rattle.cq_settle.specs.Contents.{Contents}
use Rattle.spec_engine.specs.Cells.{size, Value}
use Rattle.spec_engine.specs.Coming.{Quietly, at_once, Comes}
use Rattle.spec_engine.specs.Standing.{engine}
use Rattle.cq_branch.specs.declared.alternatives.Alternatives.{Alternatives}
use Rattle.cq_branch.specs.Choices.{CanBeTried, KeepsOlder}
use Rattle.cq_branch.specs.Worlds.{IsBranch, term_in, left_at, stack, IsWorking}
use Rattle.cq_branch.proofs.Arrived.{quietly_on}
use Rattle.cq_branch.specs.Stops.{waiting_in}
use Rattle.cq_branch.proofs.Back.{told_after}
use Rattle.cq_choices.specs.Held.{Held, HasMarks, IsOver, open_of, stack_of}
use Rattle.cq_choices.specs.Trying.{IsSearching, ComesOver, StopsOver}
use Rattle.cq_catch.specs.Taking.{Escapes, EscapesOver}
use Rattle.cq_catch.specs.Matching.{IsGoing, Reaches, ComesToStop, FaultStops, AllStop}
use Rattle.cq_catch.proofs.Reached.{stop_with}
use Rattle.cq_catch.specs.Finding.{AreFewer, ThrowsFrom}
use Rattle.cq_catch.proofs.Counted.{in_hand, quiet_count, standing_count}

abbrev Opened : Type 0
Opened = List (Value Contents × Alternatives)

-- ---- choices that are still open

-- the older ones can be gone on with as before
pub over_older : (v : Program) (old new : Held) → new.texts ≡ old.texts → KeepsOlder old.saved old.choices new.saved new.choices → IsOver v old → IsOver v new
over_older v old new same k o =
    let both = both_parts (λ (c : Value Contents × Alternatives). CanBeTried old.texts v c.0.0.heap.terms c.1) k.gone (open_of new) in
    let older = (both.0 (subst (AllByRecursion (λ (c : Value Contents × Alternatives). CanBeTried old.texts v c.0.0.heap.terms c.1)) k.are o.choices)).1 in
    record {
      program = subst (λ texts. IsProgram texts v) (sym same) o.program;
      choices = subst (λ texts. AllByRecursion (λ (c : Value Contents × Alternatives). CanBeTried texts v c.0.0.heap.terms c.1) (open_of new)) (sym same) older;
    }

-- ---- how many wait

module _ (v : Program) where
  waits_behind : (texts : List Text) (gone cs : Opened) → waiting_in (map (left_at texts v) cs) ≤ waiting_in (map (left_at texts v) (gone ++ cs))
  waits_behind texts [] cs = omega arith
  waits_behind texts (c ∷ gone) cs = omega (arith, waits_behind texts gone cs)

  pub no_more : (old new : Held) → new.texts ≡ old.texts → KeepsOlder old.saved old.choices new.saved new.choices → waiting_in (stack_of v new) ≤ waiting_in (stack_of v old)
  no_more old new same k =
      let same_new = ap (λ texts. waiting_in (map (left_at texts v) (open_of new))) same in
      let same_old = ap (λ (cs : Opened). waiting_in (map (left_at old.texts v) cs)) k.are in
      omega (arith, same_new, same_old, waits_behind old.texts k.gone (open_of new))

  length-stack : (h : Held) → HasMarks h → length (stack_of v h) ≡ length h.choices
  length-stack h marked = length-map (open_of h) (left_at h.texts v) ∙ length-open h.saved h.choices marked

module _ (v w : Program) (old new : Held) (going : IsGoing v old None) (marked : HasMarks old) (marked_new : HasMarks new) where
  branches_left : (current : Option ℕ) → Reaches v old None w new current → in_hand current + total size (stack_of w new) ≤ total size (stack_of v old)
  branches_left current f =
      let a = f 0 going.0 going.1 going.2 going.3 in
      let before = standing_count (IsBranch old.texts) (term_in old.texts) (engine (as_database old.texts going.0 v) going.1 (stack_of v old) old.now None) going.2 going.3 in
      let now = standing_count (IsBranch new.texts) (term_in new.texts) (engine (as_database new.texts going.0 w) going.1 (stack_of w new) new.now current) a.reached a.stands in
      omega (arith, before, now, quiet_count a.quiet)

  -- a branch that was begun waits no more, and neither does a choice that is gone
  pub fewer_left : (current : Option ℕ) → Reaches v old None w new current → IfSome current (λ k. length new.choices ≤ length old.choices)
      → IfNone current (length new.choices < length old.choices) → AreFewer v old w new
  fewer_left None f some none = omega (arith, branches_left None f, none, length-stack v old marked, length-stack w new marked_new)
  fewer_left (Some k) f some none = omega (arith, branches_left (Some k) f, some, length-stack v old marked, length-stack w new marked_new)

-- ---- over the same program, with names that may have been added

module _ (v : Program) (old new : Held) (over : IsOver v old) (same : (ops : Ops) → as_database new.texts ops v ≡ as_database old.texts ops v) where
  pub reaches_over : (current : Option ℕ) → ComesOver old new current → Reaches v old None v new current
  reaches_over current f steps ops n s j =
      let a = f v over steps (as_database old.texts ops v) n s j in
      subst (λ (db : Database). Comes (IsBranch new.texts) (term_in new.texts) steps (engine db n (stack_of v new) new.now current) s) (sym (same ops)) a

  pub stops_over : (pivots : ℕ) (fault : StoreFault) → StopsOver old pivots fault → AllStop v old None v new pivots fault
  stops_over pivots fault f ops n s j =
      stop_with pivots fault (as_database new.texts ops v) s (j.database ∙ sym (same ops)) (f v over (as_database old.texts ops v) n s j)

pub throws_over : (v : Program) (old new : Held) (over : IsOver v old) (same : new.texts ≡ old.texts) (stored : StoredValue) → EscapesOver old new stored → ThrowsFrom v old None v new stored
throws_over v old new over same stored f budgets ops n s j =
    let a = f budgets v over (as_database old.texts ops v) n s j in
    subst (λ (texts : List Text). Escapes budgets v new stored (as_database texts ops v) n s) (sym same) a

-- ---- one thing after another

pub reaches_at_once : (v : Program) (old : Held) (current : Option ℕ) → Reaches v old current v old current
reaches_at_once v old current steps ops n s j = record { reached = s; quiet = at_once; stands = j }

module _ (u v w : Program) (a b c : Held) (start mid : Option ℕ) (f : Reaches u a start v b mid) where
  pub reaches_then : (current : Option ℕ) → Reaches v b mid w c current → Reaches u a start w c current
  reaches_then current g steps ops n s j =
      let x = f steps ops n s j in
      let y = g steps ops n x.reached x.stands in
      record { reached = y.reached; quiet = quietly_on x.quiet y.quiet; stands = y.stands }

  fault_then : (pivots budget : ℕ) (fault : StoreFault) (db : Database) (s : Search) → budget ≡ pivots
      → ((steps : ℕ) → (r : Search) × Quietly steps s r × FaultStops budget fault db r) → FaultStops pivots fault db s
  fault_then pivots budget (Overflow pair) db s e g = λ budgets k. let x = g budgets.steps in let h = x.2 budgets (k ∙ sym e) in (h.0, told_after x.1 h.1, h.2)
  fault_then pivots budget (Pivots n) db s e g = λ budgets k. let x = g budgets.steps in let h = x.2 budgets (k ∙ sym e) in (h.0, told_after x.1 h.1, h.2)
  fault_then pivots budget NoMemory db s e g = tt

  pub stops_then : (pivots budget : ℕ) (fault : StoreFault) → budget ≡ pivots → AllStop v b mid w c budget fault → AllStop u a start w c pivots fault
  stops_then pivots budget fault e g ops n s j =
      fault_then pivots budget fault (as_database c.texts ops w) s e (λ steps. let r = f steps ops n s j in (r.reached, r.quiet, g ops n r.reached r.stands))

  pub throws_then : (stored : StoredValue) → ThrowsFrom v b mid w c stored → ThrowsFrom u a start w c stored
  throws_then stored g budgets ops n s j =
      let r = f budgets.steps ops n s j in
      let x = g budgets ops n r.reached r.stands in
      record { ball = x.ball; is_stored = x.is_stored; next = x.next; tells = told_after r.quiet x.tells; stands = x.stands }

  pub going_then : IsGoing u a start → IsGoing v b mid
  going_then k = let r = f 0 k.0 k.1 k.2 k.3 in (k.0, k.1, r.reached, r.stands)

pub working : (v : Program) (h : Held) (current : Option ℕ) → IsGoing v h current → IsWorking h.saved h.choices h.now current
working v h current w = (h.texts, v, as_database h.texts w.0 v, w.1, w.2, w.3)

-- ---- over each program

pub searching : (v : Program) (h : Held) → IsOver v h → IsGoing v h None → IsSearching h
searching v h o w = (v, o, as_database h.texts w.0 v, w.1, w.2, w.3)
