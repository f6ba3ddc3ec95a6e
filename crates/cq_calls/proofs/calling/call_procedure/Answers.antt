use Rattle.std.proofs.Common.{◌≡◌, ℕ, List, [], map, Option, None, Some, true, false, refl, sym, ap, ◌∙◌, subst}
use Rattle.std.specs.Option.{option_map}
use Rattle.spec_terms.specs.Term.{named}
use Rattle.spec_syntax.specs.Trees.{Tree}
use Rattle.spec_branch.specs.Branch.{Branch}
use Rattle.spec_search.specs.Control.{user_row}
use Rattle.spec_search.specs.Replies.{Place, Calls}
use Rattle.spec_search.specs.Steps.{IsSelection}
use Rattle.spec_builtins.specs.Built.{indicator_of}
use Rattle.cq_attr.proofs.Elements.{on_err}
use Rattle.cq_clauses.specs.Database.{clauses_of, database, kind_of}
use Rattle.cq_clauses.specs.Selected.{key_at, matching}
use Rattle.cq_clauses.specs.Walks.{HasNoneLeft, IsWalk}
use Rattle.cq_clauses.specs.declared.key.Key.{Key}
use Rattle.cq_resolve.specs.Database.{Program, IsProgram, as_clause, as_kind}
use Rattle.cq_resolve.specs.Keys.{key_of}
use Rattle.cq_resolve.specs.StoredValue.{ClauseValue}
use Rattle.cq_term.specs.Meaning.{at, blank}
use Rattle.cq_term.specs.Texts.{text_of}
use Rattle.cq_settle.specs.Contents.{Contents}
use Rattle.spec_engine.specs.Cells.{Value}
use Rattle.cq_branch.specs.Choices.{AreOpen}
use Rattle.cq_branch.specs.Worlds.{saved_values, stack, value}
use Rattle.cq_branch.specs.declared.alternatives.Alternatives.{Alternatives}
use Rattle.cq_calls.specs.Calling.{CallBecomes, IsCalledAt, WalkComes, numbers_left}
use Rattle.cq_calls.proofs.CalledClauses.{raises, known, some_left, becomes, none_known, some_known}
use Rattle.cq_calls.proofs.Left.{none_left}
use Rattle.cq_calls.proofs.Narrowing.{selected_of}
use Rattle.cq_calls.proofs.Waiting.{keeps_all, none_comes}
use Rattle.cq_calls.proofs.calling.call_procedure.Goals as goal
use Rattle.cq_calls.proofs.calling.call_procedure.Goals.{After-walk-walk, After-is_none, After-is_empty}

abbrev before : (c : After-walk-walk) → List (Value Contents)
before c = saved_values c.args.world.now.first c.args.world.now.second.saved

abbrev now : (c : After-walk-walk) → Value Contents
now c = value c.args.world.now.first c.args.world.now.second.now

-- at the place the goal calls the predicate
abbrev Calls-at : (c : After-walk-walk) → Place → List Branch → Tree → Type 0
Calls-at c p behind g =
    IsCalledAt c.args.atoms.now c.args.clauses.now (stack c.args.atoms.now c.args.clauses.now (before c) c.args.choices.now) (now c) c.args.pred c.args.goal c.args.rest p behind g

-- what the walk leaves
tried : (c : After-walk-walk) → numbers_left c.args.clauses.now c.walk-walk.result
    ≡ matching (key_at (λ (d : ClauseValue). key_of d.head) c.args.clauses.now.contents) (key_of (at c.args.world.now.first.heap.now.terms c.args.goal))
    (clauses_of c.args.pred (database c.args.clauses.now.procedures))
tried c =
    c.walk-walk.ensures.left
    ∙ ap (λ (k : Option Key). matching (key_at (λ (d : ClauseValue). key_of d.head) c.args.clauses.now.contents) k (clauses_of c.args.pred (database c.args.clauses.now.procedures)))
    c.goal_key.ensures

-- the clauses of the procedure
abbrev All-of : (c : After-walk-walk) → Place → Tree → Type 0
All-of c p g =
    user_row p (indicator_of g) ≡ Calls (map (as_clause c.args.atoms.now c.args.clauses.now.contents) (clauses_of c.args.pred (database c.args.clauses.now.procedures)))

-- from each search with the call's branches in front it comes to where the clauses lead
row_of : (c : After-walk-walk) (p : Place) (behind : List Branch) (g : Tree) → Calls-at c p behind g → All-of c p g
    → (more : List (Value Contents)) (after : List Alternatives) (later : Value Contents) (current : Option ℕ)
    → WalkComes c.args.atoms.now c.args.clauses.now (before c) c.args.choices.now (now c) c.args.goal c.walk-walk.result c.args.rest more after later current
    → CallBecomes c.args.atoms.now (stack c.args.atoms.now c.walk-walk.new.self more after) later current p behind g
row_of c p behind g i row more after later current comes =
    let texts = c.args.atoms.now in
    let v = c.args.clauses.now in
    let called = clauses_of c.args.pred (database v.procedures) in
    let goal = at (now c).0.heap.terms c.args.goal in
    let names = i.place.0.continuation.state.ready.stands.names c.args.goal blank c.requires.goal in
    let selected = c.walks_select_clauses.ensures texts i.different p goal names v.contents i.program.contents called (c.calls_read_the_database.ensures.known texts c.args.pred v i.program) in
    subst (λ (u : Program). CallBecomes texts (stack texts u more after) later current p behind g) (sym c.walk-walk.ensures.same)
    (becomes texts v (before c) c.args.choices.now (now c) c.args.pred c.args.goal c.args.rest p behind g i comes.some row
    (selected_of texts i.different p v i.program.contents goal names called (numbers_left v c.walk-walk.result) comes.some
    (subst (λ ns. IsSelection p (named (text_of texts) goal) (map (as_clause texts v.contents) called) (map (as_clause texts v.contents) ns)) (sym (tried c)) selected) comes.narrows)
    more after later current comes.comes)

-- the same over the program as the walk leaves it
row_after : (c : After-walk-walk) (p : Place) (behind : List Branch) (g : Tree) → Calls-at c p behind g → All-of c p g
    → (more : List (Value Contents)) (after : List Alternatives) (later : Value Contents) (current : Option ℕ)
    → WalkComes c.args.atoms.now c.walk-walk.new.self (before c) c.args.choices.now (now c) c.args.goal c.walk-walk.result c.args.rest more after later current
    → CallBecomes c.args.atoms.now (stack c.args.atoms.now c.walk-walk.new.self more after) later current p behind g
row_after c p behind g i row more after later current comes =
    row_of c p behind g i row more after later current
    (subst (λ (u : Program). WalkComes c.args.atoms.now u (before c) c.args.choices.now (now c) c.args.goal c.walk-walk.result c.args.rest more after later current) c.walk-walk.ensures.same comes)

-- the kind of the procedure, as it is found
kind_found : (c : After-is_none) (p : Place) (behind : List Branch) (g : Tree)
    (i : IsCalledAt c.args.atoms.now c.args.clauses.now (stack c.args.atoms.now c.args.clauses.now (saved_values c.args.world.now.first c.args.world.now.second.saved) c.args.choices.now)
    (value c.args.world.now.first c.args.world.now.second.now) c.args.pred c.args.goal c.args.rest p behind g)
    → kind_of c.args.pred (database c.args.clauses.now.procedures) ≡ c.status_of.result
kind_found c p behind g i = ap (λ (u : Program). kind_of c.args.pred (database u.procedures)) (sym c.walk-walk.ensures.same) ∙ sym c.status_of.ensures

-- ---- there is no procedure

pub returns-then-is_none-clause-row : goal.returns-then-is_none-clause-row
returns-then-is_none-clause-row c = λ p behind g i.
    let n = (goal.at.returns-then-is_none-clause-row c).After-is_none in
    raises c.args.atoms.now c.args.clauses.now (saved_values c.args.world.now.first c.args.world.now.second.saved) c.args.choices.now
    (value c.args.world.now.first c.args.world.now.second.now) c.args.pred c.args.goal c.args.rest p behind g i
    (c.calls_read_the_database.ensures.kind c.args.atoms.now i.different c.args.pred i.name c.args.clauses.now i.program i.operators
    ∙ ap (option_map as_kind) (kind_found n p behind g i ∙ none_known c.status_of.result c.is_none.result c.is_none.ensures c.if-is_none.true))

pub returns-then-is_none-clause-unknown : goal.returns-then-is_none-clause-unknown
returns-then-is_none-clause-unknown c = λ e. record { choices = refl; saved = refl; world = refl; lists = keeps_all c.args.world.now.second.now }

-- ---- none of its clauses may match

no_clause : (c : After-is_empty) → c.is_empty.result ≡ true → numbers_left c.args.clauses.now c.walk-walk.result ≡ []
no_clause c e = none_left c.args.clauses.now c.walk-walk.result (subst (λ b. HasNoneLeft b c.walk-walk.result) e c.is_empty.ensures)

pub returns-then-is_empty-clause-row : goal.returns-then-is_empty-clause-row
returns-then-is_empty-clause-row c = λ p behind g i.
    let n = (goal.at.returns-then-is_empty-clause-row c).After-is_none in
    let w = (goal.at.returns-then-is_empty-clause-row c).After-walk-walk in
    let e = (goal.at.returns-then-is_empty-clause-row c).After-is_empty in
    let kind = some_known c.status_of.result c.is_none.result c.is_none.ensures c.if-is_none.false in
    row_of w p behind g i
    (known c.args.atoms.now c.args.clauses.now (before w) c.args.choices.now (now w) c.args.pred c.args.goal c.args.rest p behind g i (as_kind kind.0)
    (c.calls_read_the_database.ensures.kind c.args.atoms.now i.different c.args.pred i.name c.args.clauses.now i.program i.operators
    ∙ ap (option_map as_kind) (kind_found n p behind g i ∙ kind.1))
    (c.calls_read_the_database.ensures.clauses c.args.atoms.now i.different c.args.pred i.name c.args.clauses.now i.program i.operators))
    (before w) c.args.choices.now (now w) None
    (none_comes c.args.atoms.now c.args.clauses.now (before w) c.args.choices.now (now w) c.args.goal c.args.rest c.walk-walk.result (no_clause e c.if-is_empty.true))

-- ---- its clauses

pub call_clauses-requires-clause-program : goal.call_clauses-requires-clause-program
call_clauses-requires-clause-program c = subst (IsProgram c.args.atoms.now) (sym c.walk-walk.ensures.same) c.requires.program

pub call_clauses-requires-clause-walk : goal.call_clauses-requires-clause-walk
call_clauses-requires-clause-walk c = subst (IsWalk c.walk-walk.result) (sym c.walk-walk.ensures.same) c.walk-walk.ensures.opened

-- a clause is left, so there is a procedure
row_there : (c : After-is_empty) → c.is_empty.result ≡ false → (p : Place) (behind : List Branch) (g : Tree)
    (i : IsCalledAt c.args.atoms.now c.args.clauses.now (stack c.args.atoms.now c.args.clauses.now (saved_values c.args.world.now.first c.args.world.now.second.saved) c.args.choices.now)
    (value c.args.world.now.first c.args.world.now.second.now) c.args.pred c.args.goal c.args.rest p behind g)
    → numbers_left c.args.clauses.now c.walk-walk.result
    ≡ matching (key_at (λ (d : ClauseValue). key_of d.head) c.args.clauses.now.contents) (key_of (at c.args.world.now.first.heap.now.terms c.args.goal))
    (clauses_of c.args.pred (database c.args.clauses.now.procedures))
    → user_row p (indicator_of g) ≡ Calls (map (as_clause c.args.atoms.now c.args.clauses.now.contents) (clauses_of c.args.pred (database c.args.clauses.now.procedures)))
row_there c e p behind g i left =
    some_left c.args.atoms.now c.args.clauses.now (saved_values c.args.world.now.first c.args.world.now.second.saved) c.args.choices.now
    (value c.args.world.now.first c.args.world.now.second.now) c.args.pred c.args.goal c.args.rest p behind g i c.walk-walk.result left
    (subst (λ b. HasNoneLeft b c.walk-walk.result) e c.is_empty.ensures)
    (c.calls_read_the_database.ensures.clauses c.args.atoms.now i.different c.args.pred i.name c.args.clauses.now i.program i.operators)

pub returns-in-Some-clause-row : goal.returns-in-Some-clause-row
returns-in-Some-clause-row c = λ p behind g i.
    let w = (goal.at.returns-in-Some-clause-row c).After-walk-walk in
    let e = (goal.at.returns-in-Some-clause-row c).After-is_empty in
    row_after w p behind g i (row_there e c.if-is_empty.false p behind g i (tried w))
    (saved_values c.call_clauses.new.world.first c.call_clauses.new.world.second.saved) c.call_clauses.new.choices
    (value c.call_clauses.new.world.first c.call_clauses.new.world.second.now) (Some c.in-Some.first) (rw c.in-Some.is at c.in_ok-next.ensures.comes)

pub returns-in-None-clause-row : goal.returns-in-None-clause-row
returns-in-None-clause-row c = λ p behind g i.
    let w = (goal.at.returns-in-None-clause-row c).After-walk-walk in
    let e = (goal.at.returns-in-None-clause-row c).After-is_empty in
    row_after w p behind g i (row_there e c.if-is_empty.false p behind g i (tried w))
    (saved_values c.call_clauses.new.world.first c.call_clauses.new.world.second.saved) c.call_clauses.new.choices
    (value c.call_clauses.new.world.first c.call_clauses.new.world.second.now) None (rw c.in-None.is at c.in_ok-next.ensures.comes)

pub returns-in-Some-clause-there : goal.returns-in-Some-clause-there
returns-in-Some-clause-there c = rw c.in-Some.is at c.in_ok-next.ensures.there

pub returns-in-None-clause-back : goal.returns-in-None-clause-back
returns-in-None-clause-back c = λ e. rw c.in-None.is at c.in_ok-next.ensures.back

pub returns-in_err-next-clause-err : goal.returns-in_err-next-clause-err
returns-in_err-next-clause-err c = on_err c.from_residual.result c.in_err-next.ensures.err

-- ---- the choices that are open

open_then : (c : After-walk-walk) (more : List (Value Contents)) (after : List Alternatives)
    → (AreOpen c.args.atoms.now c.walk-walk.new.self (before c) c.args.choices.now → AreOpen c.args.atoms.now c.walk-walk.new.self more after)
    → AreOpen c.args.atoms.now c.args.clauses.now (before c) c.args.choices.now → AreOpen c.args.atoms.now c.walk-walk.new.self more after
open_then c more after f o = f (subst (λ (u : Program). AreOpen c.args.atoms.now u (before c) c.args.choices.now) (sym c.walk-walk.ensures.same) o)

pub returns-then-is_none-clause-open : goal.returns-then-is_none-clause-open
returns-then-is_none-clause-open c =
    open_then (goal.at.returns-then-is_none-clause-open c).After-walk-walk (saved_values c.args.world.now.first c.args.world.now.second.saved) c.args.choices.now (λ o. o)

pub returns-then-is_empty-clause-open : goal.returns-then-is_empty-clause-open
returns-then-is_empty-clause-open c =
    open_then (goal.at.returns-then-is_empty-clause-open c).After-walk-walk (saved_values c.args.world.now.first c.args.world.now.second.saved) c.args.choices.now (λ o. o)

pub returns-in-Some-clause-open : goal.returns-in-Some-clause-open
returns-in-Some-clause-open c =
    open_then (goal.at.returns-in-Some-clause-open c).After-walk-walk (saved_values c.call_clauses.new.world.first c.call_clauses.new.world.second.saved) c.call_clauses.new.choices
    c.call_clauses.ensures.open

pub returns-in-None-clause-open : goal.returns-in-None-clause-open
returns-in-None-clause-open c =
    open_then (goal.at.returns-in-None-clause-open c).After-walk-walk (saved_values c.call_clauses.new.world.first c.call_clauses.new.world.second.saved) c.call_clauses.new.choices
    c.call_clauses.ensures.open

pub returns-in_err-next-clause-open : goal.returns-in_err-next-clause-open
returns-in_err-next-clause-open c =
    open_then (goal.at.returns-in_err-next-clause-open c).After-walk-walk (saved_values c.call_clauses.new.world.first c.call_clauses.new.world.second.saved) c.call_clauses.new.choices
    c.call_clauses.ensures.open
