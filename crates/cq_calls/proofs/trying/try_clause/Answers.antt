use Rattle.std.proofs.Common.{◌≡◌, ◌<◌, ◌∷◌, List, ◌-◌, length, Some, inr, refl, sym, ap, ap₂, ◌∙◌, arith, subst}
use Rattle.std.specs.Prelude.{slice_get, Err}
use Rattle.cq_clauses.specs.declared.walk.Walk.{Walk}
use Rattle.cq_control.specs.Items.{ContinuationsValue}
use Rattle.cq_control.specs.Open.{AreMarked, open_choices}
use Rattle.cq_store.specs.declared.store.StoreFault.{StoreFault}
use Rattle.cq_resolve.specs.Database.{IsCounted}
use Rattle.cq_resolve.specs.StoredValue.{ClauseValue}
use Rattle.cq_settle.specs.Contents.{Contents}
use Rattle.cq_settle.specs.Worlds.{saved_of}
use Rattle.cq_settle.specs.declared.world.World.{World}
use Rattle.spec_engine.specs.declared.machine.cell.Cell.{Cell}
use Rattle.spec_engine.specs.Cells.{Value}
use Rattle.cq_branch.specs.Worlds.{Grown, saved_values, value}
use Rattle.cq_branch.specs.declared.alternatives.Alternatives.{Alternatives}
use Rattle.cq_branch.specs.declared.alternatives.Alternatives.TheVariants.{Clauses}
use Rattle.cq_branch.specs.declared.begin.beginning.Begun.TheVariants.{Goes, Pruned}
use Rattle.cq_branch.proofs.Back.{back_still}
use Rattle.cq_calls.specs.Trying.{Leaves}
use Rattle.cq_calls.proofs.Left.{Opened, AreLeft, open_same, marked_same, of_content, length-opened, are_left, open_still, replaced, same-others}
use Rattle.cq_calls.proofs.Newest.{arrives_left, fewer_wait, open_left, fault_stops}
use Rattle.cq_calls.proofs.Waiting.{same_grown, keeps_on, keeps_both}
use Rattle.cq_calls.proofs.trying.try_clause.Goals as goal
use Rattle.cq_calls.proofs.trying.try_clause.Goals.{After-height-height, After-clause-clause, After-leave_untried, After-renew}

abbrev before : (c : After-clause-clause) → List (Value Contents)
before c = saved_values c.args.world.now.first c.args.world.now.second.saved

abbrev now : (c : After-clause-clause) → Value Contents
now c = value c.args.world.now.first c.args.world.now.second.now

-- what the choice goes back to
abbrev back : (c : After-clause-clause) → Value Contents
back c = c.requires.next.trying.back

abbrev others : (c : After-clause-clause) → Opened
others c = c.requires.next.trying.others

abbrev walk : (c : After-clause-clause) → Walk
walk c = c.requires.next.walk

was : (c : After-clause-clause) → open_choices (before c) c.args.choices.now ≡ (back c, Clauses c.args.goal (walk c) c.args.rest) ∷ others c
was c = c.requires.next.trying.goes_back

grown : (c : After-clause-clause) → Grown c.args.atoms.now (back c) (now c)
grown c = (let t = c.requires.next.trying in same_grown c.args.atoms.now t.back.0 (now c).0 t.back.1 (now c).1 t.world t.lists)

module _ (c : After-clause-clause) where
  -- what is left of the choice, over a world with the same marks
  left_then : (w : World) (lists : ContinuationsValue Cell) → saved_of w ≡ saved_of c.args.world.now.first → lists.saved ≡ c.args.world.now.second.saved → (o : Opened)
      → Leaves (Clauses c.args.goal c.args.left.now c.args.rest) c.args.left.now (open_choices (saved_values w lists.saved) c.args.choices.now) o
      → AreLeft (Clauses c.args.goal c.args.left.now c.args.rest) c.args.left.now (back c) (others c) o
  left_then w lists e f o l =
      are_left (Clauses c.args.goal c.args.left.now c.args.rest) c.args.left.now (back c) (Clauses c.args.goal (walk c) c.args.rest) (others c)
      (open_choices (saved_values w lists.saved) c.args.choices.now) o
      (open_same c.args.world.now.first w c.args.world.now.second.saved lists.saved c.args.choices.now _ e f (was c)) l

  marked_then : (w : World) (lists : ContinuationsValue Cell) → saved_of w ≡ saved_of c.args.world.now.first → lists.saved ≡ c.args.world.now.second.saved
      → AreMarked (saved_values w lists.saved) c.args.choices.now
  marked_then w lists e f = marked_same c.args.world.now.first w c.args.world.now.second.saved lists.saved c.args.choices.now e f c.requires.marked

pub overflow_sub-height : goal.overflow_sub-height
overflow_sub-height c = omega (arith, c.height-height.ensures, ap length c.requires.next.trying.newest)

high : (c : After-height-height) → c.height-height.result - 1 ≡ length c.requires.next.trying.others
high c =
    omega (
      arith,
      c.height-height.ensures,
      ap length c.requires.next.trying.newest,
      ap length c.requires.next.trying.goes_back,
      length-opened (saved_values c.args.world.now.first c.args.world.now.second.saved) c.args.choices.now c.requires.marked,
    )

kept_is : (c : After-clause-clause) → slice_get c.args.clauses.now.contents c.args.number ≡ Some c.clause-clause.result.now
kept_is c = c.content.ensures ∙ ap (λ (x : ClauseValue). Some x) (sym c.clause-clause.ensures)

pub begin_clause-requires-clause-clause : goal.begin_clause-requires-clause-clause
begin_clause-requires-clause-clause c =
    of_content (IsCounted (length c.args.atoms.now)) c.args.clauses.now.contents c.args.number c.clause-clause.result.now c.requires.program.contents c.requires.known
    (kept_is (goal.at.begin_clause-requires-clause-clause c).After-clause-clause)

-- ---- its branch is kept

pub leave_untried-requires-clause-marked : goal.leave_untried-requires-clause-marked
leave_untried-requires-clause-marked c =
    marked_then (goal.at.leave_untried-requires-clause-marked c).After-clause-clause c.begin_clause.new.world c.begin_clause.new.lists c.in-Ok.ensures.saved c.in-Ok.ensures.lists

pub leave_untried-requires-clause-some : goal.leave_untried-requires-clause-some
leave_untried-requires-clause-some c = omega (arith, ap length c.requires.next.trying.newest)

-- what is left, by the walk
left_by : (c : After-leave_untried)
    → Leaves (Clauses c.args.goal c.args.left.now c.args.rest) c.args.left.now (open_choices (saved_values c.begin_clause.new.world c.begin_clause.new.lists.saved) c.args.choices.now)
    (open_choices (saved_values c.leave_untried.new.world.first c.leave_untried.new.world.second.saved) c.leave_untried.new.choices)
left_by c =
    subst (λ (x : Walk). Leaves (Clauses c.args.goal x c.args.rest) c.args.left.now (open_choices (saved_values c.begin_clause.new.world c.begin_clause.new.lists.saved) c.args.choices.now)
    (open_choices (saved_values c.leave_untried.new.world.first c.leave_untried.new.world.second.saved) c.leave_untried.new.choices)) c.new-untried.ensures c.leave_untried.ensures.leaves

pub returns-in-Goes-clause-comes : goal.returns-in-Goes-clause-comes
returns-in-Goes-clause-comes c = λ steps db n s j.
    let r = (goal.at.returns-in-Goes-clause-comes c).After-clause-clause in
    let fewer = saved_values c.leave_untried.new.world.first c.leave_untried.new.world.second.saved in
    arrives_left c.args.atoms.now c.args.clauses.now (before r) c.args.choices.now (now r) (back r) c.args.goal c.args.rest (walk r) (others r) (was r)
    c.args.left.now c.args.number c.requires.next.next db n s j (now r) (grown r) c.clause-clause.result.now (kept_is (goal.at.returns-in-Goes-clause-comes c).After-clause-clause)
    (c.height-height.result - 1) (high (goal.at.returns-in-Goes-clause-comes c).After-height-height)
    (value c.begin_clause.new.world c.begin_clause.new.lists.now) (value c.leave_untried.new.world.first c.leave_untried.new.world.second.now)
    (ap₂ (λ (x : Contents) (l : List (List Cell)). (x, l)) c.leave_untried.ensures.first c.leave_untried.ensures.lists) (Goes c.in-Goes.first) (rw c.in-Goes.is at c.in-Ok.ensures.comes)
    fewer c.leave_untried.new.choices steps
    (left_then r c.begin_clause.new.world c.begin_clause.new.lists c.in-Ok.ensures.saved c.in-Ok.ensures.lists (open_choices fewer c.leave_untried.new.choices)
    (left_by (goal.at.returns-in-Goes-clause-comes c).After-leave_untried))

pub returns-in-Goes-clause-fewer : goal.returns-in-Goes-clause-fewer
returns-in-Goes-clause-fewer c =
    let r = (goal.at.returns-in-Goes-clause-fewer c).After-clause-clause in
    let fewer = saved_values c.leave_untried.new.world.first c.leave_untried.new.world.second.saved in
    fewer_wait c.args.atoms.now c.args.clauses.now (before r) c.args.choices.now (now r) (back r) c.args.goal c.args.rest (walk r) (others r) (was r)
    c.args.left.now c.args.number c.requires.next.next fewer c.leave_untried.new.choices
    (left_then r c.begin_clause.new.world c.begin_clause.new.lists c.in-Ok.ensures.saved c.in-Ok.ensures.lists (open_choices fewer c.leave_untried.new.choices)
    (left_by (goal.at.returns-in-Goes-clause-fewer c).After-leave_untried))

pub returns-in-Goes-clause-open : goal.returns-in-Goes-clause-open
returns-in-Goes-clause-open c = λ o.
    let r = (goal.at.returns-in-Goes-clause-open c).After-clause-clause in
    let fewer = saved_values c.leave_untried.new.world.first c.leave_untried.new.world.second.saved in
    open_left c.args.atoms.now c.args.clauses.now (before r) c.args.choices.now (now r) (back r) c.args.goal c.args.rest (walk r) (others r) (was r)
    fewer c.leave_untried.new.choices c.args.left.now c.requires.next.opened o
    (left_then r c.begin_clause.new.world c.begin_clause.new.lists c.in-Ok.ensures.saved c.in-Ok.ensures.lists (open_choices fewer c.leave_untried.new.choices)
    (left_by (goal.at.returns-in-Goes-clause-open c).After-leave_untried))

pub returns-in-Goes-clause-budget : goal.returns-in-Goes-clause-budget
returns-in-Goes-clause-budget c =
    ap (λ (x : Contents). x.pivots) c.leave_untried.ensures.first ∙ c.in-Ok.ensures.budget

pub returns-in-Goes-clause-there : goal.returns-in-Goes-clause-there
returns-in-Goes-clause-there c = subst (λ (ls : List (List Cell)). c.in-Goes.first < length ls) (sym c.leave_untried.ensures.lists) (rw c.in-Goes.is at c.in-Ok.ensures.there)

pub returns-in-Goes-clause-lists : goal.returns-in-Goes-clause-lists
returns-in-Goes-clause-lists c =
    keeps_on c.args.world.now.second.now c.begin_clause.new.lists.now c.leave_untried.new.world.second.now c.in-Ok.ensures.keeps c.leave_untried.ensures.lists

-- ---- it is pruned

put_back : (c : After-renew) → c.renew.new.self ≡ Clauses c.args.goal c.args.left.now c.args.rest ∷ c.requires.next.trying.older
put_back c =
    let changed = c.renew.ensures in
    changed.3
    ∙ ap₂ (λ (x : Walk) (older : List Alternatives). Clauses c.args.goal x c.args.rest ∷ older) c.new-untried-in-Pruned.ensures
    (same-others changed.0 (Clauses c.args.goal c.requires.next.walk c.args.rest) changed.1 c.requires.next.trying.older (sym changed.2 ∙ c.requires.next.trying.newest))

left_open : (c : After-renew) → saved_of c.begin_clause.new.world ≡ saved_of c.args.world.now.first → c.begin_clause.new.lists.saved ≡ c.args.world.now.second.saved
    → open_choices (saved_values c.begin_clause.new.world c.begin_clause.new.lists.saved) c.renew.new.self
    ≡ (c.requires.next.trying.back, Clauses c.args.goal c.args.left.now c.args.rest) ∷ c.requires.next.trying.others
left_open c e f =
    let t = c.requires.next.trying in
    replaced (saved_values c.begin_clause.new.world c.begin_clause.new.lists.saved) c.args.choices.now c.renew.new.self t.older
    (Clauses c.args.goal c.requires.next.walk c.args.rest) (Clauses c.args.goal c.args.left.now c.args.rest) t.back t.others t.newest (put_back c)
    (open_same c.args.world.now.first c.begin_clause.new.world c.args.world.now.second.saved c.begin_clause.new.lists.saved c.args.choices.now _ e f t.goes_back)

pub returns-in-Pruned-clause-comes : goal.returns-in-Pruned-clause-comes
returns-in-Pruned-clause-comes c = λ steps db n s j.
    let r = (goal.at.returns-in-Pruned-clause-comes c).After-clause-clause in
    let x = (goal.at.returns-in-Pruned-clause-comes c).After-renew in
    let saved = saved_values c.begin_clause.new.world c.begin_clause.new.lists.saved in
    let later = value c.begin_clause.new.world c.begin_clause.new.lists.now in
    arrives_left c.args.atoms.now c.args.clauses.now (before r) c.args.choices.now (now r) (back r) c.args.goal c.args.rest (walk r) (others r) (was r)
    c.args.left.now c.args.number c.requires.next.next db n s j (now r) (grown r) c.clause-clause.result.now (kept_is (goal.at.returns-in-Pruned-clause-comes c).After-clause-clause)
    (c.height-height.result - 1) (high (goal.at.returns-in-Pruned-clause-comes c).After-height-height) later later refl Pruned (rw c.in-Pruned.is at c.in-Ok.ensures.comes)
    saved c.renew.new.self steps
    (inr (left_open x c.in-Ok.ensures.saved c.in-Ok.ensures.lists))

pub returns-in-Pruned-clause-left : goal.returns-in-Pruned-clause-left
returns-in-Pruned-clause-left c =
    let t = c.requires.next.trying in
    let x = (goal.at.returns-in-Pruned-clause-left c).After-renew in
    record {
      older = t.older;
      newest = put_back x;
      back = t.back;
      others = t.others;
      goes_back = left_open x c.in-Ok.ensures.saved c.in-Ok.ensures.lists;
      world = (rw c.in-Pruned.is at c.in-Ok.ensures.unchanged) ∙ t.world;
      lists = keeps_both t.back.1 c.args.world.now.second.now c.begin_clause.new.lists.now t.lists c.in-Ok.ensures.keeps;
    }

pub returns-in-Pruned-clause-others : goal.returns-in-Pruned-clause-others
returns-in-Pruned-clause-others c =
    let t = c.requires.next.trying in (
      Clauses c.args.goal c.requires.next.walk c.args.rest,
      Clauses c.args.goal c.args.left.now c.args.rest,
      t.older,
      t.newest,
      put_back (goal.at.returns-in-Pruned-clause-others c).After-renew,
    )

pub returns-in-Pruned-clause-back : goal.returns-in-Pruned-clause-back
returns-in-Pruned-clause-back c = rw c.in-Pruned.is at c.in-Ok.ensures.unchanged

pub returns-in-Pruned-clause-fewer : goal.returns-in-Pruned-clause-fewer
returns-in-Pruned-clause-fewer c =
    let r = (goal.at.returns-in-Pruned-clause-fewer c).After-clause-clause in
    let x = (goal.at.returns-in-Pruned-clause-fewer c).After-renew in
    let saved = saved_values c.begin_clause.new.world c.begin_clause.new.lists.saved in
    fewer_wait c.args.atoms.now c.args.clauses.now (before r) c.args.choices.now (now r) (back r) c.args.goal c.args.rest (walk r) (others r) (was r)
    c.args.left.now c.args.number c.requires.next.next saved c.renew.new.self
    (inr (left_open x c.in-Ok.ensures.saved c.in-Ok.ensures.lists))

pub returns-in-Pruned-clause-marked : goal.returns-in-Pruned-clause-marked
returns-in-Pruned-clause-marked c =
    let r = (goal.at.returns-in-Pruned-clause-marked c).After-clause-clause in
    marked_then r c.begin_clause.new.world c.begin_clause.new.lists c.in-Ok.ensures.saved c.in-Ok.ensures.lists
    ∙ ap length c.requires.next.trying.newest ∙ sym (ap length (put_back (goal.at.returns-in-Pruned-clause-marked c).After-renew))

pub returns-in-Pruned-clause-open : goal.returns-in-Pruned-clause-open
returns-in-Pruned-clause-open c = λ o.
    let r = (goal.at.returns-in-Pruned-clause-open c).After-clause-clause in
    let x = (goal.at.returns-in-Pruned-clause-open c).After-renew in
    let saved = saved_values c.begin_clause.new.world c.begin_clause.new.lists.saved in
    open_left c.args.atoms.now c.args.clauses.now (before r) c.args.choices.now (now r) (back r) c.args.goal c.args.rest (walk r) (others r) (was r)
    saved c.renew.new.self c.args.left.now c.requires.next.opened o
    (inr (left_open x c.in-Ok.ensures.saved c.in-Ok.ensures.lists))

pub returns-in-Pruned-clause-budget : goal.returns-in-Pruned-clause-budget
returns-in-Pruned-clause-budget c = c.in-Ok.ensures.budget

-- ---- an error

pub returns-in-Err-clause-err : goal.returns-in-Err-clause-err
returns-in-Err-clause-err c =
    let r = (goal.at.returns-in-Err-clause-err c).After-clause-clause in
    back_still c.args.atoms.now c.args.clauses.now c.args.world.now.first c.begin_clause.new.world c.args.world.now.second c.begin_clause.new.lists c.args.choices.now c.args.choices.now
    (open_same c.args.world.now.first c.begin_clause.new.world c.args.world.now.second.saved c.begin_clause.new.lists.saved c.args.choices.now _ c.in-Err.ensures.saved c.in-Err.ensures.lists refl)

pub returns-in-Err-clause-stops : goal.returns-in-Err-clause-stops
returns-in-Err-clause-stops c = λ db n s j.
    let r = (goal.at.returns-in-Err-clause-stops c).After-clause-clause in
    fault_stops c.args.atoms.now c.args.clauses.now (before r) c.args.choices.now (now r) (back r) c.args.goal c.args.rest (walk r) (others r) (was r)
    c.args.left.now c.args.number c.requires.next.next db n s j (now r) (grown r) c.clause-clause.result.now (kept_is (goal.at.returns-in-Err-clause-stops c).After-clause-clause)
    (c.height-height.result - 1) (high (goal.at.returns-in-Err-clause-stops c).After-height-height)
    c.in-Err.fault c.args.world.now.first.store.pivots c.args.world.now.first.store.pivots refl
    (λ pair e. c.in-Err.ensures.overflow pair (ap (λ (f : StoreFault). Err f) e)) (λ m e. c.in-Err.ensures.pivots m (ap (λ (f : StoreFault). Err f) e))

pub returns-in-Err-clause-marked : goal.returns-in-Err-clause-marked
returns-in-Err-clause-marked c =
    marked_then (goal.at.returns-in-Err-clause-marked c).After-clause-clause c.begin_clause.new.world c.begin_clause.new.lists c.in-Err.ensures.saved c.in-Err.ensures.lists

pub returns-in-Err-clause-open : goal.returns-in-Err-clause-open
returns-in-Err-clause-open c = λ o.
    let r = (goal.at.returns-in-Err-clause-open c).After-clause-clause in
    open_still c.args.atoms.now c.args.clauses.now (before r) (saved_values c.begin_clause.new.world c.begin_clause.new.lists.saved) c.args.choices.now c.args.choices.now
    (open_same c.args.world.now.first c.begin_clause.new.world c.args.world.now.second.saved c.begin_clause.new.lists.saved c.args.choices.now _ c.in-Err.ensures.saved c.in-Err.ensures.lists refl) o

pub returns-in-Err-clause-budget : goal.returns-in-Err-clause-budget
returns-in-Err-clause-budget c = c.in-Err.ensures.budget
