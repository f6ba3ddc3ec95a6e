use Rattle.std.proofs.Common.{◌≡◌, ◌∷◌, List, length, Some, refl, sym, ap, ap₂, ◌∙◌, arith, subst, inr}
use Rattle.std.specs.Prelude.{slice_get, Err}
use Rattle.cq_clauses.specs.declared.walk.Walk.{Walk}
use Rattle.cq_control.specs.Items.{ContinuationsValue}
use Rattle.cq_control.specs.Open.{AreMarked, open_choices}
use Rattle.cq_store.specs.declared.store.StoreFault.{StoreFault}
use Rattle.cq_resolve.specs.Database.{IsCounted}
use Rattle.cq_resolve.specs.StoredValue.{ClauseValue}
use Rattle.cq_settle.specs.Contents.{Contents}
use Rattle.cq_settle.specs.Worlds.{saved_of}
use Rattle.cq_settle.specs.declared.world.World.{World}
use Rattle.spec_engine.specs.declared.machine.cell.Cell.{Cell}
use Rattle.spec_engine.specs.Cells.{Value}
use Rattle.cq_branch.specs.Worlds.{saved_values, value}
use Rattle.cq_branch.specs.declared.alternatives.Alternatives.{Alternatives}
use Rattle.cq_branch.specs.declared.alternatives.Alternatives.TheVariants.{Matches}
use Rattle.cq_branch.proofs.Budgets.{same_budget}
use Rattle.cq_branch.proofs.Older.{newest_gone}
use Rattle.cq_branch.proofs.Back.{back_still}
use Rattle.cq_calls.specs.Trying.{Leaves}
use Rattle.cq_calls.proofs.Left.{Opened, AreLeft, opened_is, same-first, open_same, marked_same, of_content, are_left, open_still, replaced, same-others}
use Rattle.cq_catch.proofs.MatchingNewest.{is_walk, arrives_past, fewer_past, open_past, begins_ready, begins_asked, begins_rule, begins_rest, arrives_left, arrives_pruned, fewer_wait, open_left, fault_stops}
use Rattle.cq_catch.proofs.matching.matching.compare_next.Goals as goal
use Rattle.cq_catch.proofs.matching.matching.compare_next.Goals.{After-back, After-resume, After-clause-clause, After-leave_untried, After-renew}

pub step-requires : goal.step-requires
step-requires c =
    let saved = saved_values c.args.world.now.first c.args.world.now.second.saved in
    let o = opened_is saved c.args.choices.now c.requires.newest.0 (Matches c.args.asked c.args.walk c.args.removes c.args.rest) c.requires.marked c.requires.newest.1 in
    is_walk c.args.atoms.now c.args.clauses.now saved c.args.choices.now (value c.args.world.now.first c.args.world.now.second.now) o.0 c.args.asked c.args.removes c.args.rest c.args.walk o.1 o.2 c.requires.open

-- ---- no clause is left

went_past : (c : After-back) → open_choices (saved_values c.args.world.now.first c.args.world.now.second.saved) c.args.choices.now
    ≡ (value c.back.new.world.first c.back.new.world.second.now, Matches c.args.asked c.args.walk c.args.removes c.args.rest)
    ∷ open_choices (saved_values c.back.new.world.first c.back.new.world.second.saved) c.back.new.self
went_past c =
    newest_gone c.back.result c.args.choices.now c.back.new.self c.requires.newest.0 (Matches c.args.asked c.args.walk c.args.removes c.args.rest)
    (λ (x : Alternatives). open_choices (saved_values c.args.world.now.first c.args.world.now.second.saved) c.args.choices.now
    ≡ (value c.back.new.world.first c.back.new.world.second.now, x) ∷ open_choices (saved_values c.back.new.world.first c.back.new.world.second.saved) c.back.new.self)
    c.back.ensures.none c.back.ensures.contents c.back.ensures.open c.requires.newest.1

pub returns-in_default-clause-comes : goal.returns-in_default-clause-comes
returns-in_default-clause-comes c = λ steps db n s j.
    let later = value c.back.new.world.first c.back.new.world.second.now in
    let fewer = saved_values c.back.new.world.first c.back.new.world.second.saved in
    arrives_past c.args.atoms.now c.args.clauses.now (saved_values c.args.world.now.first c.args.world.now.second.saved) c.args.choices.now
    (value c.args.world.now.first c.args.world.now.second.now) later c.args.asked c.args.removes c.args.rest c.args.walk (open_choices fewer c.back.new.self)
    (went_past (goal.at.returns-in_default-clause-comes c).After-back) db n s fewer c.back.new.self later steps c.in_default.ensures.none refl j

pub returns-in_default-clause-left : goal.returns-in_default-clause-left
returns-in_default-clause-left c =
    let newest = Matches c.args.asked c.args.walk c.args.removes c.args.rest in (
      newest,
      newest_gone c.back.result c.args.choices.now c.back.new.self c.requires.newest.0 newest (λ (x : Alternatives). c.args.choices.now ≡ x ∷ c.back.new.self)
          c.back.ensures.none c.back.ensures.contents c.back.ensures.contents c.requires.newest.1,
    )

pub returns-in_default-clause-fewer : goal.returns-in_default-clause-fewer
returns-in_default-clause-fewer c =
    let later = value c.back.new.world.first c.back.new.world.second.now in
    let fewer = saved_values c.back.new.world.first c.back.new.world.second.saved in
    fewer_past c.args.atoms.now c.args.clauses.now (saved_values c.args.world.now.first c.args.world.now.second.saved) c.args.choices.now
    (value c.args.world.now.first c.args.world.now.second.now) later c.args.asked c.args.removes c.args.rest c.args.walk (open_choices fewer c.back.new.self)
    (went_past (goal.at.returns-in_default-clause-fewer c).After-back) fewer c.back.new.self c.in_default.ensures.none refl

pub returns-in_default-clause-open : goal.returns-in_default-clause-open
returns-in_default-clause-open c =
    let later = value c.back.new.world.first c.back.new.world.second.now in
    let fewer = saved_values c.back.new.world.first c.back.new.world.second.saved in
    open_past c.args.atoms.now c.args.clauses.now (saved_values c.args.world.now.first c.args.world.now.second.saved) c.args.choices.now
    (value c.args.world.now.first c.args.world.now.second.now) later c.args.asked c.args.removes c.args.rest c.args.walk (open_choices fewer c.back.new.self)
    (went_past (goal.at.returns-in_default-clause-open c).After-back) fewer c.back.new.self c.requires.open refl

pub returns-in_default-clause-budget : goal.returns-in_default-clause-budget
returns-in_default-clause-budget c =
    same_budget c.args.world.now.first c.args.world.now.second.saved c.args.choices.now (value c.back.new.world.first c.back.new.world.second.now)
    (Matches c.args.asked c.args.walk c.args.removes c.args.rest) (open_choices (saved_values c.back.new.world.first c.back.new.world.second.saved) c.back.new.self)
    (went_past (goal.at.returns-in_default-clause-budget c).After-back)

-- ---- the next clause is begun

abbrev before : (c : After-resume) → List (Value Contents)
before c = saved_values c.args.world.now.first c.args.world.now.second.saved

abbrev now : (c : After-resume) → Value Contents
now c = value c.args.world.now.first c.args.world.now.second.now

abbrev back : (c : After-resume) → Value Contents
back c = value c.resume.new.world.first c.resume.new.world.second.now

abbrev others : (c : After-resume) → Opened
others c = c.resume.ensures.open.2

-- the world goes back to that of the choice, which stays
was : (c : After-resume) → open_choices (before c) c.args.choices.now ≡ (back c, Matches c.args.asked c.args.walk c.args.removes c.args.rest) ∷ others c
was c =
    let o = c.resume.ensures.open in
    o.4 ∙ ap (λ (x : Alternatives). (back c, x) ∷ others c) (same-first o.0 (Matches c.args.asked c.args.walk c.args.removes c.args.rest) o.1 c.requires.newest.0 (sym o.3 ∙ c.requires.newest.1))

still : (c : After-resume) → open_choices (saved_values c.resume.new.world.first c.resume.new.world.second.saved) c.args.choices.now
    ≡ (back c, Matches c.args.asked c.args.walk c.args.removes c.args.rest) ∷ others c
still c = ap (λ (saved : List (Value Contents)). open_choices saved c.args.choices.now) c.resume.ensures.saved ∙ was c

same_exchanges : (c : After-resume) → c.resume.new.world.first.store.pivots ≡ c.args.world.now.first.store.pivots
same_exchanges c =
    same_budget c.args.world.now.first c.args.world.now.second.saved c.args.choices.now (back c) (Matches c.args.asked c.args.walk c.args.removes c.args.rest) (others c) (was c)

module _ (c : After-resume) where
  -- what is left of the choice, over a world with the same marks
  left_then : (w : World) (lists : ContinuationsValue Cell) → saved_of w ≡ saved_of c.resume.new.world.first → lists.saved ≡ c.resume.new.world.second.saved → (left : Walk) (o : Opened)
      → Leaves (Matches c.args.asked left c.args.removes c.args.rest) left (open_choices (saved_values w lists.saved) c.args.choices.now) o
      → AreLeft (Matches c.args.asked left c.args.removes c.args.rest) left (back c) (others c) o
  left_then w lists e f left o l =
      are_left (Matches c.args.asked left c.args.removes c.args.rest) left (back c) (Matches c.args.asked c.args.walk c.args.removes c.args.rest) (others c) (open_choices (saved_values w lists.saved) c.args.choices.now) o
      (open_same c.resume.new.world.first w c.resume.new.world.second.saved lists.saved c.args.choices.now _ e f (still c)) l

  -- the same where other clauses were put in place of those that it had
  replaced_then : (w : World) (lists : ContinuationsValue Cell) → saved_of w ≡ saved_of c.resume.new.world.first → lists.saved ≡ c.resume.new.world.second.saved → (left : Walk)
      (new : List Alternatives) → new ≡ Matches c.args.asked left c.args.removes c.args.rest ∷ c.requires.newest.0
      → AreLeft (Matches c.args.asked left c.args.removes c.args.rest) left (back c) (others c) (open_choices (saved_values w lists.saved) new)
  replaced_then w lists e f left new put =
      inr (replaced (saved_values w lists.saved) c.args.choices.now new c.requires.newest.0 (Matches c.args.asked c.args.walk c.args.removes c.args.rest)
      (Matches c.args.asked left c.args.removes c.args.rest) (back c) (others c) c.requires.newest.1 put
      (open_same c.resume.new.world.first w c.resume.new.world.second.saved lists.saved c.args.choices.now _ e f (still c)))

  marked_then : (w : World) (lists : ContinuationsValue Cell) → saved_of w ≡ saved_of c.resume.new.world.first → lists.saved ≡ c.resume.new.world.second.saved
      → AreMarked (saved_values w lists.saved) c.args.choices.now
  marked_then w lists e f = marked_same c.resume.new.world.first w c.resume.new.world.second.saved lists.saved c.args.choices.now e f c.resume.ensures.marked

kept_is : (c : After-clause-clause) → slice_get c.args.clauses.now.contents c.in-Some.number ≡ Some c.clause-clause.result.now
kept_is c = c.content.ensures ∙ ap (λ (x : ClauseValue). Some x) (sym c.clause-clause.ensures)

pub begin_match-requires-clause-ready : goal.begin_match-requires-clause-ready
begin_match-requires-clause-ready c =
    let r = (goal.at.begin_match-requires-clause-ready c).After-resume in
    let j = c.requires.works in
    begins_ready c.args.atoms.now c.args.clauses.now (before r) c.args.choices.now (now r) (back r) c.args.asked c.args.removes c.args.rest c.args.walk (others r) (was r)
    c.step.new.walk c.in-Some.number c.in-Some.ensures.some j.0 j.1 j.2 j.3

pub begin_match-requires-clause-asked : goal.begin_match-requires-clause-asked
begin_match-requires-clause-asked c =
    let r = (goal.at.begin_match-requires-clause-asked c).After-resume in
    let j = c.requires.works in
    begins_asked c.args.atoms.now c.args.clauses.now (before r) c.args.choices.now (now r) (back r) c.args.asked c.args.removes c.args.rest c.args.walk (others r) (was r)
    c.step.new.walk c.in-Some.number c.in-Some.ensures.some j.0 j.1 j.2 j.3

pub begin_match-requires-clause-reads : goal.begin_match-requires-clause-reads
begin_match-requires-clause-reads c =
    let r = (goal.at.begin_match-requires-clause-reads c).After-resume in
    let j = c.requires.works in
    begins_rule c.args.atoms.now c.args.clauses.now (before r) c.args.choices.now (now r) (back r) c.args.asked c.args.removes c.args.rest c.args.walk (others r) (was r)
    c.step.new.walk c.in-Some.number c.in-Some.ensures.some j.0 j.1 j.2 j.3

pub begin_match-requires-clause-rest : goal.begin_match-requires-clause-rest
begin_match-requires-clause-rest c =
    let r = (goal.at.begin_match-requires-clause-rest c).After-resume in
    let j = c.requires.works in
    begins_rest c.args.atoms.now c.args.clauses.now (before r) c.args.choices.now (now r) (back r) c.args.asked c.args.removes c.args.rest c.args.walk (others r) (was r)
    c.step.new.walk c.in-Some.number c.in-Some.ensures.some j.0 j.1 j.2 j.3

pub begin_match-requires-clause-clause : goal.begin_match-requires-clause-clause
begin_match-requires-clause-clause c =
    of_content (IsCounted (length c.args.atoms.now)) c.args.clauses.now.contents c.in-Some.number c.clause-clause.result.now c.requires.program.contents c.in-Some.ensures.known
    (kept_is (goal.at.begin_match-requires-clause-clause c).After-clause-clause)

-- ---- its branch is kept

pub leave_untried-requires-clause-marked : goal.leave_untried-requires-clause-marked
leave_untried-requires-clause-marked c =
    marked_then (goal.at.leave_untried-requires-clause-marked c).After-resume c.begin_match.new.world c.begin_match.new.lists c.in-Ok.ensures.saved c.in-Ok.ensures.lists

pub leave_untried-requires-clause-some : goal.leave_untried-requires-clause-some
leave_untried-requires-clause-some c = omega (arith, ap length c.requires.newest.1)

-- what is left, by the walk
left_by : (c : After-leave_untried)
    → Leaves (Matches c.args.asked c.step.new.walk c.args.removes c.args.rest) c.step.new.walk (open_choices (saved_values c.begin_match.new.world c.begin_match.new.lists.saved) c.args.choices.now)
    (open_choices (saved_values c.leave_untried.new.world.first c.leave_untried.new.world.second.saved) c.leave_untried.new.choices)
left_by c =
    subst (λ (x : Walk). Leaves (Matches c.args.asked x c.args.removes c.args.rest) c.step.new.walk (open_choices (saved_values c.begin_match.new.world c.begin_match.new.lists.saved) c.args.choices.now)
    (open_choices (saved_values c.leave_untried.new.world.first c.leave_untried.new.world.second.saved) c.leave_untried.new.choices)) c.new-untried.ensures c.leave_untried.ensures.leaves

pub returns-in-Goes-clause-comes : goal.returns-in-Goes-clause-comes
returns-in-Goes-clause-comes c = λ steps db n s j.
    let r = (goal.at.returns-in-Goes-clause-comes c).After-resume in
    let fewer = saved_values c.leave_untried.new.world.first c.leave_untried.new.world.second.saved in
    arrives_left c.args.atoms.now c.args.clauses.now (before r) c.args.choices.now (now r) (back r) c.args.asked c.args.removes c.args.rest c.args.walk (others r) (was r)
    c.step.new.walk c.in-Some.number c.in-Some.ensures.some db n s j c.clause-clause.result.now (kept_is (goal.at.returns-in-Goes-clause-comes c).After-clause-clause)
    (value c.begin_match.new.world c.begin_match.new.lists.now) (value c.leave_untried.new.world.first c.leave_untried.new.world.second.now)
    (ap₂ (λ (x : Contents) (l : List (List Cell)). (x, l)) c.leave_untried.ensures.first c.leave_untried.ensures.lists) c.in-Goes.first (rw c.in-Goes.is at c.in-Ok.ensures.goes)
    fewer c.leave_untried.new.choices steps
    (left_then r c.begin_match.new.world c.begin_match.new.lists c.in-Ok.ensures.saved c.in-Ok.ensures.lists c.step.new.walk (open_choices fewer c.leave_untried.new.choices)
    (left_by (goal.at.returns-in-Goes-clause-comes c).After-leave_untried))

pub returns-in-Goes-clause-fewer : goal.returns-in-Goes-clause-fewer
returns-in-Goes-clause-fewer c =
    let r = (goal.at.returns-in-Goes-clause-fewer c).After-resume in
    let fewer = saved_values c.leave_untried.new.world.first c.leave_untried.new.world.second.saved in
    fewer_wait c.args.atoms.now c.args.clauses.now (before r) c.args.choices.now (now r) (back r) c.args.asked c.args.removes c.args.rest c.args.walk (others r) (was r)
    c.step.new.walk c.in-Some.number c.in-Some.ensures.some fewer c.leave_untried.new.choices
    (left_then r c.begin_match.new.world c.begin_match.new.lists c.in-Ok.ensures.saved c.in-Ok.ensures.lists c.step.new.walk (open_choices fewer c.leave_untried.new.choices)
    (left_by (goal.at.returns-in-Goes-clause-fewer c).After-leave_untried))

pub returns-in-Goes-clause-open : goal.returns-in-Goes-clause-open
returns-in-Goes-clause-open c =
    let r = (goal.at.returns-in-Goes-clause-open c).After-resume in
    let fewer = saved_values c.leave_untried.new.world.first c.leave_untried.new.world.second.saved in
    open_left c.args.atoms.now c.args.clauses.now (before r) c.args.choices.now (now r) (back r) c.args.asked c.args.removes c.args.rest c.args.walk (others r) (was r)
    fewer c.leave_untried.new.choices c.step.new.walk c.in-Some.ensures.opened c.requires.open
    (left_then r c.begin_match.new.world c.begin_match.new.lists c.in-Ok.ensures.saved c.in-Ok.ensures.lists c.step.new.walk (open_choices fewer c.leave_untried.new.choices)
    (left_by (goal.at.returns-in-Goes-clause-open c).After-leave_untried))

pub returns-in-Goes-clause-budget : goal.returns-in-Goes-clause-budget
returns-in-Goes-clause-budget c =
    ap (λ (x : Contents). x.pivots) c.leave_untried.ensures.first ∙ c.in-Ok.ensures.budget ∙ same_exchanges (goal.at.returns-in-Goes-clause-budget c).After-resume

-- ---- it is pruned

put_back : (c : After-renew) → c.renew.new.self ≡ Matches c.args.asked c.step.new.walk c.args.removes c.args.rest ∷ c.requires.newest.0
put_back c =
    let changed = c.renew.ensures in
    changed.3
    ∙ ap₂ (λ (x : Walk) (older : List Alternatives). Matches c.args.asked x c.args.removes c.args.rest ∷ older) c.new-untried.ensures
    (same-others changed.0 (Matches c.args.asked c.args.walk c.args.removes c.args.rest) changed.1 c.requires.newest.0 (sym changed.2 ∙ c.requires.newest.1))

pub returns-in-Pruned-clause-comes : goal.returns-in-Pruned-clause-comes
returns-in-Pruned-clause-comes c = λ steps db n s j.
    let r = (goal.at.returns-in-Pruned-clause-comes c).After-resume in
    let x = (goal.at.returns-in-Pruned-clause-comes c).After-renew in
    let saved = saved_values c.begin_match.new.world c.begin_match.new.lists.saved in
    let later = value c.begin_match.new.world c.begin_match.new.lists.now in
    arrives_pruned c.args.atoms.now c.args.clauses.now (before r) c.args.choices.now (now r) (back r) c.args.asked c.args.removes c.args.rest c.args.walk (others r) (was r)
    c.step.new.walk c.in-Some.number c.in-Some.ensures.some db n s j c.clause-clause.result.now (kept_is (goal.at.returns-in-Pruned-clause-comes c).After-clause-clause)
    (rw c.in-Pruned.is at c.in-Ok.ensures.pruned) saved c.renew.new.self later steps
    (replaced_then r c.begin_match.new.world c.begin_match.new.lists c.in-Ok.ensures.saved c.in-Ok.ensures.lists c.step.new.walk c.renew.new.self (put_back x))

pub returns-in-Pruned-clause-left : goal.returns-in-Pruned-clause-left
returns-in-Pruned-clause-left c =
    (Matches c.args.asked c.args.walk c.args.removes c.args.rest, c.requires.newest.0, c.requires.newest.1, put_back (goal.at.returns-in-Pruned-clause-left c).After-renew)

pub returns-in-Pruned-clause-fewer : goal.returns-in-Pruned-clause-fewer
returns-in-Pruned-clause-fewer c =
    let r = (goal.at.returns-in-Pruned-clause-fewer c).After-resume in
    let x = (goal.at.returns-in-Pruned-clause-fewer c).After-renew in
    let saved = saved_values c.begin_match.new.world c.begin_match.new.lists.saved in
    fewer_wait c.args.atoms.now c.args.clauses.now (before r) c.args.choices.now (now r) (back r) c.args.asked c.args.removes c.args.rest c.args.walk (others r) (was r)
    c.step.new.walk c.in-Some.number c.in-Some.ensures.some saved c.renew.new.self
    (replaced_then r c.begin_match.new.world c.begin_match.new.lists c.in-Ok.ensures.saved c.in-Ok.ensures.lists c.step.new.walk c.renew.new.self (put_back x))

pub returns-in-Pruned-clause-marked : goal.returns-in-Pruned-clause-marked
returns-in-Pruned-clause-marked c =
    let r = (goal.at.returns-in-Pruned-clause-marked c).After-resume in
    marked_then r c.begin_match.new.world c.begin_match.new.lists c.in-Ok.ensures.saved c.in-Ok.ensures.lists
    ∙ ap length c.requires.newest.1 ∙ sym (ap length (put_back (goal.at.returns-in-Pruned-clause-marked c).After-renew))

pub returns-in-Pruned-clause-open : goal.returns-in-Pruned-clause-open
returns-in-Pruned-clause-open c =
    let r = (goal.at.returns-in-Pruned-clause-open c).After-resume in
    let x = (goal.at.returns-in-Pruned-clause-open c).After-renew in
    let saved = saved_values c.begin_match.new.world c.begin_match.new.lists.saved in
    open_left c.args.atoms.now c.args.clauses.now (before r) c.args.choices.now (now r) (back r) c.args.asked c.args.removes c.args.rest c.args.walk (others r) (was r)
    saved c.renew.new.self c.step.new.walk c.in-Some.ensures.opened c.requires.open
    (replaced_then r c.begin_match.new.world c.begin_match.new.lists c.in-Ok.ensures.saved c.in-Ok.ensures.lists c.step.new.walk c.renew.new.self (put_back x))

pub returns-in-Pruned-clause-budget : goal.returns-in-Pruned-clause-budget
returns-in-Pruned-clause-budget c = c.in-Ok.ensures.budget ∙ same_exchanges (goal.at.returns-in-Pruned-clause-budget c).After-resume

-- ---- an error

pub returns-in-Err-clause-err : goal.returns-in-Err-clause-err
returns-in-Err-clause-err c =
    let r = (goal.at.returns-in-Err-clause-err c).After-resume in
    back_still c.args.atoms.now c.args.clauses.now c.args.world.now.first c.begin_match.new.world c.args.world.now.second c.begin_match.new.lists c.args.choices.now c.args.choices.now
    (open_same c.resume.new.world.first c.begin_match.new.world c.resume.new.world.second.saved c.begin_match.new.lists.saved c.args.choices.now _ c.in-Err.ensures.saved c.in-Err.ensures.lists
    (still r) ∙ sym (was r))

pub returns-in-Err-clause-stops : goal.returns-in-Err-clause-stops
returns-in-Err-clause-stops c = λ db n s j.
    let r = (goal.at.returns-in-Err-clause-stops c).After-resume in
    fault_stops c.args.atoms.now c.args.clauses.now (before r) c.args.choices.now (now r) (back r) c.args.asked c.args.removes c.args.rest c.args.walk (others r) (was r)
    c.step.new.walk c.in-Some.number c.in-Some.ensures.some db n s j c.clause-clause.result.now (kept_is (goal.at.returns-in-Err-clause-stops c).After-clause-clause)
    c.in-Err.fault c.resume.new.world.first.store.pivots c.args.world.now.first.store.pivots (same_exchanges r)
    (λ pair e. c.in-Err.ensures.overflow pair (ap (λ (f : StoreFault). Err f) e)) (λ m e. c.in-Err.ensures.pivots m (ap (λ (f : StoreFault). Err f) e))

pub returns-in-Err-clause-marked : goal.returns-in-Err-clause-marked
returns-in-Err-clause-marked c =
    marked_then (goal.at.returns-in-Err-clause-marked c).After-resume c.begin_match.new.world c.begin_match.new.lists c.in-Err.ensures.saved c.in-Err.ensures.lists

pub returns-in-Err-clause-open : goal.returns-in-Err-clause-open
returns-in-Err-clause-open c =
    let r = (goal.at.returns-in-Err-clause-open c).After-resume in
    open_still c.args.atoms.now c.args.clauses.now (before r) (saved_values c.begin_match.new.world c.begin_match.new.lists.saved) c.args.choices.now c.args.choices.now
    (open_same c.resume.new.world.first c.begin_match.new.world c.resume.new.world.second.saved c.begin_match.new.lists.saved c.args.choices.now _ c.in-Err.ensures.saved c.in-Err.ensures.lists
    (still r) ∙ sym (was r)) c.requires.open

pub returns-in-Err-clause-budget : goal.returns-in-Err-clause-budget
returns-in-Err-clause-budget c = c.in-Err.ensures.budget ∙ same_exchanges (goal.at.returns-in-Err-clause-budget c).After-resume
