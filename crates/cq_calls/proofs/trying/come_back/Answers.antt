use Rattle.std.proofs.Common.{◌≡◌, ◌∷◌, ◌<◌, List, map, None, refl, sym, ap, ◌∙◌, subst}
use Rattle.std.specs.Prelude.{Ok, Err, IfOk, IfErr, OnOk, OnErr}
use Rattle.std.specs.declared.result.Result.{Result}
use Rattle.cq_control.specs.Open.{open_choices}
use Rattle.spec_engine.specs.Cells.{Value}
use Rattle.cq_settle.specs.Contents.{Contents}
use Rattle.cq_branch.specs.Worlds.{saved_values, value, stack, left_at}
use Rattle.cq_branch.specs.declared.alternatives.Alternatives.{Alternatives}
use Rattle.cq_branch.specs.declared.alternatives.Alternatives.TheVariants.{Clauses}
use Rattle.cq_branch.proofs.Budgets.{same_budget}
use Rattle.cq_branch.proofs.Older.{newest_gone}
use Rattle.cq_branch.specs.Stops.{ComesOn, waiting_in}
use Rattle.cq_branch.proofs.Back.{back_still, comes_then, stops_then}
use Rattle.cq_calls.proofs.Left.{Opened, opened_is, same-first, open_still}
use Rattle.cq_calls.proofs.Newest.{is_walk, arrives_past, fewer_past, open_past, begins_ready, begins_goal, begins_rest}
use Rattle.cq_calls.proofs.Waiting.{keeps_all}
use Rattle.cq_calls.proofs.trying.come_back.Goals as goal
use Rattle.cq_calls.proofs.trying.come_back.Goals.{After-back, After-resume}

pub step-requires : goal.step-requires
step-requires c =
    let saved = saved_values c.args.world.now.first c.args.world.now.second.saved in
    let o = opened_is saved c.args.choices.now c.requires.newest.0 (Clauses c.args.goal c.args.walk c.args.rest) c.requires.marked c.requires.newest.1 in
    is_walk c.args.atoms.now c.args.clauses.now saved c.args.choices.now (value c.args.world.now.first c.args.world.now.second.now) o.0 c.args.goal c.args.rest c.args.walk o.1 o.2 c.requires.open

-- ---- no clause is left

went_past : (c : After-back) → open_choices (saved_values c.args.world.now.first c.args.world.now.second.saved) c.args.choices.now
    ≡ (value c.back.new.world.first c.back.new.world.second.now, Clauses c.args.goal c.args.walk c.args.rest)
    ∷ open_choices (saved_values c.back.new.world.first c.back.new.world.second.saved) c.back.new.self
went_past c =
    newest_gone c.back.result c.args.choices.now c.back.new.self c.requires.newest.0 (Clauses c.args.goal c.args.walk c.args.rest)
    (λ (x : Alternatives). open_choices (saved_values c.args.world.now.first c.args.world.now.second.saved) c.args.choices.now
    ≡ (value c.back.new.world.first c.back.new.world.second.now, x) ∷ open_choices (saved_values c.back.new.world.first c.back.new.world.second.saved) c.back.new.self)
    c.back.ensures.none c.back.ensures.contents c.back.ensures.open c.requires.newest.1

pub returns-in_default-clause-comes : goal.returns-in_default-clause-comes
returns-in_default-clause-comes c = λ steps db n s j.
    let later = value c.back.new.world.first c.back.new.world.second.now in
    let fewer = saved_values c.back.new.world.first c.back.new.world.second.saved in
    arrives_past c.args.atoms.now c.args.clauses.now (saved_values c.args.world.now.first c.args.world.now.second.saved) c.args.choices.now
    (value c.args.world.now.first c.args.world.now.second.now) later c.args.goal c.args.rest c.args.walk (open_choices fewer c.back.new.self)
    (went_past (goal.at.returns-in_default-clause-comes c).After-back) db n s fewer c.back.new.self later steps c.in_default.ensures.none refl j

pub returns-in_default-clause-gone : goal.returns-in_default-clause-gone
returns-in_default-clause-gone c =
    let newest = Clauses c.args.goal c.args.walk c.args.rest in (
      newest,
      newest_gone c.back.result c.args.choices.now c.back.new.self c.requires.newest.0 newest (λ (x : Alternatives). c.args.choices.now ≡ x ∷ c.back.new.self)
          c.back.ensures.none c.back.ensures.contents c.back.ensures.contents c.requires.newest.1,
    )

pub returns-in_default-clause-fewer : goal.returns-in_default-clause-fewer
returns-in_default-clause-fewer c =
    let later = value c.back.new.world.first c.back.new.world.second.now in
    let fewer = saved_values c.back.new.world.first c.back.new.world.second.saved in
    fewer_past c.args.atoms.now c.args.clauses.now (saved_values c.args.world.now.first c.args.world.now.second.saved) c.args.choices.now
    (value c.args.world.now.first c.args.world.now.second.now) later c.args.goal c.args.rest c.args.walk (open_choices fewer c.back.new.self)
    (went_past (goal.at.returns-in_default-clause-fewer c).After-back) fewer c.back.new.self c.in_default.ensures.none refl

pub returns-in_default-clause-open : goal.returns-in_default-clause-open
returns-in_default-clause-open c =
    let later = value c.back.new.world.first c.back.new.world.second.now in
    let fewer = saved_values c.back.new.world.first c.back.new.world.second.saved in
    open_past c.args.atoms.now c.args.clauses.now (saved_values c.args.world.now.first c.args.world.now.second.saved) c.args.choices.now
    (value c.args.world.now.first c.args.world.now.second.now) later c.args.goal c.args.rest c.args.walk (open_choices fewer c.back.new.self)
    (went_past (goal.at.returns-in_default-clause-open c).After-back) fewer c.back.new.self c.requires.open refl

pub returns-in_default-clause-budget : goal.returns-in_default-clause-budget
returns-in_default-clause-budget c =
    same_budget c.args.world.now.first c.args.world.now.second.saved c.args.choices.now (value c.back.new.world.first c.back.new.world.second.now)
    (Clauses c.args.goal c.args.walk c.args.rest) (open_choices (saved_values c.back.new.world.first c.back.new.world.second.saved) c.back.new.self)
    (went_past (goal.at.returns-in_default-clause-budget c).After-back)

-- ---- the world goes back to that of the choice, which stays

abbrev before : (c : After-resume) → List (Value Contents)
before c = saved_values c.args.world.now.first c.args.world.now.second.saved

abbrev now : (c : After-resume) → Value Contents
now c = value c.args.world.now.first c.args.world.now.second.now

abbrev back : (c : After-resume) → Value Contents
back c = value c.resume.new.world.first c.resume.new.world.second.now

abbrev others : (c : After-resume) → Opened
others c = c.resume.ensures.open.2

was : (c : After-resume) → open_choices (before c) c.args.choices.now ≡ (back c, Clauses c.args.goal c.args.walk c.args.rest) ∷ others c
was c =
    let o = c.resume.ensures.open in
    o.4 ∙ ap (λ (x : Alternatives). (back c, x) ∷ others c) (same-first o.0 (Clauses c.args.goal c.args.walk c.args.rest) o.1 c.requires.newest.0 (sym o.3 ∙ c.requires.newest.1))

still : (c : After-resume) → open_choices (saved_values c.resume.new.world.first c.resume.new.world.second.saved) c.args.choices.now
    ≡ (back c, Clauses c.args.goal c.args.walk c.args.rest) ∷ others c
still c = ap (λ (saved : List (Value Contents)). open_choices saved c.args.choices.now) c.resume.ensures.saved ∙ was c

same_exchanges : (c : After-resume) → c.resume.new.world.first.store.pivots ≡ c.args.world.now.first.store.pivots
same_exchanges c =
    same_budget c.args.world.now.first c.args.world.now.second.saved c.args.choices.now (back c) (Clauses c.args.goal c.args.walk c.args.rest) (others c) (was c)

-- so it stands for the same searches
came : (c : After-resume) → ComesOn c.args.atoms.now c.args.clauses.now c.args.world.now.first c.args.world.now.second c.args.choices.now
    c.resume.new.world.first c.resume.new.world.second c.args.choices.now None
came c =
    back_still c.args.atoms.now c.args.clauses.now c.args.world.now.first c.resume.new.world.first c.args.world.now.second c.resume.new.world.second c.args.choices.now c.args.choices.now
    (still c ∙ sym (was c))

pub try_from-requires-clause-ready : goal.try_from-requires-clause-ready
try_from-requires-clause-ready c =
    let r = (goal.at.try_from-requires-clause-ready c).After-resume in
    let j = c.requires.works in
    begins_ready c.args.atoms.now c.args.clauses.now (before r) c.args.choices.now (now r) (back r) c.args.goal c.args.rest c.args.walk (others r) (was r)
    c.step.new.walk c.in-Some.number c.in-Some.ensures.some j.0 j.1 j.2 j.3

pub try_from-requires-clause-goal : goal.try_from-requires-clause-goal
try_from-requires-clause-goal c =
    let r = (goal.at.try_from-requires-clause-goal c).After-resume in
    let j = c.requires.works in
    begins_goal c.args.atoms.now c.args.clauses.now (before r) c.args.choices.now (now r) (back r) c.args.goal c.args.rest c.args.walk (others r) (was r)
    c.step.new.walk c.in-Some.number c.in-Some.ensures.some j.0 j.1 j.2 j.3

pub try_from-requires-clause-rest : goal.try_from-requires-clause-rest
try_from-requires-clause-rest c =
    let r = (goal.at.try_from-requires-clause-rest c).After-resume in
    let j = c.requires.works in
    begins_rest c.args.atoms.now c.args.clauses.now (before r) c.args.choices.now (now r) (back r) c.args.goal c.args.rest c.args.walk (others r) (was r)
    c.step.new.walk c.in-Some.number c.in-Some.ensures.some j.0 j.1 j.2 j.3

pub try_from-requires-clause-next : goal.try_from-requires-clause-next
try_from-requires-clause-next c =
    let r = (goal.at.try_from-requires-clause-next c).After-resume in
    record {
      walk = c.args.walk;
      trying = record {
        older = c.requires.newest.0;
        newest = c.requires.newest.1;
        back = back r;
        others = others r;
        goes_back = still r;
        world = refl;
        lists = keeps_all c.resume.new.world.second.now;
      };
      next = c.in-Some.ensures.some;
      opened = c.in-Some.ensures.opened;
    }

-- ---- what it comes to then

if_ok : {A E : Type 0} {P Q : A → Type 0} (r : Result A E) → ((x : A) → P x → Q x) → IfOk r P → IfOk r Q
if_ok (Ok x) f h = f x h
if_ok (Err e) f h = h

if_err : {A E : Type 0} {P Q : E → Type 0} (r : Result A E) → ((e : E) → P e → Q e) → IfErr r P → IfErr r Q
if_err (Ok x) f h = h
if_err (Err e) f h = f e h

at_ok : {A E P Q : Type 0} (r : Result A E) → (P → Q) → OnOk r P → OnOk r Q
at_ok (Ok x) f h = f h
at_ok (Err e) f h = h

at_err : {A E P Q : Type 0} (r : Result A E) → (P → Q) → OnErr r P → OnErr r Q
at_err (Ok x) f h = h
at_err (Err e) f h = f h

pub returns-clause-comes : goal.returns-clause-comes
returns-clause-comes c =
    let r = (goal.at.returns-clause-comes c).After-resume in
    let n = c.try_from.new in
    if_ok c.try_from.result
    (λ k g. comes_then c.args.atoms.now c.args.clauses.now c.args.world.now.first c.resume.new.world.first c.args.world.now.second c.resume.new.world.second c.args.choices.now c.args.choices.now
    (came r) n.world.first n.world.second n.choices k g) c.try_from.ensures.comes

pub returns-clause-err : goal.returns-clause-err
returns-clause-err c =
    let r = (goal.at.returns-clause-err c).After-resume in
    let n = c.try_from.new in
    at_err c.try_from.result
    (comes_then c.args.atoms.now c.args.clauses.now c.args.world.now.first c.resume.new.world.first c.args.world.now.second c.resume.new.world.second c.args.choices.now c.args.choices.now
    (came r) n.world.first n.world.second n.choices None) c.try_from.ensures.err

pub returns-clause-stops : goal.returns-clause-stops
returns-clause-stops c =
    let r = (goal.at.returns-clause-stops c).After-resume in
    if_err c.try_from.result
    (λ fault g. stops_then c.args.atoms.now c.args.clauses.now c.args.world.now.first c.resume.new.world.first c.args.world.now.second c.resume.new.world.second c.args.choices.now c.args.choices.now
    (came r) fault (same_exchanges r) g) c.try_from.ensures.stops

pub returns-clause-gone : goal.returns-clause-gone
returns-clause-gone c = c.try_from.ensures.gone

pub returns-clause-fewer : goal.returns-clause-fewer
returns-clause-fewer c =
    let r = (goal.at.returns-clause-fewer c).After-resume in
    let n = c.try_from.new in
    at_ok c.try_from.result
    (subst (λ (o : Opened). waiting_in (stack c.args.atoms.now c.args.clauses.now (saved_values n.world.first n.world.second.saved) n.choices)
    < waiting_in (map (left_at c.args.atoms.now c.args.clauses.now) o)) (still r ∙ sym (was r))) c.try_from.ensures.fewer

pub returns-clause-open : goal.returns-clause-open
returns-clause-open c =
    let r = (goal.at.returns-clause-open c).After-resume in
    c.try_from.ensures.open
    (open_still c.args.atoms.now c.args.clauses.now (before r) (saved_values c.resume.new.world.first c.resume.new.world.second.saved) c.args.choices.now c.args.choices.now
    (still r ∙ sym (was r)) c.requires.open)

pub returns-clause-budget : goal.returns-clause-budget
returns-clause-budget c = c.try_from.ensures.budget ∙ same_exchanges (goal.at.returns-clause-budget c).After-resume
