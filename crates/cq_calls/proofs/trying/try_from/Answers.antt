use Rattle.std.proofs.Common.{◌≡◌, ◌<◌, ◌∷◌, length, Some, None, refl, sym, ap, ◌∙◌, subst, arith}
use Rattle.cq_control.specs.Open.{open_choices}
use Rattle.cq_settle.specs.Contents.{Contents}
use Rattle.cq_settle.specs.Rest.{IsReady}
use Rattle.spec_engine.specs.Cells.{Value}
use Rattle.cq_branch.specs.Worlds.{saved_values, value}
use Rattle.cq_branch.specs.declared.alternatives.Alternatives.{Alternatives}
use Rattle.cq_branch.specs.declared.alternatives.Alternatives.TheVariants.{Clauses}
use Rattle.cq_branch.proofs.Budgets.{same_budget}
use Rattle.cq_branch.proofs.Older.{newest_gone}
use Rattle.cq_branch.specs.Stops.{ComesOn}
use Rattle.cq_branch.proofs.Back.{back_still, comes_then, stops_then}
use Rattle.cq_calls.specs.Trying.{IsTrying}
use Rattle.cq_calls.proofs.Left.{same-first, gone_past, others_on}
use Rattle.cq_calls.proofs.Newest.{arrives_past, fewer_past, open_past}
use Rattle.cq_calls.proofs.Waiting.{keeps_all, keeps_both}
use Rattle.cq_calls.proofs.trying.try_from.Goals as goal
use Rattle.cq_calls.proofs.trying.try_from.Goals.{After-back, After-try_clause}

pub clauses-init : goal.clauses-init
clauses-init c =
    let t = c.requires.next.trying in
    let newest = Clauses c.args.goal c.requires.next.walk c.args.rest in
    record {
      next = c.requires.next;
      known = c.requires.known;
      others = (newest, newest, t.older, t.newest, t.newest);
      marked = c.requires.marked;
      are_open = λ o. o;
      comes = back_still c.args.atoms.now c.args.clauses.now c.args.world.now.first c.args.world.now.first c.args.world.now.second c.args.world.now.second c.args.choices.now
          c.args.choices.now refl;
      waiting = omega arith;
      budget = refl;
      world = refl;
      lists = keeps_all c.args.world.now.second.now;
    }

pub try_clause-requires-clause-ready : goal.try_clause-requires-clause-ready
try_clause-requires-clause-ready c = subst (λ (w : Contents). IsReady c.args.atoms.now w) (sym c.clauses.invariant.world) c.requires.ready

pub try_clause-requires-clause-goal : goal.try_clause-requires-clause-goal
try_clause-requires-clause-goal c = subst (λ (w : Contents). c.args.goal < length w.heap.terms) (sym c.clauses.invariant.world) c.requires.goal

pub try_clause-requires-clause-rest : goal.try_clause-requires-clause-rest
try_clause-requires-clause-rest c = omega (arith, c.requires.rest, c.clauses.invariant.lists.more)

-- ---- its branch is kept

pub returns-in-Goes-clause-comes : goal.returns-in-Goes-clause-comes
returns-in-Goes-clause-comes c =
    comes_then c.args.atoms.now c.args.clauses.now c.args.world.now.first c.clauses.world.first c.args.world.now.second c.clauses.world.second c.args.choices.now c.clauses.choices
    c.clauses.invariant.comes c.try_clause.new.world.first c.try_clause.new.world.second c.try_clause.new.choices (Some c.in-Goes.branch) (rw c.in-Goes.is at c.in-Ok.ensures.comes)

pub returns-in-Goes-clause-there : goal.returns-in-Goes-clause-there
returns-in-Goes-clause-there c = rw c.in-Goes.is at c.in-Ok.ensures.there

pub returns-in-Goes-clause-open : goal.returns-in-Goes-clause-open
returns-in-Goes-clause-open c = λ o. c.in-Ok.ensures.open (c.clauses.invariant.are_open o)

-- ---- it is pruned

-- the choices of before, once it is
came : (c : After-try_clause) → ComesOn c.args.atoms.now c.args.clauses.now c.clauses.world.first c.clauses.world.second c.clauses.choices
    c.try_clause.new.world.first c.try_clause.new.world.second c.try_clause.new.choices None
    → ComesOn c.args.atoms.now c.args.clauses.now c.args.world.now.first c.args.world.now.second c.args.choices.now
    c.try_clause.new.world.first c.try_clause.new.world.second c.try_clause.new.choices None
came c g =
    comes_then c.args.atoms.now c.args.clauses.now c.args.world.now.first c.clauses.world.first c.args.world.now.second c.clauses.world.second c.args.choices.now c.clauses.choices
    c.clauses.invariant.comes c.try_clause.new.world.first c.try_clause.new.world.second c.try_clause.new.choices None g

pub step-requires : goal.step-requires
step-requires c = c.clauses.invariant.next.opened

pub clauses-preserved : goal.clauses-preserved
clauses-preserved c = record {
  next = record { walk = c.clauses.left; trying = rw c.in-Pruned.is at c.in-Ok.ensures.left; next = c.in-Some.ensures.some; opened = c.in-Some.ensures.opened };
  known = c.in-Some.ensures.known;
  others = others_on (rw c.in-Pruned.is at c.in-Ok.ensures.others) c.clauses.invariant.others;
  marked = c.in-Ok.ensures.marked;
  are_open = λ o. c.in-Ok.ensures.open (c.clauses.invariant.are_open o);
  comes = came (goal.at.clauses-preserved c).After-try_clause (rw c.in-Pruned.is at c.in-Ok.ensures.comes);
  waiting = omega (arith, c.in-Ok.ensures.fewer, c.clauses.invariant.waiting);
  budget = c.in-Ok.ensures.budget ∙ c.clauses.invariant.budget;
  world = (rw c.in-Pruned.is at c.in-Ok.ensures.back) ∙ c.clauses.invariant.world;
  lists = keeps_both c.args.world.now.second.now c.clauses.world.second.now c.try_clause.new.world.second.now c.clauses.invariant.lists c.in-Ok.ensures.lists;
}

-- ---- no clause is left

module _ (c : After-back) (t : IsTrying c.args.goal c.clauses.left c.args.rest (saved_values c.try_clause.new.world.first c.try_clause.new.world.second.saved) c.try_clause.new.choices
    (value c.try_clause.new.world.first c.try_clause.new.world.second.now)) where
  abbrev later : Value Contents
  later = value c.back.new.world.first c.back.new.world.second.now

  abbrev newest : Alternatives
  newest = Clauses c.args.goal c.clauses.left c.args.rest

  went_past : open_choices (saved_values c.try_clause.new.world.first c.try_clause.new.world.second.saved) c.try_clause.new.choices
      ≡ (later, newest) ∷ open_choices (saved_values c.back.new.world.first c.back.new.world.second.saved) c.back.new.self
  went_past =
      newest_gone c.back.result c.try_clause.new.choices c.back.new.self t.older newest
      (λ (x : Alternatives). open_choices (saved_values c.try_clause.new.world.first c.try_clause.new.world.second.saved) c.try_clause.new.choices
      ≡ (later, x) ∷ open_choices (saved_values c.back.new.world.first c.back.new.world.second.saved) c.back.new.self)
      c.back.ensures.none c.back.ensures.contents c.back.ensures.open t.newest

  goes_back : later ≡ t.back
  goes_back = ap (λ (x : Value Contents × Alternatives). x.0) (same-first (later, newest) (t.back, newest)
      (open_choices (saved_values c.back.new.world.first c.back.new.world.second.saved) c.back.new.self) t.others (sym went_past ∙ t.goes_back))

pub returns-in_default-clause-comes : goal.returns-in_default-clause-comes
returns-in_default-clause-comes c =
    let t = rw c.in-Pruned.is at c.in-Ok.ensures.left in
    let mid = c.try_clause.new in
    let fewer = saved_values c.back.new.world.first c.back.new.world.second.saved in
    comes_then c.args.atoms.now c.args.clauses.now c.args.world.now.first mid.world.first c.args.world.now.second mid.world.second c.args.choices.now mid.choices
    (came (goal.at.returns-in_default-clause-comes c).After-try_clause (rw c.in-Pruned.is at c.in-Ok.ensures.comes)) c.back.new.world.first c.back.new.world.second c.back.new.self None
    (λ steps db n s j. arrives_past c.args.atoms.now c.args.clauses.now (saved_values mid.world.first mid.world.second.saved) mid.choices (value mid.world.first mid.world.second.now)
    (value c.back.new.world.first c.back.new.world.second.now) c.args.goal c.args.rest c.clauses.left (open_choices fewer c.back.new.self)
    (went_past (goal.at.returns-in_default-clause-comes c).After-back t) db n s fewer c.back.new.self (value c.back.new.world.first c.back.new.world.second.now) steps
    c.in_default.ensures.none refl j)

pub returns-in_default-clause-gone : goal.returns-in_default-clause-gone
returns-in_default-clause-gone c =
    let t = rw c.in-Pruned.is at c.in-Ok.ensures.left in
    let newest = Clauses c.args.goal c.clauses.left c.args.rest in
    gone_past (
      newest,
      newest_gone c.back.result c.try_clause.new.choices c.back.new.self t.older newest (λ (x : Alternatives). c.try_clause.new.choices ≡ x ∷ c.back.new.self)
          c.back.ensures.none c.back.ensures.contents c.back.ensures.contents t.newest,
    )
    (others_on (rw c.in-Pruned.is at c.in-Ok.ensures.others) c.clauses.invariant.others)

pub returns-in_default-clause-fewer : goal.returns-in_default-clause-fewer
returns-in_default-clause-fewer c =
    let t = rw c.in-Pruned.is at c.in-Ok.ensures.left in
    let mid = c.try_clause.new in
    let fewer = saved_values c.back.new.world.first c.back.new.world.second.saved in
    let past = fewer_past c.args.atoms.now c.args.clauses.now (saved_values mid.world.first mid.world.second.saved) mid.choices (value mid.world.first mid.world.second.now)
    (value c.back.new.world.first c.back.new.world.second.now) c.args.goal c.args.rest c.clauses.left (open_choices fewer c.back.new.self)
    (went_past (goal.at.returns-in_default-clause-fewer c).After-back t) fewer c.back.new.self c.in_default.ensures.none refl in
    omega (arith, past, c.in-Ok.ensures.fewer, c.clauses.invariant.waiting)

pub returns-in_default-clause-open : goal.returns-in_default-clause-open
returns-in_default-clause-open c = λ o.
    let t = rw c.in-Pruned.is at c.in-Ok.ensures.left in
    let mid = c.try_clause.new in
    let fewer = saved_values c.back.new.world.first c.back.new.world.second.saved in
    open_past c.args.atoms.now c.args.clauses.now (saved_values mid.world.first mid.world.second.saved) mid.choices (value mid.world.first mid.world.second.now)
    (value c.back.new.world.first c.back.new.world.second.now) c.args.goal c.args.rest c.clauses.left (open_choices fewer c.back.new.self)
    (went_past (goal.at.returns-in_default-clause-open c).After-back t) fewer c.back.new.self (c.in-Ok.ensures.open (c.clauses.invariant.are_open o)) refl

pub returns-in_default-clause-budget : goal.returns-in_default-clause-budget
returns-in_default-clause-budget c =
    let t = rw c.in-Pruned.is at c.in-Ok.ensures.left in
    same_budget c.try_clause.new.world.first c.try_clause.new.world.second.saved c.try_clause.new.choices (value c.back.new.world.first c.back.new.world.second.now)
    (Clauses c.args.goal c.clauses.left c.args.rest) (open_choices (saved_values c.back.new.world.first c.back.new.world.second.saved) c.back.new.self)
    (went_past (goal.at.returns-in_default-clause-budget c).After-back t)
    ∙ c.in-Ok.ensures.budget ∙ c.clauses.invariant.budget

pub returns-in_default-clause-back : goal.returns-in_default-clause-back
returns-in_default-clause-back c =
    let t = rw c.in-Pruned.is at c.in-Ok.ensures.left in
    ap (λ (v : Value Contents). v.0) (goes_back (goal.at.returns-in_default-clause-back c).After-back t)
    ∙ sym t.world ∙ (rw c.in-Pruned.is at c.in-Ok.ensures.back) ∙ c.clauses.invariant.world

-- ---- an error

pub returns-in-Err-clause-err : goal.returns-in-Err-clause-err
returns-in-Err-clause-err c =
    comes_then c.args.atoms.now c.args.clauses.now c.args.world.now.first c.clauses.world.first c.args.world.now.second c.clauses.world.second c.args.choices.now c.clauses.choices
    c.clauses.invariant.comes c.try_clause.new.world.first c.try_clause.new.world.second c.try_clause.new.choices None c.in-Err.ensures.err

pub returns-in-Err-clause-stops : goal.returns-in-Err-clause-stops
returns-in-Err-clause-stops c =
    stops_then c.args.atoms.now c.args.clauses.now c.args.world.now.first c.clauses.world.first c.args.world.now.second c.clauses.world.second c.args.choices.now c.clauses.choices
    c.clauses.invariant.comes c.in-Err.fault c.clauses.invariant.budget c.in-Err.ensures.stops

pub returns-in-Err-clause-open : goal.returns-in-Err-clause-open
returns-in-Err-clause-open c = λ o. c.in-Err.ensures.open (c.clauses.invariant.are_open o)

pub returns-in-Err-clause-err_world : goal.returns-in-Err-clause-err_world
returns-in-Err-clause-err_world c = c.in-Err.ensures.err_world ∙ c.clauses.invariant.world
