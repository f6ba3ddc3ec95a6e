use Rattle.std.proofs.Common.{◌≡◌, ◌<◌, ℕ, List, length, Option, None, Some, sym, ap, ◌∙◌, subst}
use Rattle.std.specs.Prelude.{IfNone}
use Rattle.cq_attr.proofs.Elements.{on_err}
use Rattle.cq_settle.specs.Contents.{Contents}
use Rattle.cq_settle.specs.Rest.{IsReady}
use Rattle.cq_settle.specs.Worlds.{now_of}
use Rattle.spec_engine.specs.Cells.{Value}
use Rattle.spec_engine.specs.declared.machine.cell.Cell.{Cell}
use Rattle.cq_control.specs.Open.{open_choices}
use Rattle.cq_branch.specs.Choices.{AreOpen}
use Rattle.cq_branch.specs.Worlds.{saved_values, value}
use Rattle.cq_branch.specs.declared.alternatives.Alternatives.{Alternatives}
use Rattle.cq_calls.specs.Calling.{IsStill}
use Rattle.cq_calls.proofs.Waiting.{waited_come, opens_also, keeps_same}
use Rattle.cq_calls.proofs.calling.begin_several.Goals as goal

pub try_from-requires-clause-ready : goal.try_from-requires-clause-ready
try_from-requires-clause-ready c = subst (λ (w : Contents). IsReady c.args.atoms.now w) (sym c.wait.ensures.world) c.requires.ready

pub try_from-requires-clause-goal : goal.try_from-requires-clause-goal
try_from-requires-clause-goal c = subst (λ (w : Contents). c.args.goal < length w.heap.terms) (sym c.wait.ensures.world) c.requires.goal

pub try_from-requires-clause-rest : goal.try_from-requires-clause-rest
try_from-requires-clause-rest c = subst (λ (ls : List (List Cell)). c.args.rest < length ls) (sym c.wait.ensures.lists) c.requires.rest

pub try_from-requires-clause-next : goal.try_from-requires-clause-next
try_from-requires-clause-next c = record {
  walk = c.args.walk.now;
  trying = record {
    older = c.args.choices.now;
    newest = c.in_ok-wait.ensures.contents;
    back = value c.args.world.now.first c.args.world.now.second.now;
    others = open_choices (saved_values c.args.world.now.first c.args.world.now.second.saved) c.args.choices.now;
    goes_back = c.in_ok-wait.ensures.waits;
    world = c.wait.ensures.world;
    lists = keeps_same c.args.world.now.second.now c.wait.new.world.second.now c.wait.ensures.lists;
  };
  next = c.requires.next;
  opened = c.requires.behind;
}

-- ---- what it comes to

-- what was said of the world before
back_before : (old mid new : Contents) (o : Option ℕ) → IfNone o (new ≡ mid) → mid ≡ old → IfNone o (new ≡ old)
back_before old mid new None a b = a ∙ b
back_before old mid new (Some k) a b = tt

pub returns-in-Ok-clause-comes : goal.returns-in-Ok-clause-comes
returns-in-Ok-clause-comes c =
    waited_come c.args.atoms.now c.args.clauses.now (saved_values c.args.world.now.first c.args.world.now.second.saved) c.args.choices.now
    (value c.args.world.now.first c.args.world.now.second.now) c.args.goal c.args.rest c.args.walk.now c.wait.new.world.first c.wait.new.world.second c.wait.new.choices
    c.in_ok-wait.ensures.waits c.try_from.new.world.first c.try_from.new.world.second c.try_from.new.choices c.in-Ok.next c.in-Ok.ensures.comes

pub returns-in-Err-clause-comes : goal.returns-in-Err-clause-comes
returns-in-Err-clause-comes c =
    waited_come c.args.atoms.now c.args.clauses.now (saved_values c.args.world.now.first c.args.world.now.second.saved) c.args.choices.now
    (value c.args.world.now.first c.args.world.now.second.now) c.args.goal c.args.rest c.args.walk.now c.wait.new.world.first c.wait.new.world.second c.wait.new.choices
    c.in_ok-wait.ensures.waits c.try_from.new.world.first c.try_from.new.world.second c.try_from.new.choices None c.in-Err.ensures.err

pub returns-in-Err-clause-back : goal.returns-in-Err-clause-back
returns-in-Err-clause-back c = c.in-Err.ensures.err_world ∙ c.wait.ensures.world

pub returns-in-Ok-clause-back : goal.returns-in-Ok-clause-back
returns-in-Ok-clause-back c = back_before (now_of c.args.world.now.first) (now_of c.wait.new.world.first) (now_of c.try_from.new.world.first) c.in-Ok.next c.in-Ok.ensures.back c.wait.ensures.world

-- ---- the choices that are open

pub returns-in-Ok-clause-open : goal.returns-in-Ok-clause-open
returns-in-Ok-clause-open c = λ o.
    c.try_from.ensures.open
    (opens_also c.args.atoms.now c.args.clauses.now (saved_values c.args.world.now.first c.args.world.now.second.saved) c.args.choices.now
    c.args.goal c.args.rest c.args.walk.now (value c.args.world.now.first c.args.world.now.second.now)
    (saved_values c.wait.new.world.first c.wait.new.world.second.saved) c.wait.new.choices c.in_ok-wait.ensures.waits c.requires.walk o)

pub returns-in-Err-clause-open : goal.returns-in-Err-clause-open
returns-in-Err-clause-open c = λ o.
    c.try_from.ensures.open
    (opens_also c.args.atoms.now c.args.clauses.now (saved_values c.args.world.now.first c.args.world.now.second.saved) c.args.choices.now
    c.args.goal c.args.rest c.args.walk.now (value c.args.world.now.first c.args.world.now.second.now)
    (saved_values c.wait.new.world.first c.wait.new.world.second.saved) c.wait.new.choices c.in_ok-wait.ensures.waits c.requires.walk o)

pub returns-in-Ok-clause-budget : goal.returns-in-Ok-clause-budget
returns-in-Ok-clause-budget c = c.try_from.ensures.budget ∙ ap (λ (w : Contents). w.pivots) c.wait.ensures.world

pub returns-in-Err-clause-budget : goal.returns-in-Err-clause-budget
returns-in-Err-clause-budget c = c.try_from.ensures.budget ∙ ap (λ (w : Contents). w.pivots) c.wait.ensures.world

-- ---- want of memory

pub returns-in_err-wait-clause-budget : goal.returns-in_err-wait-clause-budget
returns-in_err-wait-clause-budget c = ap (λ (w : Contents). w.pivots) c.wait.ensures.world

pub returns-in_err-wait-clause-err : goal.returns-in_err-wait-clause-err
returns-in_err-wait-clause-err c =
    let still : IsStill c.args.world.now.first c.wait.new.world.first c.args.world.now.second c.wait.new.world.second c.args.choices.now c.wait.new.choices =
    record {
      choices = c.in_err-wait.ensures.err;
      saved = c.in_err-wait.ensures.err_saved;
      world = c.wait.ensures.world;
      lists = keeps_same c.args.world.now.second.now c.wait.new.world.second.now c.wait.ensures.lists;
    } in
    on_err c.from_residual.result still

pub returns-in_err-wait-clause-open : goal.returns-in_err-wait-clause-open
returns-in_err-wait-clause-open c = λ o.
    subst (λ (cs : List Alternatives). AreOpen c.args.atoms.now c.args.clauses.now (saved_values c.wait.new.world.first c.wait.new.world.second.saved) cs) (sym c.in_err-wait.ensures.err)
    (subst (λ (l : List (Value Contents)). AreOpen c.args.atoms.now c.args.clauses.now l c.args.choices.now) (sym c.in_err-wait.ensures.err_saved) o)
