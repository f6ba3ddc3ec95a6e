-- A ball that a goal raises goes to a catch, or is told.
use Rattle.std.proofs.Common.{inr, ◌≡◌, ℕ, suc, ◌<◌, [], Option, None, Some, false, true, refl, sym, ap, ◌∙◌, subst, arith}
use Rattle.std.proofs.lemmas.Bool.{false≢true}
use Rattle.spec_syntax.specs.Trees.{Tree}
use Rattle.spec_branch.specs.Branch.{read, plain_copy}
use Rattle.spec_search.specs.Search.{Search}
use Rattle.spec_search.specs.Steps.{Ball}
use Rattle.spec_search.specs.Turns as turn
use Rattle.spec_search.specs.Turns.{place_of, after_ball}
use Rattle.spec_transcript.specs.Causes.{Budgets}
use Rattle.spec_engine.specs.Coming.{MayGo, at_once, after, shows}
use Rattle.cq_catch.specs.Balls.{ComesUp}
use Rattle.cq_resolve.specs.StoredValue.{StoredValue}
use Rattle.cq_machine.specs.declared.machine.Machine.{Machine}
use Rattle.cq_machine.specs.Machines.{now, holds, database_of, StillStands}
use Rattle.cq_engine.specs.Seeking.{IsKept}
use Rattle.cq_execute.specs.Executions.{HasStep}
use Rattle.cq_engine.specs.declared.events.engine.Engine.{Engine}
use Rattle.cq_engine.specs.declared.events.event.Event.{Event}
use Rattle.cq_engine.specs.declared.events.event.Event.TheVariants as event
use Rattle.cq_engine.specs.Events.{Stands, Arrives, HasBudgets, ThrowsNext, IsRunning}
use Rattle.cq_engine.specs.Turning.{SelectsNext, IsCaught, IsMissed, IsThrown, Turned}
use Rattle.cq_engine.proofs.Selections.{up_still}
use Rattle.cq_engine.proofs.Steps.{is_written}
use Rattle.cq_engine.proofs.Ended.{stands_same, stands_ended}

-- the step of the goal that is selected is the ball
pub record BallNext (old m : Machine) (n rest : ℕ) (ball : Tree) (s : Search) : Type 0 where
  pub next : SelectsNext old n rest s
  pub step : HasStep m (place_of s next.state next.items next.cut next.behind) (read next.state next.goal) (Ball (plain_copy ball))

module _ (first mid new : Engine) (rest : ℕ) (ball : Tree) (same : mid.selected ≡ first.selected) (few : first.selected < first.steps)
    (still : StillStands first.machine mid.machine) (program : database_of new.machine ≡ database_of mid.machine)
    (f : (s : Search) → Stands first s → BallNext first.machine mid.machine first.selected rest ball s) where
  may : (steps : ℕ) (s : Search) → s.selected ≡ first.selected → first.selected < steps → MayGo steps s
  may steps s e less = inr (subst (λ (i : ℕ). i < steps) (sym e) less)

  comes_up : (s : Search) (x : BallNext first.machine mid.machine first.selected rest ball s)
      → ComesUp mid.machine.atoms (holds mid.machine) (now mid.machine) rest x.next.items x.next.state x.next.behind
  comes_up s x =
      up_still first.machine mid.machine still rest x.next.items x.next.state x.next.behind (record { continuation = x.next.placed.0.continuation; waiting = x.next.placed.1 })

  count : (s : Search) → s.selected ≡ first.selected → suc s.selected ≡ suc mid.selected
  count s e = ap suc (e ∙ sym same)

  caught_turn : IsCaught mid new ball rest → (s : Search) → Stands first s → Arrives first.steps new s
  caught_turn c s j =
      let x = f s j in
      let y = x.next in
      let k = c.caught y.items y.state y.behind (comes_up s x) in
      let t = after_ball s k.next in
      record {
        reached = t;
        quiet = after (may first.steps s y.selected few) (turn.catches y.look x.step.step k.handed_on) at_once;
        stands = stands_same new (suc mid.selected) None t c.selected c.current (record {
          database = x.step.database ∙ sym program;
          selected = count s y.selected;
          first = [];
          behind = k.next;
          branches = refl;
          current = refl;
          waiting = k.waiting;
        });
      }

  missed_turn : (stored : StoredValue) → IsMissed mid new ball rest stored → (budgets : Budgets) → HasBudgets budgets first → (s : Search) → Stands first s
      → ThrowsNext budgets new stored s
  missed_turn stored i budgets h s j =
      let x = f s j in
      let y = x.next in
      let less = subst (λ (n : ℕ). first.selected < n) (sym h.steps) few in
      record {
        counted = i.counted;
        ball = plain_copy ball;
        is_stored = i.is_stored;
        tells = record {
          next = after_ball s [];
          tells = shows at_once (may budgets.steps s y.selected less) (turn.throws y.look x.step.step (i.missed y.items y.state y.behind (comes_up s x)))
              (λ w. let yes : false ≡ true = ap is_written w in absurd (false≢true yes));
          stands = stands_ended new (suc mid.selected) (after_ball s []) i.ended (x.step.database ∙ sym program) (count s y.selected) refl;
        };
      }

  pub thrown : (r : Option Event) → IsThrown mid new ball rest r → Turned first new r
  thrown None c = (λ s j. caught_turn c s j, let more = c.selected in omega (arith, more, same))
  thrown (Some (event.Ball stored)) i = (λ budgets h s j. missed_turn stored i budgets h s j, let more = i.ended.selected in omega (arith, more, same))
  thrown (Some event.Answer) b = absurd b
  thrown (Some (event.Output text)) b = absurd b
  thrown (Some event.Fail) b = absurd b
  thrown (Some (event.Stop cause)) b = absurd b

  pub runs_thrown : IsRunning first → IsKept new.machine → new.steps ≡ first.steps → (r : Option Event) → IsThrown mid new ball rest r → IsRunning new
  runs_thrown run kept steps None c =
      let a = caught_turn c run.search run.stands in
      record { kept = kept; search = a.reached; stands = a.stands; within = let more = c.selected in omega (arith, more, same, few, steps) }
  runs_thrown run kept steps (Some (event.Ball stored)) i =
      let x = f run.search run.stands in
      record {
        kept = kept;
        search = after_ball run.search [];
        stands = stands_ended new (suc mid.selected) (after_ball run.search []) i.ended (x.step.database ∙ sym program) (count run.search x.next.selected) refl;
        within = let more = i.ended.selected in omega (arith, more, same, few, steps);
      }
  runs_thrown run kept steps (Some event.Answer) b = absurd b
  runs_thrown run kept steps (Some (event.Output text)) b = absurd b
  runs_thrown run kept steps (Some event.Fail) b = absurd b
  runs_thrown run kept steps (Some (event.Stop cause)) b = absurd b
