use Rattle.std.proofs.Common.{◌∙◌, ◌++◌, ◌∷◌, [], List, ℕ, map, ap, sym, subst, append_assoc, arith, true, false}
use Rattle.cq_resolve.specs.Marks.{shown}
use Rattle.cq_resolve.specs.Matching.{Call, Walked, IsAt}
use Rattle.cq_resolve.proofs.Started.{nil_of, ok_is}
use Rattle.cq_resolve.proofs.matching.match_from.Goals as goal
use Rattle.cq_resolve.proofs.matching.match_from.Goals.{After-step}

here : (c : After-step) → (k : Call) → IsAt k (map shown c.args.head.now) c.args.first c.args.heap.now.now c.args.newly.now c.args.walk.now →
    Walked k (map shown c.args.head.now) c.args.first c.loop-goal.heap.now c.loop-goal.newly c.loop-goal.walk.place c.loop-goal.walk.met (c.pop.new.self.items ++ c.in-Some.goal ∷ [])
here c k m = subst (λ (gs : List ℕ). Walked k (map shown c.args.head.now) c.args.first c.loop-goal.heap.now c.loop-goal.newly c.loop-goal.walk.place c.loop-goal.walk.met gs) c.in-Some.ensures.items (c.loop-goal.invariant.matching k m)

pub returns-then-not-branch-clause-none : goal.returns-then-not-branch-clause-none
returns-then-not-branch-clause-none c = λ e k m.
    c.in_ok-step.ensures.none (ok_is c.in_ok-step.field-0 false c.if-not-branch.true) k (here (goal.at.returns-then-not-branch-clause-none c).After-step k m)

pub loop-goal-preserved : goal.loop-goal-preserved
loop-goal-preserved c =
    let ok = ok_is c.in_ok-step.field-0 true c.if-not-branch.false in
    record {
      matching = λ k m. c.in_ok-step.ensures.matched ok k (here (goal.at.loop-goal-preserved c).After-step k m);
      within = c.in_ok-step.ensures.within ok;
      met = c.in_ok-step.ensures.met ok;
      told = (
        c.loop-goal.invariant.told.0 ++ c.step.ensures.told.0,
        c.step.ensures.told.1 ∙ ap (λ vs. vs ++ c.step.ensures.told.0) c.loop-goal.invariant.told.1 ∙ append_assoc c.args.newly.now c.loop-goal.invariant.told.0 c.step.ensures.told.0,
      );
      names = λ n head all. c.in_ok-step.ensures.names n head (c.loop-goal.invariant.names n head all);
      saved = c.step.ensures.saved ∙ c.loop-goal.invariant.saved;
      room = omega (arith, c.step.ensures.room, c.loop-goal.invariant.room);
    }

pub returns-clause-matched : goal.returns-clause-matched
returns-clause-matched c = λ e k m. (
  c.loop-goal.walk.place,
  c.loop-goal.walk.met,
  subst (λ (gs : List ℕ). Walked k (map shown c.args.head.now) c.args.first c.loop-goal.heap.now c.loop-goal.newly c.loop-goal.walk.place c.loop-goal.walk.met gs)
      (nil_of c.loop-goal.walk.goals.items (let n = c.in_default.ensures.cases in sym c.loop-goal.walk.goals.ok.0 ∙ n.0)) (c.loop-goal.invariant.matching k m),
)

pub returns-then-not-branch-clause-names : goal.returns-then-not-branch-clause-names
returns-then-not-branch-clause-names c = λ n head all. c.in_ok-step.ensures.names n head (c.loop-goal.invariant.names n head all)
