use Rattle.std.proofs.Common.{◌≡◌, ◌∙◌, arith, refl, subst}
use Rattle.cq_dict.proofs.Roles.{at_below}
use Rattle.cq_dict.specs.declared.table.Role.TheVariants.{Basic}
use Rattle.cq_dict.specs.Roles.{is_restricted}
use Rattle.spec_simplex.specs.Rule.{IsDue}
use Rattle.cq_simplex.specs.declared.turn.Turn.TheVariants.{Exchange}
use Rattle.cq_simplex.specs.Dictionary.{dictionary, IsReached}
use Rattle.cq_simplex.specs.Answers.{AreSpent}
use Rattle.cq_simplex.specs.Turns.{IsTurn, IsFound}
use Rattle.cq_simplex.proofs.Steps.{begins, due_entry, step}
use Rattle.cq_simplex.proofs.Greatest.{answers, suffices}
use Rattle.cq_simplex.proofs.maximise.Goals as goal
use Rattle.cq_simplex.proofs.maximise.Goals.{In-Exchange, In-Exchange-2}

pub prove-unreachable-requires : goal.prove-unreachable-requires
prove-unreachable-requires c = omega (arith, c.if-prove.true, c.count.ensures.value, at_below c.args.dict.now.roles c.args.row (Basic c.requires.row.0) c.requires.row.1)

pub loop-init : goal.loop-init
loop-init c = record {
  flags = refl;
  saved = refl;
  room = omega arith;
  reached = begins c.args.dict.now.restricted c.args.row c.args.dict.now.roles c.count.ensures.table c.requires.row c.requires.feasible;
}

-- the exchange that is due
due : (c : In-Exchange) → IsDue (is_restricted c.args.dict.now.restricted) (dictionary c.loop.dict.roles c.args.row) c.in-Exchange.entering c.in-Exchange.leaving
due c =
    (subst (λ f. IsTurn c.loop.dict.roles f c.args.row c.args.aim (Exchange c.in-Exchange.leaving c.in-Exchange.entering)) c.loop.invariant.flags
    (subst (IsTurn c.loop.dict.roles c.loop.dict.restricted c.args.row c.args.aim) c.in-Exchange.is c.in_ok-max.ensures.turn)).0

pub returns-in-Ends-clause-answer : goal.returns-in-Ends-clause-answer
returns-in-Ends-clause-answer c =
    answers c.args.dict.now.restricted c.args.row c.args.dict.now.roles c.loop.counter c.loop.dict.roles c.loop.invariant.reached c.args.aim c.in-Ends.max
    (subst (λ f. IsFound c.loop.dict.roles f c.args.row c.args.aim c.in-Ends.max) c.loop.invariant.flags
    (subst (IsTurn c.loop.dict.roles c.loop.dict.restricted c.args.row c.args.aim) c.in-Ends.is c.in_ok-max.ensures.turn))

pub pivot-requires : goal.pivot-requires
pivot-requires c =
    due_entry c.loop.dict.roles (is_restricted c.args.dict.now.restricted) c.args.row c.in-Exchange.entering c.in-Exchange.leaving (due (goal.at.pivot-requires c).In-Exchange)

pub loop-preserved : goal.loop-preserved
loop-preserved c =
    let x = c.in_ok-pivot-in-Exchange.ensures in
    record {
      flags = x.flags ∙ c.loop.invariant.flags;
      saved = x.saved ∙ c.loop.invariant.saved;
      room = omega (arith, x.room, c.loop.invariant.room);
      reached = step c.args.dict.now.restricted c.args.row c.args.dict.now.roles c.loop.counter c.loop.dict.roles c.pivot.new.self.roles c.loop.invariant.reached c.in-Exchange.entering c.in-Exchange.leaving
          (due (goal.at.loop-preserved c).In-Exchange) x.same x.kinds x.table;
    }

pub returns-in-Ends-2-clause-answer : goal.returns-in-Ends-2-clause-answer
returns-in-Ends-2-clause-answer c =
    answers c.args.dict.now.restricted c.args.row c.args.dict.now.roles c.loop.counter c.loop.dict.roles c.loop.invariant.reached c.args.aim c.in-Ends-2.max
    (subst (λ f. IsFound c.loop.dict.roles f c.args.row c.args.aim c.in-Ends-2.max) c.loop.invariant.flags
    (subst (IsTurn c.loop.dict.roles c.loop.dict.restricted c.args.row c.args.aim) c.in-Ends-2.is c.in_ok-max-2.ensures.turn))

-- the budget is spent, and another exchange is due
spent : (c : In-Exchange-2) → AreSpent c.args.dict.now.roles c.args.dict.now.restricted c.args.row c.args.aim c.args.budget c.loop.dict.roles
spent c =
    let turn = subst (λ f. IsTurn c.loop.dict.roles f c.args.row c.args.aim (Exchange c.in-Exchange-2.field-0 c.in-Exchange-2.field-1)) c.loop.invariant.flags
    (subst (IsTurn c.loop.dict.roles c.loop.dict.restricted c.args.row c.args.aim) c.in-Exchange-2.is c.in_ok-max-2.ensures.turn) in
    let all : c.loop.counter ≡ c.args.budget = omega (arith, c.loop-test.false, c.loop.auto.counter-end) in
    record {
      reached = subst (λ n. IsReached c.args.dict.now.restricted c.args.row c.args.dict.now.roles n c.loop.dict.roles) all c.loop.invariant.reached;
      column = c.in-Exchange-2.field-1;
      row = c.in-Exchange-2.field-0;
      due = turn.0;
      short = turn.1;
    }

pub returns-in-Exchange-2-clause-enough : goal.returns-in-Exchange-2-clause-enough
returns-in-Exchange-2-clause-enough c = λ e n g.
    suffices c.args.dict.now.restricted c.args.row c.args.dict.now.roles c.args.aim c.args.budget c.loop.dict.roles c.requires.feasible
    (spent (goal.at.returns-in-Exchange-2-clause-enough c).In-Exchange-2) e
