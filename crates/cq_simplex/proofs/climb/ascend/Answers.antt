use Rattle.std.proofs.Common.{subst}
use Rattle.cq_simplex.specs.Answers.{IsAnswer}
use Rattle.cq_simplex.specs.Dictionary.{IsReached}
use Rattle.cq_simplex.proofs.Climbing.{answers_back, carried_reached}
use Rattle.cq_simplex.proofs.climb.ascend.Goals as goal

pub returns-clause-answer : goal.returns-clause-answer
returns-clause-answer c =
    answers_back c.args.dict.now.roles c.args.dict.now.restricted c.args.row c.climb.new.dict.roles c.in_ok-climb.ensures.carried c.args.aim c.maximise.new.dict.roles c.in_ok-max.max
    (subst (λ f. IsAnswer c.climb.new.dict.roles f c.args.row c.args.aim c.maximise.new.dict.roles c.in_ok-max.max) c.in_ok-climb.ensures.flags c.in_ok-max.ensures.answer)

pub returns-clause-carried : goal.returns-clause-carried
returns-clause-carried c =
    let w = c.in_ok-max.ensures.dictionary in
    carried_reached c.args.dict.now.roles c.args.dict.now.restricted c.args.row c.climb.new.dict.roles c.in_ok-climb.ensures.carried w.exchanges c.maximise.new.dict.roles
    (subst (λ f. IsReached f c.args.row c.climb.new.dict.roles w.exchanges c.maximise.new.dict.roles) c.in_ok-climb.ensures.flags w.reached)
