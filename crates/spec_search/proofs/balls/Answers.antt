use Rattle.spec_search.proofs.RaisedBalls.{control_balls_raised, term_balls_raised, text_balls_raised, arithmetic_balls_raised, declaration_balls_raised, constraint_balls_raised, row_balls_raised}
use Rattle.spec_search.proofs.balls.Goals as goal

pub returns : goal.returns
returns c = record {
  control = control_balls_raised;
  terms = term_balls_raised;
  texts = text_balls_raised;
  arithmetic = arithmetic_balls_raised;
  declarations = declaration_balls_raised;
  constraints = constraint_balls_raised;
  rows = row_balls_raised;
}
