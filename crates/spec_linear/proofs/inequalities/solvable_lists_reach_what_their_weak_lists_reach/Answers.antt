use Rattle.spec_linear.proofs.Together.{weak_solved, reached, reached_above}
use Rattle.spec_linear.proofs.inequalities.solvable_lists_reach_what_their_weak_lists_reach.Goals as goal

pub returns : goal.returns
returns c = record {
  weaker = weak_solved;
  positive = reached;
  above = reached_above;
}
