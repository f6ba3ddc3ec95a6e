use Rattle.spec_linear.proofs.Targets.{same_refl, same_sym, same_trans}
use Rattle.spec_linear.proofs.same_solutions.Goals as goal

pub returns : goal.returns
returns c = record {
  reflexive = same_refl;
  symmetric = same_sym;
  transitive = same_trans;
}
