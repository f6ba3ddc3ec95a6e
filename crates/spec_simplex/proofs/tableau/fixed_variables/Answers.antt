use Rattle.spec_simplex.proofs.Members.{unmentioned_free}
use Rattle.spec_simplex.proofs.TableauWritten.{fixed, not_fixed, two_differ}
use Rattle.spec_simplex.proofs.tableau.fixed_variables.Goals as goal

pub returns : goal.returns
returns c = record {
  unmentioned = unmentioned_free;
  fixes = fixed;
  unfixes = not_fixed;
  differ = two_differ;
}
