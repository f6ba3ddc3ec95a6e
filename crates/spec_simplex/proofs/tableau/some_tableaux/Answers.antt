use Rattle.spec_simplex.proofs.Face.{face}
use Rattle.spec_simplex.proofs.Sample.{apart}
use Rattle.spec_simplex.proofs.tableau.some_tableaux.Goals as goal

pub returns : goal.returns
returns c = record { face = face; apart = apart }
