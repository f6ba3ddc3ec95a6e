use Rattle.spec_simplex.proofs.TableauWritten.{row_face, row_face_back}
use Rattle.spec_simplex.proofs.tableau.faces.Goals as goal

pub returns : goal.returns
returns c = record {
  is = row_face;
  back = row_face_back;
}
