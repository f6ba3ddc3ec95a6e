use Rattle.spec_simplex.proofs.More.{open_rises}
use Rattle.spec_simplex.proofs.Column.{column_rises}
use Rattle.spec_simplex.proofs.TableauWritten.{rises_by_constant, free_rises, takes_every_value}
use Rattle.spec_simplex.proofs.tableau.rising_forms.Goals as goal

pub returns : goal.returns
returns c = record {
  constant = rises_by_constant;
  unlimited = open_rises;
  unrestricted = free_rises;
  every_value = takes_every_value;
  column = λ d l i c r e. column_rises d l i c r e;
}
