use Rattle.spec_syntax.proofs.Tables.{standard_table, set_table}
use Rattle.spec_syntax.proofs.operator_tables.Goals as goal

pub returns : goal.returns
returns c = record { at_the_start = standard_table; changed = set_table }
