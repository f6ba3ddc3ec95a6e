use Rattle.std.proofs.Common.{map, length}
use Rattle.cq_resolve.specs.Database.{as_procedure}
use Rattle.cq_resolve.proofs.Changes.{database-added, database-removed, database-declared}
use Rattle.cq_resolve.proofs.Whole.{database-named}
use Rattle.cq_resolve.proofs.program.laws.changes_are_those_of_the_database.Goals as goal

pub returns : goal.returns
returns c = record {
  none = λ texts ops v no_contents no_procedures. λ i. record {
    procedures = map (as_procedure texts (no_contents i)) (no_procedures i);
    operators = ops;
    next_clause = length (no_contents i);
  };
  added = database-added;
  removed = database-removed;
  declared = database-declared;
  named = database-named;
}
