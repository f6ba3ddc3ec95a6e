use Rattle.spec_builtins.specs.Built.{atom}
use Rattle.cq_branch.proofs.rows.once.Goals as goal

pub returns-clause-row : goal.returns-clause-row
returns-clause-row c = λ texts choices p behind g same s rg rt. c.in_ok-all.ensures.row texts choices p behind g (atom "true") same s rg rt
