use Rattle.spec_linear.proofs.echelon.constant_forms_are_fixed.Goals as goal
use Rattle.spec_linear.proofs.Solving.{fixed, free-not_fixed, dependent-not_fixed}

pub returns-clause-constant : goal.returns-clause-constant
returns-clause-constant c = fixed

pub returns-clause-dependent : goal.returns-clause-dependent
returns-clause-dependent c = dependent-not_fixed

pub returns-clause-free : goal.returns-clause-free
returns-clause-free c = free-not_fixed
