use Rattle.spec_search.proofs.AskedValues.{entailed_true, broken_untrue}
use Rattle.spec_search.proofs.entailed_constraints_are_true.Goals as goal

pub returns : goal.returns
returns c = record { entailed = entailed_true; broken = broken_untrue }
