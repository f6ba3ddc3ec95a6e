use Rattle.spec_terms.proofs.Substitution.{named-apply}
use Rattle.spec_terms.proofs.Renamed.{none_unnamed}
use Rattle.spec_terms.proofs.RenamedVariables.{variables_named, renamed_named}
use Rattle.spec_terms.proofs.replaced_names.Goals as goal

pub returns : goal.returns
returns g c = record { applied = named-apply; variables = variables_named; renamed = renamed_named; no_unifier = none_unnamed }
