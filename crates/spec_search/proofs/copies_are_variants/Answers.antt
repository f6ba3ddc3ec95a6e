use Rattle.spec_search.proofs.Copies.{copy_variant, copy_new, instance_variant, instance_new}
use Rattle.spec_search.proofs.copies_are_variants.Goals as goal

pub returns : goal.returns
returns c = record { variant = copy_variant; new_variables = copy_new; clause = instance_variant; new_in_clause = instance_new }
