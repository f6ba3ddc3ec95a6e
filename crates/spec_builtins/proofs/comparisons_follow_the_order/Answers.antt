use Rattle.spec_builtins.proofs.Compared.{same_terms, other_terms, not_before_itself, before_all_later, one_before, after_is, before_or_same_is, after_or_same_is}
use Rattle.spec_builtins.proofs.comparisons_follow_the_order.Goals as goal

pub returns : goal.returns
returns c = record { same = same_terms; not_same = other_terms; itself = not_before_itself; chained = before_all_later; total = one_before; after = after_is; before_or_same = before_or_same_is; after_or_same = after_or_same_is }
