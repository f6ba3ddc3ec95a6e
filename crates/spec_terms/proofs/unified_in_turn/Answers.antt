use Rattle.spec_terms.proofs.Unifiers.{unified_both, not_first, not_later}
use Rattle.spec_terms.proofs.unified_in_turn.Goals as goal

pub returns : goal.returns
returns g c = record { both = λ ds es r s first later. unified_both ds es r first s later; not_first = not_first; not_later = not_later }
