use Rattle.spec_terms.proofs.UnifiedLemmas.{texts_unified}
use Rattle.spec_terms.proofs.unified.pairs_are_unified.Goals as goal

pub returns : goal.returns
returns c = texts_unified
