use Rattle.cq_term.proofs.AtomsPlaces.{kept-with_text}
use Rattle.cq_term.proofs.atoms.numbers_keep_their_texts.Goals as goal

pub returns : goal.returns
returns c = kept-with_text
