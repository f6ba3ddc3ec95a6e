use Rattle.cq_term.proofs.AtomsPlaces.{with_text-twice}
use Rattle.cq_term.proofs.atoms.equal_texts_have_equal_numbers.Goals as goal

pub returns : goal.returns
returns c = with_text-twice
