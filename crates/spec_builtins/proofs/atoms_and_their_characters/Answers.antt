use Rattle.std.proofs.Common.{refl}
use Rattle.spec_builtins.proofs.Elements.{atom_back, character_of, code_of_character}
use Rattle.spec_builtins.proofs.atoms_and_their_characters.Goals as goal

pub returns : goal.returns
returns c = record { apart = λ k a l. refl; back = atom_back; character = character_of; code = code_of_character }
