use Rattle.std.proofs.Common.{refl}
use Rattle.std.specs.Char.{encode_utf8}
use Rattle.std.specs.Str.{chars, is_utf8}
use Rattle.spec_syntax.specs.Characters.{first_char}
use Rattle.spec_syntax.specs.Grammar.{use_of, begins_term}
use Rattle.spec_text.specs.Readings.{ended}
use Rattle.spec_text.specs.Runs.{whole, onward}
use Rattle.spec_text.proofs.ByMachine.{reads_there}
use Rattle.spec_text.proofs.reading.clauses.Goals as goal

pub returns : goal.returns
unfolding encode_utf8 chars is_utf8 first_char use_of begins_term
returns c = record {
  first = reads_there _ _ _ _ refl refl (onward refl refl refl (onward refl refl refl whole));
  second = reads_there _ _ _ _ refl refl (onward refl refl refl (onward refl refl refl whole));
  end = ended refl refl;
  nothing = ended refl refl;
  comment = ended refl refl;
  names = reads_there _ _ _ _ refl refl
      (onward refl refl refl (onward refl refl refl (onward refl refl refl (onward refl refl refl (onward refl refl refl (onward refl refl refl (onward refl refl refl whole)))))));
}
