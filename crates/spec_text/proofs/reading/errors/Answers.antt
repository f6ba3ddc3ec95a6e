use Rattle.std.proofs.Common.{refl}
use Rattle.std.specs.Char.{encode_utf8}
use Rattle.std.specs.Str.{chars, is_utf8}
use Rattle.spec_syntax.specs.Characters.{first_char}
use Rattle.spec_syntax.specs.Grammar.{use_of, begins_term}
use Rattle.spec_text.specs.Readings.{behind, at_the_end, over, past}
use Rattle.spec_text.specs.Runs.{whole, onward, stuck, faulty, cut_off}
use Rattle.spec_text.proofs.ByMachine.{reads_there, fails_there}
use Rattle.spec_text.proofs.reading.errors.Goals as goal

pub returns : goal.returns
unfolding encode_utf8 chars is_utf8 first_char use_of begins_term
returns c = record {
  refused = reads_there _ _ _ _ refl refl (onward refl refl refl (stuck tt refl refl refl (over refl (λ e. cc) (λ e. cc) (behind refl refl))));
  behind = reads_there _ _ _ _ refl refl (onward refl refl refl (onward refl refl refl whole));
  cut = reads_there _ _ _ _ refl refl (onward refl refl refl (onward refl refl refl (onward refl refl refl (onward refl refl refl (cut_off tt refl refl)))));
  open_quote = fails_there _ _ _ _ refl (faulty tt refl (at_the_end refl refl));
  open_comment = fails_there _ _ _ _ refl (faulty tt refl (at_the_end refl refl));
  refused_before_a_fault = reads_there _ _ _ _ refl refl (onward refl refl refl (stuck tt refl refl refl (over refl (λ e. cc) (λ e. cc) (past refl (at_the_end refl refl)))));
  end_alone = reads_there _ _ _ _ refl refl (stuck tt refl refl refl (behind refl refl));
  fault_skipped = reads_there _ _ _ _ refl refl (onward refl refl refl (faulty tt refl (past refl (behind refl refl))));
  float = reads_there _ _ _ _ refl refl (onward refl refl refl (onward refl refl refl (faulty tt refl (over refl (λ e. cc) (λ e. cc) (over refl (λ e. cc) (λ e. cc) (behind refl refl))))));
}
