use Rattle.std.proofs.Common.{◌≡◌, ◌+◌, ◌≤◌, length}
use Rattle.std.specs.Prelude.{min}
use Rattle.spec_syntax.specs.Quotes.{digits_len, digits_onto, digits_value}
use Rattle.cq_read.proofs.lex.quotes.escape_digits.Given as goal

abbrev pub invariant-loop-b : goal.invariant-loop-b
invariant-loop-b l = record {
  value : min 0x11_0000 (digits_onto l.base l.value l.rest) ≡ min 0x11_0000 (digits_value l.base l.fn.text);
  most : l.value ≤ 0x11_0000;
  len : l.len + digits_len l.base l.rest ≡ digits_len l.base l.fn.text;
  place : l.len + length l.rest ≡ length l.fn.text;
}

abbrev pub decreases-loop-b : goal.decreases-loop-b
decreases-loop-b l = length l.rest
