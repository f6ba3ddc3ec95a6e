use Rattle.std.proofs.Common.{◌≡◌, ◌+◌, ◌<◌, ◌^◌, length}
use Rattle.spec_syntax.specs.Quotes.{digits_len, digits_onto, digits_value}
use Rattle.cq_read.proofs.lex.numerals.digits.Given as goal

abbrev pub invariant-loop-b : goal.invariant-loop-b
invariant-loop-b l = record {
  value : digits_onto l.base l.value l.rest ≡ digits_value l.base l.fn.text;
  most : l.value < 2 ^ 127;
  len : l.len + digits_len l.base l.rest ≡ digits_len l.base l.fn.text;
  place : l.len + length l.rest ≡ length l.fn.text;
}

abbrev pub decreases-loop-b : goal.decreases-loop-b
decreases-loop-b l = length l.rest
