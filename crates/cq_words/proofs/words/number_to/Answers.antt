use Rattle.std.proofs.Common.{arith}
use Rattle.cq_words.proofs.Numbers.{in_range, no_number}
use Rattle.cq_words.proofs.words.number_to.Goals as goal

pub returns-in_default : goal.returns-in_default
returns-in_default c = no_number c.args.greatest c.args.text.now c.in_default.ensures.value.0

pub returns-then-n-greatest : goal.returns-then-n-greatest
returns-then-n-greatest c = in_range c.args.greatest c.args.text.now c.in-Ok.n c.in-Ok.ensures.value.0 (omega (arith, c.if-n-ge1.true)) (omega (arith, c.if-n-greatest.true))
