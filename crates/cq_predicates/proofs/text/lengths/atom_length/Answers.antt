use Rattle.std.proofs.Common.{[]}
use Rattle.spec_builtins.specs.Alternatives.{Offers}
use Rattle.cq_predicates.proofs.text.lengths.atom_length.Goals as goal

pub returns-in-Err-clause-culprit : goal.returns-in-Err-clause-culprit
returns-in-Err-clause-culprit c = (c.in-Err.ensures.err c.args.atoms.now (Offers [])).1
