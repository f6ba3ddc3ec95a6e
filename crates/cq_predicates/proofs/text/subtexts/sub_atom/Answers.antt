use Rattle.std.proofs.Common.{[]}
use Rattle.spec_builtins.specs.Alternatives.{Offers}
use Rattle.cq_predicates.proofs.Started.{parts_started}
use Rattle.cq_predicates.proofs.text.subtexts.sub_atom.Goals as goal

pub returns-in_ok-parts-in-Ok-clause-ok : goal.returns-in_ok-parts-in-Ok-clause-ok
returns-in_ok-parts-in-Ok-clause-ok c =
    parts_started c.args.atoms.now c.args.heap.now.now.terms c.args.text c.in-Ok.names.text c.args.args c.in_ok-parts-in-Ok.parts c.in-Ok.ensures.text c.in-Ok.ensures.passes c.in_ok-parts-in-Ok.ensures

pub returns-in-Err-clause-culprit : goal.returns-in-Err-clause-culprit
returns-in-Err-clause-culprit c = (c.in-Err.ensures.err c.args.atoms.now (Offers [])).1
