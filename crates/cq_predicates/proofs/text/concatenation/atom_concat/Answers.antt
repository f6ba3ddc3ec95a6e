use Rattle.std.proofs.Common.{[], subst}
use Rattle.spec_builtins.specs.Alternatives.{Offers}
use Rattle.cq_predicates.specs.Arguments.{IsAtomOr}
use Rattle.cq_predicates.proofs.Started.{splits_started}
use Rattle.cq_predicates.proofs.text.concatenation.atom_concat.Goals as goal

pub returns-in-Err-clause-culprit : goal.returns-in-Err-clause-culprit
returns-in-Err-clause-culprit c = (c.in-Err.ensures.err c.args.atoms.now (Offers [])).1

pub returns-in_ok-ways-in-Some-clause-ok : goal.returns-in_ok-ways-in-Some-clause-ok
returns-in_ok-ways-in-Some-clause-ok c =
    let ts = c.args.heap.now.now.terms in
    splits_started c.args.atoms.now ts c.args.args c.in_ok-ways-in-Some.ways c.in-Some.name c.in_ok-ways-in-Some.ensures c.args.whole
    (subst (IsAtomOr ts c.args.whole) c.in-Some.is c.in-Ok.ensures.whole) c.in-Ok.ensures.passes
