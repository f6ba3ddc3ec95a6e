use Rattle.std.proofs.Common.{subst}
use Rattle.cq_predicates.specs.Arguments.{IsAtomOr}
use Rattle.cq_predicates.proofs.Asked.{asks_name}
use Rattle.cq_predicates.proofs.text.arguments.wanted_text.Goals as goal

pub returns-in_ok-characters-in-Some : goal.returns-in_ok-characters-in-Some
returns-in_ok-characters-in-Some c =
    let ts = c.args.heap.now.now.terms in
    asks_name c.args.atoms.now ts c.args.id c.in-Some.name c.text.result.now c.in_ok-characters-in-Some.field-0
    (subst (IsAtomOr ts c.args.id) c.in-Some.is c.requires.name) c.text.ensures.value c.text.utf8 c.in_ok-characters-in-Some.ensures
