use Rattle.std.proofs.Common.{◌∙◌, ap}
use Rattle.std.specs.List.{list_all}
use Rattle.spec_builtins.specs.Kinds.{is_name}
use Rattle.cq_term.specs.Trees.{tree}
use Rattle.cq_goals.proofs.Declaring.{elements_are_names, each_is_name}
use Rattle.cq_goals.proofs.declarations.operators.asked_for.Goals as goal

pub returns-in-Ok-clause-asked : goal.returns-in-Ok-clause-asked
returns-in-Ok-clause-asked c =
    let texts = c.args.atoms.now in
    let ts = c.args.heap.now.now.terms in
    let listed = c.in_ok-names.ensures in
    let n = tree texts ts c.args.goal.names in
    record {
      operands = c.in-Ok.ensures.ok;
      live = listed.live;
      names = listed.elements;
      named = each_is_name texts ts c.in_ok-names.names.elements.items (ap (list_all is_name) listed.elements ∙ elements_are_names n c.in-Ok.ensures.ok.names);
    }
