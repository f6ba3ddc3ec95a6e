use Rattle.cq_choices.proofs.Marked.{choices_named}
use Rattle.cq_choices.proofs.laws.names_are_of_terms.Goals as goal

pub returns-clause-choices : goal.returns-clause-choices
returns-clause-choices c =
    choices_named c.args.world.now.first c.args.world.now.second.saved c.args.choices.now c.names_are_of_terms.ensures.saved
