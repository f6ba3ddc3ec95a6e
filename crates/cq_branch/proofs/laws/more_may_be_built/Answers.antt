use Rattle.cq_branch.specs.Worlds.{IsBranch, term_in}
use Rattle.cq_branch.proofs.Grown.{grown}
use Rattle.cq_branch.proofs.Selected.{standing_grown}
use Rattle.cq_branch.proofs.laws.more_may_be_built.Goals as goal

pub returns-clause-terms : goal.returns-clause-terms
returns-clause-terms c = λ texts w h terms images names old new keeps. grown texts w h terms images names old new keeps

pub returns-clause-stands : goal.returns-clause-stands
returns-clause-stands c = λ texts db n choices old new g current s j. standing_grown (IsBranch texts) (term_in texts) db n choices old new g current s j
