use Rattle.cq_branch.specs.Worlds.{IsBranch, term_in}
use Rattle.cq_branch.proofs.Branches.{branches_rest}
use Rattle.cq_branch.proofs.Control.{goes_on_with, no_children}
use Rattle.cq_branch.proofs.laws.goals_succeed_or_fail.Goals as goal

pub returns-clause-on : goal.returns-clause-on
returns-clause-on c = λ texts choices now height rest p behind s.
    goes_on_with (IsBranch texts) (term_in texts) (branches_rest texts) choices now rest p behind p.rest s.place.continuation s.waiting

pub returns-clause-back : goal.returns-clause-back
returns-clause-back c = λ texts choices now height rest p behind s. no_children (IsBranch texts) (term_in texts) choices now p behind s.waiting
