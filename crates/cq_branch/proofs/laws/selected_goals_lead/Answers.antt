use Rattle.cq_branch.specs.Worlds.{IsBranch, term_in}
use Rattle.cq_branch.proofs.Beginning.{reads_again}
use Rattle.cq_branch.proofs.Reading.{read_live}
use Rattle.cq_branch.proofs.Selected.{goal_selected, call_selected, made_comes}
use Rattle.cq_branch.proofs.laws.selected_goals_lead.Goals as goal

pub returns-clause-goal : goal.returns-clause-goal
returns-clause-goal c = λ texts db n choices now k rest s j l t height e. goal_selected (IsBranch texts) (term_in texts) db n choices now k rest s j l t height e

pub returns-clause-call : goal.returns-clause-call
returns-clause-call c = λ texts db n choices now k rest s j l t e. call_selected (IsBranch texts) (term_in texts) db n choices now k rest s j l t e

pub returns-clause-comes : goal.returns-clause-comes
returns-clause-comes c = λ texts steps s goal cut items st behind look few choices now current leads.
    made_comes (IsBranch texts) (term_in texts) steps s goal cut items st behind look few choices now current leads

pub returns-clause-reads : goal.returns-clause-reads
returns-clause-reads c = λ texts w st id t b e. reads_again texts w st id t b e

pub returns-clause-there : goal.returns-clause-there
returns-clause-there c = λ texts w id t e. read_live texts w.heap.terms id t e
