use Rattle.std.proofs.Common.{◌∙◌, ap, sym}
use Rattle.cq_branch.proofs.Added.{reads_tree}
use Rattle.cq_machine.specs.Machines.{now}
use Rattle.spec_search.specs.Rows.{reply_of}
use Rattle.cq_execute.proofs.Passed.{raise_done}
use Rattle.cq_execute.proofs.execution.execute_goal.Goals as goal

pub returns-in-Err : goal.returns-in-Err
returns-in-Err c =
    let m = c.args.m.now in
    raise_done m c.args.goal c.args.height c.args.rest c.silent.result c.in-Err.error c.silent.ensures.step c.requires.at.sound c.in-Err.ensures.culprit
    (λ p behind g at. ap (reply_of p) (sym (reads_tree m.atoms (now m).0 p.state c.args.goal g at.reads)) ∙ c.in-Err.ensures.error p)
