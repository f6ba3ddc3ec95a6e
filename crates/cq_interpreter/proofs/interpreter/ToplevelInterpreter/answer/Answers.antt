use Rattle.cq_interpreter.proofs.Answered.{written}
use Rattle.cq_interpreter.proofs.interpreter.ToplevelInterpreter.answer.Goals as goal

pub returns-clause-lines : goal.returns-clause-lines
returns-clause-lines c =
    let e = c.answer_lines-made.ensures in
    let names = c.deref.ensures.value in
    written c.args.self.now c.answer_lines-made.result (rw names at e.answer) (rw names at e.overflow) (rw names at e.pivots) (rw names at e.limit) c.in_ok-written.written c.in_ok-written.ensures
