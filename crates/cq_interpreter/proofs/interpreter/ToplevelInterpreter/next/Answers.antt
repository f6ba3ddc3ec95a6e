use Rattle.std.proofs.Common.{refl, ◌∙◌}
use Rattle.cq_machine.proofs.Interned.{texts_kept}
use Rattle.cq_interpreter.specs.Toplevels.{texts, budgets_of}
use Rattle.cq_interpreter.specs.declared.toplevel.Toplevel.{Toplevel}
use Rattle.cq_interpreter.proofs.Events.{its_budgets, is_event, ball_there}
use Rattle.cq_interpreter.proofs.Wholes.{goals_kept, whole_kept}
use Rattle.cq_interpreter.proofs.interpreter.ToplevelInterpreter.next.Goals as goal

pub told-requires : goal.told-requires
told-requires c =
    let t = c.args.self.now in
    let asking = c.requires.runs.1 in
    ball_there (budgets_of t) c.next.new.self c.requires.runs.0 c.in_ok-event.event (c.in_ok-event.ensures.event (budgets_of t) (its_budgets t c.requires.runs.0 asking) c.requires.runs.0 asking.stands)

pub returns-clause-event : goal.returns-clause-event
returns-clause-event c =
    let t = c.args.self.now in
    let u : Toplevel = record t { engine = c.next.new.self } in
    let keeps = c.next.ensures.keeps in
    λ s asking. is_event t u refl c.next.ensures.running (keeps.steps ∙ asking.steps)
    (goals_kept t u c.requires.kept (texts_kept (texts t) (texts u) keeps.atoms) refl) s asking c.in_ok-event.event
    (c.in_ok-event.ensures.event (budgets_of t) (its_budgets t s asking) s asking.stands) c.in_ok-line.line c.in_ok-line.ensures

pub returns-clause-kept : goal.returns-clause-kept
returns-clause-kept c =
    let t = c.args.self.now in
    let u : Toplevel = record t { engine = c.next.new.self } in
    whole_kept t u c.requires.kept (texts_kept (texts t) (texts u) c.next.ensures.keeps.atoms) refl c.next.ensures.running.kept refl

pub returns-in_err-event-clause-kept : goal.returns-in_err-event-clause-kept
returns-in_err-event-clause-kept c =
    let t = c.args.self.now in
    let u : Toplevel = record t { engine = c.next.new.self } in
    whole_kept t u c.requires.kept (texts_kept (texts t) (texts u) c.next.ensures.keeps.atoms) refl c.next.ensures.running.kept refl

pub returns-in_err-line-clause-kept : goal.returns-in_err-line-clause-kept
returns-in_err-line-clause-kept c =
    let t = c.args.self.now in
    let u : Toplevel = record t { engine = c.next.new.self } in
    whole_kept t u c.requires.kept (texts_kept (texts t) (texts u) c.next.ensures.keeps.atoms) refl c.next.ensures.running.kept refl
