use Rattle.std.proofs.Common.{refl, ◌∙◌, subst}
use Rattle.spec_transcript.specs.Purposes.{ball_line}
use Rattle.cq_machine.proofs.Interned.{texts_kept}
use Rattle.cq_engine.proofs.Engines.{kept_where}
use Rattle.cq_interpreter.specs.Consulted.{Consults}
use Rattle.cq_interpreter.specs.Toplevels.{texts, IsWhole}
use Rattle.cq_interpreter.specs.declared.toplevel.Toplevel.{Toplevel}
use Rattle.cq_interpreter.proofs.Wholes.{goals_kept, program_kept, whole_kept}
use Rattle.cq_interpreter.proofs.toplevel.Toplevel.add.Goals as goal
use Rattle.cq_interpreter.proofs.toplevel.Toplevel.add.Goals.{After-consult}

abbrev after : After-consult → Toplevel
after c = let t = c.args.self.now in record t { engine = record t.engine { machine = c.consult.new.m } }

whole : (c : After-consult) → IsWhole (after c)
whole c =
    let t = c.args.self.now in
    whole_kept t (after c) c.requires.whole (texts_kept (texts t) (texts (after c)) c.consult.ensures.rest.atoms) refl (kept_where c.consult.new.m c.consult.ensures.sound) refl

pub returns-in_err-refused-clause-whole : goal.returns-in_err-refused-clause-whole
returns-in_err-refused-clause-whole c = whole (goal.at.returns-in_err-refused-clause-whole c).After-consult

pub returns-in_err-line-in-Some-clause-whole : goal.returns-in_err-line-in-Some-clause-whole
returns-in_err-line-in-Some-clause-whole c = whole (goal.at.returns-in_err-line-in-Some-clause-whole c).After-consult

pub returns-in-None-clause-whole : goal.returns-in-None-clause-whole
returns-in-None-clause-whole c = whole (goal.at.returns-in-None-clause-whole c).After-consult

pub returns-in_ok-line-in-Some-clause-whole : goal.returns-in_ok-line-in-Some-clause-whole
returns-in_ok-line-in-Some-clause-whole c = whole (goal.at.returns-in_ok-line-in-Some-clause-whole c).After-consult

pub returns-in-None-clause-added : goal.returns-in-None-clause-added
returns-in-None-clause-added c =
    let t = c.args.self.now in
    let d = (goal.at.returns-in-None-clause-added c).After-consult in
    let k = subst (Consults t.engine.machine c.args.clause c.consult.new.m) c.in-None.is c.in_ok-refused.ensures.consults in
    let goals = goals_kept t (after d) c.requires.whole (texts_kept (texts t) (texts (after d)) c.consult.ensures.rest.atoms) refl in
    (k.0, λ i. record { database = k.1 i; later = goals i })

pub returns-in_ok-line-in-Some-clause-added : goal.returns-in_ok-line-in-Some-clause-added
returns-in_ok-line-in-Some-clause-added c =
    let t = c.args.self.now in
    let d = (goal.at.returns-in_ok-line-in-Some-clause-added c).After-consult in
    let k = subst (Consults t.engine.machine c.args.clause c.consult.new.m) c.in-Some.is c.in_ok-refused.ensures.consults in (
      k.0.error,
      k.0.refused,
      c.in_ok-line-in-Some.ensures ∙ (λ i. ball_line (k.1 i).operators (k.0.is_ball i)),
      program_kept t (after d) c.requires.whole (texts_kept (texts t) (texts (after d)) c.consult.ensures.rest.atoms) refl k.1,
    )
