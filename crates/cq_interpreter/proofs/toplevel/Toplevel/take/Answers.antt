use Rattle.std.proofs.Common.{refl, ap, ◌∙◌, subst}
use Rattle.spec_transcript.specs.Purposes.{Purpose, purpose, once}
use Rattle.cq_read.specs.Names.{variables}
use Rattle.cq_machine.specs.Machines.{database_of}
use Rattle.cq_session.specs.declared.transcript.interpreter.Sentence.TheVariants as sentence
use Rattle.cq_interpreter.specs.Taken.{IsTaken}
use Rattle.cq_interpreter.specs.Toplevels.{images, names_of, program_of, term_in, IsAsking}
use Rattle.cq_interpreter.proofs.Taking.{begins_here, asks_here}
use Rattle.cq_interpreter.proofs.toplevel.Toplevel.take.Goals as goal

pub returns-in_ok-direct-in-Directive-clause-taken : goal.returns-in_ok-direct-in-Directive-clause-taken
returns-in_ok-direct-in-Directive-clause-taken c =
    let t = c.args.self.now in
    let u = c.direct.new.self in
    let vs = variables c.args.names.items (images t) in
    let is = c.in-Directive.ensures.is in
    subst (λ (what : Purpose). IsTaken (IsAsking u) (names_of u) (program_of t) (program_of u) vs what sentence.Directive) is
    (refl, begins_here (IsAsking u) (database_of t.engine.machine) (once (term_in t c.in-Directive.goal)) vs c.in_ok-direct-in-Directive.ensures.asking, c.direct.ensures.program)

pub returns-in_ok-ask-in-Query-clause-taken : goal.returns-in_ok-ask-in-Query-clause-taken
returns-in_ok-ask-in-Query-clause-taken c =
    let t = c.args.self.now in
    let u = c.ask.new.self in
    let vs = variables c.args.names.items (images t) in
    let is = c.in-Query.ensures.is in
    subst (λ (what : Purpose). IsTaken (IsAsking u) (names_of u) (program_of t) (program_of u) vs what sentence.Query) is
    (refl, asks_here (IsAsking u) (database_of t.engine.machine) (term_in t c.in-Query.goal) vs (names_of u) c.in_ok-ask-in-Query.ensures.asking c.in_ok-ask-in-Query.ensures.names, c.ask.ensures.program)
