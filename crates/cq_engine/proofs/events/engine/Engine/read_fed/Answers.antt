use Rattle.std.proofs.Common.{refl, ap, ◌∙◌}
use Rattle.spec_syntax.specs.Operators.{Ops}
use Rattle.cq_resolve.specs.Database.{as_database}
use Rattle.cq_write.specs.Meaning.{operators}
use Rattle.cq_machine.specs.Machines.{now}
use Rattle.cq_machine.proofs.Interned.{names_kept}
use Rattle.cq_machine.proofs.Machines.{named_there}
use Rattle.cq_engine.proofs.Marks.{marks}
use Rattle.cq_engine.proofs.Read.{left_fed, nothing_read, idle_on}
use Rattle.cq_engine.proofs.events.engine.Engine.read_fed.Goals as goal

pub text-requires : goal.text-requires
text-requires c =
    let m = c.args.self.now.machine in
    named_there c.next-fed.new.atoms m.names.truth _ (c.next-fed.ensures.names m.names.truth _ c.requires.idle.sound.known.truth)

pub returns-clause-idle : goal.returns-clause-idle
returns-clause-idle c =
    let e = c.args.self.now in
    let m = e.machine in
    let r = c.next-fed in
    let idle = c.requires.idle in
    let s = idle.sound in
    let keeps = r.ensures.names in
    let grown = left_fed m.world.first.heap r.new.heap r.result r.ensures.heap in
    idle_on e _ idle (names_kept m.atoms r.new.atoms keeps m.names s.known) c.text.ensures.different
    (c.programs_stay_programs.ensures.named m.atoms r.new.atoms keeps m.clauses s.program)
    (c.more_names_keep_the_table.ensures.known m.atoms r.new.atoms m.ops keeps s.operators_named)
    (nothing_read m.atoms r.new.atoms (now m).0 m.world.first.heap r.new.heap refl grown idle.nothing (r.ensures.known s.names))
    (marks m.world.first r.new.heap m.world.second.saved grown.saved) refl refl

pub returns-clause-program : goal.returns-clause-program
returns-clause-program c =
    let m = c.args.self.now.machine in
    let r = c.next-fed in
    let s = c.requires.idle.sound in
    c.changes_are_those_of_the_database.ensures.named m.atoms r.new.atoms r.ensures.names m.clauses s.program (operators r.new.atoms m.ops)
    ∙ ap (λ (ops : Ops). as_database m.atoms ops m.clauses)
    (c.more_names_keep_the_table.ensures.table m.atoms r.new.atoms m.ops (record { before = s.different; after = c.text.ensures.different; kept = r.ensures.names }) s.operators_named)
