use Rattle.std.proofs.Common.{refl}
use Rattle.spec_numbers.proofs.Prefixes.{prefix_same}
use Rattle.cq_machine.specs.Machines.{database_of}
use Rattle.cq_engine.proofs.Gathered.{gathers, fewer, stays}
use Rattle.cq_engine.proofs.front.gather.Goals as goal

pub collect-requires-clause-works : goal.collect-requires-clause-works
collect-requires-clause-works c =
    let m = c.args.m.now in
    let w = c.requires.works in
    (m.atoms, m.clauses, database_of m, w.0, w.1, w.2)

pub returns-clause-comes : goal.returns-clause-comes
returns-clause-comes c = gathers c.args.m.now c.collect.new.choices c.args.k c.collect.result c.collect.ensures.comes

pub returns-clause-fewer : goal.returns-clause-fewer
returns-clause-fewer c = fewer c.args.m.now c.collect.new.choices c.args.k c.collect.result c.collect.ensures.as_many

pub returns-clause-err : goal.returns-clause-err
returns-clause-err c = stays c.args.m.now c.collect.new.choices c.args.k c.collect.result c.collect.ensures.err

pub returns-clause-kept : goal.returns-clause-kept
returns-clause-kept c =
    let m = c.args.m.now in
    let s = c.requires.sound in
    record {
      known = s.known;
      different = s.different;
      program = s.program;
      operators_named = s.operators_named;
      marked = c.collect.ensures.marked;
      untried = c.collect.ensures.open m.atoms m.clauses s.names s.untried;
    }

pub returns-clause-program : goal.returns-clause-program
returns-clause-program c =
    let m = c.args.m.now in
    record { atoms = prefix_same m.atoms m.atoms refl; names = refl; ops = refl; clauses = refl; database = refl }
