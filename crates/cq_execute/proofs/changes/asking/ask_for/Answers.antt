use Rattle.std.proofs.Common.{sym, subst}
use Rattle.spec_builtins.specs.Clauses.{rule}
use Rattle.cq_term.specs.Trees.{KnowsTerms}
use Rattle.cq_branch.proofs.Reading.{tree_read}
use Rattle.cq_resolve.specs.Database.{IsProgram}
use Rattle.cq_write.specs.Meaning.{operators}
use Rattle.cq_settle.specs.Contents.{Contents}
use Rattle.cq_machine.specs.Machines.{terms}
use Rattle.cq_execute.proofs.Stored.{on_ok}
use Rattle.cq_execute.proofs.changes.asking.ask_for.Goals as goal

pub returns-clause-row : goal.returns-clause-row
returns-clause-row c =
    let m = c.args.m.now in
    let s = c.requires.sound in
    on_ok c.ask.result
    (λ row. λ id height p behind g a at is of.
    row m.atoms p behind a (record {
      different = s.different;
      program = s.program;
      operators = operators m.atoms m.ops;
      database = at.database;
      place = (at.selected.place, at.selected.waiting);
      reads = tree_read m.atoms (terms m) c.args.asked (rule a) c.requires.asked is;
      name = of.known;
      indicator = of.indicator;
    }))
    c.ask.ensures.row

pub returns-clause-sound : goal.returns-clause-sound
returns-clause-sound c =
    let m = c.args.m.now in
    let s = c.requires.sound in
    record {
      known = s.known;
      different = s.different;
      names = subst (λ (w : Contents). KnowsTerms m.atoms w.heap.terms) (sym c.ask.ensures.world) s.names;
      program = subst (IsProgram m.atoms) (sym c.ask.ensures.clauses) s.program;
      operators_named = s.operators_named;
      marked = c.ask.ensures.marked;
      untried = c.ask.ensures.open m.atoms s.untried;
    }
