use Rattle.std.proofs.Common.{◌≡◌, refl, sym, ap, subst}
use Rattle.spec_numbers.proofs.Prefixes.{prefix_same}
use Rattle.spec_engine.specs.Cells.{Stack}
use Rattle.spec_engine.specs.Standing.{engine, IsStanding}
use Rattle.cq_resolve.specs.Database.{Program, IsProgram, as_database}
use Rattle.cq_catch.specs.Revised.{HasDeclared}
use Rattle.cq_branch.specs.Worlds.{IsBranch, term_in}
use Rattle.cq_settle.specs.Contents.{Contents}
use Rattle.cq_write.specs.Meaning.{operators}
use Rattle.cq_machine.specs.Machines.{now, saved}
use Rattle.cq_machine.proofs.Machines.{on_err}
use Rattle.cq_execute.proofs.Stored.{either_way, on_ok}
use Rattle.cq_execute.proofs.changes.declaring.declare_all.Goals as goal

pub returns-clause-declared : goal.returns-clause-declared
returns-clause-declared c =
    let m = c.args.m.now in
    let d = c.declare_dynamic in
    on_ok d.result
    (λ (h : HasDeclared c.args.predicates.now m.clauses d.new.clauses). h.database m.atoms (operators m.atoms m.ops) c.requires.sound.different c.requires.sound.program c.requires.known)
    d.ensures.declared

pub returns-clause-err : goal.returns-clause-err
returns-clause-err c =
    let m = c.args.m.now in
    let d = c.declare_dynamic in
    on_err d.result (λ (e : ◌≡◌ {A = Program} d.new.clauses m.clauses). ap (as_database m.atoms (operators m.atoms m.ops)) e) d.ensures.err

pub returns-clause-stands : goal.returns-clause-stands
returns-clause-stands c = λ db n current s j.
    let m = c.args.m.now in
    let d = c.declare_dynamic in
    let same = c.choices_outlast_changes.ensures.same m.atoms m.clauses d.new.clauses d.ensures.showing (saved m) m.choices c.requires.sound.untried in
    subst (λ (x : Stack Contents). IsStanding (IsBranch m.atoms) (term_in m.atoms) (engine db n x (now m) current) s) (sym same) j

pub returns-clause-sound : goal.returns-clause-sound
returns-clause-sound c =
    let m = c.args.m.now in
    let d = c.declare_dynamic in
    let s = c.requires.sound in
    record {
      known = s.known;
      different = s.different;
      names = s.names;
      program = either_way (IsProgram m.atoms) m.clauses d.new.clauses (HasDeclared c.args.predicates.now m.clauses d.new.clauses) s.program
          (λ h. h.program m.atoms s.program c.requires.known) d.result d.ensures.declared d.ensures.err;
      operators_named = s.operators_named;
      marked = s.marked;
      untried = c.choices_outlast_changes.ensures.tried m.atoms m.clauses d.new.clauses d.ensures.showing (saved m) m.choices s.untried;
    }

pub returns-clause-keeps : goal.returns-clause-keeps
returns-clause-keeps c =
    let m = c.args.m.now in
    record { atoms = prefix_same m.atoms m.atoms refl; names = refl; ops = refl; showing = c.declare_dynamic.ensures.showing; budget = refl }
