use Rattle.std.proofs.Common.{◌≡◌, refl}
use Rattle.cq_write.specs.Meaning.{operators}
use Rattle.cq_machine.specs.declared.machine.Machine.{Machine}
use Rattle.cq_engine.specs.Seeking.{IsKept}
use Rattle.cq_machine.proofs.Interned.{texts_kept, names_kept}
use Rattle.cq_engine.proofs.Sought.{going_over, all_found, err_over, all_stop}
use Rattle.cq_engine.proofs.seeking.seek.Goals as goal
use Rattle.cq_engine.proofs.seeking.seek.Goals.{After-find-found}

-- the machine then
abbrev then_ : (c : After-find-found) → Machine
then_ c = record c.args.m.now { world = c.find-found.new.world; choices = c.find-found.new.choices; atoms = c.find-found.new.atoms; clauses = c.find-found.new.clauses }

same : (c : After-find-found) → operators c.find-found.new.atoms c.args.m.now.ops ≡ operators c.args.m.now.atoms c.args.m.now.ops
same c =
    let m = c.args.m.now in
    let new = c.find-found.new.atoms in
    c.more_names_keep_the_table.ensures.table m.atoms new m.ops
    (record { before = c.requires.kept.different; after = c.find-found.ensures.different; kept = texts_kept m.atoms new c.find-found.ensures.longer }) c.requires.kept.operators_named

keeps : (c : After-find-found) → IsKept (then_ c)
keeps c =
    let m = c.args.m.now in
    let new = c.find-found.new.atoms in
    let kept = texts_kept m.atoms new c.find-found.ensures.longer in
    record {
      known = names_kept m.atoms new kept m.names c.requires.kept.known;
      different = c.find-found.ensures.different;
      program = c.find-found.ensures.over.program;
      operators_named = c.more_names_keep_the_table.ensures.known m.atoms new m.ops kept c.requires.kept.operators_named;
      marked = c.find-found.ensures.marked;
      untried = c.find-found.ensures.over.choices;
    }

pub find-found-requires-clause-over : goal.find-found-requires-clause-over
find-found-requires-clause-over c = record { program = c.requires.kept.program; choices = c.requires.kept.untried }

pub find-found-requires-clause-works : goal.find-found-requires-clause-works
find-found-requires-clause-works c = going_over c.args.m.now c.args.start c.requires.works

pub returns-clause-found : goal.returns-clause-found
returns-clause-found c = all_found c.args.m.now (then_ c) c.args.start (same c) (keeps c) c.requires.works c.find-found.result c.find-found.ensures.found

pub returns-clause-err : goal.returns-clause-err
returns-clause-err c = err_over c.args.m.now (then_ c) c.args.start (same c) c.find-found.result c.find-found.ensures.err

pub returns-clause-stops : goal.returns-clause-stops
returns-clause-stops c = all_stop c.args.m.now (then_ c) c.args.start (same c) c.find-found.result c.find-found.ensures.stops

pub returns-clause-kept : goal.returns-clause-kept
returns-clause-kept c = keeps c

pub returns-clause-program : goal.returns-clause-program
returns-clause-program c = record { atoms = c.find-found.ensures.longer; names = refl; ops = refl }
