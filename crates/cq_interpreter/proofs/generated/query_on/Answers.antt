use Rattle.std.proofs.Common.{◌≡◌, ◌∙◌, ◌+◌, length, suc, refl, ap, arith}
use Rattle.spec_numbers.proofs.Prefixes.{prefix_same}
use Rattle.spec_syntax.specs.Operators.{Ops}
use Rattle.cq_term.specs.Texts.{KeepsTexts}
use Rattle.cq_built.proofs.Trees.{name_known}
use Rattle.cq_resolve.specs.Database.{as_database}
use Rattle.cq_write.specs.Meaning.{operators}
use Rattle.cq_machine.proofs.Interned.{names_kept, texts_kept}
use Rattle.cq_interpreter.proofs.Grown.{still_unbound}
use Rattle.cq_interpreter.specs.Variables.{AreUnbound}
use Rattle.cq_interpreter.proofs.Asking.{always, idle_on, kept_on}
use Rattle.cq_interpreter.proofs.Restoring.{marks, longer_by, unbound_more}
use Rattle.cq_interpreter.proofs.generated.query_on.Goals as goal
use Rattle.cq_interpreter.proofs.generated.query_on.Goals.{In_ok-new_variables}

-- ---- the variables

unbound : (c : In_ok-new_variables) → AreUnbound c.new_variables.new.heap.now.images
unbound c =
    unbound_more c.args.engine.now.machine.world.first.heap.now.images c.new_variables.new.heap.now.images (c.args.number + 1) c.requires.idle.nothing.images
    c.in_ok-new_variables.ensures.images

all_there : (c : In_ok-new_variables) → length c.new_variables.new.heap.now.images ≡ suc c.args.number
all_there c =
    let older = c.args.engine.now.machine.world.first.heap.now.images in
    let more = longer_by older c.new_variables.new.heap.now.images (c.args.number + 1) c.in_ok-new_variables.ensures.images in
    let none = ap length c.requires.empty in
    omega (arith, more, none)

pub returns-in_err-new_variables-clause-kept : goal.returns-in_err-new_variables-clause-kept
returns-in_err-new_variables-clause-kept c =
    let m = c.args.engine.now.machine in
    let s = c.requires.idle.sound in
    kept_on m _ s c.requires.idle.choices s.known s.different s.program s.operators_named
    (marks m.world.first c.new_variables.new.heap m.world.second.saved c.new_variables.ensures.saved) refl

pub returns-in_err-new_variables-clause-atoms : goal.returns-in_err-new_variables-clause-atoms
returns-in_err-new_variables-clause-atoms c = prefix_same c.args.engine.now.machine.atoms _ refl

pub query-built-requires : goal.query-built-requires
query-built-requires c =
    let d = (goal.at.query-built-requires c).In_ok-new_variables in
    record {
      names = c.new_variables.ensures.names (length c.args.engine.now.machine.atoms) c.requires.idle.sound.names;
      unbound = unbound d;
      there = all_there d;
      some = c.requires.some;
      few = c.requires.few;
    }

-- ---- the names

pub text-requires : goal.text-requires
text-requires c =
    let m = c.args.engine.now.machine in
    let new = c.query-built.new.atoms in
    name_known new m.names.truth _ (texts_kept m.atoms new c.query-built.ensures.grows.longer m.names.truth _ c.requires.idle.sound.known.truth)

pub returns-clause-kept : goal.returns-clause-kept
returns-clause-kept c =
    let m = c.args.engine.now.machine in
    let q = c.query-built in
    let s = c.requires.idle.sound in
    let keeps = texts_kept m.atoms q.new.atoms q.ensures.grows.longer in
    kept_on m _ s c.requires.idle.choices (names_kept m.atoms q.new.atoms keeps m.names s.known) c.text.ensures.different
    (c.programs_stay_programs.ensures.named m.atoms q.new.atoms keeps m.clauses s.program)
    (c.more_names_keep_the_table.ensures.known m.atoms q.new.atoms m.ops keeps s.operators_named)
    (marks m.world.first q.new.heap m.world.second.saved (q.ensures.grows.saved ∙ c.new_variables.ensures.saved)) refl

pub returns-clause-program : goal.returns-clause-program
returns-clause-program c =
    let m = c.args.engine.now.machine in
    let q = c.query-built in
    let s = c.requires.idle.sound in
    let keeps = texts_kept m.atoms q.new.atoms q.ensures.grows.longer in
    c.changes_are_those_of_the_database.ensures.named m.atoms q.new.atoms keeps m.clauses s.program (operators q.new.atoms m.ops)
    ∙ ap (λ (ops : Ops). as_database m.atoms ops m.clauses)
    (c.more_names_keep_the_table.ensures.table m.atoms q.new.atoms m.ops (record { before = s.different; after = c.text.ensures.different; kept = keeps }) s.operators_named)

pub returns-clause-atoms : goal.returns-clause-atoms
returns-clause-atoms c = c.query-built.ensures.grows.longer

pub returns-clause-images : goal.returns-clause-images
returns-clause-images c =
    let d = (goal.at.returns-clause-images c).In_ok-new_variables in
    always c.query-built.result _ (ap length c.query-built.ensures.grows.images ∙ all_there d)

pub returns-clause-idle : goal.returns-clause-idle
returns-clause-idle c =
    let d = (goal.at.returns-clause-idle c).In_ok-new_variables in
    let m = c.args.engine.now.machine in
    let q = c.query-built in
    let i = c.requires.idle in
    let s = i.sound in
    let keeps = texts_kept m.atoms q.new.atoms q.ensures.grows.longer in
    always q.result _ (idle_on c.args.engine.now _ i
    (kept_on m _ s i.choices (names_kept m.atoms q.new.atoms keeps m.names s.known) c.text.ensures.different
    (c.programs_stay_programs.ensures.named m.atoms q.new.atoms keeps m.clauses s.program)
    (c.more_names_keep_the_table.ensures.known m.atoms q.new.atoms m.ops keeps s.operators_named)
    (marks m.world.first q.new.heap m.world.second.saved (q.ensures.grows.saved ∙ c.new_variables.ensures.saved)) refl)
    (record {
      names = q.ensures.grows.names (c.new_variables.ensures.names (length m.atoms) s.names);
      images = still_unbound m.atoms q.new.atoms c.new_variables.new.heap q.new.heap q.ensures.grows (unbound d);
      attrs = i.nothing.attrs;
      told = i.nothing.told;
    })
    refl refl)
