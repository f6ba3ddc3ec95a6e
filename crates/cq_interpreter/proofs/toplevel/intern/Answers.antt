use Rattle.std.proofs.Common.{sym, ap, ◌∙◌, subst}
use Rattle.spec_syntax.specs.Operators.{Ops}
use Rattle.cq_term.specs.Texts.{KeepsTexts}
use Rattle.cq_resolve.specs.Database.{as_database}
use Rattle.cq_write.specs.Meaning.{operators}
use Rattle.cq_built.proofs.Growing.{longer_by_text}
use Rattle.cq_engine.specs.Seeking.{held_on}
use Rattle.cq_machine.proofs.Interned.{names_kept}
use Rattle.cq_interpreter.proofs.toplevel.intern.Goals as goal

pub returns-clause-kept : goal.returns-clause-kept
returns-clause-kept c =
    let m = c.args.machine.now in
    let new = c.intern.new.self in
    let s = c.requires in
    let keeps = subst (KeepsTexts m.atoms) (sym c.in_ok-name.ensures.texts) (c.numbers_keep_their_texts.ensures m.atoms c.args.text.now) in
    record {
      known = names_kept m.atoms new keeps m.names s.known;
      different = c.intern.ensures.different;
      program = c.programs_stay_programs.ensures.named m.atoms new keeps m.clauses s.program;
      operators_named = c.more_names_keep_the_table.ensures.known m.atoms new m.ops keeps s.operators_named;
      marked = s.marked;
      untried = (c.names_may_be_added.ensures.over new m.clauses (held_on m) (longer_by_text m.atoms new c.args.text.now c.in_ok-name.ensures.texts)
          (record { program = s.program; choices = s.untried })).choices;
    }

pub returns-clause-program : goal.returns-clause-program
returns-clause-program c =
    let m = c.args.machine.now in
    let new = c.intern.new.self in
    let s = c.requires in
    let keeps = subst (KeepsTexts m.atoms) (sym c.in_ok-name.ensures.texts) (c.numbers_keep_their_texts.ensures m.atoms c.args.text.now) in
    c.changes_are_those_of_the_database.ensures.named m.atoms new keeps m.clauses s.program (operators new m.ops)
    ∙ ap (λ (ops : Ops). as_database m.atoms ops m.clauses)
    (c.more_names_keep_the_table.ensures.table m.atoms new m.ops (record { before = s.different; after = c.intern.ensures.different; kept = keeps }) s.operators_named)
