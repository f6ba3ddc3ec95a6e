use Rattle.std.proofs.Common.{refl, ap, ◌∙◌}
use Rattle.spec_numbers.proofs.Prefixes.{prefix_within}
use Rattle.spec_syntax.specs.Operators.{Ops}
use Rattle.cq_resolve.specs.Database.{as_database}
use Rattle.cq_write.specs.Meaning.{operators}
use Rattle.cq_choices.specs.Held.{Held, held, IsAsBefore}
use Rattle.cq_machine.specs.Offers.{held_by}
use Rattle.cq_machine.proofs.Interned.{texts_kept, names_kept}
use Rattle.cq_machine.proofs.Machines.{over_sound, named_there, same_stands, on_err}
use Rattle.cq_machine.proofs.offer.offering.call_on.Goals as goal

pub text-requires : goal.text-requires
text-requires c =
    let m = c.args.m.now in
    prefix_within m.atoms c.call_predicate-called.new.atoms m.names.truth c.call_predicate-called.ensures.longer (named_there m.atoms m.names.truth _ c.requires.sound.known.truth)

pub returns-clause-now : goal.returns-clause-now
returns-clause-now c =
    let m = c.args.m.now in
    let new : Held = held c.call_predicate-called.new.atoms c.call_predicate-called.new.world.first c.call_predicate-called.new.world.second c.call_predicate-called.new.choices in
    on_err c.call_predicate-called.result (λ (b : IsAsBefore (held_by m) new). b.now) c.call_predicate-called.ensures.err

pub returns-clause-err : goal.returns-clause-err
returns-clause-err c =
    let m = c.args.m.now in
    let new : Held = held c.call_predicate-called.new.atoms c.call_predicate-called.new.world.first c.call_predicate-called.new.world.second c.call_predicate-called.new.choices in
    on_err c.call_predicate-called.result
    (λ (b : IsAsBefore (held_by m) new). λ db n current s j.
    same_stands (held_by m) new b m.clauses db n current s
    (c.names_may_be_added.ensures.stands new.texts m.clauses (held_by m) c.call_predicate-called.ensures.longer (over_sound m c.requires.sound)
    c.names_are_of_terms.ensures.choices c.names_are_of_terms.ensures.now db n current s j))
    c.call_predicate-called.ensures.err

pub returns-clause-sound : goal.returns-clause-sound
returns-clause-sound c =
    let m = c.args.m.now in
    let s = c.requires.sound in
    let keeps = texts_kept m.atoms c.call_predicate-called.new.atoms c.call_predicate-called.ensures.longer in
    let over = c.call_predicate-called.ensures.over m.clauses (over_sound m s) in
    record {
      known = names_kept m.atoms c.call_predicate-called.new.atoms keeps m.names s.known;
      different = c.text.ensures.different;
      names = c.call_predicate-called.ensures.names;
      program = over.program;
      operators_named = c.more_names_keep_the_table.ensures.known m.atoms c.call_predicate-called.new.atoms m.ops keeps s.operators_named;
      marked = c.call_predicate-called.ensures.marked;
      untried = over.choices;
    }

pub returns-clause-program : goal.returns-clause-program
returns-clause-program c =
    let m = c.args.m.now in
    let s = c.requires.sound in
    let new = c.call_predicate-called.new.atoms in
    let longer = c.call_predicate-called.ensures.longer in
    record {
      atoms = longer;
      names = refl;
      ops = refl;
      clauses = refl;
      database = c.names_may_be_added.ensures.database m.atoms new longer m.clauses s.program (operators new m.ops)
          ∙ ap (λ (ops : Ops). as_database m.atoms ops m.clauses)
          (c.more_names_keep_the_table.ensures.table m.atoms new m.ops (record { before = s.different; after = c.text.ensures.different; kept = texts_kept m.atoms new longer }) s.operators_named);
    }
