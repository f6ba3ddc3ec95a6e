use Rattle.std.proofs.Common.{List, refl, sym, ap, ◌∙◌, subst}
use Rattle.spec_numbers.proofs.Prefixes.{prefix_within}
use Rattle.spec_syntax.specs.Operators.{Ops}
use Rattle.spec_engine.specs.Cells.{Value}
use Rattle.cq_resolve.specs.Database.{as_database}
use Rattle.cq_write.specs.Meaning.{operators}
use Rattle.cq_settle.specs.Contents.{Contents}
use Rattle.cq_branch.specs.Choices.{AreOpen}
use Rattle.cq_control.specs.Open.{AreMarked}
use Rattle.cq_branch.specs.Worlds.{Stands, stack, with_heap}
use Rattle.cq_machine.specs.Machines.{saved, now}
use Rattle.cq_machine.proofs.Built.{lists_same}
use Rattle.cq_machine.proofs.Interned.{texts_kept, names_kept}
use Rattle.cq_machine.specs.Offers.{held_by}
use Rattle.cq_machine.proofs.Machines.{over_sound, named_there}
use Rattle.cq_engine.proofs.Marks.{marks}
use Rattle.cq_engine.proofs.events.balls.build_ball.Goals as goal

pub text-requires : goal.text-requires
text-requires c =
    let m = c.args.m.now in
    prefix_within m.atoms c.ball_on-built.new.atoms m.names.truth c.ball_on-built.ensures.grows.longer (named_there m.atoms m.names.truth _ c.requires.sound.known.truth)

pub returns-clause-stands : goal.returns-clause-stands
returns-clause-stands c = λ db n current s j.
    let m = c.args.m.now in
    let b = c.ball_on-built in
    let more = b.new.atoms in
    let sound = c.requires.sound in
    let named = c.names_may_be_added.ensures.stands more m.clauses (held_by m) b.ensures.grows.longer (over_sound m sound)
    c.names_are_of_terms.ensures.choices c.names_are_of_terms.ensures.now db n current s j in
    let grown = c.more_may_be_built.ensures.terms more (now m).0 b.new.heap.now b.ensures.grows.terms b.ensures.grows.images (b.ensures.grows.names sound.names)
    (now m).1 (now m).1 (lists_same (now m).1) in
    let after : Value Contents = (with_heap b.new.heap.now (now m).0, (now m).1) in
    subst (λ (l : List (Value Contents)). Stands more m.clauses db n l m.choices after current s) (sym (marks m.world.first b.new.heap m.world.second.saved b.ensures.grows.saved))
    (c.more_may_be_built.ensures.stands more db n (stack more m.clauses (saved m) m.choices) (now m) after grown current s named)

pub returns-clause-sound : goal.returns-clause-sound
returns-clause-sound c =
    let m = c.args.m.now in
    let b = c.ball_on-built in
    let s = c.requires.sound in
    let longer = b.ensures.grows.longer in
    let keeps = texts_kept m.atoms b.new.atoms longer in
    let same = marks m.world.first b.new.heap m.world.second.saved b.ensures.grows.saved in
    let over = c.names_may_be_added.ensures.over b.new.atoms m.clauses (held_by m) longer (over_sound m s) in
    record {
      known = names_kept m.atoms b.new.atoms keeps m.names s.known;
      different = c.text.ensures.different;
      names = b.ensures.grows.names s.names;
      program = over.program;
      operators_named = c.more_names_keep_the_table.ensures.known m.atoms b.new.atoms m.ops keeps s.operators_named;
      marked = subst (λ (l : List (Value Contents)). AreMarked l m.choices) (sym same) s.marked;
      untried = subst (λ (l : List (Value Contents)). AreOpen b.new.atoms m.clauses l m.choices) (sym same) over.choices;
    }

pub returns-clause-program : goal.returns-clause-program
returns-clause-program c =
    let m = c.args.m.now in
    let s = c.requires.sound in
    let new = c.ball_on-built.new.atoms in
    let longer = c.ball_on-built.ensures.grows.longer in
    record {
      atoms = longer;
      names = refl;
      ops = refl;
      clauses = refl;
      database = c.names_may_be_added.ensures.database m.atoms new longer m.clauses s.program (operators new m.ops)
          ∙ ap (λ (ops : Ops). as_database m.atoms ops m.clauses)
          (c.more_names_keep_the_table.ensures.table m.atoms new m.ops (record { before = s.different; after = c.text.ensures.different; kept = texts_kept m.atoms new longer }) s.operators_named);
    }
