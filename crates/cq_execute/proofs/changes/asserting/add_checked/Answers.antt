use Rattle.std.proofs.Common.{◌≡◌, ◌∙◌, List, map, refl, sym, ap, subst}
use Rattle.std.specs.List.{zip}
use Rattle.spec_numbers.proofs.Prefixes.{prefix_within}
use Rattle.spec_syntax.specs.Operators.{Ops}
use Rattle.spec_search.specs.Database.{Database, Dynamic, clause_added}
use Rattle.spec_engine.specs.Cells.{Value, Stack}
use Rattle.spec_engine.specs.Standing.{engine, IsStanding}
use Rattle.cq_clauses.specs.declared.procedures.Kind.TheVariants as kind
use Rattle.cq_control.specs.Open.{AreMarked}
use Rattle.cq_store.specs.StoreValue.{kept}
use Rattle.cq_resolve.specs.Database.{Program, IsProgram, as_database, as_end}
use Rattle.cq_branch.specs.Choices.{AreOpen}
use Rattle.cq_branch.specs.Worlds.{IsBranch, term_in, stack, with_heap}
use Rattle.cq_term.specs.HeapValue.{Terms}
use Rattle.cq_settle.specs.Contents.{Contents, contents_of}
use Rattle.cq_write.specs.Meaning.{operators}
use Rattle.cq_machine.specs.Machines.{terms, now, saved}
use Rattle.cq_machine.proofs.Built.{lists_same}
use Rattle.cq_machine.proofs.Interned.{texts_kept, names_kept}
use Rattle.cq_machine.specs.Offers.{held_by}
use Rattle.cq_machine.proofs.Machines.{over_sound, named_there, on_err}
use Rattle.cq_catch.specs.Revised.{head_body_of, AddsStored}
use Rattle.cq_execute.proofs.Stored.{either_way, on_ok}
use Rattle.cq_execute.proofs.changes.asserting.add_checked.Goals as goal

pub text-requires : goal.text-requires
text-requires c =
    let m = c.args.m.now in
    prefix_within m.atoms c.add-added.new.atoms m.names.truth c.add-added.ensures.grows.longer (named_there m.atoms m.names.truth _ c.requires.sound.known.truth)

pub returns-clause-added : goal.returns-clause-added
returns-clause-added c =
    let m = c.args.m.now in
    let d = c.add-added in
    let more = d.new.atoms in
    let s = c.requires.sound in
    let keeps = texts_kept m.atoms more d.ensures.grows.longer in
    let ops = operators more m.ops in
    let parts = head_body_of m.atoms (terms m) c.args.checked.parts in
    let same : as_database more ops m.clauses ≡ as_database m.atoms (operators m.atoms m.ops) m.clauses =
    c.changes_are_those_of_the_database.ensures.named m.atoms more keeps m.clauses s.program ops
    ∙ ap (λ (o : Ops). as_database m.atoms o m.clauses)
    (c.more_names_keep_the_table.ensures.table m.atoms more m.ops (record { before = s.different; after = c.text.ensures.different; kept = keeps }) s.operators_named) in
    on_ok d.result
    (λ (a : AddsStored c.args.end kind.Dynamic more parts m.clauses d.new.clauses).
    c.changes_are_those_of_the_database.ensures.added more ops c.text.ensures.different c.args.end kind.Dynamic a.pred a.clause parts m.clauses d.new.clauses
    (c.programs_stay_programs.ensures.named m.atoms more keeps m.clauses s.program) a.of_head.known a.of_head.indicator a.holds a.adds
    ∙ ap (λ (db : Database). clause_added (as_end c.args.end) Dynamic parts db) same)
    d.ensures.added

pub returns-clause-err : goal.returns-clause-err
returns-clause-err c =
    let m = c.args.m.now in
    let d = c.add-added in
    let more = d.new.atoms in
    let s = c.requires.sound in
    let keeps = texts_kept m.atoms more d.ensures.grows.longer in
    let ops = operators more m.ops in
    let same : as_database more ops m.clauses ≡ as_database m.atoms (operators m.atoms m.ops) m.clauses =
    c.changes_are_those_of_the_database.ensures.named m.atoms more keeps m.clauses s.program ops
    ∙ ap (λ (o : Ops). as_database m.atoms o m.clauses)
    (c.more_names_keep_the_table.ensures.table m.atoms more m.ops (record { before = s.different; after = c.text.ensures.different; kept = keeps }) s.operators_named) in
    on_err d.result (λ (e : ◌≡◌ {A = Program} d.new.clauses m.clauses). ap (as_database more ops) e ∙ same) d.ensures.err

pub returns-clause-stands : goal.returns-clause-stands
returns-clause-stands c = λ db n current s j.
    let m = c.args.m.now in
    let d = c.add-added in
    let more = d.new.atoms in
    let sound = c.requires.sound in
    let named = c.names_may_be_added.ensures.stands more m.clauses (held_by m) d.ensures.grows.longer (over_sound m sound) c.names_are_of_terms.ensures.choices
    c.names_are_of_terms.ensures.now db n current s j in
    let grown = c.more_may_be_built.ensures.terms more (now m).0 d.new.heap.now d.ensures.grows.terms d.ensures.grows.images (d.ensures.grows.names sound.names)
    (now m).1 (now m).1 (lists_same (now m).1) in
    let after : Value Contents = (with_heap d.new.heap.now (now m).0, (now m).1) in
    let built = c.more_may_be_built.ensures.stands more db n (stack more m.clauses (saved m) m.choices) (now m) after grown current s named in
    let marks = ap (λ (hs : List Terms). zip (map contents_of (zip hs (zip m.world.first.attrs.saved (map (kept m.world.first.store.pivots) m.world.first.store.saved)))) m.world.second.saved)
    d.ensures.grows.saved in
    let still = (c.names_may_be_added.ensures.over more m.clauses (held_by m) d.ensures.grows.longer (over_sound m sound)).choices in
    let same = c.choices_outlast_changes.ensures.same more m.clauses d.new.clauses d.ensures.showing (saved m) m.choices still in
    subst (λ (l : List (Value Contents)). IsStanding (IsBranch more) (term_in more) (engine db n (stack more d.new.clauses l m.choices) after current) s) (sym marks)
    (subst (λ (x : Stack Contents). IsStanding (IsBranch more) (term_in more) (engine db n x after current) s) (sym same) built)

pub returns-clause-sound : goal.returns-clause-sound
returns-clause-sound c =
    let m = c.args.m.now in
    let d = c.add-added in
    let more = d.new.atoms in
    let s = c.requires.sound in
    let keeps = texts_kept m.atoms more d.ensures.grows.longer in
    let parts = head_body_of m.atoms (terms m) c.args.checked.parts in
    let was = c.programs_stay_programs.ensures.named m.atoms more keeps m.clauses s.program in
    let marks = ap (λ (hs : List Terms). zip (map contents_of (zip hs (zip m.world.first.attrs.saved (map (kept m.world.first.store.pivots) m.world.first.store.saved)))) m.world.second.saved)
    d.ensures.grows.saved in
    record {
      known = names_kept m.atoms more keeps m.names s.known;
      different = c.text.ensures.different;
      names = d.ensures.grows.names s.names;
      program = either_way (IsProgram more) m.clauses d.new.clauses (AddsStored c.args.end kind.Dynamic more parts m.clauses d.new.clauses) was
          (λ a. c.programs_stay_programs.ensures.added more c.args.end kind.Dynamic a.pred a.clause m.clauses d.new.clauses was a.of_head.known a.counted a.adds)
          d.result d.ensures.added d.ensures.err;
      operators_named = c.more_names_keep_the_table.ensures.known m.atoms more m.ops keeps s.operators_named;
      marked = subst (λ (l : List (Value Contents)). AreMarked l m.choices) (sym marks) s.marked;
      untried = subst (λ (l : List (Value Contents)). AreOpen more d.new.clauses l m.choices) (sym marks)
          (c.choices_outlast_changes.ensures.tried more m.clauses d.new.clauses d.ensures.showing (saved m) m.choices
          (c.names_may_be_added.ensures.over more m.clauses (held_by m) d.ensures.grows.longer (over_sound m s)).choices);
    }

pub returns-clause-keeps : goal.returns-clause-keeps
returns-clause-keeps c = record { atoms = c.add-added.ensures.grows.longer; names = refl; ops = refl; showing = c.add-added.ensures.showing; budget = refl }
