use Rattle.std.proofs.Common.{◌≡◌, ◌∙◌, ◌<◌, ℕ, List, length, map, refl, sym, ap, subst}
use Rattle.std.specs.List.{zip}
use Rattle.std.proofs.lemmas.Result.{IfOk-weaker}
use Rattle.spec_numbers.proofs.Prefixes.{prefix_within}
use Rattle.spec_terms.specs.Term.{Var}
use Rattle.spec_syntax.specs.Operators.{Ops}
use Rattle.spec_builtins.specs.Clauses.{head_body}
use Rattle.spec_search.specs.Changes.{consulted}
use Rattle.spec_search.specs.Database.{Database}
use Rattle.spec_engine.specs.Cells.{Value}
use Rattle.cq_built.proofs.Trees.{name_known}
use Rattle.cq_clauses.specs.declared.list.End.TheVariants.{Last}
use Rattle.cq_clauses.specs.declared.procedures.Kind.TheVariants.{Static}
use Rattle.cq_control.specs.Open.{AreMarked}
use Rattle.cq_store.specs.StoreValue.{kept}
use Rattle.cq_resolve.specs.Database.{as_database}
use Rattle.cq_term.specs.HeapValue.{Terms}
use Rattle.cq_term.specs.Meaning.{HeapTerm, at}
use Rattle.cq_term.specs.Trees.{tree}
use Rattle.cq_settle.specs.Contents.{Contents, contents_of}
use Rattle.cq_write.specs.Meaning.{operators}
use Rattle.cq_machine.specs.Machines.{terms}
use Rattle.cq_machine.proofs.Interned.{texts_kept, names_kept}
use Rattle.cq_interpreter.proofs.Added.{still_program, consults, same_on_err, none_open}
use Rattle.cq_interpreter.proofs.consult.consulting.consult.Goals as goal

pub text-requires : goal.text-requires
text-requires c =
    let m = c.args.m.now in
    prefix_within m.atoms c.add_clause-done.new.atoms m.names.truth c.add_clause-done.ensures.grows.longer (name_known m.atoms m.names.truth _ c.requires.sound.known.truth)

pub returns-clause-consults : goal.returns-clause-consults
returns-clause-consults c =
    let m = c.args.m.now in
    let d = c.add_clause-done in
    let more = d.new.atoms in
    let s = c.requires.sound in
    let keeps = texts_kept m.atoms more d.ensures.grows.longer in
    let ops = operators more m.ops in
    let t = tree m.atoms (terms m) c.args.clause in
    let same : as_database more ops m.clauses ≡ as_database m.atoms (operators m.atoms m.ops) m.clauses =
    c.changes_are_those_of_the_database.ensures.named m.atoms more keeps m.clauses s.program ops
    ∙ ap (λ (o : Ops). as_database m.atoms o m.clauses)
    (c.more_names_keep_the_table.ensures.table m.atoms more m.ops (record { before = s.different; after = c.text.ensures.different; kept = keeps }) s.operators_named) in
    IfOk-weaker d.result _ _
    (consults m.clauses d.new.clauses (as_database m.atoms (operators m.atoms m.ops) m.clauses) (as_database more ops d.new.clauses) (λ e. ap (as_database more ops) e ∙ same)
    more d.new.heap.now.terms t
    (λ a. c.changes_are_those_of_the_database.ensures.added more ops c.text.ensures.different Last Static a.pred a.clause (head_body t) m.clauses d.new.clauses
    (c.programs_stay_programs.ensures.named m.atoms more keeps m.clauses s.program) a.of_head.known a.of_head.indicator a.holds a.adds
    ∙ ap (λ (db : Database). consulted t db) same))
    d.ensures.came

pub returns-clause-err : goal.returns-clause-err
returns-clause-err c =
    let m = c.args.m.now in
    let d = c.add_clause-done in
    let more = d.new.atoms in
    let s = c.requires.sound in
    let keeps = texts_kept m.atoms more d.ensures.grows.longer in
    let ops = operators more m.ops in
    let same : as_database more ops m.clauses ≡ as_database m.atoms (operators m.atoms m.ops) m.clauses =
    c.changes_are_those_of_the_database.ensures.named m.atoms more keeps m.clauses s.program ops
    ∙ ap (λ (o : Ops). as_database m.atoms o m.clauses)
    (c.more_names_keep_the_table.ensures.table m.atoms more m.ops (record { before = s.different; after = c.text.ensures.different; kept = keeps }) s.operators_named) in
    same_on_err m.clauses d.new.clauses (as_database m.atoms (operators m.atoms m.ops) m.clauses) (as_database more ops d.new.clauses) (λ e. ap (as_database more ops) e ∙ same)
    d.result d.ensures.err

pub returns-clause-sound : goal.returns-clause-sound
returns-clause-sound c =
    let m = c.args.m.now in
    let d = c.add_clause-done in
    let more = d.new.atoms in
    let s = c.requires.sound in
    let keeps = texts_kept m.atoms more d.ensures.grows.longer in
    let was = c.programs_stay_programs.ensures.named m.atoms more keeps m.clauses s.program in
    record {
      known = names_kept m.atoms more keeps m.names s.known;
      different = c.text.ensures.different;
      names = d.ensures.grows.names s.names;
      program = still_program more d.new.heap.now.terms (tree m.atoms (terms m) c.args.clause) m.clauses d.new.clauses was
          (λ a. c.programs_stay_programs.ensures.added more Last Static a.pred a.clause m.clauses d.new.clauses was a.of_head.known a.counted a.adds) d.result d.ensures.came d.ensures.err;
      operators_named = c.more_names_keep_the_table.ensures.known m.atoms more m.ops keeps s.operators_named;
      marked = subst (λ (l : List (Value Contents)). AreMarked l m.choices)
          (sym (ap (λ (hs : List Terms). zip (map contents_of (zip hs (zip m.world.first.attrs.saved (map (kept m.world.first.store.pivots) m.world.first.store.saved)))) m.world.second.saved) d.ensures.grows.saved)) s.marked;
      untried = none_open more d.new.clauses (zip (map contents_of (zip d.new.heap.saved (zip m.world.first.attrs.saved (map (kept m.world.first.store.pivots) m.world.first.store.saved)))) m.world.second.saved)
          m.choices c.requires.choices;
    }

pub returns-clause-rest : goal.returns-clause-rest
returns-clause-rest c =
    let g = c.add_clause-done.ensures.grows in
    record {
      atoms = g.longer;
      terms = g.terms;
      images = g.images;
      nothing = λ k. record {
        names = g.names k.names;
        images = subst (λ (is : List HeapTerm). (v : ℕ) → v < length is → at is v ≡ Var v) (sym g.images) k.images;
        attrs = k.attrs;
        told = k.told;
      };
      lists = refl;
      choices = refl;
      pivots = refl;
    }
