use Rattle.std.proofs.Common.{◌≡◌, ◌⊎◌, length, true, refl, sym, ap, ◌∙◌, subst, Ok}
use Rattle.spec_syntax.specs.Operators.{Ops}
use Rattle.spec_search.specs.Database.{Database}
use Rattle.cq_term.specs.Texts.{KeepsTexts}
use Rattle.cq_ops.specs.Tables.{named}
use Rattle.cq_machine.proofs.Interned.{texts_kept}
use Rattle.cq_engine.proofs.Engines.{kept_where}
use Rattle.spec_text.specs.Decided.{Decided}
use Rattle.spec_text.specs.Readings.{Reads}
use Rattle.cq_term.specs.HeapValue.{Terms}
use Rattle.cq_engine.specs.declared.events.engine.Engine.{Engine}
use Rattle.cq_read.specs.Inputs.{Input}
use Rattle.cq_read.specs.Shown.{read_of}
use Rattle.cq_read.specs.declared.feed.Fed.{Fed}
use Rattle.cq_read.specs.declared.feed.Fed.TheVariants as fed
use Rattle.cq_read.specs.Feeds.{IsFed, place_behind}
use Rattle.cq_session.specs.Sentences.{Program, IsSettled}
use Rattle.cq_interpreter.specs.Taken.{IsDone}
use Rattle.cq_interpreter.specs.Toplevels.{texts, names_of, program_of, IsWhole, IsAsking}
use Rattle.cq_interpreter.specs.declared.toplevel.Toplevel.{Toplevel}
use Rattle.cq_interpreter.proofs.Wholes.{program_kept, whole_kept}
use Rattle.cq_interpreter.proofs.Taking.{reads_here, numbered_read, read_is}
use Rattle.cq_interpreter.proofs.interpreter.ToplevelInterpreter.read.Goals as goal
use Rattle.cq_interpreter.proofs.interpreter.ToplevelInterpreter.read.Goals.{After-read_fed, In-Read}

-- the texts that it had are those of the engine then
keeps : (c : After-read_fed) → KeepsTexts (texts c.args.self.now) c.read_fed.new.self.machine.atoms
keeps c =
    let t = c.args.self.now in
    let e = c.end.new.self in
    λ i text there. c.read_fed.ensures.names i text (texts_kept (texts t) e.machine.atoms c.end.ensures.keeps.atoms i text there)

abbrev read_on : After-read_fed → Toplevel
read_on c = record c.args.self.now { engine = c.read_fed.new.self; names = c.clear.new.self }

whole : (c : After-read_fed) → IsWhole (read_on c)
whole c = whole_kept c.args.self.now (read_on c) c.requires.kept (keeps c) refl (kept_where c.read_fed.new.self.machine c.read_fed.ensures.idle.sound) refl

program : (c : After-read_fed) → program_of (read_on c) ≡ program_of c.args.self.now
program c = program_kept c.args.self.now (read_on c) c.requires.kept (keeps c) refl (c.read_fed.ensures.program ∙ c.end.ensures.program)

-- the operators by which it read are those of its program
operators_same : (c : After-read_fed) → named c.read_fed.new.self.machine.atoms c.end.new.self.machine.ops ≡ (program_of c.args.self.now).database.operators
operators_same c =
    let e = c.end.new.self in
    c.more_names_keep_the_table.ensures.table e.machine.atoms c.read_fed.new.self.machine.atoms e.machine.ops
    (record { before = c.end.ensures.idle.sound.different; after = c.read_fed.ensures.idle.sound.different; kept = c.read_fed.ensures.names }) c.end.ensures.idle.sound.operators_named
    ∙ ap (λ (db : Database). db.operators) c.end.ensures.program

pub returns-in_err-fed-clause-kept : goal.returns-in_err-fed-clause-kept
returns-in_err-fed-clause-kept c = whole (goal.at.returns-in_err-fed-clause-kept c).After-read_fed

pub take_read-requires-clause-whole : goal.take_read-requires-clause-whole
take_read-requires-clause-whole c = whole (goal.at.take_read-requires-clause-whole c).After-read_fed

pub returns-in-Needs-clause-kept : goal.returns-in-Needs-clause-kept
returns-in-Needs-clause-kept c = whole (goal.at.returns-in-Needs-clause-kept c).After-read_fed

-- what was fed, at a reading
module _ (c : In-Read) where
  abbrev e : Engine
  e = c.read_fed.new.self

  abbrev old : Input
  old = c.args.text.now

  abbrev ops : Ops
  ops = named e.machine.atoms c.end.new.self.machine.ops

  abbrev heap : Terms
  heap = e.machine.world.first.heap.now

  fed_read : IsFed ops e.machine.atoms old c.end.new.self.machine.world.first.heap.now heap (fed.Read c.in-Read.read)
  fed_read = subst (IsFed ops e.machine.atoms old c.end.new.self.machine.world.first.heap.now heap) c.in-Read.is c.in_ok-fed.ensures.fed

  reads : Reads ops old.bytes old.place (read_of e.machine.atoms heap c.in-Read.read)
  reads = reads_here ops old.bytes old.place (length c.end.new.self.machine.world.first.heap.now.images) (read_of e.machine.atoms heap c.in-Read.read) fed_read.1 (ap length c.end.ensures.empty)

  settled : (same : ops ≡ (program_of c.args.self.now).database.operators) → IsSettled (program_of c.args.self.now).database.operators old (read_of e.machine.atoms heap c.in-Read.read)
  settled same = record {
    reads = subst (λ (o : Ops). Reads o old.bytes old.place (read_of e.machine.atoms heap c.in-Read.read)) same reads;
    settled = subst (λ (o : Ops). (old.finished ≡ true) ⊎ Decided o old.bytes old.place) same fed_read.0;
  }

pub take_read-requires-clause-names : goal.take_read-requires-clause-names
take_read-requires-clause-names c =
    let d = (goal.at.take_read-requires-clause-names c).In-Read in
    numbered_read (ops d) (old d).bytes (old d).place (e d).machine.atoms (heap d) c.in-Read.read (reads d)

pub returns-in-Needs-clause-sentence : goal.returns-in-Needs-clause-sentence
returns-in-Needs-clause-sentence c =
    let a = (goal.at.returns-in-Needs-clause-sentence c).After-read_fed in
    let text = c.args.text.now in
    let m = c.read_fed.new.self.machine in
    let k = subst (IsFed (named m.atoms c.end.new.self.machine.ops) m.atoms text c.end.new.self.machine.world.first.heap.now m.world.first.heap.now) c.in-Needs.is c.in_ok-fed.ensures.fed in (
      k.0,
      λ decided. k.1 (subst (λ (o : Ops). Decided o text.bytes text.place) (sym (operators_same a)) decided),
      program a,
      c.in_ok-fed.ensures.place ∙ ap (λ (f : Fed). place_behind text.place (Ok f)) c.in-Needs.is,
    )

pub returns-in_ok-sentence-in-Read-clause-sentence : goal.returns-in_ok-sentence-in-Read-clause-sentence
returns-in_ok-sentence-in-Read-clause-sentence c =
    let g = goal.at.returns-in_ok-sentence-in-Read-clause-sentence c in
    let a = g.After-read_fed in
    let d = g.In-Read in
    let t = c.args.self.now in
    let u = c.take_read.new.self in
    let done = subst (λ (p : Program). IsDone (IsAsking u) (names_of u) c.args.source p (program_of u) (read_of (e d).machine.atoms (heap d) c.in-Read.read) c.in_ok-sentence-in-Read.sentence) (program a) c.in_ok-sentence-in-Read.ensures.done in
    read_is (IsAsking u) (names_of u) c.args.source (program_of t) (program_of u) c.args.text.now c.read_fed.new.text (e d).machine.atoms (heap d) c.in-Read.read c.in_ok-sentence-in-Read.sentence
    (settled d (operators_same a)) (c.in_ok-fed.ensures.place ∙ ap (λ (f : Fed). place_behind c.args.text.now.place (Ok f)) c.in-Read.is) done
