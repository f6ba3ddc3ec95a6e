use Rattle.std.proofs.Common.{◌≡◌, ◌∷◌, length, map, refl, sym, ap, ◌∙◌, subst}
use Rattle.spec_search.specs.Search.{start}
use Rattle.spec_transcript.specs.Purposes.{once}
use Rattle.spec_transcript.specs.Session.{Asked}
use Rattle.spec_text.specs.Later.{tree_later}
use Rattle.cq_term.specs.Texts.{KeepsTexts}
use Rattle.cq_machine.proofs.Interned.{texts_kept}
use Rattle.cq_machine.specs.Machines.{database_of}
use Rattle.cq_interpreter.specs.Toplevels.{asked, texts, images_of, program_of, IsAsking, IsWhole}
use Rattle.cq_interpreter.specs.declared.toplevel.Toplevel.{Toplevel}
use Rattle.cq_interpreter.proofs.Wholes.{asked_stays, below_stays, all_asked_stay, first_below, rest_below, whole_rest, same_database}
use Rattle.cq_interpreter.proofs.interpreter.ToplevelInterpreter.begin_later.Goals as goal
use Rattle.cq_interpreter.proofs.interpreter.ToplevelInterpreter.begin_later.Goals.{In-Some, After-restored}

-- the goals that waited are the first one and the others
goals : (c : In-Some) → c.args.self.now.later.items ≡ c.in-Some.waiting ∷ c.pop_front-first.new.self.items
goals c = c.in-Some.ensures.items

pub restored-requires-clause-names : goal.restored-requires-clause-names
restored-requires-clause-names c =
    let t = c.args.self.now in
    let d = (goal.at.restored-requires-clause-names c).In-Some in
    below_stays (texts t) c.end.new.self.machine.atoms (texts_kept (texts t) c.end.new.self.machine.atoms c.end.ensures.keeps.atoms) c.in-Some.waiting.clause
    (first_below t c.in-Some.waiting c.pop_front-first.new.self.items (goals d) c.requires.kept)

-- the texts that it had are those of the engine then
keeps : (c : After-restored) → KeepsTexts (texts c.args.self.now) c.restored.new.engine.machine.atoms
keeps c =
    let t = c.args.self.now in
    subst (KeepsTexts (texts t)) (sym c.restored.ensures.same.atoms) (texts_kept (texts t) c.end.new.self.machine.atoms c.end.ensures.keeps.atoms)

abbrev without_first : After-restored → Toplevel
without_first c = record c.args.self.now { engine = c.restored.new.engine; later = c.pop_front-first.new.self }

whole : (c : After-restored) → IsWhole (without_first c)
whole c = whole_rest c.args.self.now c.in-Some.waiting c.pop_front-first.new.self.items c.in-Some.ensures.items c.requires.kept (without_first c) (keeps c) c.restored.ensures.kept refl refl

pub returns-in_err-goal-in-Some-clause-kept : goal.returns-in_err-goal-in-Some-clause-kept
returns-in_err-goal-in-Some-clause-kept c = whole (goal.at.returns-in_err-goal-in-Some-clause-kept c).After-restored

pub direct-requires-clause-whole : goal.direct-requires-clause-whole
direct-requires-clause-whole c = whole (goal.at.direct-requires-clause-whole c).After-restored

pub returns-in_ok-direct-in-Some-clause-begun : goal.returns-in_ok-direct-in-Some-clause-begun
returns-in_ok-direct-in-Some-clause-begun c =
    let t = c.args.self.now in
    let w = c.in-Some.waiting in
    let rest = c.pop_front-first.new.self.items in
    let d = (goal.at.returns-in_ok-direct-in-Some-clause-begun c).After-restored in
    let e = c.end.new.self in
    let n = length (images_of e) in
    let early = texts_kept (texts t) e.machine.atoms c.end.ensures.keeps.atoms in
    let below = first_below t w rest c.in-Some.ensures.items c.requires.kept in
    let db : database_of c.restored.new.engine.machine ≡ database_of t.engine.machine =
    same_database e.machine c.restored.new.engine.machine c.restored.ensures.same ∙ c.end.ensures.program in
    let g = c.in_ok-goal-in-Some.ensures.restored ∙ ap (λ (x : Asked). tree_later n x.goal) (asked_stays (texts t) e.machine.atoms early w below) in
    let others = all_asked_stay (texts t) c.restored.new.engine.machine.atoms (keeps d) rest (rest_below t w rest c.in-Some.ensures.items c.requires.kept) in
    let program : program_of (without_first d) ≡ record (program_of t) { later = map (asked (texts t)) rest } = λ i. record { database = db i; later = others i } in (
      asked (texts t) w,
      map (asked (texts t)) rest,
      ap (map (asked (texts t))) c.in-Some.ensures.items,
      record { base = n; stands = subst (IsAsking c.direct.new.self) (λ i. start (db i) (once (g i)) (c.in_ok-goal-in-Some.ensures.images i)) c.in_ok-direct-in-Some.ensures.asking },
      c.direct.ensures.program ∙ program,
    )
