-- What a machine keeps while the world, its continuations and its choices change.
use Rattle.std.proofs.Common.{◌≡◌, ℕ, List, ◌++◌, Option, Some, refl, sym, subst}
use Rattle.spec_numbers.specs.Texts.{Text}
use Rattle.spec_branch.specs.Branch.{Branch}
use Rattle.spec_search.specs.Database.{Database}
use Rattle.spec_search.specs.Replies.{Place, Reply}
use Rattle.spec_search.specs.Search.{Search}
use Rattle.spec_search.specs.Turns.{older}
use Rattle.cq_term.specs.Texts.{AreDifferent}
use Rattle.cq_control.specs.Open.{AreMarked}
use Rattle.cq_ops.specs.Tables.{AreNamed}
use Rattle.cq_resolve.specs.Database.{Program, IsProgram}
use Rattle.cq_term.specs.Trees.{KnowsTerms}
use Rattle.cq_settle.specs.Contents.{Contents}
use Rattle.spec_engine.specs.Cells.{Value, Stack}
use Rattle.spec_engine.specs.Standing.{engine, IsStanding}
use Rattle.cq_branch.specs.Choices.{AreOpen}
use Rattle.cq_branch.specs.Worlds.{IsBranch, term_in, stack, Leads, Grown}
use Rattle.cq_branch.proofs.Selected.{standing_grown}
use Rattle.cq_branch.specs.declared.alternatives.Alternatives.{Alternatives}
use Rattle.cq_machine.specs.declared.machine.Machine.{Machine}
use Rattle.cq_machine.specs.Machines.{terms, now, saved, holds, AreNames, IsSound, HasSameProgram}

-- ---- names

-- where a row leads to a continuation, the names of the terms are known
pub names_ahead : (texts : List Text) (choices : Stack Contents) (now : Value Contents) (k : ℕ) (p : Place) (behind : List Branch) (r : Reply)
    → Leads texts choices now (Some k) p behind r → KnowsTerms texts now.0.heap.terms
names_ahead texts choices now k p behind r l =
    let s : Search = record { database = p.database; branches = l.made.children ++ older l.made.keeps behind; selected = 0 } in
    let c = l.comes 0 s refl refl in
    c.stands.current.3.state.ready.stands.names

pub names_same : (texts : List Text) (old later : Contents) → KnowsTerms texts old.heap.terms → later ≡ old → KnowsTerms texts later.heap.terms
names_same texts old later known e = subst (λ (c : Contents). KnowsTerms texts c.heap.terms) (sym e) known

-- ---- a sound machine

pub sound_still : (old new : Machine) → IsSound old → HasSameProgram old new → KnowsTerms old.atoms (terms new) → AreMarked (saved new) new.choices
    → AreOpen old.atoms new.clauses (saved new) new.choices → IsSound new
sound_still old new s same names marked untried = record {
  known = subst (λ (a : List Text). AreNames a new.names) (sym same.atoms) (subst (AreNames old.atoms) (sym same.names) s.known);
  different = subst AreDifferent (sym same.atoms) s.different;
  names = subst (λ (a : List Text). KnowsTerms a (terms new)) (sym same.atoms) names;
  program = subst (λ (a : List Text). IsProgram a new.clauses) (sym same.atoms) (subst (IsProgram old.atoms) (sym same.clauses) s.program);
  operators_named = subst (λ (a : List Text). AreNamed a new.ops) (sym same.atoms) (subst (AreNamed old.atoms) (sym same.ops) s.operators_named);
  marked = marked;
  untried = subst (λ (a : List Text). AreOpen a new.clauses (saved new) new.choices) (sym same.atoms) untried;
}

-- the same choices over the same marks
pub open_still : (texts : List Text) (v : Program) (marks more : List (Value Contents)) (choices : List Alternatives) → more ≡ marks → AreOpen texts v marks choices
    → AreOpen texts v more choices
open_still texts v marks more choices e o = subst (λ (l : List (Value Contents)). AreOpen texts v l choices) (sym e) o

pub marked_still : (marks more : List (Value Contents)) (choices : List Alternatives) → more ≡ marks → AreMarked marks choices → AreMarked more choices
marked_still marks more choices e o = subst (λ (l : List (Value Contents)). AreMarked l choices) (sym e) o

-- where more was built beside the same choices, an engine stands for what it stood for
pub stands_parts : (m : Machine) (more : List (Value Contents)) (later : Value Contents) → more ≡ saved m → Grown m.atoms (now m) later
    → (db : Database) (n : ℕ) (current : Option ℕ) (s : Search) → IsStanding (IsBranch m.atoms) (term_in m.atoms) (engine db n (holds m) (now m) current) s
    → IsStanding (IsBranch m.atoms) (term_in m.atoms) (engine db n (stack m.atoms m.clauses more m.choices) later current) s
stands_parts m more later e g = λ db n current s j.
    subst (λ (l : List (Value Contents)). IsStanding (IsBranch m.atoms) (term_in m.atoms) (engine db n (stack m.atoms m.clauses l m.choices) later current) s) (sym e)
    (standing_grown (IsBranch m.atoms) (term_in m.atoms) db n (holds m) (now m) later g current s j)

-- the same where its clauses and choices are said to be equal
pub stands_all : (m : Machine) (v : Program) (more : List (Value Contents)) (choices : List Alternatives) (later : Value Contents) → v ≡ m.clauses → more ≡ saved m → choices ≡ m.choices
    → Grown m.atoms (now m) later → (db : Database) (n : ℕ) (current : Option ℕ) (s : Search) → IsStanding (IsBranch m.atoms) (term_in m.atoms) (engine db n (holds m) (now m) current) s
    → IsStanding (IsBranch m.atoms) (term_in m.atoms) (engine db n (stack m.atoms v more choices) later current) s
stands_all m v more choices later e f h g = λ db n current s j.
    subst (λ (w : Program). IsStanding (IsBranch m.atoms) (term_in m.atoms) (engine db n (stack m.atoms w more choices) later current) s) (sym e)
    (subst (λ (cs : List Alternatives). IsStanding (IsBranch m.atoms) (term_in m.atoms) (engine db n (stack m.atoms m.clauses more cs) later current) s) (sym h)
    (stands_parts m more later f g db n current s j))
