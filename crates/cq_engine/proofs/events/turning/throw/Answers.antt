use Rattle.std.proofs.Common.{◌≡◌, ◌+◌, ℕ, suc, List, length, refl, sym, subst, arith}
use Rattle.spec_numbers.specs.Texts.{Text}
use Rattle.spec_numbers.proofs.Prefixes.{prefix_same}
use Rattle.spec_branch.specs.Branch.{plain_copy}
use Rattle.cq_term.specs.Trees.{tree}
use Rattle.spec_engine.specs.Standing.{IsStoredAs}
use Rattle.cq_resolve.specs.StoredValue.{StoredValue}
use Rattle.cq_branch.specs.Stored.{IsCountedTerm, stored_tree}
use Rattle.cq_branch.proofs.Copied.{copy_stored, copy_counted}
use Rattle.cq_machine.specs.Machines.{terms}
use Rattle.cq_machine.specs.declared.machine.Machine.{Machine}
use Rattle.cq_engine.specs.Seeking.{IsKept, GainsNames}
use Rattle.cq_engine.specs.declared.events.engine.Engine.{Engine}
use Rattle.cq_engine.specs.Turning.{HasEnded}
use Rattle.cq_engine.proofs.events.turning.throw.Goals as goal
use Rattle.cq_engine.proofs.events.turning.throw.Goals.{After-hand-missed}

-- the machine once the ball was handed on
abbrev then_ : (c : After-hand-missed) → Machine
then_ c = record c.args.e.now.machine { world = c.hand-missed.new.world; choices = c.hand-missed.new.choices }

keeps : (c : After-hand-missed) → IsKept (then_ c)
keeps c =
    let m = c.args.e.now.machine in
    let s = c.requires.sound in
    record {
      known = s.known;
      different = s.different;
      program = s.program;
      operators_named = s.operators_named;
      marked = c.hand-missed.ensures.marked;
      untried = c.hand-missed.ensures.open m.atoms m.clauses
          (copy_counted m.atoms (terms m) c.args.ball c.in_ok-copy.copy s.names c.requires.ball c.in_ok-copy.ensures.renamed c.in_ok-copy.ensures.variables c.in_ok-copy.ensures.names) s.untried;
    }

gains : (c : After-hand-missed) → GainsNames c.args.e.now.machine (then_ c)
gains c = let m = c.args.e.now.machine in record { atoms = prefix_same m.atoms m.atoms refl; names = refl; ops = refl; clauses = refl; database = refl }

pub hand-missed-requires-clause-comes_up : goal.hand-missed-requires-clause-comes_up
hand-missed-requires-clause-comes_up c =
    let m = c.args.e.now.machine in
    let u = c.requires.comes_up in
    (m.atoms, m.clauses, u.0, u.1, u.2, u.3)

pub leave-requires : goal.leave-requires
leave-requires c = keeps (goal.at.leave-requires c).After-hand-missed

ended_next : (n : ℕ) (e : Engine) → HasEnded (n + 1) e → HasEnded (suc n) e
ended_next n e h = let next : n + 1 ≡ suc n = omega arith in subst (λ (i : ℕ). HasEnded i e) next h

pub returns-in-Some-clause-thrown : goal.returns-in-Some-clause-thrown
returns-in-Some-clause-thrown c =
    let m = c.args.e.now.machine in
    let copy = c.in_ok-copy in
    let ball = plain_copy (tree m.atoms (terms m) c.args.ball) in
    let same : c.in-Some.ball ≡ copy.copy = rw c.in-Some.is at c.hand-missed.ensures.same in
    let atoms = sym c.leave.ensures.atoms in
    record {
      missed = λ items st behind up. (rw c.in-Some.is at c.hand-missed.ensures.missed) m.atoms m.clauses items st behind ball up;
      is_stored = subst (λ (texts : List Text). IsStoredAs ball (stored_tree texts c.in-Some.ball)) atoms
          (subst (λ (s : StoredValue). IsStoredAs ball (stored_tree m.atoms s)) (sym same) (copy_stored m.atoms (terms m) c.args.ball copy.copy copy.ensures.renamed));
      counted = subst (λ (texts : List Text). IsCountedTerm (length texts) c.in-Some.ball) atoms
          (subst (IsCountedTerm (length m.atoms)) (sym same)
          (copy_counted m.atoms (terms m) c.args.ball copy.copy c.requires.sound.names c.requires.ball copy.ensures.renamed copy.ensures.variables copy.ensures.names));
      ended = ended_next c.args.e.now.selected c.leave.new.e c.leave.ensures.ended;
    }

pub returns-in-None-clause-thrown : goal.returns-in-None-clause-thrown
returns-in-None-clause-thrown c =
    let m = c.args.e.now.machine in
    let copy = c.in_ok-copy in
    record {
      caught = λ items st behind up. (rw c.in-None.is at c.hand-missed.ensures.caught) m.atoms m.clauses items st behind (plain_copy (tree m.atoms (terms m) c.args.ball)) up
          (copy_stored m.atoms (terms m) c.args.ball copy.copy copy.ensures.renamed);
      selected = omega arith;
      current = refl;
    }

pub returns-in-None-clause-kept : goal.returns-in-None-clause-kept
returns-in-None-clause-kept c = keeps (goal.at.returns-in-None-clause-kept c).After-hand-missed

pub returns-in-None-clause-program : goal.returns-in-None-clause-program
returns-in-None-clause-program c = gains (goal.at.returns-in-None-clause-program c).After-hand-missed
