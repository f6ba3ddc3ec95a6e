use Rattle.std.proofs.Common.{[], ◌++◌, sym, subst}
use Rattle.std.proofs.lemmas.Result.{IfOk-weaker}
use Rattle.spec_linear.specs.Solution.{Solvable}
use Rattle.spec_linear.proofs.Lists.{alike_solvable}
use Rattle.spec_projection.specs.Irredundant.{NoneFollows, Sifts}
use Rattle.spec_projection.specs.Partial.{AreInequalities}
use Rattle.spec_projection.proofs.Members.{alike_swapped}
use Rattle.cq_project.specs.Passing.{RefusesPass, SpendsPass}
use Rattle.cq_project.proofs.Fresh.{left_all, left_sifted}
use Rattle.cq_project.proofs.eliminate.left_beside.Goals as goal

pub stand_apart-requires-clause-inequalities : goal.stand_apart-requires-clause-inequalities
stand_apart-requires-clause-inequalities c = subst AreInequalities (sym c.deref.ensures.value) c.requires.inequalities

pub stand_apart-requires-clause-solvable : goal.stand_apart-requires-clause-solvable
stand_apart-requires-clause-solvable c =
    let beside = c.args.beside.now in
    let new = c.args.new.items in
    subst (λ l. Solvable (l ++ beside)) (sym c.deref.ensures.value)
    (alike_solvable (beside ++ new) (new ++ beside) (alike_swapped beside new) c.requires.solvable)

pub returns-then-stand_apart-clause-left : goal.returns-then-stand_apart-clause-left
returns-then-stand_apart-clause-left c =
    left_all c.args.beside.now c.args.new.items (subst (λ l. NoneFollows l c.args.beside.now) c.deref.ensures.value c.if-stand_apart.ensures)

pub passed-requires : goal.passed-requires
passed-requires c = record { solvable = subst (λ l. Solvable (c.args.beside.now ++ l)) (sym c.deref-2.ensures.value) c.requires.solvable }

pub returns-clause-left : goal.returns-clause-left
returns-clause-left c =
    let beside = c.args.beside.now in
    let new = c.args.new.items in
    IfOk-weaker c.passed.result _ _ (λ left s. left_sifted beside new left.items (subst (λ l. Sifts beside [] l left.items) c.deref-2.ensures.value s))
    c.passed.ensures.left

pub returns-clause-overflow : goal.returns-clause-overflow
returns-clause-overflow c = λ pair e. subst (λ l. RefusesPass c.args.beside.now l pair) c.deref-2.ensures.value (c.passed.ensures.overflow pair e)

pub returns-clause-pivots : goal.returns-clause-pivots
returns-clause-pivots c = λ n e.
    let s = c.passed.ensures.pivots n e in (s.0, subst (λ l. SpendsPass c.args.beside.now l n) c.deref-2.ensures.value s.1)
