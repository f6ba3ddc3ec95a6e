use Rattle.std.proofs.Common.{sym, subst}
use Rattle.spec_linear.specs.Solution.{Same}
use Rattle.spec_linear.specs.Echelon.{IsEchelon, equations}
use Rattle.spec_linear.proofs.Solving.{echelon, same-rows}
use Rattle.cq_equations.specs.Contents.{order_of, told_of, solved_of}
use Rattle.cq_equations.specs.Told.{numbers_of}
use Rattle.cq_equations.specs.Rows.{equations_of}
use Rattle.cq_equations.proofs.project.project.Goals as goal

pub returns-clause-echelon : goal.returns-clause-echelon
returns-clause-echelon c =
    let o = c.in_ok-store.ensures.order in
    let s = c.in_ok-store.store in
    subst (λ l. IsEchelon (numbers_of c.args.keep.now) l (equations_of c.in_ok-equations.equations.items)) c.in_ok-store.ensures.told
    (subst (λ es. IsEchelon (numbers_of c.args.keep.now) (told_of s) es) (sym c.in_ok-equations.ensures.rows)
    (echelon (order_of s) (told_of s) (solved_of s) c.in_ok-equations.ensures.solved o.others (numbers_of c.args.keep.now) o.split))

pub returns-clause-same : goal.returns-clause-same
returns-clause-same c =
    let o = c.in_ok-store.ensures.order in
    let s = c.in_ok-store.store in
    subst (λ l. Same (numbers_of c.args.keep.now) (equations (equations_of c.in_ok-equations.equations.items)) l) c.in_ok-store.ensures.told
    (subst (λ es. Same (numbers_of c.args.keep.now) (equations es) (told_of s)) (sym c.in_ok-equations.ensures.rows)
    (same-rows (order_of s) (told_of s) (solved_of s) c.in_ok-equations.ensures.solved o.others (numbers_of c.args.keep.now) o.split))
