use Rattle.std.proofs.Common.{sym, ap, ◌∙◌, subst}
use Rattle.spec_search.specs.Replies.{WithExtent}
use Rattle.spec_syntax.specs.Trees.{Tree}
use Rattle.spec_branch.specs.Checks.{expression_error}
use Rattle.cq_built.specs.Errors.{error_tree}
use Rattle.cq_questions.specs.Extents.{side_of, IsReach}
use Rattle.cq_questions.specs.Stops.{AtStates, ExtentStops}
use Rattle.cq_questions.specs.Values.{AtValues}
use Rattle.cq_branch.proofs.Added.{reads_tree}
use Rattle.cq_machine.specs.Machines.{terms, now}
use Rattle.cq_execute.specs.Found.{IsFoundAt}
use Rattle.cq_execute.specs.declared.optima.values.Valued.{Valued}
use Rattle.cq_execute.proofs.OptimaAsked.{found_then, reach_stops, refused}
use Rattle.cq_execute.proofs.optima.values.value_at.Goals as goal

pub returns-in-Ok-ask_reach-clause-valued : goal.returns-in-Ok-ask_reach-clause-valued
returns-in-Ok-ask_reach-clause-valued c = λ p g e next b r row.
    let m = c.args.m.now in
    let told = m.world.first.store.told in
    let side = side_of c.args.side in
    let same = reads_tree m.atoms (now m).0 p.state c.args.expression e r in
    subst (λ (v : Valued). IsFoundAt m.atoms (terms m) v p g next) (sym c.valued_by.ensures)
    (found_then m.atoms (now m).0 p b g e side next row (ap expression_error (sym same) ∙ c.in-Ok.ensures.lawful) c.args.expression same c.in-Ok-ask_reach.found
    (subst (λ (t : Tree). AtValues told (λ fixed. IsReach side told fixed t c.in-Ok-ask_reach.found)) same c.in-Ok-ask_reach.ensures.reach))

pub returns-in-Err-ask_reach-clause-stop : goal.returns-in-Err-ask_reach-clause-stop
returns-in-Err-ask_reach-clause-stop c = λ p g e next b r row.
    let m = c.args.m.now in
    let side = side_of c.args.side in
    let pivots = m.world.first.store.pivots in
    let same = reads_tree m.atoms (now m).0 p.state c.args.expression e r in
    reach_stops m.atoms (now m).0 p b g e side next row (ap expression_error (sym same) ∙ c.in-Ok.ensures.lawful) pivots c.in-Err-ask_reach.fault
    (subst (λ (t : Tree). AtStates m.world.first.store.told (λ st. ExtentStops pivots st side t c.in-Err-ask_reach.fault)) same c.in-Err-ask_reach.ensures.stop)

pub returns-in-Error-clause-valued : goal.returns-in-Error-clause-valued
returns-in-Error-clause-valued c = λ p g e next b r row.
    let m = c.args.m.now in
    let same = reads_tree m.atoms (now m).0 p.state c.args.expression e r in
    refused p g (expression_error e) (WithExtent (side_of c.args.side) e next) row (error_tree m.atoms (terms m) c.in-Error.error)
    (ap expression_error (sym same) ∙ (rw c.in-Error.is at c.in-Err.ensures.fault))
