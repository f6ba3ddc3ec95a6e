use Rattle.std.proofs.Common.{◌∷◌, ap, ◌∙◌}
use Rattle.spec_builtins.specs.Built as built
use Rattle.spec_branch.specs.Branch.{read}
use Rattle.spec_search.specs.Search.{look_at}
use Rattle.cq_control.specs.Items.{items_at}
use Rattle.spec_engine.specs.declared.machine.cell.Cell.{Cell}
use Rattle.cq_branch.proofs.Added.{reads_tree}
use Rattle.cq_branch.proofs.Reading.{read_live}
use Rattle.cq_machine.specs.Machines.{terms, now}
use Rattle.cq_engine.proofs.Selections.{goal_next, call_next, same_goal}
use Rattle.cq_engine.proofs.events.cells.raiser_in.Goals as goal

pub raiser_of-requires-clause-live : goal.raiser_of-requires-clause-live
raiser_of-requires-clause-live c =
    let m = c.args.m.now in
    let w = c.requires.going in
    let f = c.requires.front in
    let s = w.1 in
    let x = goal_next m w.0 c.args.k c.args.rest s w.2 f.earlier c.in-Goal.goal c.in-Goal.field-1 (f.cells ∙ ap (λ (x : Cell). x ∷ items_at m.world.second.now c.args.rest) c.in-Goal.is) in
    read_live m.atoms (terms m) c.in-Goal.goal (read x.0.state x.0.goal) x.1.reads.0

pub returns-in-Goal-clause-names : goal.returns-in-Goal-clause-names
returns-in-Goal-clause-names c = λ n s j t cut items st behind look.
    let m = c.args.m.now in
    let f = c.requires.front in
    let x = goal_next m n c.args.k c.args.rest s j f.earlier c.in-Goal.goal c.in-Goal.field-1 (f.cells ∙ ap (λ (x : Cell). x ∷ items_at m.world.second.now c.args.rest) c.in-Goal.is) in
    let y = x.0 in
    c.raiser_of.ensures.raised
    ∙ ap built.indicator_of
    (reads_tree m.atoms (now m).0 y.state c.in-Goal.goal (read y.state y.goal) x.1.reads ∙ same_goal (look_at s.branches) y.goal t y.cut cut y.items items y.state st y.behind behind y.look look)

pub returns-in-Call-clause-names : goal.returns-in-Call-clause-names
returns-in-Call-clause-names c = λ n s j t cut items st behind look.
    let m = c.args.m.now in
    let f = c.requires.front in
    let x = call_next m n c.args.k c.args.rest s j f.earlier c.in-Call.field-0 (f.cells ∙ ap (λ (x : Cell). x ∷ items_at m.world.second.now c.args.rest) c.in-Call.is) in
    let y = x.0 in
    ap built.indicator_of (x.2 ∙ same_goal (look_at s.branches) y.goal t y.cut cut y.items items y.state st y.behind behind y.look look)
