use Rattle.std.proofs.Common.{◌∷◌, Some, ap, ◌∙◌, sym}
use Rattle.spec_builtins.specs.Kinds.{is_callable}
use Rattle.cq_control.specs.Items.{items_at}
use Rattle.spec_engine.specs.declared.machine.cell.Cell.TheVariants.{Goal}
use Rattle.cq_branch.specs.Worlds.{saved_values}
use Rattle.cq_branch.proofs.Added.{reads_tree}
use Rattle.cq_machine.specs.Machines.{now, saved, holds}
use Rattle.cq_machine.proofs.Built.{put_leads, last_cells}
use Rattle.cq_machine.proofs.Kept.{leads_over}
use Rattle.cq_machine.proofs.building.put.Goals as goal

pub returns-clause-row : goal.returns-clause-row
returns-clause-row c = λ p behind id g put s r.
    let m = c.args.m.now in
    leads_over m.atoms m.clauses (saved m) _ m.choices _ (Some c.in_ok-k.k) p behind _
    (ap (λ l. saved_values m.world.first l) c.in_ok-k.ensures.saved)
    (put_leads m.atoms (now m).0 (now m).1 c.before-2.new.self.now c.args.height c.args.rest p behind (holds m) s.selected c.in_ok-k.k c.args.goal put
    (last_cells m.world.second.now c.before-2.new.self.now c.in_ok-k.k (Goal c.args.goal c.args.height ∷ items_at m.world.second.now c.args.rest) c.in_ok-k.ensures.number c.in_ok-k.ensures.now)
    (ap is_callable (sym (reads_tree m.atoms (now m).0 p.state c.args.goal put r)) ∙ c.requires.callable) r)
