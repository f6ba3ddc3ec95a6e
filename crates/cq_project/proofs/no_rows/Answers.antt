use Rattle.cq_project.proofs.Nothing.{nothing}
use Rattle.cq_project.proofs.no_rows.Goals as goal

pub returns : goal.returns
returns c = nothing c.args.told.now c.requires.equal c.see_forms.ensures c.requires.solvable _ c.new.ensures.items c.new-2.ensures.items c.new-3.ensures.items c.new-4.ensures.items
