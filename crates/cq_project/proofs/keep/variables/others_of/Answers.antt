use Rattle.std.proofs.Common.{sym, subst}
use Rattle.spec_projection.specs.Others.{AreOthers}
use Rattle.cq_equations.specs.Told.{numbers_of}
use Rattle.cq_project.proofs.Listing.{others_are}
use Rattle.cq_project.proofs.keep.variables.others_of.Goals as goal

pub returns : goal.returns
returns c =
    let targets = numbers_of c.args.targets.now in
    subst (λ vs. AreOthers targets c.args.told.now (numbers_of vs)) (sym c.reverse.ensures.items) (others_are targets c.args.told.now c.in_ok-front.front.items c.in_ok-front.ensures)
