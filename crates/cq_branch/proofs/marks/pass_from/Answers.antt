use Rattle.std.proofs.Common.{ℕ, Option, None, subst}
use Rattle.cq_branch.specs.Worlds.{value, saved_values, Stands}
use Rattle.cq_branch.proofs.Older.{older_all}
use Rattle.cq_branch.proofs.Passing.{here}
use Rattle.cq_branch.proofs.marks.pass_from.Goals as goal

pub returns-in-None-clause-arrives : goal.returns-in-None-clause-arrives
returns-in-None-clause-arrives c = λ steps texts v db n s j.
    let saved = saved_values c.args.world.now.first c.args.world.now.second.saved in
    let now = value c.args.world.now.first c.args.world.now.second.now in
    here steps texts v db n s saved c.args.choices.now now None (subst (λ (k : Option ℕ). Stands texts v db n saved c.args.choices.now now k s) c.in-None.is j)

pub returns-in-None-clause-older : goal.returns-in-None-clause-older
returns-in-None-clause-older c = older_all (saved_values c.args.world.now.first c.args.world.now.second.saved) c.args.choices.now
