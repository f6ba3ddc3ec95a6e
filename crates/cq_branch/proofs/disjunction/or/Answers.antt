use Rattle.std.proofs.Common.{refl, subst}
use Rattle.spec_syntax.specs.Trees.{Tree}
use Rattle.cq_settle.specs.Worlds.{now_of}
use Rattle.cq_branch.specs.Sides.{IsPlain}
use Rattle.cq_branch.proofs.Added.{reads_tree}
use Rattle.cq_branch.proofs.disjunction.or.Goals as goal

pub returns-in_ok-k-in-None-clause-row : goal.returns-in_ok-k-in-None-clause-row
returns-in_ok-k-in-None-clause-row c = λ v p behind a b s ra rb.
    let texts = c.args.atoms.now in
    c.in_ok-k-in-None.ensures.row texts v p behind a b s ra rb
    (subst (λ (t : Tree). IsPlain t) (reads_tree texts (now_of c.args.world.now.first) p.state c.args.left a ra) (c.in-None.ensures.none refl))
