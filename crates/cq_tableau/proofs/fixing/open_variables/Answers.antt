use Rattle.std.proofs.Common.{◌∙◌, ◌+◌, List, Option, arith, ap, sym, subst}
use Rattle.std.specs.Prelude.{MatchOption}
use Rattle.cq_frac.specs.declared.VarId.{VarId}
use Rattle.cq_tableau.specs.Fixing.{HasNumber, IsOpenHere, AreOpen}
use Rattle.cq_tableau.proofs.Opens.{not_open, one_open}
use Rattle.cq_tableau.proofs.fixing.open_variables.Goals as goal
use Rattle.cq_tableau.proofs.fixing.open_variables.Goals.{in-Some+in_ok-push, in_default}

pub loop-n-preserved : goal.loop-n-preserved
loop-n-preserved c =
    let names = c.args.names.now.now in
    let roles = c.args.dict.now.roles in
    elim c.match-open_variable.branch [
      | in-Some+in_ok-push w ↦
          let h = subst (λ (o : Option VarId). MatchOption o (HasNumber names roles c.loop-n.n) (λ x. IsOpenHere names roles c.loop-n.n x)) w.in-Some.is c.open_variable.ensures in
          subst (λ (s : List VarId). AreOpen names roles (c.loop-n.n + 1) s) (sym (ap (λ v. v.items) w.found-is ∙ w.in_ok-push.ensures.items))
          (one_open (λ n. n) names roles c.loop-n.n c.loop-n.found.items c.loop-n.invariant c.requires.once (λ k l e. absurd (omega (arith, l, e))) w.in-Some.x h)
      | in_default w ↦
          let h = subst (λ (o : Option VarId). MatchOption o (HasNumber names roles c.loop-n.n) (λ x. IsOpenHere names roles c.loop-n.n x)) w.in_default.is c.open_variable.ensures in
          subst (λ (s : List VarId). AreOpen names roles (c.loop-n.n + 1) s) (sym (ap (λ v. v.items) w.found-is)) (not_open (λ n. n) names roles c.loop-n.n c.loop-n.found.items c.loop-n.invariant h)
    ]
