use Rattle.std.proofs.Common.{◌∙◌, ◌+◌, ◌<◌, List, Option, length, arith, ap, sym, subst}
use Rattle.std.specs.Prelude.{slice_index, MatchOption}
use Rattle.cq_frac.specs.declared.VarId.{VarId}
use Rattle.cq_tableau.specs.Fixing.{HasNumber, IsOpenHere, AreOpenAmong}
use Rattle.cq_tableau.proofs.Opens.{not_open, one_open, ascending_apart}
use Rattle.cq_tableau.proofs.fixing.open_among.Goals as goal
use Rattle.cq_tableau.proofs.fixing.open_among.Goals.{in-Some+in_ok-push, in_default}

pub loop-n-preserved : goal.loop-n-preserved
loop-n-preserved c =
    let names = c.args.names.now.now in
    let roles = c.args.dict.now.roles in
    let rows = c.args.rows.now in
    let k = c.loop-n.n-index in
    let n = slice_index c.args.rows.now c.loop-n.n-index in
    let l : c.loop-n.n-index < length c.args.rows.now = omega arith in
    elim c.match-open_if_named.branch [
      | in-Some+in_ok-push w ↦
          let h = subst (λ (o : Option VarId). MatchOption o (HasNumber names roles n) (λ x. IsOpenHere names roles n x)) w.in-Some.is c.open_if_named.ensures in
          subst (λ (s : List VarId). AreOpenAmong rows names roles (k + 1) s) (sym (ap (λ v. v.items) w.found-is ∙ w.in_ok-push.ensures.items))
          (one_open (slice_index rows) names roles k c.loop-n.found.items c.loop-n.invariant c.requires.once (ascending_apart rows c.requires.ascending k l) w.in-Some.x h)
      | in_default w ↦
          let h = subst (λ (o : Option VarId). MatchOption o (HasNumber names roles n) (λ x. IsOpenHere names roles n x)) w.in_default.is c.open_if_named.ensures in
          subst (λ (s : List VarId). AreOpenAmong rows names roles (k + 1) s) (sym (ap (λ v. v.items) w.found-is))
          (not_open (slice_index rows) names roles k c.loop-n.found.items c.loop-n.invariant h)
    ]
