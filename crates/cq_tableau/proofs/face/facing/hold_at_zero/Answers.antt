use Rattle.std.proofs.Common.{◌<◌, true, ap, sym, subst, ◌∙◌, arith}
use Rattle.std.specs.Prelude.{slice_set}
use Rattle.cq_tableau.specs.Faced.{HoldsAtZero}
use Rattle.cq_tableau.proofs.Faces.{face_live, face_there, holds_at_zero}
use Rattle.cq_tableau.proofs.face.facing.hold_at_zero.Goals as goal

pub prove-unreachable-requires : goal.prove-unreachable-requires
prove-unreachable-requires c =
    omega (arith, c.if-prove.true, c.count.ensures.value, face_there c.args.q c.args.dict.now.roles c.args.dict.now.restricted c.args.columns.now c.requires.face)

pub drop_all-requires-clause-live : goal.drop_all-requires-clause-live
drop_all-requires-clause-live c = face_live c.args.q c.args.dict.now.roles c.args.dict.now.restricted c.args.columns.now c.requires.face

pub restrict-requires : goal.restrict-requires
restrict-requires c =
    subst (λ n. c.args.q < n) (sym c.in_ok-drop_all.ensures.dropped.size) (face_there c.args.q c.args.dict.now.roles c.args.dict.now.restricted c.args.columns.now c.requires.face)

pub returns-clause-holds : goal.returns-clause-holds
returns-clause-holds c =
    let e = c.in_ok-restrict.ensures in
    subst (λ r. HoldsAtZero c.args.q c.args.dict.now.roles c.args.dict.now.restricted r c.restrict.new.self.restricted) (sym e.roles)
    (holds_at_zero c.args.q c.args.dict.now.roles c.args.dict.now.restricted c.args.columns.now c.requires.face c.drop_all.new.dict.roles c.in_ok-drop_all.ensures.dropped
    c.restrict.new.self.restricted (e.flags ∙ ap (λ f. slice_set f c.args.q true) c.in_ok-drop_all.ensures.flags))
