use Rattle.std.proofs.Common.{◌≡◌, ◌<◌, ◌≤◌, ◌∙◌, ℕ, List, false, vec_len, length, sym, subst, arith}
use Rattle.std.specs.Prelude.{Contains}
use Rattle.std.proofs.lemmas.List.{take_all}
use Rattle.cq_attr.specs.Attributes.{is_numeric}
use Rattle.cq_frac.specs.declared.VarId.{VarId}
use Rattle.cq_term.specs.Places.{numbers_of}
use Rattle.cq_settle.proofs.Idle.{empty_list, one_more}
use Rattle.cq_branch.proofs.Free.{is_free_then}
use Rattle.cq_branch.proofs.begin.entering.is_free.Goals as goal

pub loop-variable-preserved : goal.loop-variable-preserved
loop-variable-preserved c =
    let i = c.loop-variable.variable-index in
    let d : VarId = record { 0 = 0 } in
    let at : i < length c.args.newly.now = omega (arith, c.loop-variable-test.true) in
    one_more c.args.attrs.now.now c.args.newly.now i d at c.loop-variable.invariant (sym c.is_numeric.ensures ∙ c.if-is_numeric.false)

pub returns-in-Ok : goal.returns-in-Ok
returns-in-Ok c = λ e.
    let all : length c.args.newly.now ≤ c.loop-variable.variable-index = omega (arith, c.loop-variable-test.false) in
    is_free_then c.args.attrs.now.now c.args.newly.now
    (subst (λ (vs : List VarId). (v : ℕ) → Contains (numbers_of vs) v → is_numeric c.args.attrs.now.now v ≡ false) (take_all c.loop-variable.variable-index c.args.newly.now all)
    c.loop-variable.invariant)
    c.in-Ok.woken.items (empty_list c.in-Ok.woken.items (vec_len c.in-Ok.woken) c.is_empty.result (omega (arith, c.in-Ok.woken.ok.0)) c.is_empty.ensures e) c.in-Ok.ensures.all
