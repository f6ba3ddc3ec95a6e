use Rattle.std.proofs.Common.{◌≡◌, ◌<◌, ◌≤◌, ◌∙◌, ℕ, List, false, refl, vec_len, length, get_or, Ok, sym, ap, subst, arith}
use Rattle.std.specs.Prelude.{Contains}
use Rattle.std.proofs.lemmas.List.{take_all}
use Rattle.std.proofs.lemmas.Bool.{true≢false}
use Rattle.cq_attr.specs.Attributes.{is_numeric, IsWokenBy}
use Rattle.cq_frac.specs.declared.VarId.{VarId}
use Rattle.cq_term.specs.Places.{numbers_of}
use Rattle.cq_settle.specs.Worlds.{now_of}
use Rattle.cq_settle.proofs.Idle.{empty_list, not_empty, no_length, nothing_in, at_place, one_more, is_idle_then, nothing_bound}
use Rattle.cq_settle.proofs.settling.is_idle.Goals as goal

pub loop-variable-preserved : goal.loop-variable-preserved
loop-variable-preserved c =
    let i = c.loop-variable.variable-index in
    let d : VarId = record { 0 = 0 } in
    let at : i < length c.as_slice-newly.result.now = omega (arith, c.loop-variable-test.true) in
    one_more c.args.world.now.attrs.now c.as_slice-newly.result.now i d at c.loop-variable.invariant (sym c.is_numeric.ensures ∙ c.if-is_numeric.false)

pub returns-then-is_empty-clause-idle : goal.returns-then-is_empty-clause-idle
returns-then-is_empty-clause-idle c = λ e.
    let vs = c.as_slice-newly.result.now in
    nothing_bound (now_of c.args.world.now) c.args.work.now.newly vs c.args.work.now.told.items c.args.work.now.rows.items
    (empty_list c.args.work.now.told.items (vec_len c.args.work.now.told) c.is_empty.result (omega (arith, c.args.work.now.told.ok.0)) c.is_empty.ensures c.if-not-is_empty.false)
    (empty_list c.args.work.now.rows.items (vec_len c.args.work.now.rows) c.is_empty-2.result (omega (arith, c.args.work.now.rows.ok.0)) c.is_empty-2.ensures c.if-not-is_empty-2.false) c.as_slice-newly.ensures
    (empty_list vs (length vs) c.is_empty-3.result refl c.is_empty-3.ensures c.if-is_empty.true)

pub returns-clause-idle : goal.returns-clause-idle
returns-clause-idle c = λ e.
    let all : length c.as_slice-newly.result.now ≤ c.loop-variable.variable-index = omega (arith, c.loop-variable-test.false) in
    is_idle_then (now_of c.args.world.now) c.args.work.now.newly c.as_slice-newly.result.now c.args.work.now.told.items c.args.work.now.rows.items
    (empty_list c.args.work.now.told.items (vec_len c.args.work.now.told) c.is_empty.result (omega (arith, c.args.work.now.told.ok.0)) c.is_empty.ensures c.if-not-is_empty.false)
    (empty_list c.args.work.now.rows.items (vec_len c.args.work.now.rows) c.is_empty-2.result (omega (arith, c.args.work.now.rows.ok.0)) c.is_empty-2.ensures c.if-not-is_empty-2.false) c.as_slice-newly.ensures
    (subst (λ (vs : List VarId). (v : ℕ) → Contains (numbers_of vs) v → is_numeric c.args.world.now.attrs.now v ≡ false) (take_all c.loop-variable.variable-index c.as_slice-newly.result.now all)
    c.loop-variable.invariant)
    c.in_ok-woken.woken.items (empty_list c.in_ok-woken.woken.items (vec_len c.in_ok-woken.woken) c.is_empty-4.result (omega (arith, c.in_ok-woken.woken.ok.0)) c.is_empty-4.ensures e) c.in_ok-woken.ensures.all

pub returns-then-not-is_empty-clause-seen : goal.returns-then-not-is_empty-clause-seen
returns-then-not-is_empty-clause-seen c = λ k.
    absurd (not_empty c.args.work.now.told.items (vec_len c.args.work.now.told) c.is_empty.result (omega (arith, c.args.work.now.told.ok.0)) c.is_empty.ensures c.if-not-is_empty.true k.nothing_told)

pub returns-then-not-is_empty-2-clause-seen : goal.returns-then-not-is_empty-2-clause-seen
returns-then-not-is_empty-2-clause-seen c = λ k.
    absurd (not_empty c.args.work.now.rows.items (vec_len c.args.work.now.rows) c.is_empty-2.result (omega (arith, c.args.work.now.rows.ok.0)) c.is_empty-2.ensures c.if-not-is_empty-2.true k.no_rows)

pub returns-then-is_numeric-clause-seen : goal.returns-then-is_numeric-clause-seen
returns-then-is_numeric-clause-seen c = λ k.
    let i = c.loop-variable.variable-index in
    let d : VarId = record { 0 = 0 } in
    let vs = c.as_slice-newly.result.now in
    let at : i < length vs = omega (arith, c.loop-variable-test.true) in
    let h : Contains (numbers_of c.args.work.now.newly) (get_or vs i d).0 = subst (λ (us : List VarId). Contains (numbers_of us) (get_or vs i d).0) c.as_slice-newly.ensures (at_place vs i d at) in
    absurd (true≢false (sym c.if-is_numeric.true ∙ c.is_numeric.ensures ∙ k.numeric (get_or vs i d).0 h))

pub returns-in_err-woken-clause-seen : goal.returns-in_err-woken-clause-seen
returns-in_err-woken-clause-seen c = λ k.
    let w = c.in_err-woken.ensures.err in
    absurd (k.awaited w.0 (subst (λ (us : List VarId). IsWokenBy c.args.world.now.attrs.now (numbers_of us) w.0) c.as_slice-newly.ensures w.1))

pub returns-clause-seen : goal.returns-clause-seen
returns-clause-seen c = λ k.
    let none = nothing_in c.in_ok-woken.woken.items (λ n h. k.awaited n
    (subst (λ (us : List VarId). IsWokenBy c.args.world.now.attrs.now (numbers_of us) n) c.as_slice-newly.ensures (c.in_ok-woken.ensures.woken n h))) in
    ap Ok (c.is_empty-4.ensures ∙ sym (no_length c.in_ok-woken.woken.items (vec_len c.in_ok-woken.woken) (omega (arith, c.in_ok-woken.woken.ok.0)) none))
