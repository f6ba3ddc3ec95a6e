use Rattle.std.proofs.Common.{ℕ, ◌<◌, ◌≤◌, List, length, ap, subst, arith}
use Rattle.std.specs.Prelude.{Contains}
use Rattle.std.proofs.lemmas.List.{take_all}
use Rattle.std.proofs.lemmas.List.Filters.{dedup_is}
use Rattle.std.proofs.lemmas.List.Kept.{AllPairs-from_increasing, Contains-dedup_nat, Contains-from_dedup}
use Rattle.std.proofs.lemmas.List.Sorted.{Contains-permutation, IsPermutation-sym}
use Rattle.std.proofs.lemmas.Map.Keys.{IsStrictlyIncreasing-dedup}
use Rattle.cq_frac.specs.declared.VarId.{VarId}
use Rattle.cq_attr.proofs.Elements.{contains_none, on_err}
use Rattle.cq_term.specs.Places.{numbers_of}
use Rattle.cq_attr.proofs.Awake.{Found, found_more, woken_from, found_woken, woken_by, none_woken, ascends_short}
use Rattle.cq_attr.proofs.attrs.Attrs.woken.Goals as goal

pub returns-in_err-find_awake-clause-err : goal.returns-in_err-find_awake-clause-err
returns-in_err-find_awake-clause-err c =
    let d : VarId = record { 0 = 0 } in
    let i = c.loop-variable.variable-index in
    let within : i < length c.args.newly.now = omega (arith, c.loop-variable-test.true) in
    let a = c.in_err-find_awake.ensures.err in
    on_err c.from_residual.result (a.0, rw (← c.self.view_is) (woken_by c.self.inside.parts.inner.second.first.now c.self.inside.parts.inner.second.second.now c.args.newly.now c.self.inside.parts.inner.first.now i d a.0 within a.1))

pub returns-then-is_empty-clause-woken : goal.returns-then-is_empty-clause-woken
returns-then-is_empty-clause-woken c = λ n h. absurd (contains_none n (subst (λ (ns : List ℕ). Contains ns n) c.new-found.ensures.items h))

pub returns-then-is_empty-clause-ascending : goal.returns-then-is_empty-clause-ascending
returns-then-is_empty-clause-ascending c = ascends_short c.new-found.result.items (omega (arith, ap length c.new-found.ensures.items))

pub returns-then-is_empty-clause-all : goal.returns-then-is_empty-clause-all
returns-then-is_empty-clause-all c = λ n h.
    absurd (none_woken c.self.inside.parts.inner.first.now c.self.inside.parts.inner.second.first.now c.self.inside.parts.inner.second.second.now (numbers_of c.args.newly.now) n (c.is_empty.ensures.0 c.if-is_empty.true) (rw (← c.self.view_is) at h))

pub loop-variable-preserved : goal.loop-variable-preserved
loop-variable-preserved c =
    let d : VarId = record { 0 = 0 } in
    let i = c.loop-variable.variable-index in
    let within : i < length c.args.newly.now = omega (arith, c.loop-variable-test.true) in
    found_more c.self.inside.parts.inner.second.first.now c.self.inside.parts.inner.second.second.now c.args.newly.now i d c.loop-variable.found.items c.find_awake.new.found.items c.loop-variable.invariant within
    c.in_ok-find_awake.ensures.kept c.in_ok-find_awake.ensures.awake c.in_ok-find_awake.ensures.all

pub returns-then-len-lt2-clause-woken : goal.returns-then-len-lt2-clause-woken
returns-then-len-lt2-clause-woken c = λ n h.
    let vs = c.args.newly.now in
    let all : length vs ≤ c.loop-variable.variable-index = omega (arith, c.loop-variable-test.false) in
    let found : Found c.self.inside.parts.inner.second.first.now c.self.inside.parts.inner.second.second.now vs c.loop-variable.found.items = rw (take_all c.loop-variable.variable-index vs all) at c.loop-variable.invariant in
    rw (← c.self.view_is) (woken_from c.self.inside.parts.inner.second.first.now c.self.inside.parts.inner.second.second.now vs c.self.inside.parts.inner.first.now c.loop-variable.found.items found n h)

pub returns-then-len-lt2-clause-all : goal.returns-then-len-lt2-clause-all
returns-then-len-lt2-clause-all c = λ n h.
    let vs = c.args.newly.now in
    let all : length vs ≤ c.loop-variable.variable-index = omega (arith, c.loop-variable-test.false) in
    let found : Found c.self.inside.parts.inner.second.first.now c.self.inside.parts.inner.second.second.now vs c.loop-variable.found.items = rw (take_all c.loop-variable.variable-index vs all) at c.loop-variable.invariant in
    found_woken c.self.inside.parts.inner.second.first.now c.self.inside.parts.inner.second.second.now vs c.self.inside.parts.inner.first.now c.loop-variable.found.items found n (rw (← c.self.view_is) at h)

pub returns-then-len-lt2-clause-ascending : goal.returns-then-len-lt2-clause-ascending
returns-then-len-lt2-clause-ascending c = ascends_short c.loop-variable.found.items (omega (arith, c.if-len-lt2.true, c.len.ensures, c.loop-variable.found.ok.0))

pub returns-clause-woken : goal.returns-clause-woken
returns-clause-woken c = λ n h.
    let ws = c.self.inside.parts.inner.second.first.now in
    let ss = c.self.inside.parts.inner.second.second.now in
    let vs = c.args.newly.now in
    let all : length vs ≤ c.loop-variable.variable-index = omega (arith, c.loop-variable-test.false) in
    let found : Found ws ss vs c.loop-variable.found.items = rw (take_all c.loop-variable.variable-index vs all) at c.loop-variable.invariant in
    let is = dedup_is _ _ _ c.dedup.ensures.filtered in
    rw (← c.self.view_is)
    (woken_from ws ss vs c.self.inside.parts.inner.first.now c.loop-variable.found.items found n
    (Contains-permutation _ _ n (IsPermutation-sym _ _ c.sort_unstable.ensures.permutation) (Contains-from_dedup _ _ n (rw is at h))))

pub returns-clause-all : goal.returns-clause-all
returns-clause-all c = λ n h.
    let ws = c.self.inside.parts.inner.second.first.now in
    let ss = c.self.inside.parts.inner.second.second.now in
    let vs = c.args.newly.now in
    let all : length vs ≤ c.loop-variable.variable-index = omega (arith, c.loop-variable-test.false) in
    let found : Found ws ss vs c.loop-variable.found.items = rw (take_all c.loop-variable.variable-index vs all) at c.loop-variable.invariant in
    let is = dedup_is _ _ _ c.dedup.ensures.filtered in
    rw is (Contains-dedup_nat _ n (Contains-permutation _ _ n c.sort_unstable.ensures.permutation
    (found_woken ws ss vs c.self.inside.parts.inner.first.now c.loop-variable.found.items found n (rw (← c.self.view_is) at h))))

pub returns-clause-ascending : goal.returns-clause-ascending
returns-clause-ascending c =
    let is = dedup_is _ _ _ c.dedup.ensures.filtered in
    rw is (AllPairs-from_increasing _ (IsStrictlyIncreasing-dedup _ c.sort_unstable.ensures.sorted))
