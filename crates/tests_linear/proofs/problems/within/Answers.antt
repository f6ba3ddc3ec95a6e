use Rattle.std.proofs.Common.{◌≡◌, ◌<◌, ◌∷◌, ◌++◌, [], inl, inr, length, take, take_all, arith, rules, ap, sym, subst, ◌∙◌}
use Rattle.std.proofs.lemmas.List.{take_more}
use Rattle.cq_frac.specs.declared.row.Entry.{Entry}
use Rattle.cq_frac.specs.Rows.{Has}
use Rattle.cq_frac.proofs.Steps.{has_end}
use Rattle.tests_linear.proofs.problems.within.Goals as goal

pub loop-m-preserved : goal.loop-m-preserved
loop-m-preserved c = λ n h.
    let l : c.loop-m.m-index < length c.args.form.now = omega arith in
    let e = take_more c.args.form.now c.loop-m.m-index c.m-item.result l ∙ ap (λ x. take c.loop-m.m-index c.args.form.now ++ x ∷ []) (sym c.m-item.is) in
    elim (has_end (take c.loop-m.m-index c.args.form.now) n c.m-item.result (subst (Has n) e h)) [
      | inl k ↦ c.loop-m.invariant n k
      | inr f ↦ let g : n.quantity ≡ c.m-item.result.quantity = ap (λ (t : Entry). t.quantity) f in let d = c.if-m-count.false in omega (arith, g, d)
    ]

pub returns : goal.returns
returns c =
    let e : take c.loop-m.m-index c.args.form.now ≡ c.args.form.now = search (rules, take_all) in
    subst (λ s. (m : Entry) → Has m s → m.quantity < c.args.count) e c.loop-m.invariant
