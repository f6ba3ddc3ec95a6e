use Rattle.std.proofs.Common.{◌<◌, ◌++◌, [], ◌∷◌, length, arith, ap, ap₂, sym, append_assoc, ◌∙◌}
use Rattle.spec_simplex.specs.Entries.{entries}
use Rattle.cq_form.specs.Entries.{products_of}
use Rattle.cq_tableau.specs.Refuted.{number_in}
use Rattle.std.proofs.Common.{take}
use Rattle.cq_tableau.proofs.Certified.{entries-next}
use Rattle.cq_tableau.proofs.refuting.add_members.Goals as goal

pub loop-m-preserved : goal.loop-m-preserved
loop-m-preserved c =
    let l : c.loop-m.m-index < length c.args.row.now = omega arith in
    let number = number_in c.args.names.now.now in
    c.in_ok-push.ensures.items
    ∙ ap₂ (λ s e. s ++ e ∷ []) c.loop-m.invariant (λ i. (c.member_number.ensures i, c.neg.ensures i))
    ∙ append_assoc c.args.cert.now.items (entries number (products_of (take c.loop-m.m-index c.args.row.now))) _
    ∙ ap (λ s. c.args.cert.now.items ++ s) (sym (entries-next number c.args.row.now c.loop-m.m-index c.m-item.result l c.m-item.is))
