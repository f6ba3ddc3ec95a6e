-- The dictionary's row.
use Rattle.std.proofs.Common.{ap, ◌∙◌, slice_get}
use Rattle.cq_equations.proofs.table.Table.lead.Goals as goal

pub row-requires : goal.row-requires
row-requires c = rw (← c.self.view_is) at c.requires

pub constant-requires : goal.constant-requires
constant-requires c = rw (← c.self.view_is) at c.requires

pub returns : goal.returns
returns c = λ own h.
    let a = rw (← c.self.view_is) at h in
    (c.constant.ensures own a, c.copied-first.ensures ∙ c.first.ensures.value ∙ ap (λ s. slice_get s 0) (c.row.ensures.entries own a))
