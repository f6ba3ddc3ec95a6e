use Rattle.std.proofs.Common.{sym, ◌∙◌}
use Rattle.cq_elimination.proofs.Same.{forms_one}
use Rattle.cq_elimination.proofs.rows.are_one.Goals as goal

pub returns-then-eq : goal.returns-then-eq
returns-then-eq c =
    forms_one c.args.f.now c.args.g.now c.entries.result.now c.entries-then-eq.result.now c.have_same_entries.result c.entries.ensures.value
    c.entries-then-eq.ensures.value (sym c.constant.ensures ∙ c.eq.ensures.same.0 c.if-eq.true ∙ c.constant-2.ensures) c.have_same_entries.ensures
