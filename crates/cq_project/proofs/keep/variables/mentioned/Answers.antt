use Rattle.std.proofs.Common.{◌≡◌, ◌↔◌, ◌++◌, ◌<◌, ◌≤◌, ℕ, length, arith, subst}
use Rattle.std.proofs.lemmas.List.{take_all}
use Rattle.spec_linear.specs.Form.{variables}
use Rattle.spec_linear.specs.Solution.{Constraint, Has, SomeMentions}
use Rattle.cq_project.proofs.Listing.{mentioned_more}
use Rattle.cq_project.proofs.keep.variables.mentioned.Goals as goal

pub rows-preserved : goal.rows-preserved
rows-preserved c =
    let within : c.rows.row-index < length c.args.rows.now = omega arith in
    mentioned_more c.args.rows.now c.rows.row-index c.row-item.result c.rows.numbers.items c.note.new.numbers.items within c.row-item.is
    (subst (λ (r : Constraint). c.note.new.numbers.items ≡ c.rows.numbers.items ++ variables r.form.products) c.row.view_is c.in_ok-note.ensures) c.rows.invariant

pub returns : goal.returns
returns c =
    let whole : length c.args.rows.now ≤ c.rows.row-index = omega arith in
    subst (λ l. (x : ℕ) → Has x c.rows.numbers.items ↔ SomeMentions x l) (take_all c.rows.row-index c.args.rows.now whole) c.rows.invariant
