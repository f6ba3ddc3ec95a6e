use Rattle.std.proofs.Common.{rules, ◌≡◌, ◌<◌, ◌≤◌, [], ◌∷◌, ◌++◌, length, get_or, arith, ap, sym, subst, ◌∙◌, append-nil}
use Rattle.std.proofs.lemmas.List.{take_all}
use Rattle.cq_project.proofs.Parts.{next_told}
use Rattle.tests_projection.proofs.given.tells.Goals as goal

pub rows-init : goal.rows-init
rows-init c = sym (append-nil c.args.store.now.told)

pub rows-preserved : goal.rows-preserved
rows-preserved c =
    let within : c.rows.row-index < length c.args.rows.now = omega arith in
    let is = subst (λ d. d ≡ get_or c.args.rows.now c.rows.row-index d) (sym c.in_ok-copy.ensures.cases) c.row-item.is in
    let told : c.tell.new.self.told ≡ c.rows.store.told ++ c.in_ok-copy.copy ∷ [] = search rules in
    told ∙ next_told c.args.store.now.told c.args.rows.now c.rows.store.told c.rows.row-index c.in_ok-copy.copy within is c.rows.invariant

pub returns-clause-told : goal.returns-clause-told
returns-clause-told c = λ all.
    let whole : length c.args.rows.now ≤ c.rows.row-index = omega arith in
    c.rows.invariant ∙ ap (λ l. c.args.store.now.told ++ l) (take_all c.rows.row-index c.args.rows.now whole)
