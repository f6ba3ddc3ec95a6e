use Rattle.std.proofs.Common.{rules, ◌≡◌, [], ◌++◌, sym, subst, ap, ◌∙◌, append-nil}
use Rattle.std.specs.Prelude.{None, Some, slice_get, IfOk}
use Rattle.spec_linear.specs.Solution.{Solvable}
use Rattle.cq_project.specs.Sifting.{SiftsBeside, IsToldWith, RefusesSifting, SpendsSifting}
use Rattle.cq_project.proofs.Halves.{nothing_sifted}
use Rattle.cq_project.proofs.Parts.{none_told, no_rows, only_row}
use Rattle.cq_project.proofs.sift.sift_few.Goals as goal

pub returns-in-None-clause-sifts : goal.returns-in-None-clause-sifts
returns-in-None-clause-sifts c =
    let none : slice_get c.args.rows.now 0 ≡ None = search rules in
    subst (λ l. SiftsBeside c.args.store.now.told l c.new.result.items) (sym (no_rows c.args.rows.now none))
    (subst (SiftsBeside c.args.store.now.told []) (sym c.new.ensures.items) (nothing_sifted c.args.store.now.told))

pub returns-in-None-clause-told : goal.returns-in-None-clause-told
returns-in-None-clause-told c = sym (append-nil c.args.store.now.told) ∙ ap (λ l. c.args.store.now.told ++ l) (sym c.new.ensures.items)

pub returns-in-None-clause-part : goal.returns-in-None-clause-part
returns-in-None-clause-part c = none_told c.args.store.now.told c.args.rows.now

pub sift_one-requires : goal.sift_one-requires
sift_one-requires c =
    let some : slice_get c.args.rows.now 0 ≡ Some c.in-Some.row.now = search rules in
    record { solvable = subst (λ l. Solvable (c.args.store.now.told ++ l)) (only_row c.args.rows.now c.in-Some.row.now c.requires.few some) c.requires.solvable }

pub returns-in-Some-clause-sifts : goal.returns-in-Some-clause-sifts
returns-in-Some-clause-sifts c =
    let some : slice_get c.args.rows.now 0 ≡ Some c.in-Some.row.now = search rules in
    subst (λ l. IfOk c.sift_one.result (λ kept. SiftsBeside c.args.store.now.told l kept.items)) (sym (only_row c.args.rows.now c.in-Some.row.now c.requires.few some)) c.sift_one.ensures.sifts

pub returns-in-Some-clause-overflow : goal.returns-in-Some-clause-overflow
returns-in-Some-clause-overflow c = λ pair e.
    let some : slice_get c.args.rows.now 0 ≡ Some c.in-Some.row.now = search rules in
    subst (λ l. RefusesSifting c.args.store.now.told l pair) (sym (only_row c.args.rows.now c.in-Some.row.now c.requires.few some)) (c.sift_one.ensures.overflow pair e)

pub returns-in-Some-clause-pivots : goal.returns-in-Some-clause-pivots
returns-in-Some-clause-pivots c = λ n e.
    let some : slice_get c.args.rows.now 0 ≡ Some c.in-Some.row.now = search rules in
    let o = c.sift_one.ensures.pivots n e in
    (o.0, subst (λ l. SpendsSifting c.args.store.now.told l n) (sym (only_row c.args.rows.now c.in-Some.row.now c.requires.few some)) o.1)

pub returns-in-Some-clause-part : goal.returns-in-Some-clause-part
returns-in-Some-clause-part c =
    let some : slice_get c.args.rows.now 0 ≡ Some c.in-Some.row.now = search rules in
    subst (λ l. IsToldWith c.args.store.now.told l c.sift_one.new.store.told) (sym (only_row c.args.rows.now c.in-Some.row.now c.requires.few some)) c.sift_one.ensures.part
