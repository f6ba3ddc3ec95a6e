use Rattle.std.proofs.Common.{nat_eq, ◌≡◌, ◌++◌, [], ◌∷◌, ◌-◌, ℕ, Some, arith, sym, subst, inl, inr}
use Rattle.std.proofs.lemmas.List.Elements.{Contains-append_left, Contains-push, Contains-push_cases}
use Rattle.std.proofs.lemmas.List.Filters.{dedup_is}
use Rattle.std.proofs.lemmas.List.Kept.{Contains-dedup_nat, Contains-from_dedup}
use Rattle.std.proofs.lemmas.List.Sorted.{Contains-permutation, IsPermutation-sym}
use Rattle.std.proofs.lemmas.Option.{slice_get-get_or}
use Rattle.std.proofs.lemmas.Map.Keys.{IsStrictlyIncreasing-dedup}
use Rattle.std.specs.List.{Contains}
use Rattle.std.specs.List.Sorted.{IsStrictlyIncreasing}
use Rattle.std.specs.Prelude.{slice_get, slice_index_or}
use Rattle.cq_dict.specs.declared.holders.Cell.{Cell}
use Rattle.cq_dict.specs.Holders.{IsOn}
use Rattle.cq_dict.proofs.Lists.{on_rest, none_on}
use Rattle.cq_dict.proofs.holders.listed.Goals as goal
use Rattle.cq_dict.proofs.holders.listed.Goals.{After-dedup}

pub loop-list-preserved-in_ok-push-2 : goal.loop-list-preserved-in_ok-push-2
loop-list-preserved-in_ok-push-2 c =
    let w = c.loop-list.invariant in
    let k = c.loop-list.list - 1 in
    let cell : Cell = slice_index_or c.args.cells.now (c.loop-list.list - 1) (record { row = 0; older = 0 }) in
    let get : slice_get c.args.cells.now k ≡ Some cell = slice_get-get_or c.args.cells.now k (record { row = 0; older = 0 }) (omega (arith, w.there, c.loop-list-test.true)) in
    let back = c.requires.lists.back k cell get in
    let items = c.in_ok-push-2.ensures.items in
    let rows = c.loop-list.rows.items in
    record {
      there = omega (arith, back, w.there);
      own = subst (λ z. Contains z c.args.column) (sym items) (Contains-append_left rows (cell.row ∷ []) c.args.column w.own);
      within = λ r h.
          elim (Contains-push_cases rows cell.row r (subst (λ z. Contains z r) items h)) [
            | inl m ↦ w.within r m
            | inr e ↦ omega (arith, e, c.if-cell-count.true)
          ];
      all = λ r l h.
          elim (w.all r l h) [
            | inl m ↦ inl (subst (λ z. Contains z r) (sym items) (Contains-append_left rows (cell.row ∷ []) r m))
            | inr o ↦ elim (on_rest c.args.cells.now c.loop-list.list cell k r (omega (arith, c.loop-list-test.true)) get o) [
              | inl e ↦ inl (subst (λ z. Contains z r) (sym items) (subst (Contains (rows ++ cell.row ∷ [])) (sym e) (Contains-push rows cell.row)))
              | inr p ↦ inr p
            ]
          ];
    }

pub loop-list-preserved : goal.loop-list-preserved
loop-list-preserved c =
    let w = c.loop-list.invariant in
    let k = c.loop-list.list - 1 in
    let cell : Cell = slice_index_or c.args.cells.now (c.loop-list.list - 1) (record { row = 0; older = 0 }) in
    let get : slice_get c.args.cells.now k ≡ Some cell = slice_get-get_or c.args.cells.now k (record { row = 0; older = 0 }) (omega (arith, w.there, c.loop-list-test.true)) in
    let back = c.requires.lists.back k cell get in
    record {
      there = omega (arith, back, w.there);
      own = w.own;
      within = w.within;
      all = λ r l h.
          elim (w.all r l h) [
            | inl m ↦ inl m
            | inr o ↦ elim (on_rest c.args.cells.now c.loop-list.list cell k r (omega (arith, c.loop-list-test.true)) get o) [
              | inl e ↦ absurd (omega (arith, e, l, c.if-cell-count.false))
              | inr p ↦ inr p
            ]
          ];
    }

pub loop-list-smaller : goal.loop-list-smaller
loop-list-smaller c =
    let k = c.loop-list.list - 1 in
    let cell : Cell = slice_index_or c.args.cells.now (c.loop-list.list - 1) (record { row = 0; older = 0 }) in
    let get : slice_get c.args.cells.now k ≡ Some cell = slice_get-get_or c.args.cells.now k (record { row = 0; older = 0 }) (omega (arith, c.loop-list.invariant.there, c.loop-list-test.true)) in
    let back = c.requires.lists.back k cell get in
    omega (arith, back, c.loop-list-test.true)

kept : (c : After-dedup) (r : ℕ) → Contains c.loop-list.rows.items r → Contains c.dedup.new.self.items r
kept c r h =
    subst (λ z. Contains z r) (sym (dedup_is nat_eq _ _ c.dedup.ensures.filtered))
    (Contains-dedup_nat c.sort_unstable.new.self.items r (Contains-permutation c.loop-list.rows.items c.sort_unstable.new.self.items r c.sort_unstable.ensures.permutation h))

pub returns-clause-within : goal.returns-clause-within
returns-clause-within c = λ r h.
    c.loop-list.invariant.within r
    (Contains-permutation c.sort_unstable.new.self.items c.loop-list.rows.items r (IsPermutation-sym c.loop-list.rows.items c.sort_unstable.new.self.items c.sort_unstable.ensures.permutation)
    (Contains-from_dedup nat_eq c.sort_unstable.new.self.items r (subst (λ z. Contains z r) (dedup_is nat_eq _ _ c.dedup.ensures.filtered) h)))

pub returns-clause-ascending : goal.returns-clause-ascending
returns-clause-ascending c =
    subst IsStrictlyIncreasing (sym (dedup_is nat_eq _ _ c.dedup.ensures.filtered)) (IsStrictlyIncreasing-dedup c.sort_unstable.new.self.items c.sort_unstable.ensures.sorted)

pub returns-clause-own : goal.returns-clause-own
returns-clause-own c =
    let k = goal.at.returns-clause-own c in
    kept k.After-dedup c.args.column c.loop-list.invariant.own

pub returns-clause-all : goal.returns-clause-all
returns-clause-all c = λ r l h.
    let k = goal.at.returns-clause-all c in
    elim (c.loop-list.invariant.all r l h) [
      | inl m ↦ kept k.After-dedup r m
      | inr o ↦ (let e : c.loop-list.list ≡ 0 = omega (arith, c.loop-list-test.false) in absurd (none_on c.args.cells.now r (subst (λ z. IsOn c.args.cells.now z r) e o)))
    ]
