use Rattle.std.proofs.Common.{◌≡◌, ◌-◌, ◌<◌, suc, length, Some, Err, arith, ap, subst}
use Rattle.std.specs.Prelude.{MatchOption, slice_get, slice_index_or}
use Rattle.std.proofs.lemmas.Option.{slice_get-get_or}
use Rattle.spec_simplex.specs.Rule.{Limits, ratio}
use Rattle.cq_dict.specs.declared.holders.Cell.{Cell}
use Rattle.cq_dict.specs.declared.table.Role.TheVariants.{Live}
use Rattle.cq_dict.specs.Holders.{IsOn}
use Rattle.cq_dict.specs.Roles.{is_restricted}
use Rattle.cq_dict.proofs.Lists.{on_rest, none_on}
use Rattle.cq_dict.proofs.Roles.{at_below, role_live}
use Rattle.cq_simplex.specs.Dictionary.{dictionary}
use Rattle.cq_simplex.proofs.Exits.{pair_kept}
use Rattle.cq_simplex.proofs.Ratios.{First, first_kept, first_more, none_at_end, leaves_at_end, limits_listed}
use Rattle.cq_simplex.proofs.leaving.leaving.Goals as goal

pub returns-in_err-ratio-clause-overflow : goal.returns-in_err-ratio-clause-overflow
returns-in_err-ratio-clause-overflow c = λ pair e asked.
    let cell : Cell = slice_index_or c.lists-lists.result.cells.now (c.loop-list.list - 1) (record { row = 0; older = 0 }) in
    (cell.row, c.in_err-ratio.ensures.overflow pair (ap Err (pair_kept _ _ pair c.from_residual.ensures.1 e)) asked)

pub prove-unreachable-requires : goal.prove-unreachable-requires
prove-unreachable-requires c =
    let l = at_below c.args.dict.now.roles c.args.column Live (role_live c.args.dict.now.roles c.args.column c.requires.column) in
    omega (arith, l, c.if-prove.true, c.count.ensures.value)

pub bounds-lists-column : goal.bounds-lists-column
bounds-lists-column c = omega (arith, c.if-prove.false, c.count.ensures.value, c.lists-lists.ensures.size)

pub loop-list-init : goal.loop-list-init
loop-list-init c =
    let heads = c.lists-lists.result.heads.now in
    let l : c.args.column < length c.lists-lists.result.heads.now = omega (arith, c.if-prove.false, c.count.ensures.value, c.lists-lists.ensures.size) in
    let at : slice_get c.lists-lists.result.heads.now c.args.column ≡ Some (slice_index_or c.lists-lists.result.heads.now c.args.column 0) = slice_get-get_or heads c.args.column 0 l in
    record {
      there = c.lists-lists.ensures.lists.within c.args.column _ at;
      first = λ asked q k.
          limits_listed c.args.dict.now.roles (is_restricted c.args.dict.now.restricted) asked c.args.column q heads c.lists-lists.result.cells.now c.lists-lists.ensures k _ at;
    }

pub loop-list-preserved-in-Some : goal.loop-list-preserved-in-Some
loop-list-preserved-in-Some c =
    let s = c.args.dict.now.roles in
    let f = is_restricted c.args.dict.now.restricted in
    let w = c.loop-list.invariant in
    let cells = c.lists-lists.result.cells.now in
    let list = c.loop-list.list in
    let cell : Cell = slice_index_or c.lists-lists.result.cells.now (c.loop-list.list - 1) (record { row = 0; older = 0 }) in
    let get : slice_get c.lists-lists.result.cells.now (c.loop-list.list - 1) ≡ Some cell = slice_get-get_or cells (list - 1) (record { row = 0; older = 0 }) (omega (arith, w.there, c.loop-list-test.true)) in
    let back = c.lists-lists.ensures.lists.back (list - 1) cell get in
    let is : c.loop-list.list ≡ suc (c.loop-list.list - 1) = omega (arith, c.loop-list-test.true) in
    record {
      there = omega (arith, back, w.there);
      first = λ asked.
          let v = subst (λ o. MatchOption o (Limits f (dictionary s asked) c.args.column cell.row → ⊥) (λ q. Limits f (dictionary s asked) c.args.column cell.row × (q ≡ ratio (dictionary s asked) c.args.column cell.row))) c.in-Some.is (c.in_ok-ratio.ensures.value asked) in
          first_more f s asked c.args.column (IsOn cells list) (IsOn cells cell.older) (record { row = cell.row; ratio = c.in-Some.ratio }) (λ q o. on_rest cells list cell (list - 1) q is get o)
          v.0 v.1 c.loop-list.first c.first_of.result (w.first asked) c.first_of.ensures;
    }

pub loop-list-preserved : goal.loop-list-preserved
loop-list-preserved c =
    let s = c.args.dict.now.roles in
    let f = is_restricted c.args.dict.now.restricted in
    let w = c.loop-list.invariant in
    let cells = c.lists-lists.result.cells.now in
    let list = c.loop-list.list in
    let cell : Cell = slice_index_or c.lists-lists.result.cells.now (c.loop-list.list - 1) (record { row = 0; older = 0 }) in
    let get : slice_get c.lists-lists.result.cells.now (c.loop-list.list - 1) ≡ Some cell = slice_get-get_or cells (list - 1) (record { row = 0; older = 0 }) (omega (arith, w.there, c.loop-list-test.true)) in
    let back = c.lists-lists.ensures.lists.back (list - 1) cell get in
    let is : c.loop-list.list ≡ suc (c.loop-list.list - 1) = omega (arith, c.loop-list-test.true) in
    record {
      there = omega (arith, back, w.there);
      first = λ asked.
          let v = subst (λ o. MatchOption o (Limits f (dictionary s asked) c.args.column cell.row → ⊥) (λ q. Limits f (dictionary s asked) c.args.column cell.row × (q ≡ ratio (dictionary s asked) c.args.column cell.row))) c.in_default.is (c.in_ok-ratio.ensures.value asked) in
          first_kept f s asked c.args.column (IsOn cells list) (IsOn cells cell.older) cell.row (λ q o. on_rest cells list cell (list - 1) q is get o) v c.loop-list.first (w.first asked);
    }

pub loop-list-smaller-in-Some : goal.loop-list-smaller-in-Some
loop-list-smaller-in-Some c =
    let cell : Cell = slice_index_or c.lists-lists.result.cells.now (c.loop-list.list - 1) (record { row = 0; older = 0 }) in
    let get : slice_get c.lists-lists.result.cells.now (c.loop-list.list - 1) ≡ Some cell = slice_get-get_or c.lists-lists.result.cells.now (c.loop-list.list - 1) (record { row = 0; older = 0 }) (omega (arith, c.loop-list.invariant.there, c.loop-list-test.true)) in
    let back = c.lists-lists.ensures.lists.back (c.loop-list.list - 1) cell get in
    omega (arith, back, c.loop-list-test.true)

pub loop-list-smaller : goal.loop-list-smaller
loop-list-smaller c =
    let cell : Cell = slice_index_or c.lists-lists.result.cells.now (c.loop-list.list - 1) (record { row = 0; older = 0 }) in
    let get : slice_get c.lists-lists.result.cells.now (c.loop-list.list - 1) ≡ Some cell = slice_get-get_or c.lists-lists.result.cells.now (c.loop-list.list - 1) (record { row = 0; older = 0 }) (omega (arith, c.loop-list.invariant.there, c.loop-list-test.true)) in
    let back = c.lists-lists.ensures.lists.back (c.loop-list.list - 1) cell get in
    omega (arith, back, c.loop-list-test.true)

pub returns-in-Some-first-clause-value : goal.returns-in-Some-first-clause-value
returns-in-Some-first-clause-value c = λ asked.
    let s = c.args.dict.now.roles in
    let f = is_restricted c.args.dict.now.restricted in
    let cells = c.lists-lists.result.cells.now in
    let e : c.loop-list.list ≡ 0 = omega (arith, c.loop-list-test.false) in
    leaves_at_end f s asked c.args.column (IsOn cells c.loop-list.list) (λ q o. none_on cells q (subst (λ z. IsOn cells z q) e o)) c.in-Some-first.limit
    (subst (First f s asked c.args.column (IsOn cells c.loop-list.list)) c.in-Some-first.is (c.loop-list.invariant.first asked))

pub returns-in-None-clause-value : goal.returns-in-None-clause-value
returns-in-None-clause-value c = λ asked.
    let s = c.args.dict.now.roles in
    let f = is_restricted c.args.dict.now.restricted in
    let cells = c.lists-lists.result.cells.now in
    let e : c.loop-list.list ≡ 0 = omega (arith, c.loop-list-test.false) in
    none_at_end f s asked c.args.column (IsOn cells c.loop-list.list) (λ q o. none_on cells q (subst (λ z. IsOn cells z q) e o))
    (subst (First f s asked c.args.column (IsOn cells c.loop-list.list)) c.in-None.is (c.loop-list.invariant.first asked))
