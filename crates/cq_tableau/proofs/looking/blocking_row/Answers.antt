use Rattle.std.proofs.Common.{◌≡◌, ◌-◌, ◌<◌, suc, length, Some, arith, subst}
use Rattle.std.specs.Prelude.{slice_get, slice_index_or}
use Rattle.std.proofs.lemmas.Option.{slice_get-get_or}
use Rattle.cq_dict.specs.declared.holders.Cell.{Cell}
use Rattle.cq_tableau.proofs.Blocking.{OthersLeave, first_leave, rest_leave, all_leave_room}
use Rattle.cq_tableau.proofs.looking.blocking_row.Goals as goal

pub bounds-lists-c : goal.bounds-lists-c
bounds-lists-c c = omega (arith, c.requires.there, c.lists-lists.ensures.size)

pub loop-list-init : goal.loop-list-init
loop-list-init c =
    let heads = c.lists-lists.result.heads.now in
    let l : c.args.c < length c.lists-lists.result.heads.now = omega (arith, c.requires.there, c.lists-lists.ensures.size) in
    let at : slice_get c.lists-lists.result.heads.now c.args.c ≡ Some (slice_index_or c.lists-lists.result.heads.now c.args.c 0) = slice_get-get_or heads c.args.c 0 l in
    record {
      there = c.lists-lists.ensures.lists.within c.args.c _ at;
      others = first_leave c.args.dict.now.roles c.args.dict.now.restricted c.args.c c.lists-lists.result.cells.now heads c.lists-lists.ensures _ at;
    }

pub loop-list-preserved : goal.loop-list-preserved
loop-list-preserved c =
    let cells = c.lists-lists.result.cells.now in
    let list = c.loop-list.list in
    let cell : Cell = slice_index_or c.lists-lists.result.cells.now (c.loop-list.list - 1) (record { row = 0; older = 0 }) in
    let get : slice_get c.lists-lists.result.cells.now (c.loop-list.list - 1) ≡ Some cell = slice_get-get_or cells (list - 1) (record { row = 0; older = 0 }) (omega (arith, c.loop-list.invariant.there, c.loop-list-test.true)) in
    let back = c.lists-lists.ensures.lists.back (list - 1) cell get in
    let is : c.loop-list.list ≡ suc (c.loop-list.list - 1) = omega (arith, c.loop-list-test.true) in
    record {
      there = omega (arith, back, c.loop-list.invariant.there);
      others = rest_leave c.args.dict.now.roles c.args.dict.now.restricted c.args.c cells list cell (list - 1) is get c.if-is_blocking.ensures c.loop-list.invariant.others;
    }

pub loop-list-smaller : goal.loop-list-smaller
loop-list-smaller c =
    let cells = c.lists-lists.result.cells.now in
    let list = c.loop-list.list in
    let cell : Cell = slice_index_or c.lists-lists.result.cells.now (c.loop-list.list - 1) (record { row = 0; older = 0 }) in
    let get : slice_get c.lists-lists.result.cells.now (c.loop-list.list - 1) ≡ Some cell = slice_get-get_or cells (list - 1) (record { row = 0; older = 0 }) (omega (arith, c.loop-list.invariant.there, c.loop-list-test.true)) in
    let back = c.lists-lists.ensures.lists.back (list - 1) cell get in
    omega (arith, back, c.loop-list-test.true)

pub returns : goal.returns
returns c =
    let cells = c.lists-lists.result.cells.now in
    let e : c.loop-list.list ≡ 0 = omega (arith, c.loop-list-test.false) in
    all_leave_room c.args.dict.now.roles c.args.dict.now.restricted c.args.c cells
    (subst (OthersLeave c.args.dict.now.roles c.args.dict.now.restricted c.args.c cells) e c.loop-list.invariant.others)
