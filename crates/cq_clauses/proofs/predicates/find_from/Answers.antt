use Rattle.std.proofs.Common.{length, refl, arith}
use Rattle.std.proofs.lemmas.List.{length-map}
use Rattle.std.proofs.lemmas.Option.{slice_get_read}
use Rattle.cq_clauses.specs.Named.{pred_named}
use Rattle.cq_clauses.proofs.Chained.{searched_in, searched_at, searched_none, next, smaller, found_at, found_any, none_at, none_any}
use Rattle.cq_clauses.proofs.predicates.find_from.Goals as goal

pub offset_bounds-named-at : goal.offset_bounds-named-at
offset_bounds-named-at c =
    let within = searched_in c.args.named.now c.args.pred.now c.loop-number.number c.in-Some.at c.loop-number.invariant c.in-Some.is in
    omega (arith, within, c.well_formed)

pub bounds-named-at : goal.bounds-named-at
bounds-named-at c = searched_in c.args.named.now c.args.pred.now c.loop-number.number c.in-Some.at c.loop-number.invariant c.in-Some.is

pub returns-then-here-pred-clause-value : goal.returns-then-here-pred-clause-value
returns-then-here-pred-clause-value c =
    let within = searched_in c.args.named.now c.args.pred.now c.loop-number.number c.in-Some.at c.loop-number.invariant c.in-Some.is in
    let searches = searched_at c.args.named.now c.args.pred.now c.loop-number.number c.in-Some.at c.loop-number.invariant c.in-Some.is in
    let got = slice_get_read c.args.named.now (length c.args.named.now) c.in-Some.at c.index-named-at.result refl within c.index-named-at.is in
    found_at c.args.named.now c.requires.linked c.args.pred.now c.in-Some.at searches c.index-named-at.result got c.if-here-pred.true

pub returns-then-here-pred-clause-found : goal.returns-then-here-pred-clause-found
returns-then-here-pred-clause-found c =
    let within = searched_in c.args.named.now c.args.pred.now c.loop-number.number c.in-Some.at c.loop-number.invariant c.in-Some.is in
    let searches = searched_at c.args.named.now c.args.pred.now c.loop-number.number c.in-Some.at c.loop-number.invariant c.in-Some.is in
    let got = slice_get_read c.args.named.now (length c.args.named.now) c.in-Some.at c.index-named-at.result refl within c.index-named-at.is in
    found_any c.args.named.now c.requires.linked c.args.pred.now c.in-Some.at searches c.index-named-at.result got c.if-here-pred.true

pub returns-then-here-pred-clause-within : goal.returns-then-here-pred-clause-within
returns-then-here-pred-clause-within c =
    let within = searched_in c.args.named.now c.args.pred.now c.loop-number.number c.in-Some.at c.loop-number.invariant c.in-Some.is in
    omega (arith, within, length-map c.args.named.now pred_named)

pub loop-number-smaller : goal.loop-number-smaller
loop-number-smaller c =
    let within = searched_in c.args.named.now c.args.pred.now c.loop-number.number c.in-Some.at c.loop-number.invariant c.in-Some.is in
    let searches = searched_at c.args.named.now c.args.pred.now c.loop-number.number c.in-Some.at c.loop-number.invariant c.in-Some.is in
    let got = slice_get_read c.args.named.now (length c.args.named.now) c.in-Some.at c.index-named-at.result refl within c.index-named-at.is in
    smaller c.args.named.now c.requires.linked c.args.pred.now c.in-Some.at searches c.index-named-at.result got c.loop-number.number c.in-Some.is

pub loop-number-preserved : goal.loop-number-preserved
loop-number-preserved c =
    let within = searched_in c.args.named.now c.args.pred.now c.loop-number.number c.in-Some.at c.loop-number.invariant c.in-Some.is in
    let searches = searched_at c.args.named.now c.args.pred.now c.loop-number.number c.in-Some.at c.loop-number.invariant c.in-Some.is in
    let got = slice_get_read c.args.named.now (length c.args.named.now) c.in-Some.at c.index-named-at.result refl within c.index-named-at.is in
    next c.args.named.now c.requires.linked c.args.pred.now c.in-Some.at searches c.index-named-at.result got c.if-here-pred.false

pub returns-clause-value : goal.returns-clause-value
returns-clause-value c = none_at c.args.named.now c.requires.linked c.args.pred.now (searched_none c.args.named.now c.args.pred.now c.loop-number.number c.loop-number.invariant c.in_default.not-Some)

pub returns-clause-found : goal.returns-clause-found
returns-clause-found c = none_any c.args.named.now c.requires.linked c.args.pred.now (searched_none c.args.named.now c.args.pred.now c.loop-number.number c.loop-number.invariant c.in_default.not-Some)
