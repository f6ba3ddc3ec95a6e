use Rattle.std.proofs.Common.{[], ◌∷◌, ap, ap₂}
use Rattle.spec_builtins.specs.Built.{compound2}
use Rattle.spec_syntax.specs.Trees.{Tree}
use Rattle.spec_terms.specs.Term.{Number}
use Rattle.cq_attr.proofs.Elements.{on_err}
use Rattle.cq_branch.specs.Begun.{told_work}
use Rattle.cq_term.specs.Trees.{tree}
use Rattle.cq_machine.specs.Machines.{terms}
use Rattle.cq_machine.proofs.Built.{stands_on, stands_then}
use Rattle.cq_execute.proofs.Kept.{placed_on, live_on, tree_on}
use Rattle.cq_execute.proofs.Children.{row_on, stop_on, err_on}
use Rattle.cq_execute.proofs.optima.telling.tell_value.Goals as goal

pub returns-in_err-number-clause-err : goal.returns-in_err-number-clause-err
returns-in_err-number-clause-err c = on_err c.from_residual.result (stands_on c.args.m.now c.build_number.new.m c.build_number.ensures.more)

pub build_equation-requires-clause-left : goal.build_equation-requires-clause-left
build_equation-requires-clause-left c = live_on c.args.m.now c.build_number.new.m c.build_number.ensures.more c.args.expression c.requires.expression

pub returns-in_err-relation-clause-err : goal.returns-in_err-relation-clause-err
returns-in_err-relation-clause-err c =
    let m = c.args.m.now in
    let mid = c.build_number.new.m in
    let low = c.build_equation.new.m in
    on_err c.from_residual-in_err-relation.result (stands_then m mid low (stands_on m mid c.build_number.ensures.more) (stands_on mid low c.build_equation.ensures.more))

pub tell_one-requires-clause-placed : goal.tell_one-requires-clause-placed
tell_one-requires-clause-placed c =
    let mid = c.build_number.new.m in
    let s = c.requires.placed in (
      s.0,
      s.1,
      placed_on mid c.build_equation.new.m c.args.rest s.0 s.1 c.build_equation.ensures.more (placed_on c.args.m.now mid c.args.rest s.0 s.1 c.build_number.ensures.more s.2),
    )

pub returns-clause-row : goal.returns-clause-row
returns-clause-row c =
    let m = c.args.m.now in
    let mid = c.build_number.new.m in
    let low = c.build_equation.new.m in
    let e = tree mid.atoms (terms mid) c.args.expression in
    let q = tree mid.atoms (terms mid) c.in_ok-number.number in
    row_on m mid c.tell_one.new.m c.build_number.ensures.more c.args.rest
    (told_work (compound2 "=" e q ∷ []))
    (told_work (compound2 "=" (tree m.atoms (terms m) c.args.expression) (Number c.args.value) ∷ []))
    (ap₂ (λ (a b : Tree). told_work (compound2 "=" a b ∷ [])) (tree_on m mid c.build_number.ensures.more c.args.expression c.requires.expression) c.in_ok-number.ensures.built)
    c.tell_one.result
    (row_on mid low c.tell_one.new.m c.build_equation.ensures.more c.args.rest (told_work (tree low.atoms (terms low) c.in_ok-relation.relation ∷ [])) (told_work (compound2 "=" e q ∷ []))
    (ap (λ (t : Tree). told_work (t ∷ [])) c.in_ok-relation.ensures.built) c.tell_one.result c.tell_one.ensures.row)

pub returns-clause-stop : goal.returns-clause-stop
returns-clause-stop c =
    let m = c.args.m.now in
    let mid = c.build_number.new.m in
    let low = c.build_equation.new.m in
    let e = tree mid.atoms (terms mid) c.args.expression in
    let q = tree mid.atoms (terms mid) c.in_ok-number.number in
    stop_on m mid c.tell_one.new.m c.build_number.ensures.more c.args.rest
    (told_work (compound2 "=" e q ∷ []))
    (told_work (compound2 "=" (tree m.atoms (terms m) c.args.expression) (Number c.args.value) ∷ []))
    (ap₂ (λ (a b : Tree). told_work (compound2 "=" a b ∷ [])) (tree_on m mid c.build_number.ensures.more c.args.expression c.requires.expression) c.in_ok-number.ensures.built)
    c.tell_one.result
    (stop_on mid low c.tell_one.new.m c.build_equation.ensures.more c.args.rest (told_work (tree low.atoms (terms low) c.in_ok-relation.relation ∷ [])) (told_work (compound2 "=" e q ∷ []))
    (ap (λ (t : Tree). told_work (t ∷ [])) c.in_ok-relation.ensures.built) c.tell_one.result c.tell_one.ensures.stop)

pub returns-clause-err : goal.returns-clause-err
returns-clause-err c =
    let mid = c.build_number.new.m in
    err_on c.args.m.now mid c.tell_one.new.m c.build_number.ensures.more c.tell_one.result
    (err_on mid c.build_equation.new.m c.tell_one.new.m c.build_equation.ensures.more c.tell_one.result c.tell_one.ensures.err)
