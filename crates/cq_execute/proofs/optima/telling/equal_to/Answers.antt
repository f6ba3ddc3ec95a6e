use Rattle.std.proofs.Common.{[], ◌∷◌, ap₂}
use Rattle.spec_builtins.specs.Alternatives.{◌≐◌}
use Rattle.spec_search.specs.Replies.{with_equations}
use Rattle.spec_syntax.specs.Trees.{Tree}
use Rattle.spec_terms.specs.Term.{Number}
use Rattle.cq_attr.proofs.Elements.{on_err}
use Rattle.cq_term.specs.Trees.{tree}
use Rattle.cq_machine.specs.Machines.{terms}
use Rattle.cq_machine.proofs.Built.{stands_on}
use Rattle.cq_execute.proofs.Kept.{placed_on, live_on, tree_on}
use Rattle.cq_execute.proofs.Children.{row_on, stop_on, err_on}
use Rattle.cq_execute.proofs.optima.telling.equal_to.Goals as goal

pub returns-in_err-number-clause-err : goal.returns-in_err-number-clause-err
returns-in_err-number-clause-err c = on_err c.from_residual.result (stands_on c.args.m.now c.build_number.new.m c.build_number.ensures.more)

pub make_equal-requires-clause-placed : goal.make_equal-requires-clause-placed
make_equal-requires-clause-placed c = (let s = c.requires.placed in
    (s.0, s.1, placed_on c.args.m.now c.build_number.new.m c.args.rest s.0 s.1 c.build_number.ensures.more s.2))

pub make_equal-requires-clause-left : goal.make_equal-requires-clause-left
make_equal-requires-clause-left c = live_on c.args.m.now c.build_number.new.m c.build_number.ensures.more c.args.term c.requires.term

pub returns-clause-row : goal.returns-clause-row
returns-clause-row c =
    let m = c.args.m.now in
    let mid = c.build_number.new.m in
    row_on m mid c.make_equal.new.m c.build_number.ensures.more c.args.rest
    (with_equations ((tree mid.atoms (terms mid) c.args.term ≐ tree mid.atoms (terms mid) c.in_ok-number.number) ∷ []))
    (with_equations ((tree m.atoms (terms m) c.args.term ≐ Number c.args.value) ∷ []))
    (ap₂ (λ (a b : Tree). with_equations ((a ≐ b) ∷ [])) (tree_on m mid c.build_number.ensures.more c.args.term c.requires.term) c.in_ok-number.ensures.built)
    c.make_equal.result c.make_equal.ensures.row

pub returns-clause-stop : goal.returns-clause-stop
returns-clause-stop c =
    let m = c.args.m.now in
    let mid = c.build_number.new.m in
    stop_on m mid c.make_equal.new.m c.build_number.ensures.more c.args.rest
    (with_equations ((tree mid.atoms (terms mid) c.args.term ≐ tree mid.atoms (terms mid) c.in_ok-number.number) ∷ []))
    (with_equations ((tree m.atoms (terms m) c.args.term ≐ Number c.args.value) ∷ []))
    (ap₂ (λ (a b : Tree). with_equations ((a ≐ b) ∷ [])) (tree_on m mid c.build_number.ensures.more c.args.term c.requires.term) c.in_ok-number.ensures.built)
    c.make_equal.result c.make_equal.ensures.stop

pub returns-clause-err : goal.returns-clause-err
returns-clause-err c = err_on c.args.m.now c.build_number.new.m c.make_equal.new.m c.build_number.ensures.more c.make_equal.result c.make_equal.ensures.err
