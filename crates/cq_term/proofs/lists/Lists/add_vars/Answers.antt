use Rattle.std.proofs.Common.{◌≡◌, ◌+◌, ◌∙◌, ◌++◌, ◌∷◌, [], ap, refl, arith}
use Rattle.cq_term.specs.Layout.{contents, with_vars}
use Rattle.cq_term.specs.declared.lists.Cell.TheVariants as cell
use Rattle.cq_term.proofs.Marks.{same_contents}
use Rattle.cq_term.proofs.Variables.{one_more_var}
use Rattle.cq_term.proofs.lists.Lists.add_vars.Goals as goal

pub loop-made-init : goal.loop-made-init
loop-made-init c = record {
  contents = same_contents c.in_ok-reserve.ensures.items refl refl c.in_ok-reserve-2.ensures.items refl refl;
  cells = omega (arith, c.in_ok-reserve.ensures.ok);
  vars = omega (arith, c.in_ok-reserve-2.ensures.ok);
}

pub loop-made-preserved : goal.loop-made-preserved
loop-made-preserved c =
    let before = c.loop-made.self in
    record {
      contents = one_more_var (contents before) _ (contents c.args.self.now) c.loop-made._made (c.loop-made._made + 1) c.loop-made.invariant.contents
          (c.push_reserved.ensures.items ∙ ap (λ n. before.cells.items ++ cell.Var n ∷ []) (c.len-variable.ensures ∙ before.vars.ok.0))
          refl refl
          (c.push_reserved-in-loop-made.ensures.items ∙ ap (λ n. before.vars.items ++ n ∷ []) (c.new.ensures ∙ c.len-id.ensures ∙ before.cells.ok.0))
          refl refl (omega arith);
      cells = omega (arith, c.loop-made.invariant.cells, c.push_reserved.ensures.len, c.push_reserved.ensures.capacity, c.loop-made.auto._made-end);
      vars = omega (arith, c.loop-made.invariant.vars, c.push_reserved-in-loop-made.ensures.len, c.push_reserved-in-loop-made.ensures.capacity, c.loop-made.auto._made-end);
    }

pub returns-clause-first : goal.returns-clause-first
returns-clause-first c = c.len-first.ensures ∙ c.args.self.now.vars.ok.0

pub returns-clause-ok : goal.returns-clause-ok
returns-clause-ok c =
    let all : c.loop-made._made ≡ c.args.count = omega (arith, c.loop-made-test.false, c.loop-made.auto._made-end) in
    c.loop-made.invariant.contents ∙ ap (λ n. with_vars n (contents c.args.self.now)) all
