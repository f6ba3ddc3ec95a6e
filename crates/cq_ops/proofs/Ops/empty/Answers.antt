use Rattle.std.proofs.Common.{length, sym, subst, ap, ◌∙◌}
use Rattle.spec_syntax.specs.Operators.{Prefix, Infix, Postfix}
use Rattle.cq_ops.specs.Tables.{AllFit, AllBelow, named}
use Rattle.cq_ops.proofs.Named.{none, none_below, named-empty}
use Rattle.cq_ops.proofs.Ops.empty.Goals as goal

pub invariant_of-result : goal.invariant_of-result
invariant_of-result c = record {
  prefix = subst (AllFit Prefix) (sym c.new.ensures) (none Prefix);
  infixed = subst (AllFit Infix) (sym c.new-2.ensures) (none Infix);
  postfix = subst (AllFit Postfix) (sym c.new-3.ensures) (none Postfix);
}

pub returns-clause-table : goal.returns-clause-table
returns-clause-table c = λ texts.
    ap (named texts) (λ i. record { prefix = c.new.ensures i; infixed = c.new-2.ensures i; postfix = c.new-3.ensures i }) ∙ named-empty texts

pub returns-clause-known : goal.returns-clause-known
returns-clause-known c = λ texts. record {
  prefix = subst (AllBelow (length texts)) (sym c.new.ensures) (none_below (length texts));
  infixed = subst (AllBelow (length texts)) (sym c.new-2.ensures) (none_below (length texts));
  postfix = subst (AllBelow (length texts)) (sym c.new-3.ensures) (none_below (length texts));
}
