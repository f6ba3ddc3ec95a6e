use Rattle.std.proofs.Common.{sym, subst}
use Rattle.std.specs.Prelude.{OnOk}
use Rattle.spec_terms.specs.Term.{size}
use Rattle.cq_term.specs.Meaning.{at}
use Rattle.cq_goals.specs.Checking.{part_error, part_id, GoesOn}
use Rattle.cq_goals.proofs.checks.look_at.Goals as goal

pub returns-in-Expression-clause-goes_on : goal.returns-in-Expression-clause-goes_on
returns-in-Expression-clause-goes_on c =
    let texts = c.args.atoms.now in
    let ts = c.args.heap.now.now.terms in
    subst (λ w. OnOk c.look_at_expression.result (GoesOn c.args.purpose texts ts c.args.waiting.now.items (part_error c.args.purpose texts ts w) (size (at ts (part_id w))) c.look_at_expression.new.waiting.items))
    (sym c.in-Expression.is) (c.look_at_expression.ensures.goes_on c.args.purpose)
