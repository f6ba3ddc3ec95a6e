use Rattle.std.proofs.Common.{sym, subst}
use Rattle.spec_terms.specs.Term.{size}
use Rattle.cq_term.specs.Meaning.{at}
use Rattle.cq_term.specs.Trees.{tree}
use Rattle.cq_goals.specs.Checking.{error_for, GoesOn, IsRole}
use Rattle.cq_goals.specs.declared.checks.Role.TheVariants as role
use Rattle.cq_goals.proofs.Checking.{conjuncts_wait, disjuncts_wait, relation_waits}
use Rattle.cq_goals.proofs.checks.look_at_sides.Goals as goal

pub returns-in_ok-wait-in-Telling-clause-goes_on : goal.returns-in_ok-wait-in-Telling-clause-goes_on
returns-in_ok-wait-in-Telling-clause-goes_on c =
    let texts = c.args.atoms.now in
    let ts = c.args.heap.now.now.terms in
    let old = c.args.waiting.now.items in
    let new = c.wait.new.waiting.items in
    subst (λ p. GoesOn p texts ts old (error_for p (tree texts ts c.args.id)) (size (at ts c.args.id)) new) (sym c.in-Telling.is)
    (disjuncts_wait texts ts c.args.id c.args.sides c.requires.sides old new
    (subst (λ f. IsRole f role.Disjunction) c.text.ensures.value (subst (IsRole c.text.result.now) c.in-Disjunction.is c.role_of.ensures)) c.in_ok-wait-in-Telling.ensures)

pub returns-in_ok-wait-in-Conjunction-clause-goes_on : goal.returns-in_ok-wait-in-Conjunction-clause-goes_on
returns-in_ok-wait-in-Conjunction-clause-goes_on c =
    conjuncts_wait c.args.atoms.now c.args.heap.now.now.terms c.args.id c.args.sides c.requires.sides c.args.waiting.now.items c.wait-in-Conjunction.new.waiting.items c.args.purpose
    (subst (λ f. IsRole f role.Conjunction) c.text.ensures.value (subst (IsRole c.text.result.now) c.in-Conjunction.is c.role_of.ensures)) c.in_ok-wait-in-Conjunction.ensures

pub returns-in_ok-wait-in-Relation-clause-goes_on : goal.returns-in_ok-wait-in-Relation-clause-goes_on
returns-in_ok-wait-in-Relation-clause-goes_on c =
    relation_waits c.args.atoms.now c.args.heap.now.now.terms c.args.id c.args.sides c.requires.sides c.args.waiting.now.items c.wait-in-Relation.new.waiting.items c.args.purpose
    (subst (λ f. IsRole f role.Relation) c.text.ensures.value (subst (IsRole c.text.result.now) c.in-Relation.is c.role_of.ensures)) c.in_ok-wait-in-Relation.ensures
