use Rattle.std.proofs.Common.{◌∙◌, sym, rules}
use Rattle.std.specs.Int.{w128}
use Rattle.std.specs.Prelude.{FitsSigned}
use Rattle.std.proofs.lemmas.Int.{to_z-of_z}
use Rattle.cq_built.specs.Errors.{error_tree}
use Rattle.cq_goals.proofs.Declaring.{refused_unbound, refused_priority, refused_kind, refused_names, none_refused}
use Rattle.cq_goals.proofs.declarations.operators.operands_of.Goals as goal

pub returns-then-is_unbound-clause-err : goal.returns-then-is_unbound-clause-err
returns-then-is_unbound-clause-err c =
    refused_unbound c.args.atoms.now c.args.heap.now.now.terms c.args.goal.now (sym (c.is_unbound.ensures c.args.atoms.now c.requires.listed) ∙ c.if-is_unbound.true)

pub returns-in-Err-clause-err : goal.returns-in-Err-clause-err
returns-in-Err-clause-err c =
    let texts = c.args.atoms.now in
    let ts = c.args.heap.now.now.terms in
    refused_priority texts ts c.args.goal.now (sym (c.is_unbound.ensures texts c.requires.listed) ∙ c.if-is_unbound.false) (error_tree texts ts c.in-Err.error) (c.in-Err.ensures.err texts)

pub returns-in-Err-clause-culprit : goal.returns-in-Err-clause-culprit
returns-in-Err-clause-culprit c = c.in-Err.ensures.culprit c.args.atoms.now

pub returns-in-Err-kind_of-clause-err : goal.returns-in-Err-kind_of-clause-err
returns-in-Err-kind_of-clause-err c =
    let texts = c.args.atoms.now in
    let ts = c.args.heap.now.now.terms in
    refused_kind texts ts c.args.goal.now (sym (c.is_unbound.ensures texts c.requires.listed) ∙ c.if-is_unbound.false) (c.in-Ok.ensures.lawful texts) (error_tree texts ts c.in-Err-kind_of.error) c.in-Err-kind_of.ensures.err

pub returns-then-are_names-clause-ok : goal.returns-then-are_names-clause-ok
returns-then-are_names-clause-ok c =
    let texts = c.args.atoms.now in
    let ts = c.args.heap.now.now.terms in
    let names = sym c.are_names.ensures ∙ c.if-are_names.true in
    let fits : FitsSigned w128 c.in-Ok.priority = search rules in
    record {
      lawful = none_refused texts ts c.args.goal.now (sym (c.is_unbound.ensures texts c.requires.listed) ∙ c.if-is_unbound.false) (c.in-Ok.ensures.lawful texts) c.in-Ok-kind_of.ensures.lawful names;
      priority = c.in-Ok.ensures.ok texts ∙ sym (to_z-of_z w128 c.in-Ok.priority fits);
      kind = c.in-Ok-kind_of.ensures.ok;
      kind_known = c.in-Ok-kind_of.ensures.known;
      names = names;
    }

pub returns-else-are_names-clause-err : goal.returns-else-are_names-clause-err
returns-else-are_names-clause-err c =
    let texts = c.args.atoms.now in
    let ts = c.args.heap.now.now.terms in
    refused_names texts ts c.args.goal.now (sym (c.is_unbound.ensures texts c.requires.listed) ∙ c.if-is_unbound.false) (c.in-Ok.ensures.lawful texts) c.in-Ok-kind_of.ensures.lawful (sym c.are_names.ensures ∙ c.if-are_names.false)
