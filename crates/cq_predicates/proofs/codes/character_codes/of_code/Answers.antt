use Rattle.std.proofs.Common.{◌∷◌, ◌∙◌, [], sym}
use Rattle.spec_builtins.specs.Alternatives.{◌≐◌, one_way}
use Rattle.cq_term.specs.Trees.{tree}
use Rattle.cq_built.proofs.Trees.{kept}
use Rattle.cq_predicates.proofs.CodesRows.{code_read}
use Rattle.cq_predicates.proofs.codes.character_codes.of_code.Goals as goal

pub returns-in_ok-right-in-Ok-clause-offered : goal.returns-in_ok-right-in-Ok-clause-offered
returns-in_ok-right-in-Ok-clause-offered c =
    let texts = c.args.atoms.now in
    let ts = c.args.heap.now.now.terms in
    let grows = c.in_ok-right-in-Ok.ensures.grows in
    let left = kept texts c.element.new.atoms c.args.heap.now c.element.new.heap grows c.requires.names c.args.character c.requires.character in
    code_read (tree texts ts c.args.character) (tree texts ts c.args.code) c.in-Ok.found c.requires.unbound (sym (c.is_variable.ensures texts) ∙ c.if-is_variable.false) (c.in-Ok.ensures.ok texts)
    ∙ (λ i. one_way ((sym left i ≐ sym c.in_ok-right-in-Ok.ensures.built i) ∷ []))

pub returns-in-Err-clause-culprit : goal.returns-in-Err-clause-culprit
returns-in-Err-clause-culprit c = c.in-Err.ensures.culprit c.args.atoms.now
