use Rattle.std.proofs.Common.{◌∷◌, ◌∙◌, [], rules, sym}
use Rattle.spec_builtins.specs.Alternatives.{◌≐◌, one_way}
use Rattle.cq_term.specs.Trees.{tree}
use Rattle.cq_built.proofs.Trees.{kept}
use Rattle.cq_predicates.proofs.CodesRows.{code_told}
use Rattle.cq_predicates.proofs.codes.character_codes.of_character.Goals as goal

pub returns-in_ok-right-in-None-code_error-clause-offered : goal.returns-in_ok-right-in-None-code_error-clause-offered
returns-in_ok-right-in-None-code_error-clause-offered c =
    let texts = c.args.atoms.now in
    let ts = c.args.heap.now.now.terms in
    let grows = c.in_ok-right-in-None-code_error.ensures.grows in
    let left = kept texts c.element.new.atoms c.args.heap.now c.element.new.heap grows c.requires.names c.args.code c.requires.code in
    code_told (tree texts ts c.args.character) (tree texts ts c.args.code) c.in-Some.found c.requires.bound c.in-Some.ensures.some (λ rest. c.in-None-code_error.ensures.none (search rules) texts rest)
    ∙ (λ i. one_way ((sym left i ≐ sym c.in_ok-right-in-None-code_error.ensures.built i) ∷ []))

pub returns-in-Some-code_error-clause-culprit : goal.returns-in-Some-code_error-clause-culprit
returns-in-Some-code_error-clause-culprit c = c.in-Some-code_error.ensures.culprit c.args.atoms.now
