use Rattle.std.proofs.Common.{◌∙◌, sym, ap}
use Rattle.std.specs.Prelude.{map}
use Rattle.spec_builtins.specs.Clauses.{declared}
use Rattle.cq_term.specs.Trees.{tree, trees}
use Rattle.cq_goals.specs.Declarations.{indicators_error}
use Rattle.cq_goals.proofs.Declared.{unbound_declared, own_is}
use Rattle.cq_goals.proofs.declarations.declarations.check_declaration.Goals as goal

pub returns-then-has_unbound-clause-fault : goal.returns-then-has_unbound-clause-fault
returns-then-has_unbound-clause-fault c =
    let texts = c.args.atoms.now in
    let ts = c.args.heap.now.now.terms in
    unbound_declared (tree texts ts c.args.term) (trees texts ts c.deref.result.now) (ap (trees texts ts) c.deref.ensures.value ∙ c.in_ok-terms.ensures.terms) (sym c.has_unbound.ensures ∙ c.if-has_unbound.true)

pub returns-in-Ok-clause-lawful : goal.returns-in-Ok-clause-lawful
returns-in-Ok-clause-lawful c =
    let texts = c.args.atoms.now in
    let ts = c.args.heap.now.now.terms in
    own_is (tree texts ts c.args.term) (trees texts ts c.deref.result.now) (ap (trees texts ts) c.deref.ensures.value ∙ c.in_ok-terms.ensures.terms) (sym c.has_unbound.ensures ∙ c.if-has_unbound.false)
    ∙ ap (λ ids. indicators_error (trees texts ts ids)) (c.deref.ensures.value ∙ sym c.deref-2.ensures.value) ∙ c.in-Ok.ensures.declared.lawful

pub returns-in-Ok-clause-declared : goal.returns-in-Ok-clause-declared
returns-in-Ok-clause-declared c =
    let texts = c.args.atoms.now in
    let ts = c.args.heap.now.now.terms in
    c.in-Ok.ensures.declared.declared ∙ ap (λ ids. map declared (trees texts ts ids)) c.deref-2.ensures.value ∙ ap (map declared) c.in_ok-terms.ensures.terms
