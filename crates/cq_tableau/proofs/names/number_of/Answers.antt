use Rattle.std.proofs.Common.{◌≡◌, None, Some, sym, subst, ◌∙◌}
use Rattle.std.specs.Prelude.{slice_get}
use Rattle.std.proofs.lemmas.Option.{same_Some}
use Rattle.cq_tableau.specs.declared.names.Name.TheVariants.{Variable}
use Rattle.cq_tableau.proofs.names.number_of.Goals as goal

pub returns-in-None : goal.returns-in-None
returns-in-None c = λ k.
    let e : c.copied.result ≡ Some k.0 = c.copied.ensures ∙ c.get.ensures.value ∙ c.requires k.0 c.args.x k.1 in
    let n : c.copied.result ≡ None = c.in-None.is in
    cc

pub returns-else-is_named : goal.returns-else-is_named
returns-else-is_named c = λ k.
    let e : c.copied.result ≡ Some k.0 = c.copied.ensures ∙ c.get.ensures.value ∙ c.requires k.0 c.args.x k.1 in
    let same : c.in-Some.n ≡ k.0 = same_Some c.in-Some.n k.0 (sym c.in-Some.is ∙ e) in
    let t = c.is_named.ensures.1 (subst (λ m. slice_get c.args.names.now.now m ≡ Some (Variable c.args.x)) (sym same) k.1) in
    let f = c.if-is_named.false in
    cc
