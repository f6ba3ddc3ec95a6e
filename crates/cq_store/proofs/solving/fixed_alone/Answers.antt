use Rattle.std.proofs.Common.{◌≡◌, [], ◌∷◌, ◌++◌, Some, inl, inr, ap, sym, ◌∙◌}
use Rattle.cq_frac.specs.declared.VarId.{VarId}
use Rattle.cq_tableau.specs.declared.names.Name.TheVariants.{Variable}
use Rattle.cq_store.proofs.solving.fixed_alone.Goals as goal

same_variable : (x y : VarId) → Some (Variable x) ≡ Some (Variable y) → x ≡ y
same_variable x y e = cc

pub returns-in_ok-push-in-Some : goal.returns-in_ok-push-in-Some
returns-in_ok-push-in-Some c = λ x e.
    let y = c.in-Variable.x in
    let same = same_variable x y (sym e ∙ c.get.ensures ∙ ap Some c.in-Variable.is) in
    inl (
      c.in_ok-push-in-Some.ensures.items ∙ ap (λ s. s ++ y ∷ []) c.new-fixed.ensures.items ∙ ap (λ z. z ∷ []) (sym same),
      c.in-Some.field-0,
      c.in-Some.ensures,
    )

pub returns-in-None : goal.returns-in-None
returns-in-None c = λ x e. inr (c.new-fixed.ensures.items, c.in-None.ensures)
