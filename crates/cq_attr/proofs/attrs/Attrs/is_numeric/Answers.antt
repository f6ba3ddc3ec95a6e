use Rattle.std.proofs.Common.{ℕ, ◌==◌, ◌∙◌, sym}
use Rattle.cq_attr.proofs.Elements.{any_of_map}
use Rattle.cq_attr.proofs.attrs.Attrs.is_numeric.Goals as goal

pub returns : goal.returns
returns c =
    let first : ℕ × Unit {0} → ℕ = λ n. n.0 in
    rw (← c.self.view_is) (c.contains.ensures ∙ sym (any_of_map (λ w. w == c.args.variable.0) first c.self.inside.parts.inner.first.now))
