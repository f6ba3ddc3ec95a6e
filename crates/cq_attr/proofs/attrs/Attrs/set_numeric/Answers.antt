use Rattle.std.proofs.Common.{◌≡◌, ℕ, false, ◌==◌, ◌++◌, [], ◌∷◌, map, true≢false, ap, sym, ◌∙◌}
use Rattle.std.specs.List.{zip}
use Rattle.cq_trail.proofs.Counting.{counted_changed}
use Rattle.cq_attr.proofs.Changes.{attributes_numeric, attributes_marked}
use Rattle.cq_attr.proofs.Parts.{slots_same, parts_changed}
use Rattle.cq_attr.specs.Attributes.{is_numeric}
use Rattle.cq_attr.specs.Layout.{Parts, attributes_of, attributes_by}
use Rattle.cq_attr.proofs.Elements.{any_of_map}
use Rattle.cq_attr.proofs.attrs.Attrs.set_numeric.Goals as goal

pub returns-then-contains-clause-ok : goal.returns-then-contains-clause-ok
returns-then-contains-clause-ok c =
    rw (← c.self.view_is)
    (attributes_numeric c.self.inside.parts.inner.first.now c.self.inside.parts.inner.second.first.now c.self.inside.parts.inner.second.second.now c.args.variable.0
    (sym c.contains.ensures ∙ c.if-contains.true))

pub invariant_of-self-2 : goal.invariant_of-self-2
invariant_of-self-2 c = parts_changed _ _ c.self.invariant _ (slots_same _ _ c.put_marks.ensures.now c.self.invariant.now) _
    (counted_changed _ _ c.in_ok-put_marks.ensures.all _
    (ap (λ s. zip s (zip c.put_marks.new.self.inner.second.first.saved c.put_marks.new.self.inner.second.second.saved)) c.extend.ensures.saved) _
    ∙ c.in_ok-put_marks.ensures.put)

pub returns-clause-ok : goal.returns-clause-ok
returns-clause-ok c =
    rw (← c.self.view_is, c.in_ok-extend.ensures.ok)
    (ap (λ (p : Parts). attributes_of (p.0 ++ (c.args.variable.0, tt) ∷ []) p.1.0 p.1.1) c.put_marks.ensures.now
    ∙ attributes_marked c.self.inside.parts.inner.first.now c.self.inside.parts.inner.second.first.now c.self.inside.parts.inner.second.second.now c.args.variable.0
    (sym c.contains.ensures ∙ c.if-contains.false))

pub returns-clause-saved : goal.returns-clause-saved
returns-clause-saved c = rw (← c.self.view_is)
    (ap (map attributes_by)
    (counted_changed _ _ c.in_ok-put_marks.ensures.all _
    (ap (λ s. zip s (zip c.put_marks.new.self.inner.second.first.saved c.put_marks.new.self.inner.second.second.saved)) c.extend.ensures.saved) _
    ∙ c.in_ok-put_marks.ensures.put))

pub returns-in_err-put_marks-clause-again : goal.returns-in_err-put_marks-clause-again
returns-in_err-put_marks-clause-again c =
    let first : ℕ × Unit {0} → ℕ = λ n. n.0 in
    let e : is_numeric c.args.self.now.now c.args.variable.0 ≡ false =
    rw (← c.self.view_is) (any_of_map (λ w. w == c.args.variable.0) first c.self.inside.parts.inner.first.now ∙ sym c.contains.ensures ∙ c.if-contains.false) in
    λ numeric. absurd (true≢false (sym numeric ∙ e))

pub returns-in_err-extend-clause-again : goal.returns-in_err-extend-clause-again
returns-in_err-extend-clause-again c =
    let first : ℕ × Unit {0} → ℕ = λ n. n.0 in
    let e : is_numeric c.args.self.now.now c.args.variable.0 ≡ false =
    rw (← c.self.view_is) (any_of_map (λ w. w == c.args.variable.0) first c.self.inside.parts.inner.first.now ∙ sym c.contains.ensures ∙ c.if-contains.false) in
    λ numeric. absurd (true≢false (sym numeric ∙ e))
