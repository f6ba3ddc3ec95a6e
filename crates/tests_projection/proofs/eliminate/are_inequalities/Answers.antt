use Rattle.std.proofs.Common.{◌<◌, ◌≤◌, [], ◌∷◌, length, take, inl, inr, arith, refl, sym, subst}
use Rattle.std.proofs.lemmas.List.{take_all}
use Rattle.spec_linear.specs.Solution.{Constraint, Has}
use Rattle.spec_numbers.proofs.Places.{take-next}
use Rattle.spec_projection.specs.Elimination.{IsInequality}
use Rattle.spec_projection.specs.Partial.{AreInequalities}
use Rattle.spec_projection.proofs.Members.{has_either}
use Rattle.tests_projection.proofs.eliminate.are_inequalities.Goals as goal

pub rows-init : goal.rows-init
rows-init c = λ d h. absurd h

pub rows-preserved : goal.rows-preserved
rows-preserved c = λ d h.
    let within : c.rows.row-index < length c.args.rows.now = omega arith in
    elim (has_either d (take c.rows.row-index c.args.rows.now) (c.row-item.result ∷ [])
    (subst (Has d) (take-next c.args.rows.now c.rows.row-index c.row-item.result within c.row-item.is) h)) [
      | inl a ↦ c.rows.invariant d a
      | inr a ↦ elim a [ inl w ↦ subst (λ (r : Constraint). IsInequality r.relation) (sym w) (c.if-is_inequality.ensures refl) | inr n ↦ absurd n ]
    ]

pub returns : goal.returns
returns c = λ t.
    let whole : length c.args.rows.now ≤ c.rows.row-index = omega arith in
    subst AreInequalities (take_all c.rows.row-index c.args.rows.now whole) c.rows.invariant
