-- An echelon form's equations parted into those of the other variables and those of the targets.
use Rattle.std.proofs.Common.{◌≡◌, inl, inr, ℕ, List, [], ◌∷◌, ◌++◌, Bool, true, false, cond, not, refl, ap, sym, subst, ◌∙◌}
use Rattle.std.specs.Prelude.{filter}
use Rattle.spec_linear.specs.Solution.{Has}
use Rattle.std.specs.List.{AllByRecursion}
use Rattle.spec_linear.specs.Solution.{Constraint}
use Rattle.spec_linear.specs.Echelon.{Solved, AreDistinct, InOrder, IsBefore, IsEchelon, variables}
use Rattle.spec_linear.proofs.Orders.{in_order-has, in_order-behind, in_order-rest, in_order-once}
use Rattle.spec_projection.specs.Substitution.{solved_variables}
use Rattle.spec_projection.proofs.Members.{has_either, has_mapped, has_image, has_filtered}
use Rattle.spec_projection.proofs.Filled.{each, all_of}
use Rattle.cq_project.specs.Putting.{IsProper}
use Rattle.cq_project.specs.Variables.{is_among, solved_for}
use Rattle.cq_project.proofs.Listing.{among_has, has_among, apart_from}

-- those that are solved for none of these
abbrev pub solved_for_others : List ℕ → List Solved → List Solved
solved_for_others xs es = filter (λ e. not (is_among xs e.variable)) es

module _ (front targets : List ℕ) (distinct : AreDistinct (front ++ targets)) where
  no_others : (es : List Solved) → ((x : ℕ) → Has x (solved_variables es) → is_among targets x ≡ true) → solved_for_others targets es ≡ []
  no_others [] a = refl
  no_others (e ∷ es) a = by (is_among targets e.variable) (a e.variable (inl refl)) (no_others es (λ x h. a x (inr h)))
    where
      by : (b : Bool) → b ≡ true → solved_for_others targets es ≡ [] → cond (not b) (e ∷ solved_for_others targets es) (solved_for_others targets es) ≡ []
      by true h r = r
      by false h r = cc

  pub parted : (es : List Solved) → InOrder (front ++ targets) (solved_variables es) → solved_for_others targets es ++ solved_for targets es ≡ es
  parted [] o = refl
  parted (e ∷ es) o = by (is_among targets e.variable) refl (parted es (in_order-rest (front ++ targets) e.variable (solved_variables es) o))
    where
      by : (b : Bool) → is_among targets e.variable ≡ b → solved_for_others targets es ++ solved_for targets es ≡ es
          → cond (not b) (e ∷ solved_for_others targets es) (solved_for_others targets es) ++ cond b (e ∷ solved_for targets es) (solved_for targets es) ≡ e ∷ es
      by false h r = ap (λ w. e ∷ w) r
      by true h r =
          let behind = in_order-behind front targets e.variable (solved_variables es) distinct (among_has targets e.variable h) o in
          let none : solved_for_others targets es ≡ [] = no_others es (λ x i. has_among targets x (in_order-has targets (e.variable ∷ solved_variables es) behind x (inr i))) in
          ap (λ w. w ++ e ∷ solved_for targets es) none ∙ ap (λ w. e ∷ w) (ap (λ w. w ++ solved_for targets es) (sym none) ∙ r)

  pub others_in_front : (es : List Solved) → InOrder (front ++ targets) (solved_variables es) → (x : ℕ) → Has x (solved_variables (solved_for_others targets es)) → Has x front
  others_in_front es o x h =
      let k = has_mapped (λ e. e.variable) x (solved_for_others targets es) h in
      let f = has_filtered (λ e. not (is_among targets e.variable)) k.from es k.member in
      elim (has_either x front targets (in_order-has (front ++ targets) (solved_variables es) o x (subst (λ z. Has z (solved_variables es)) (sym k.is) (has_image (λ e. e.variable) k.from es f.0)))) [
        | inl i ↦ i
        | inr i ↦ absurd (apart_from targets k.from.variable f.1 (subst (λ z. Has z targets) k.is i))
      ]

  pub targets_solved : (es : List Solved) (x : ℕ) → Has x (solved_variables (solved_for targets es)) → Has x targets
  targets_solved es x h =
      let k = has_mapped (λ e. e.variable) x (solved_for targets es) h in
      let f = has_filtered (λ e. is_among targets e.variable) k.from es k.member in
      subst (λ z. Has z targets) (sym k.is) (among_has targets k.from.variable f.1)

-- ---- its equations can be put into rows

distinct_in_order : (order xs : List ℕ) → AreDistinct order → InOrder order xs → AreDistinct xs
distinct_in_order order [] d h = tt
distinct_in_order order (x ∷ xs) d h = (in_order-once order x xs d h, distinct_in_order order xs d (in_order-rest order x xs h))

pub proper : (order : List ℕ) (l : List Constraint) (es : List Solved) → AreDistinct order → IsEchelon order l es → AllByRecursion IsProper es
proper order l es d e = all_of IsProper es (λ g h.
    let b = each (λ k. IsBefore order k.variable k.form.products) es e.first g h in
    record { once = (distinct_in_order order (g.variable ∷ variables g.form.products) d b.ordered).1; nonzero = b.nonzero })
