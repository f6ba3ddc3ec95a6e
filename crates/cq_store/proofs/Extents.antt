-- What the answers of the search for an asked form say of the told list.
use Rattle.std.proofs.Common.{◌≡◌, ℕ, ◌<◌, List, [], ◌∷◌, ◌++◌, length, ap, sym, subst, ◌∙◌}
use Rattle.spec_numbers.specs.Rational.{ℚ}
use Rattle.spec_linear.specs.Form.{Linear}
use Rattle.spec_linear.specs.Solution.{Constraint}
use Rattle.spec_linear.specs.Extremes.{IsSupremum, IsUnbounded}
use Rattle.spec_simplex.proofs.Extent.{greatest_is_supremum, unbounded_over}
use Rattle.spec_simplex.specs.Reach.{IsGreatest}
use Rattle.spec_simplex.proofs.Extent.{Grows}
use Rattle.cq_dict.specs.declared.table.Role.TheVariants.{Basic}
use Rattle.cq_dict.specs.declared.table.Role.{Role}
use Rattle.cq_dict.specs.Roles.{Quantities, is_restricted}
use Rattle.cq_dict.proofs.Roles.{at_below}
use Rattle.spec_simplex.specs.Dictionary as of_simplex
use Rattle.cq_simplex.specs.Dictionary.{dictionary}
use Rattle.cq_simplex.specs.Answers.{IsMaximum, RisesWithoutEnd, IsOverflow}
use Rattle.cq_simplex.specs.declared.Aim.{Aim}
use Rattle.cq_simplex.specs.Climbs.{IsCarried, IsSpentAfter}
use Rattle.spec_simplex.specs.Asked.{IsAsked}
use Rattle.cq_frac.specs.declared.Pair.{Pair}
use Rattle.cq_tableau.specs.declared.names.Name.{Name}
use Rattle.cq_tableau.specs.Asking.{AsksForm}
use Rattle.cq_tableau.specs.Forms.{form_at}
use Rattle.cq_tableau.specs.Keeps.{Keeps}
use Rattle.cq_tableau.specs.Stored.{IsStored}
use Rattle.cq_store.specs.StoreValue.{MayRefuse, MayTake}
use Rattle.cq_tableau.proofs.Steps.{form_last}
use Rattle.cq_tableau.proofs.Tied.{maximum, unbounded, searchable}
use Rattle.cq_tableau.proofs.Joined.{carried_keeps}
use Rattle.cq_tableau.proofs.Storing.{stored_solvable, asked_kept, asked_row}
use Rattle.cq_store.proofs.Moments.{row_refused, row_spent}

module _ (told : List Constraint) (names : List Name) (q : Quantities) (s : IsStored told names q) (f : Linear) (new_names : List Name) (mid : Quantities) (n : ℕ)
    (a : AsksForm names q f new_names mid n) where
  kept : Keeps ((a.stays told s).forms ++ f ∷ []) told mid.roles mid.restricted
  kept = asked_kept told names q s f new_names mid n a

  form_is : form_at ((a.stays told s).forms ++ f ∷ []) n ≡ f
  form_is = ap (form_at ((a.stays told s).forms ++ f ∷ [])) (a.number ∙ sym (a.stays told s).keeps.describes.size) ∙ form_last (a.stays told s).forms f

  made : n < length mid.roles
  made = let r = asked_row told names q s f new_names mid n a in at_below mid.roles n (Basic r.0) r.1

  pub asked_supremum : (new : List Role) (v : ℚ) → IsMaximum mid.roles mid.restricted n new v → IsSupremum told f v
  asked_supremum new v m =
      greatest_is_supremum told f v (stored_solvable told names q s)
      (subst (λ g. IsGreatest told g v) form_is
      (maximum mid.roles mid.restricted ((a.stays told s).forms ++ f ∷ []) told kept.describes kept.invariant.sound n made new v m))

  pub asked_unbounded : RisesWithoutEnd mid.roles mid.restricted n → IsUnbounded told f
  asked_unbounded u =
      unbounded_over told f (stored_solvable told names q s)
      (subst (Grows told) form_is (unbounded mid.roles mid.restricted ((a.stays told s).forms ++ f ∷ []) told kept.describes kept.invariant.sound n made u))

  -- the row may be maximised
  pub asked_feasible : of_simplex.IsFeasible (is_restricted mid.restricted) (dictionary mid.roles n)
  asked_feasible = searchable mid.roles mid.restricted ((a.stays told s).forms ++ f ∷ []) n kept.size kept.invariant.sound.feasible

  -- a refusal of the search
  pub search_refused : (Joins Questions : Constraint → Type 0) → IsAsked told Joins Questions f → (new : List Role) (pair : Pair)
      → IsCarried mid.roles mid.restricted n new → IsOverflow mid.restricted n new pair → MayRefuse told Joins Questions pair
  search_refused Joins Questions is_asked new pair w o =
      row_refused told names q s f Joins Questions is_asked new_names mid n a new
      (carried_keeps ((a.stays told s).forms ++ f ∷ []) told mid.roles mid.restricted kept n (asked_row told names q s f new_names mid n a) new w)
      w.asked_row o.row o.column pair (o.made, o.refused)

  -- or a want of exchanges
  pub search_spent : (Joins Questions : Constraint → Type 0) → IsAsked told Joins Questions f → (aim : Aim) (budget : ℕ) (new : List Role)
      → IsSpentAfter mid.roles mid.restricted n aim budget new → MayTake told Joins Questions budget
  search_spent Joins Questions is_asked aim budget new t =
      row_spent told names q s f Joins Questions is_asked new_names mid n a t.from
      (carried_keeps ((a.stays told s).forms ++ f ∷ []) told mid.roles mid.restricted kept n (asked_row told names q s f new_names mid n a) t.from t.carried)
      t.carried.asked_row aim budget new t.spent
