-- Where the opposite of a constraint would join, the constraint is asked about.
use Rattle.std.proofs.Common.{◌≡◌, ℕ, List, [], ◌∷◌, ◌++◌, Bool, true, false, not, refl, ap, sym, subst}
use Rattle.std.specs.List.{AllByRecursion}
use Rattle.spec_linear.specs.declared.Relation.{Relation}
use Rattle.spec_linear.specs.declared.Relation.TheVariants.{Eq, Gt, Ge, Ne}
use Rattle.std.specs.Prelude.{MatchBool}
use Rattle.spec_numbers.specs.Rational.{ℚ, IsPositive, IsNotNegative}
use Rattle.spec_numbers.proofs.Ring.{var, minus}
use Rattle.spec_numbers.proofs.RationalLemmas.{ring}
use Rattle.spec_numbers.proofs.Sign.{not_both}
use Rattle.spec_linear.specs.Form.{Linear, value_at}
use Rattle.spec_linear.specs.Solution.{Constraint, Meets, HoldsAt, Solvable, Unsolvable, Entails, number}
use Rattle.spec_linear.proofs.Lists.{solves_append}
use Rattle.spec_linear.proofs.Points.{holds_same}
use Rattle.spec_linear.proofs.Values.{value_at-negated_form}
use Rattle.spec_linear.specs.Extremes.{Leaves}
use Rattle.spec_simplex.proofs.Extent.{entails_if_refused}
use Rattle.spec_linear.specs.Opposite.{opposite_of, opposite}
use Rattle.spec_simplex.specs.Asked.{IsAsked, of_member, of_joining, of_question, of_variable, negated, IsInForce, alone, while_joining, while_asked, while_asked_unequal, NoQuestion}
use Rattle.cq_frac.specs.declared.Pair.{Pair}
use Rattle.spec_simplex.specs.Overflow.{Moment}
use Rattle.cq_store.specs.StoreValue.{IsCallList, in_force, joined, IsCallMoment, MayRefuse, MayTake, Only}

abbrev of_relation : Relation → Linear → Constraint
of_relation r f = record { relation = r; form = f }

not_ne : Eq ≡ Ne → ⊥
not_ne e = cc

not_ge : Eq ≡ Ge → ⊥
not_ge e = cc

not_gt : Eq ≡ Gt → ⊥
not_gt e = cc

same_equation : (r : Relation) (g f : Linear) → of_relation Eq f ≡ opposite_of r g → of_relation Ne f ≡ of_relation r g
same_equation Eq g f e = absurd (not_ne (ap (λ (c : Constraint). c.relation) e))
same_equation Gt g f e = absurd (not_ge (ap (λ (c : Constraint). c.relation) e))
same_equation Ge g f e = absurd (not_gt (ap (λ (c : Constraint). c.relation) e))
same_equation Ne g f e = ap (λ (c : Constraint). of_relation Ne c.form) e

opposite_asked : (m : List Constraint) (c : Constraint) (r : Relation) → c.relation ≡ r → IsAsked m NoQuestion (Only c) (opposite_of r c.form).form
opposite_asked m c Eq e = of_question c refl
opposite_asked m c Gt e = negated c.form (of_question c refl)
opposite_asked m c Ge e = negated c.form (of_question c refl)
opposite_asked m c Ne e = of_question c refl

module _ (told : List Constraint) (c : Constraint) where
  asked_instead : (m : List Constraint) (f : Linear) → IsAsked m (Only (opposite c)) NoQuestion f → IsAsked m NoQuestion (Only c) f
  asked_instead m f a = go a
    where
      go : {f : Linear} → IsAsked m (Only (opposite c)) NoQuestion f → IsAsked m NoQuestion (Only c) f
      go (of_member k h) = of_member k h
      go (of_joining k e) = subst (λ (z : Constraint). IsAsked m NoQuestion (Only c) z.form) (sym e) (opposite_asked m c c.relation refl)
      go (of_question k h) = absurd h
      go (of_variable x) = of_variable x
      go (negated g h) = negated g (go h)

  all_instead : (m : List Constraint) (s : List Linear) → AllByRecursion (IsAsked m (Only (opposite c)) NoQuestion) s → AllByRecursion (IsAsked m NoQuestion (Only c)) s
  all_instead m [] a = tt
  all_instead m (f ∷ s) a = (asked_instead m f a.0, all_instead m s a.1)

  in_force_instead : {m : List Constraint} → IsInForce told (Only (opposite c)) NoQuestion m → IsCallList told NoQuestion (Only c) m
  in_force_instead alone = in_force alone
  in_force_instead (while_joining f g e i) = in_force (while_asked_unequal f g (same_equation c.relation c.form f e) i)
  in_force_instead (while_asked k h) = absurd h
  in_force_instead (while_asked_unequal f g h i) = absurd h

  list_instead : {m : List Constraint} → IsCallList told (Only (opposite c)) NoQuestion m → IsCallList told NoQuestion (Only c) m
  list_instead (in_force h) = in_force_instead h
  list_instead (joined k e) = subst (λ z. IsCallList told NoQuestion (Only c) (told ++ z ∷ [])) (sym e) (in_force (while_asked c refl))

  moment_instead : (m : Moment) → IsCallMoment told (Only (opposite c)) NoQuestion m → IsCallMoment told NoQuestion (Only c) m
  moment_instead m h = record { stage = h.stage; list = list_instead h.list; asked = all_instead m.list m.asked h.asked; operations = h.operations; rows = h.rows }

  pub refuses_instead : (d : Constraint) → d ≡ opposite c → (pair : Pair) → MayRefuse told (Only d) NoQuestion pair → MayRefuse told NoQuestion (Only c) pair
  refuses_instead d e pair r =
      let o = subst (λ (z : Constraint). MayRefuse told (Only z) NoQuestion pair) e r in
      record { moment = o.moment; of_call = moment_instead o.moment o.of_call; due = o.due }

  pub takes_instead : (d : Constraint) → d ≡ opposite c → (n : ℕ) → MayTake told (Only d) NoQuestion n → MayTake told NoQuestion (Only c) n
  takes_instead d e n r =
      let o = subst (λ (z : Constraint). MayTake told (Only z) NoQuestion n) e r in
      record { moment = o.moment; of_call = moment_instead o.moment o.of_call; chain = o.chain }

-- ---- what the opposite's joining tells
breaks : (r : Relation) (f : Linear) (v : ℕ → ℚ) → HoldsAt v (opposite_of r f) → Meets r (value_at v f) → ⊥
breaks Eq f v h m = h m
breaks Gt f v h m = not_both m (subst IsNotNegative (value_at-negated_form v f) h)
breaks Ge f v h m =
    not_both (subst IsPositive (value_at-negated_form v f) h) (subst IsNotNegative (ring (value_at v f ∷ []) (var 0) (minus (minus (var 0))) refl) m)
breaks Ne f v h m = m h

leaves : (told : List Constraint) (c : Constraint) → Solvable (told ++ opposite c ∷ []) → Leaves told c
leaves told c s =
    let both = (solves_append s.0 told (opposite c ∷ [])).0 s.1 in
    record {
      point = s.0;
      solves = both.0;
      breaks = λ h. breaks c.relation c.form (number s.0) ((holds_same s.0 (opposite c)).0 both.1.0) ((holds_same s.0 c).0 h);
    }

entails : (told : List Constraint) (c : Constraint) → Unsolvable (told ++ opposite c ∷ []) → Entails told c
entails told c u = entails_if_refused told c (λ p s. u p ((solves_append p told (opposite c ∷ [])).1 (s.1, (s.0, tt))))

pub answered : (told : List Constraint) (c d : Constraint) → d ≡ opposite c → (b : Bool) → MatchBool b (Solvable (told ++ d ∷ [])) (Unsolvable (told ++ d ∷ []))
    → MatchBool (not b) (Entails told c) (Leaves told c)
answered told c d e true h = leaves told c (subst (λ z. Solvable (told ++ z ∷ [])) e h)
answered told c d e false h = entails told c (subst (λ z. Unsolvable (told ++ z ∷ [])) e h)
