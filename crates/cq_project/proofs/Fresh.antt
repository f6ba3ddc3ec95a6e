-- Rows without x that none of some rows follows from stay so beside combinations of the others: each combination follows
-- from rows in which x stands.
use Rattle.std.proofs.Common.{◌≡◌, ◌⊎◌, inl, inr, ℕ, List, [], ◌∷◌, ◌++◌, Bool, true, false, cond, length, take, drop, pos, refl, ap, ap₂, sym, subst, ◌∙◌}
use Rattle.std.specs.Prelude.{filter}
use Rattle.std.proofs.Math.Seq.{take-append_seam, drop-append_seam}
use Rattle.spec_numbers.specs.Rational.{ℚ, 0ℚ, IsPositive, neg_ℚ}
use Rattle.spec_numbers.proofs.Sign.{not_pos_zero}
use Rattle.spec_numbers.proofs.Ring.{int, minus}
use Rattle.spec_numbers.proofs.RationalLemmas.{ring}
use Rattle.spec_numbers.proofs.Places.{nothing_within}
use Rattle.spec_linear.specs.Form.{is_zero, changed_at}
use Rattle.spec_linear.specs.Solution.{Constraint, Satisfies, Entails, Has}
use Rattle.spec_linear.proofs.Denominators.{has_left, has_right, satisfies_agrees}
use Rattle.spec_linear.proofs.Lists.{entails_same, alike_trans}
use Rattle.spec_linear.proofs.Far.{member_satisfied}
use Rattle.spec_projection.specs.Elimination.{coefficient, lower_rows, upper_rows, other_rows, combinations, eliminated}
use Rattle.spec_projection.specs.Irredundant.{IsIrredundant, IsIrredundantSublist, NoneFollows, Sifts}
use Rattle.spec_projection.specs.Partial.{AreInequalities}
use Rattle.spec_projection.proofs.Members.{satisfies_all, has_either, alike_refl, alike_swapped}
use Rattle.spec_projection.proofs.Projected.{changed_to_itself}
use Rattle.spec_projection.proofs.Sifted.{sublist_has, none_yet, sifted_sublist, sifted_alike, sifted_none}
use Rattle.spec_projection.proofs.Splits.{split, entails_members}
use Rattle.spec_projection.proofs.Step.{Pair, has_pair, pair_has, lower_is, upper_is, other_is, has_lower, has_upper, from_value}
use Rattle.cq_project.proofs.Parts.{sublist_all, sublist_both}
use Rattle.cq_project.specs.Eliminating.{IsLeftBeside}

-- ---- what is left of new rows

pub left_all : (beside new : List Constraint) → NoneFollows new beside → IsLeftBeside beside new new
left_all beside new n = record { sublist = sublist_all new; same = alike_refl (new ++ beside); none = n }

pub left_sifted : (beside new left : List Constraint) → Sifts beside [] new left → IsLeftBeside beside new left
left_sifted beside new left s = record {
  sublist = sifted_sublist beside new left s;
  same = sifted_alike beside [] new left s;
  none = sifted_none beside [] new left (none_yet (new ++ beside)) s;
}

-- ---- a row that passes a test, among all

record Among {A : Type 0} (test : A → Bool) (l k : List A) (o : A) (m : List A) : Type 0 where
  front : List A
  back : List A
  parts : l ≡ front ++ o ∷ back
  in_front : filter test front ≡ k
  behind : filter test back ≡ m

among : {A : Type 0} (test : A → Bool) (l k m : List A) (o : A) → filter test l ≡ k ++ o ∷ m → Among test l k o m
among test [] k m o e = absurd (nothing_within k m o e)
among test (y ∷ l) k m o e = go (test y) refl k e (among test l)
  where
    go : (b : Bool) → test y ≡ b → (k : List _) → cond b (y ∷ filter test l) (filter test l) ≡ k ++ o ∷ m → ((k m : List _) (o : _) → filter test l ≡ k ++ o ∷ m → Among test l k o m)
        → Among test (y ∷ l) k o m
    go true t [] e rest =
        let h : y ≡ o = cc in
        let r : filter test l ≡ m = cc in
        record { front = []; back = l; parts = ap (λ z. z ∷ l) h; in_front = refl; behind = r }
    go true t (z ∷ k) e rest =
        let h : y ≡ z = cc in
        let r : filter test l ≡ k ++ o ∷ m = cc in
        let a = rest k m o r in
        record {
          front = y ∷ a.front;
          back = a.back;
          parts = ap (λ w. y ∷ w) a.parts;
          in_front = ap (λ b. cond b (y ∷ filter test a.front) (filter test a.front)) t ∙ ap (λ w. y ∷ w) a.in_front ∙ ap (λ w. w ∷ k) h;
          behind = a.behind;
        }
    go false t k e rest =
        let a = rest k m o e in
        record {
          front = y ∷ a.front;
          back = a.back;
          parts = ap (λ w. y ∷ w) a.parts;
          in_front = ap (λ b. cond b (y ∷ filter test a.front) (filter test a.front)) t ∙ a.in_front;
          behind = a.behind;
        }

-- ---- rows without x beside combinations of the others

module _ (x : ℕ) (rows : List Constraint) (i : AreInequalities rows) where
  -- where the others hold, the combinations do
  module _ (front back : List Constraint) (o : Constraint) (parts : rows ≡ front ++ o ∷ back) (free : coefficient x o ≡ 0ℚ) where
    member : (c : Constraint) → Has c rows → (coefficient x c ≡ 0ℚ → ⊥) → Has c (front ++ back)
    member c h n = elim (has_either c front (o ∷ back) (subst (Has c) parts h)) [
      | inl a ↦ has_left c front back a
      | inr b ↦ elim b [ inl e ↦ absurd (n (ap (coefficient x) e ∙ free)) | inr k ↦ has_right c front back k ]
    ]

    whole : (c : Constraint) → Has c (front ++ back) → Has c rows
    whole c h = subst (Has c) (sym parts) (elim (has_either c front back h) [ inl a ↦ has_left c front (o ∷ back) a | inr b ↦ has_right c front (o ∷ back) (inr b) ])

    combined : (e : Constraint) → Pair x e (lower_rows x rows) (upper_rows x rows) → Has e (eliminated x (front ++ back))
    combined e p =
        let lower = lower_is x rows p.lower p.of_lowers in
        let upper = upper_is x rows p.upper p.of_uppers in
        let below = has_lower x (front ++ back) p.lower (member p.lower lower.0 (λ z. not_pos_zero (subst IsPositive z lower.1))) lower.1 in
        let above = has_upper x (front ++ back) p.upper
        (member p.upper upper.0 (λ z. not_pos_zero (subst IsPositive (ap neg_ℚ z ∙ ring [] (minus (int (pos 0))) (int (pos 0)) refl) upper.1))) upper.1 in
        has_right e (other_rows x (front ++ back)) (combinations x (lower_rows x (front ++ back)) (upper_rows x (front ++ back)))
        (subst (λ d. Has d (combinations x (lower_rows x (front ++ back)) (upper_rows x (front ++ back)))) (sym p.is)
        (pair_has x p.lower p.upper (lower_rows x (front ++ back)) (upper_rows x (front ++ back)) below above))

    eliminated_holds : (a : ℕ → ℚ) → Satisfies a (front ++ back) → Satisfies a (eliminated x (front ++ back))
    eliminated_holds a h =
        from_value x (front ++ back) (λ c k. inl (i c (whole c k))) a (a x)
        (satisfies_agrees a (changed_at x (a x) a) (front ++ back) (λ y m. sym (changed_to_itself a x y)) h)

    others_entail : (l : List Constraint)
        → ((c : Constraint) → Has c l → Has c (other_rows x front ++ other_rows x back) ⊎ Has c (combinations x (lower_rows x rows) (upper_rows x rows)))
        → Entails l o → Entails (front ++ back) o
    others_entail l from e = (entails_same (front ++ back) o).1 (λ a h. (entails_same l o).0 e a (satisfies_all a l (λ c k. elim (from c k) [
      | inl b ↦
          member_satisfied a (front ++ back) c (elim (has_either c (other_rows x front) (other_rows x back) b) [
            | inl d ↦ has_left c front back (other_is x front c d).0
            | inr d ↦ has_right c front back (other_is x back c d).0
          ]) h
      | inr b ↦ member_satisfied a (eliminated x (front ++ back)) c (combined c (has_pair x c (lower_rows x rows) (upper_rows x rows) b)) (eliminated_holds a h)
    ])))

  module _ (irredundant : IsIrredundant rows) (left : List Constraint)
      (from : (c : Constraint) → Has c left → Has c (combinations x (lower_rows x rows) (upper_rows x rows)))
      (none : NoneFollows left (other_rows x rows)) where
    old_stands : (k m : List Constraint) (o : Constraint) → other_rows x rows ≡ k ++ o ∷ m → Entails (k ++ (m ++ left)) o → ⊥
    old_stands k m o e f =
        let a = among (λ c. is_zero (coefficient x c)) rows k m o e in
        let free = (other_is x rows o (subst (Has o) (sym e) (has_right o k (o ∷ m) (inl refl)))).1 in
        irredundant a.front a.back o a.parts (others_entail a.front a.back o a.parts free (k ++ (m ++ left)) (λ c h. elim (has_either c k (m ++ left) h) [
          | inl b ↦ inl (has_left c (other_rows x a.front) (other_rows x a.back) (subst (Has c) (sym a.in_front) b))
          | inr b ↦ elim (has_either c m left b) [
            | inl d ↦ inl (has_right c (other_rows x a.front) (other_rows x a.back) (subst (Has c) (sym a.behind) d))
            | inr d ↦ inr (from c d)
          ]
        ]) f)

    new_stands : (k m : List Constraint) (c : Constraint) → left ≡ k ++ c ∷ m → Entails ((other_rows x rows ++ k) ++ m) c → ⊥
    new_stands k m c e f = none k m c e (entails_members ((other_rows x rows ++ k) ++ m) (k ++ m ++ other_rows x rows) c
        (λ d h. elim (has_either d (other_rows x rows ++ k) m h) [
          | inl a ↦ elim (has_either d (other_rows x rows) k a) [
            | inl b ↦ has_right d (k ++ m) (other_rows x rows) b
            | inr b ↦ has_left d (k ++ m) (other_rows x rows) (has_left d k m b)
          ]
          | inr a ↦ has_left d (k ++ m) (other_rows x rows) (has_right d k m a)
        ]) f)

    both_stand : IsIrredundant (other_rows x rows ++ left)
    both_stand k m c e f = elim (split (other_rows x rows) left k m c e) [
      | inl b ↦ old_stands k b.behind c b.first (subst (λ w. Entails (k ++ w) c) b.rest f)
      | inr b ↦ new_stands b.front m c b.second (subst (λ w. Entails (w ++ m) c) b.rest f)
    ]

  pub left_with : IsIrredundant rows → (left : List Constraint)
      → IsLeftBeside (other_rows x rows) (combinations x (lower_rows x rows) (upper_rows x rows)) left
      → IsIrredundantSublist (other_rows x rows ++ left) (eliminated x rows)
  left_with irredundant left s =
      let old = other_rows x rows in
      let new = combinations x (lower_rows x rows) (upper_rows x rows) in
      record {
        sublist = sublist_both old old left new (sublist_all old) s.sublist;
        same = alike_trans (old ++ left) (left ++ old) (old ++ new) (alike_swapped old left)
            (alike_trans (left ++ old) (new ++ old) (old ++ new) s.same (alike_swapped new old));
        irredundant = both_stand irredundant left (sublist_has left new s.sublist) s.none;
      }

-- ---- the two parts of the rows without x

-- where they are parted
module _ (x : ℕ) (rows fewer : List Constraint) (at : ℕ) (is : fewer ≡ eliminated x rows) (others : at ≡ length (other_rows x rows)) where
  pub old_rows : (old : List Constraint) → old ≡ take at fewer → old ≡ other_rows x rows
  old_rows old e = e ∙ ap₂ (λ n l. take n l) others is ∙ take-append_seam (other_rows x rows) (combinations x (lower_rows x rows) (upper_rows x rows))

  pub new_rows : (new : List Constraint) → new ≡ drop at fewer → new ≡ combinations x (lower_rows x rows) (upper_rows x rows)
  new_rows new e = e ∙ ap₂ (λ n l. drop n l) others is ∙ drop-append_seam (other_rows x rows) (combinations x (lower_rows x rows) (upper_rows x rows))

module _ (x : ℕ) (rows old new : List Constraint) (old_is : old ≡ other_rows x rows) (new_is : new ≡ combinations x (lower_rows x rows) (upper_rows x rows)) where
  pub both_parts : old ++ new ≡ eliminated x rows
  both_parts = ap₂ (λ k l. k ++ l) old_is new_is

  pub old_inequalities : AreInequalities (eliminated x rows) → AreInequalities old
  old_inequalities i c h = i c (subst (Has c) both_parts (has_left c old new h))

  pub new_inequalities : AreInequalities (eliminated x rows) → AreInequalities new
  new_inequalities i c h = i c (subst (Has c) both_parts (has_right c old new h))

  pub left_together : AreInequalities rows → IsIrredundant rows → (left : List Constraint) → IsLeftBeside old new left
      → IsIrredundantSublist (old ++ left) (eliminated x rows)
  left_together i irredundant left s =
      subst (λ k. IsIrredundantSublist (k ++ left) (eliminated x rows)) (sym old_is)
      (left_with x rows i irredundant left
      (subst (λ k. IsLeftBeside k (combinations x (lower_rows x rows) (upper_rows x rows)) left) old_is (subst (λ m. IsLeftBeside old m left) new_is s)))
