-- The equations that a list entails: its own and its weak rows that are never strict. With them it holds strictly somewhere.
use Rattle.std.proofs.Common.{◌≡◌, ◌⊎◌, inl, inr, ℕ, List, [], ◌∷◌, ◌++◌, true, false, refl, ap, sym, subst, ◌∙◌}
use Rattle.spec_numbers.specs.Rational.{ℚ, 0ℚ, IsPositive, IsNotNegative}
use Rattle.spec_numbers.specs.Sums.{Mentions}
use Rattle.spec_numbers.proofs.Sign.{nonneg_cases, nonneg_zero, pos_nonneg}
use Rattle.spec_linear.specs.declared.Relation.{Relation}
use Rattle.spec_linear.specs.declared.Relation.TheVariants.{Eq, Gt, Ge, Ne}
use Rattle.spec_linear.specs.Form.{Linear, value_at}
use Rattle.spec_linear.specs.Solution.{Constraint, Meets, HoldsAt, Satisfies, Solvable, Entails, Equivalent, AreEquations, Has, SomeMentions, equal_zero, Satisfiable}
use Rattle.spec_linear.proofs.Denominators.{solvable_same, has_left, has_right}
use Rattle.spec_linear.proofs.Lists.{entails_same, alike_solvable, alike_entails, alike_sym}
use Rattle.spec_linear.specs.Weak.{above_zero, at_least_zero, with_weak, weak}
use Rattle.spec_linear.proofs.Far.{Weakly, weak_satisfied, weak_member}
use Rattle.spec_projection.specs.Interior.{strictly, is_equation, equations_of}
use Rattle.spec_projection.proofs.Members.{has_either, has_filtered, alike_by_members, member_entailed}
use Rattle.spec_projection.proofs.Splits.{entails_members}
use Rattle.spec_projection.proofs.Decision.{decided_above}
use Rattle.spec_projection.proofs.Interior.{strict_together}
use Rattle.spec_projection.proofs.Inside.{equations_follow}

-- what holds weakly of each member holds of the weak list
weak_all : (a : ℕ → ℚ) (l : List Constraint) → ((c : Constraint) → Has c l → Weakly c.relation (value_at a c.form)) → Satisfies a (weak l)
weak_all a [] h = tt
weak_all a (c ∷ l) h = by c.relation (h c (inl refl)) (weak_all a l (λ d k. h d (inr k)))
  where
    by : (r : Relation) → Weakly r (value_at a c.form) → Satisfies a (weak l) → Satisfies a (with_weak r c.form (weak l))
    by Eq w s = (w, s)
    by Gt w s = (w, s)
    by Ge w s = (w, s)
    by Ne w s = s

-- some members of the list l as equations and others: together they say what the members m say, beside l
pub record Sorted (l m : List Constraint) : Type 0 where
  pub equal : List Constraint
  pub rest : List Constraint
  pub equations : AreEquations equal
  pub forms : (c : Constraint) → Has c equal → (x : ℕ) → Mentions x c.form.products → SomeMentions x m
  pub holds : (a : ℕ → ℚ) → Satisfies a (weak l) → (c : Constraint) → Has c equal → HoldsAt a c
  pub among : (c : Constraint) → Has c rest → Has c m
  pub unequal : (c : Constraint) → Has c rest → c.relation ≡ Eq → ⊥
  pub rises : (f : Linear) → Has (at_least_zero f) rest → Satisfiable (above_zero f ∷ weak l)
  pub back : (c : Constraint) → Has c m → Has c rest ⊎ (Has (equal_zero c.form) equal × (Meets c.relation 0ℚ))

module _ (l : List Constraint) where
  -- the member joins the equations
  as_equation : (c : Constraint) (m : List Constraint) → Sorted l m → Meets c.relation 0ℚ → ((a : ℕ → ℚ) → Satisfies a (weak l) → value_at a c.form ≡ 0ℚ) → Sorted l (c ∷ m)
  as_equation c m s k h = record {
    equal = equal_zero c.form ∷ s.equal;
    rest = s.rest;
    equations = (refl, s.equations);
    forms = λ d i x u. elim i [ inl e ↦ inl (subst (λ z. Mentions x z.form.products) e u) | inr j ↦ inr (s.forms d j x u) ];
    holds = λ a t d i. elim i [ inl e ↦ subst (HoldsAt a) (sym e) (h a t) | inr j ↦ s.holds a t d j ];
    among = λ d i. inr (s.among d i);
    unequal = s.unequal;
    rises = s.rises;
    back = λ d i. elim i [
      | inl e ↦ inr (inl (ap (λ z. equal_zero z.form) e), subst (λ z. Meets z.relation 0ℚ) (sym e) k)
      | inr j ↦ elim (s.back d j) [ inl u ↦ inl u | inr u ↦ inr (inr u.0, u.1) ]
    ];
  }

  -- it joins the others
  as_other : (c : Constraint) (m : List Constraint) → Sorted l m → (c.relation ≡ Eq → ⊥) → ((f : Linear) → at_least_zero f ≡ c → Satisfiable (above_zero f ∷ weak l)) → Sorted l (c ∷ m)
  as_other c m s n h = record {
    equal = s.equal;
    rest = c ∷ s.rest;
    equations = s.equations;
    forms = λ d i x u. inr (s.forms d i x u);
    holds = s.holds;
    among = λ d i. elim i [ inl e ↦ inl e | inr j ↦ inr (s.among d j) ];
    unequal = λ d i e. elim i [ inl w ↦ n (sym (ap (λ z. z.relation) w) ∙ e) | inr j ↦ s.unequal d j e ];
    rises = λ f i. elim i [ inl e ↦ h f e | inr j ↦ s.rises f j ];
    back = λ d i. elim i [ inl e ↦ inl (inl e) | inr j ↦ elim (s.back d j) [ inl u ↦ inl (inr u) | inr u ↦ inr u ] ];
  }

  sorted_out : (m : List Constraint) → ((c : Constraint) → Has c m → Has c l) → Sorted l m
  sorted_out [] i = record {
    equal = [];
    rest = [];
    equations = tt;
    forms = λ c h x u. absurd h;
    holds = λ a t c h. absurd h;
    among = λ c h. h;
    unequal = λ c h e. h;
    rises = λ f h. absurd h;
    back = λ c h. absurd h;
  }
  sorted_out (c ∷ m) i = by c.relation refl (sorted_out m (λ d h. i d (inr h)))
    where
      weakly : (a : ℕ → ℚ) → Satisfies a (weak l) → Weakly c.relation (value_at a c.form)
      weakly a t = weak_member a l c (i c (inl refl)) t

      other : (r : Relation) → c.relation ≡ r → (r ≡ Eq → ⊥) → (Ge ≡ r → ⊥) → Sorted l m → Sorted l (c ∷ m)
      other r e n g s = as_other c m s (λ w. n (sym e ∙ w)) (λ f w. absurd (g (ap (λ z. z.relation) w ∙ e)))

      gt_eq : Gt ≡ Eq → ⊥
      gt_eq e = cc

      ge_gt : Ge ≡ Gt → ⊥
      ge_gt e = cc

      ge_eq : Ge ≡ Eq → ⊥
      ge_eq e = cc

      ne_eq : Ne ≡ Eq → ⊥
      ne_eq e = cc

      ge_ne : Ge ≡ Ne → ⊥
      ge_ne e = cc

      flat : (a : ℕ → ℚ) → IsNotNegative (value_at a c.form) → (IsPositive (value_at a c.form) → ⊥) → value_at a c.form ≡ 0ℚ
      flat a h n = elim (nonneg_cases (value_at a c.form) h) [ inl e ↦ e | inr p ↦ absurd (n p) ]

      by : (r : Relation) → c.relation ≡ r → Sorted l m → Sorted l (c ∷ m)
      by Eq e s = as_equation c m s (subst (λ r. Meets r 0ℚ) (sym e) refl) (λ a t. subst (λ r. Weakly r (value_at a c.form)) e (weakly a t))
      by Gt e s = other Gt e gt_eq ge_gt s
      by Ne e s = other Ne e ne_eq ge_ne s
      by Ge e s = elim (decided_above l c.form) [
        | inl v ↦ as_other c m s (λ w. ge_eq (sym e ∙ w)) (λ f w. subst (λ g. Satisfiable (above_zero g ∷ weak l)) (sym (ap (λ z. z.form) w)) v)
        | inr n ↦ as_equation c m s (subst (λ r. Meets r 0ℚ) (sym e) nonneg_zero) (λ a t. flat a (subst (λ r. Weakly r (value_at a c.form)) e (weakly a t)) (λ p. n a (p, t)))
      ]

  pub whole : Sorted l l
  whole = sorted_out l (λ c h. h)

  pub whole_alike : Equivalent (whole.equal ++ whole.rest) l
  whole_alike = alike_by_members (whole.equal ++ whole.rest) l
      (λ c h. elim (has_either c whole.equal whole.rest h) [
        | inl i ↦ (entails_same l c).1 (λ a s. whole.holds a (weak_satisfied a l s) c i)
        | inr i ↦ member_entailed l c (whole.among c i)
      ])
      (λ c h. elim (whole.back c h) [
        | inl i ↦ member_entailed (whole.equal ++ whole.rest) c (has_right c whole.equal whole.rest i)
        | inr i ↦ (entails_same (whole.equal ++ whole.rest) c).1 (λ a s.
            subst (Meets c.relation) (sym ((entails_same (whole.equal ++ whole.rest) (equal_zero c.form)).0 (member_entailed (whole.equal ++ whole.rest) (equal_zero c.form) (has_left (equal_zero c.form) whole.equal whole.rest i.0)) a s)) i.1)
      ])

  equation_of : (m : List Constraint) → AreEquations m → (c : Constraint) → Has c m → c.relation ≡ Eq
  equation_of [] e c h = absurd h
  equation_of (d ∷ m) e c (inl w) = ap (λ z. z.relation) w ∙ e.0
  equation_of (d ∷ m) e c (inr h) = equation_of m e.1 c h

  weakly_of : (r : Relation) (q : ℚ) → Meets r q → Weakly r q
  weakly_of Eq q h = h
  weakly_of Gt q h = pos_nonneg h
  weakly_of Ge q h = h
  weakly_of Ne q h = tt

  holds_strictly : Solvable l → Solvable (strictly (whole.equal ++ whole.rest))
  holds_strictly s = strict_together (whole.equal ++ whole.rest) (alike_solvable l (whole.equal ++ whole.rest) (alike_sym (whole.equal ++ whole.rest) l whole_alike) s)
      (λ f h. elim (has_either (at_least_zero f) whole.equal whole.rest h) [
        | inl i ↦ absurd (ge_eq (equation_of whole.equal whole.equations (at_least_zero f) i))
        | inr i ↦ (let v = whole.rises f i in
            (solvable_same (above_zero f ∷ weak (whole.equal ++ whole.rest))).1 (
              v.0,
              (
                v.1.0,
                weak_all v.0 (whole.equal ++ whole.rest) (λ c k. elim (has_either c whole.equal whole.rest k) [
                  | inl j ↦ weakly_of c.relation (value_at v.0 c.form) (whole.holds v.0 v.1.1 c j)
                  | inr j ↦ weak_member v.0 l c (whole.among c j) v.1.1
                ]),
              ),
            ))
      ])
    where
      ge_eq : Ge ≡ Eq → ⊥
      ge_eq e = cc

  is_equation-of : (r : Relation) → is_equation r ≡ true → r ≡ Eq
  is_equation-of Eq e = refl
  is_equation-of Gt e = let d : false ≡ true = e in cc
  is_equation-of Ge e = let d : false ≡ true = e in cc
  is_equation-of Ne e = let d : false ≡ true = e in cc

  -- every equation that the list entails follows from these
  pub entailed_equations : Solvable l → (f : Linear) → Entails l (equal_zero f) → Entails whole.equal (equal_zero f)
  entailed_equations s f h =
      entails_members (equations_of (whole.equal ++ whole.rest)) whole.equal (equal_zero f)
      (λ c i.
      let k = has_filtered (λ z. is_equation z.relation) c (whole.equal ++ whole.rest) i in
      elim (has_either c whole.equal whole.rest k.0) [ inl j ↦ j | inr j ↦ absurd (whole.unequal c j (is_equation-of c.relation k.1)) ])
      (equations_follow (whole.equal ++ whole.rest) f (holds_strictly s) (alike_entails l (whole.equal ++ whole.rest) (equal_zero f) (alike_sym (whole.equal ++ whole.rest) l whole_alike) h))
