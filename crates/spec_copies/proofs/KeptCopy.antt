-- The copy of a term that keeps a variable for a disequation.
use Rattle.std.proofs.Common.{◌≡◌, inl, inr, ℕ, zero, suc, List, [], ◌∷◌, pos, refl, sym, ap, subst, ◌∙◌}
use Rattle.spec_numbers.specs.Rational.{ℚ, 0ℚ, 1ℚ, ◌+ℚ◌, ◌*ℚ◌, neg_ℚ, IsPositive, IsNotNegative}
use Rattle.spec_numbers.proofs.Ring.{var, int, ◌⊕◌, ◌⊗◌, minus}
use Rattle.spec_numbers.proofs.RationalLemmas.{ring}
use Rattle.spec_numbers.proofs.Sign.{pos_one, nonneg_zero, one_not_zero}
use Rattle.spec_linear.specs.declared.Relation.TheVariants.{Ge, Ne}
use Rattle.spec_linear.specs.Form.{Linear, value_at}
use Rattle.spec_linear.specs.Solution.{Constraint, Has, SomeMentions, MentionsOnly, Satisfies, Entails, number, equal_zero}
use Rattle.spec_linear.specs.Echelon.{IsEchelon}
use Rattle.spec_linear.proofs.Denominators.{solvable_same}
use Rattle.spec_linear.proofs.Points.{holds_same}
use Rattle.spec_linear.proofs.Lists.{entails_same}
use Rattle.spec_linear.proofs.NoVariable.{number_everywhere}
use Rattle.spec_projection.specs.Interior.{strictly}
use Rattle.spec_projection.specs.Others.{AreOthers}
use Rattle.spec_projection.specs.Strict.{HasForm, Strengthened, no_more as none_left, left_alone}
use Rattle.spec_projection.specs.Irredundant.{done, stays}
use Rattle.spec_projection.specs.Projection.{Keeps}
use Rattle.spec_projection.proofs.Inside.{no_equation_entailed}
use Rattle.spec_projection.proofs.SameOn.{same_on_refl, same_from_same_on}
use Rattle.spec_terms.specs.Term.{Occurs}
use Rattle.spec_copies.specs.Reach.{Reaches, stands, linked}
use Rattle.spec_copies.specs.Parts.{IsPart, IsConnected, at_variable, at_member, nothing, into_first}
use Rattle.spec_copies.specs.Copies.{IsRest, IsKept, IsCopy}
use Rattle.spec_copies.specs.Samples.{x, y, z, minus_z, pair_term, apart, apart_copy}

abbrev list : List Constraint
list = apart.linear

-- X, Y and Z
abbrev values : ℚ → ℚ → ℚ → ℕ → ℚ
values q w r zero = q
values q w r (suc zero) = w
values q w r (suc (suc n)) = r

-- ---- no equation follows

inside : Satisfies (values (1ℚ +ℚ 1ℚ) 0ℚ 1ℚ) (strictly list)
inside = (
  subst IsPositive (ring [] (int (pos 1)) (minus (int (pos 0)) ⊕ (int (pos 1) ⊗ int (pos 1) ⊕ int (pos 0))) refl) pos_one,
  (
    subst IsPositive
        (ring [] (int (pos 1)) (minus (int (pos 0)) ⊕ (int (pos 1) ⊗ (int (pos 1) ⊕ int (pos 1)) ⊕ (minus (int (pos 1)) ⊗ int (pos 1) ⊕ int (pos 0)))) refl) pos_one,
    (
      (λ e. one_not_zero (
          ring [] (int (pos 1)) (minus (minus (int (pos 0)) ⊕ (int (pos 1) ⊗ int (pos 0) ⊕ (minus (int (pos 1)) ⊗ int (pos 1) ⊕ int (pos 0))))) refl
          ∙ ap neg_ℚ e ∙ ring [] (minus (int (pos 0))) (int (pos 0)) refl
          )),
      tt,
    ),
  ),
)

follows : (f : Linear) → Entails list (equal_zero f) → Entails [] (equal_zero f)
follows f e p h =
    let n = no_equation_entailed list f refl ((solvable_same (strictly list)).1 (values (1ℚ +ℚ 1ℚ) 0ℚ 1ℚ, inside)) e in
    (holds_same p (equal_zero f)).1 (number_everywhere f n.0 (number p) ∙ n.1)

no_equations : (order : List ℕ) → IsEchelon order list []
no_equations order = record { first = tt; sorted = tt; reduced = tt; entailed = tt; complete = λ f over e. follows f e }

-- ---- the disequation stays

abbrev difference : Constraint
difference = record { relation = Ne; form = record { products = y ∷ minus_z ∷ []; constant = neg_ℚ 0ℚ } }

-- it is 1 where Y alone is 1, and the inequalities are 0 there
no_multiple : (f : Linear) → value_at (values 0ℚ 1ℚ 0ℚ) f ≡ 0ℚ → HasForm f (difference ∷ []) → ⊥
no_multiple f zero_there h = elim h.among [
  | inl e ↦ one_not_zero (
      ring [] (int (pos 1)) (minus (int (pos 0)) ⊕ (int (pos 1) ⊗ int (pos 1) ⊕ (minus (int (pos 1)) ⊗ int (pos 0) ⊕ int (pos 0)))) refl
      ∙ ap (λ (c : Constraint). value_at (values 0ℚ 1ℚ 0ℚ) c.form) (sym e)
      ∙ h.multiples.same (values 0ℚ 1ℚ 0ℚ)
      ∙ ap (λ (q : ℚ). h.multiples.factor *ℚ q) zero_there
      ∙ ring (h.multiples.factor ∷ []) (var 0 ⊗ int (pos 0)) (int (pos 0)) refl
      )
  | inr never ↦ absurd never
]

abbrev inequalities : List Constraint
inequalities =
    record { relation = Ge; form = record { products = z ∷ []; constant = neg_ℚ 0ℚ } }
    ∷ record { relation = Ge; form = record { products = x ∷ minus_z ∷ []; constant = neg_ℚ 0ℚ } } ∷ []

left_as_they_are : Strengthened (difference ∷ []) inequalities inequalities
left_as_they_are =
    left_alone (λ e h. no_multiple _ (ring [] (minus (int (pos 0)) ⊕ (int (pos 1) ⊗ int (pos 0) ⊕ int (pos 0))) (int (pos 0)) refl) h)
    (left_alone
    (λ e h. no_multiple _ (ring [] (minus (int (pos 0)) ⊕ (int (pos 1) ⊗ int (pos 0) ⊕ (minus (int (pos 1)) ⊗ int (pos 0) ⊕ int (pos 0)))) (int (pos 0)) refl) h)
    none_left)

-- all three may be 0 by the inequalities
not_entailed : Entails inequalities difference → ⊥
not_entailed e =
    (entails_same inequalities difference).0 e (λ v. 0ℚ) (
      subst IsNotNegative (ring [] (int (pos 0)) (minus (int (pos 0)) ⊕ (int (pos 1) ⊗ int (pos 0) ⊕ int (pos 0))) refl) nonneg_zero,
      (
        subst IsNotNegative
            (ring [] (int (pos 0)) (minus (int (pos 0)) ⊕ (int (pos 1) ⊗ int (pos 0) ⊕ (minus (int (pos 1)) ⊗ int (pos 0) ⊕ int (pos 0)))) refl) nonneg_zero,
        tt,
      ),
    )
    (ring [] (minus (int (pos 0)) ⊕ (int (pos 1) ⊗ int (pos 0) ⊕ (minus (int (pos 1)) ⊗ int (pos 0) ⊕ int (pos 0)))) (int (pos 0)) refl)

keeps : Keeps (2 ∷ []) (0 ∷ 1 ∷ []) (2 ∷ []) list []
keeps = record {
  others = [];
  echelon = no_equations (2 ∷ 0 ∷ 1 ∷ []);
  others_in_front = λ v h. absurd h;
  solved_targets = λ v h. absurd h;
  strict = inequalities;
  strengthened = left_as_they_are;
  left = difference ∷ [];
  unequal = stays not_entailed done;
  kept_all = all_kept;
  kept_only = λ v h. (h, elim h [ inl e ↦ inl (inr (inl e)) | inr never ↦ absurd never ]);
}
  where
    all_kept : MentionsOnly (0 ∷ 1 ∷ 2 ∷ []) (difference ∷ [])
    all_kept v (inl (inl e)) = inr (inl e)
    all_kept v (inl (inr (inl e))) = inr (inr (inl e))
    all_kept v (inl (inr (inr never))) = absurd never
    all_kept v (inr never) = absurd never

-- ---- all three rows hang together

by_x : IsConnected (0 ∷ 1 ∷ []) list (record { relation = Ge; form = record { products = x ∷ minus_z ∷ []; constant = neg_ℚ 0ℚ } })
by_x = at_variable 0 (inr (inl refl)) (inl refl) (inl refl)

connected : (c : Constraint) → Has c list → IsConnected (0 ∷ 1 ∷ []) list c
connected c (inl e) = subst (IsConnected (0 ∷ 1 ∷ []) list) (sym e) (at_member 2 (inl refl) by_x (inr (inl refl)) (inl refl))
connected c (inr (inl e)) = subst (IsConnected (0 ∷ 1 ∷ []) list) (sym e) by_x
connected c (inr (inr (inl e))) = subst (IsConnected (0 ∷ 1 ∷ []) list) (sym e) (at_variable 1 (inr (inr (inl refl))) (inr (inl refl)) (inl refl))
connected c (inr (inr (inr never))) = absurd never

whole_list : IsPart (0 ∷ 1 ∷ []) list list
whole_list = record {
  rest = [];
  split = into_first (into_first (into_first nothing));
  connected = connected;
  elsewhere = λ v h m. m;
  apart = λ v h m. m;
}

only : MentionsOnly (0 ∷ 1 ∷ 2 ∷ []) list
only v (inl (inl e)) = inr (inr (inl e))
only v (inl (inr never)) = absurd never
only v (inr (inl (inl e))) = inl e
only v (inr (inl (inr (inl e)))) = inr (inr (inl e))
only v (inr (inl (inr (inr never)))) = absurd never
only v (inr (inr (inl (inl e)))) = inr (inl e)
only v (inr (inr (inl (inr (inl e))))) = inr (inr (inl e))
only v (inr (inr (inl (inr (inr never))))) = absurd never
only v (inr (inr (inr never))) = absurd never

others : AreOthers (0 ∷ 1 ∷ []) list (2 ∷ [])
others = record { youngest_first = tt; others = λ v. (λ h. (mentioned v h, no_target v h), λ h. the_other v (only v h.0) h.1) }
  where
    mentioned : (v : ℕ) → Has v (2 ∷ []) → SomeMentions v list
    mentioned v (inl e) = inl (inl e)
    mentioned v (inr never) = absurd never

    no_target : (v : ℕ) → Has v (2 ∷ []) → Has v (0 ∷ 1 ∷ []) → ⊥
    no_target v (inl e) (inl d) = let never : 2 ≡ 0 = sym e ∙ d in cc
    no_target v (inl e) (inr (inl d)) = let never : 2 ≡ 1 = sym e ∙ d in cc
    no_target v (inl e) (inr (inr never)) = never
    no_target v (inr never) h = never

    the_other : (v : ℕ) → Has v (0 ∷ 1 ∷ 2 ∷ []) → (Has v (0 ∷ 1 ∷ []) → ⊥) → Has v (2 ∷ [])
    the_other v (inl e) n = absurd (n (inl e))
    the_other v (inr (inl e)) n = absurd (n (inr (inl e)))
    the_other v (inr (inr h)) n = h

-- ---- the copy

unlinked : (v : ℕ) → Reaches pair_term [] v → Occurs v pair_term
unlinked v (stands o) = o
unlinked v (linked k h r o q) = absurd h

is_rest : IsRest apart pair_term []
is_rest = record { older_first = tt; reached = λ v. (λ h. absurd h, λ h. h.1 (unlinked v h.0)) }

is_kept : IsKept (0 ∷ 1 ∷ []) list (2 ∷ [])
is_kept = record {
  part = list;
  is_part = whole_list;
  front = 2 ∷ [];
  others = others;
  older_first = tt;
  equations = [];
  keeps = keeps;
}

pub apart_is_copied : IsCopy apart pair_term apart_copy
apart_is_copied = record {
  rest = [];
  is_rest = is_rest;
  kept = 2 ∷ [];
  is_kept = is_kept;
  variables_are = refl;
  term_is = refl;
  numeric_are = refl;
  rows_say = same_from_same_on (0 ∷ 1 ∷ 2 ∷ []) list list only (same_on_refl (0 ∷ 1 ∷ 2 ∷ []) list);
  told_are = refl;
  asleep_are = refl;
}
