-- The same solutions on the targets: an equivalence of lists over them, which keeps what is solvable, entailed and fixed there.
use Rattle.std.proofs.Common.{◌↔◌, inl, ℕ, List, [], ◌∷◌, refl, sym, ◌∙◌}
use Rattle.spec_numbers.specs.Rational.{ℚ}
use Rattle.spec_linear.specs.Solution.{Constraint, Point, number, Solves, Solvable, Fixed, Entails, Equivalent, Satisfies, AgreesOn, Extends, Has, MentionsOnly, Same}
use Rattle.spec_linear.proofs.Points.{holds_same, solves_same}
use Rattle.spec_linear.proofs.Denominators.{extends, agrees_at, satisfies_agrees, holds_agrees}
use Rattle.spec_linear.proofs.Lists.{entails_same, fixed_same}

agrees_self : (targets : List ℕ) (p : Point) → AgreesOn targets (number p) p
agrees_self [] p = tt
agrees_self (x ∷ targets) p = (refl, agrees_self targets p)

agrees_trans : (targets : List ℕ) (a : ℕ → ℚ) (p q : Point) → AgreesOn targets a p → AgreesOn targets (number p) q → AgreesOn targets a q
agrees_trans [] a p q h k = tt
agrees_trans (x ∷ targets) a p q h k = (k.0 ∙ h.0, agrees_trans targets a p q h.1 k.1)

-- values that extend to a solution of a list over the targets satisfy it
satisfies_extended : (targets : List ℕ) (l : List Constraint) (a : ℕ → ℚ) → MentionsOnly targets l → Extends targets a l → Satisfies a l
satisfies_extended targets l a m w =
    satisfies_agrees (number w.0) a l (λ x k. agrees_at targets a w.0 w.1 x (m x k)) ((solves_same w.0 l).0 w.2)

-- a solution of the list satisfies the rows
rows_hold : (targets : List ℕ) (rows l : List Constraint) (p : Point) → Same targets rows l → Solves p l → Satisfies (number p) rows
rows_hold targets rows l p s h = (s.same (number p)).1 (p, agrees_self targets p, h)

-- ---- an equivalence

pub same_refl : (targets : List ℕ) (l : List Constraint) → MentionsOnly targets l → Same targets l l
same_refl targets l m = record { mentions = m; same = λ a. ((λ h. extends targets a l h), (λ w. satisfies_extended targets l a m w)) }

pub same_sym : (targets : List ℕ) (k l : List Constraint) → MentionsOnly targets l → Same targets k l → Same targets l k
same_sym targets k l m s = record {
  mentions = m;
  same = λ a. (
    (λ h. extends targets a k ((s.same a).1 (extends targets a l h))),
    (λ w.
        let v = (s.same (number w.0)).0 ((solves_same w.0 k).0 w.2) in
        satisfies_extended targets l a m (v.0, agrees_trans targets a w.0 v.0 w.1 v.1, v.2)),
  );
}

pub same_trans : (targets : List ℕ) (k l m : List Constraint) → Same targets k l → Same targets l m → Same targets k m
same_trans targets k l m s t = record {
  mentions = s.mentions;
  same = λ a. (
    (λ h.
        let w = (s.same a).0 h in
        let v = (t.same (number w.0)).0 ((solves_same w.0 l).0 w.2) in
        (v.0, agrees_trans targets a w.0 v.0 w.1 v.1, v.2)),
    (λ w. (s.same a).1 (extends targets a l ((t.same a).1 w))),
  );
}

-- ---- lists with the same solutions

pub same_for_alike_lists : (targets : List ℕ) (rows l m : List Constraint) → Equivalent l m → Same targets rows l → Same targets rows m
same_for_alike_lists targets rows l m e s = record {
  mentions = s.mentions;
  same = λ a. (
    (λ h. let w = (s.same a).0 h in (w.0, w.1, (e w.0).0 w.2)),
    (λ w. (s.same a).1 (w.0, w.1, (e w.0).1 w.2)),
  );
}

pub same_for_alike_rows : (targets : List ℕ) (k rows l : List Constraint) → Equivalent k rows → MentionsOnly targets k → Same targets rows l → Same targets k l
same_for_alike_rows targets k rows l e m s =
    same_trans targets k rows l (same_for_alike_lists targets k k rows e (same_refl targets k m)) s

-- ---- what is the same on the targets

pub same_solvable : (targets : List ℕ) (rows l : List Constraint) → Same targets rows l → Solvable rows ↔ Solvable l
same_solvable targets rows l s = (
  (λ h. let w = (s.same (number h.0)).0 ((solves_same h.0 rows).0 h.1) in (w.0, w.2)),
  (λ h. (h.0, (solves_same h.0 rows).1 (rows_hold targets rows l h.0 s h.1))),
)

pub same_entails : (targets : List ℕ) (rows l : List Constraint) (c : Constraint) → MentionsOnly targets (c ∷ []) → Same targets rows l → Entails rows c ↔ Entails l c
same_entails targets rows l c m s = (
  (λ e p h. (holds_same p c).1 ((entails_same rows c).0 e (number p) (rows_hold targets rows l p s h))),
  (λ e. (entails_same rows c).1 (λ a h.
      let w = (s.same a).0 h in
      holds_agrees (number w.0) a c (λ x k. agrees_at targets a w.0 w.1 x (m x (inl k))) ((holds_same w.0 c).0 (e w.0 w.2)))),
)

pub same_fixed : (targets : List ℕ) (rows l : List Constraint) (x : ℕ) (q : ℚ) → Has x targets → Same targets rows l → Fixed rows x q ↔ Fixed l x q
same_fixed targets rows l x q t s = (
  (λ f. record {
    solvable = (same_solvable targets rows l s).0 f.solvable;
    always = λ p h. ((fixed_same rows x q).0 f).1 (number p) (rows_hold targets rows l p s h);
  }),
  (λ f. (fixed_same rows x q).1 (
    (same_solvable targets rows l s).1 f.solvable,
    λ a h. let w = (s.same a).0 h in sym (agrees_at targets a w.0 w.1 x t) ∙ f.always w.0 w.2,
  )),
)
