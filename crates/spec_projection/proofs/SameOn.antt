-- Lists that leave the targets the same values: an equivalence, which ends in rows over the targets alone.
use Rattle.std.proofs.Common.{◌↔◌, inl, ℕ, List, [], ◌∷◌, refl, ◌∙◌}
use Rattle.spec_numbers.specs.Rational.{ℚ}
use Rattle.spec_linear.specs.Solution.{Constraint, number, Solvable, Entails, Equivalent, Satisfies, Extends, Has, MentionsOnly, Same}
use Rattle.spec_linear.proofs.Points.{solves_same}
use Rattle.spec_linear.proofs.Denominators.{extends, agrees_at, satisfies_agrees, holds_agrees, agrees_on}
use Rattle.spec_linear.proofs.Lists.{entails_same}
use Rattle.spec_projection.specs.Targets.{AgreeOn, SameOn}

-- values of the targets extend to a solution exactly where they extend to rationals that satisfy the list
pub extends_by_values : (targets : List ℕ) (a : ℕ → ℚ) (l : List Constraint) → Extends targets a l ↔ ((b : ℕ → ℚ) × AgreeOn targets a b × Satisfies b l)
extends_by_values targets a l = (
  (λ e. (number e.0, agrees_at targets a e.0 e.1, (solves_same e.0 l).0 e.2)),
  (λ h. let e = extends targets h.0 l h.2 in (e.0, agrees_on targets a e.0 (λ x k. agrees_at targets h.0 e.0 e.1 x k ∙ h.1 x k), e.2)),
)

-- ---- an equivalence

pub same_on_refl : (targets : List ℕ) (l : List Constraint) → SameOn targets l l
same_on_refl targets l a = ((λ e. e), (λ e. e))

pub same_on_sym : (targets : List ℕ) (k l : List Constraint) → SameOn targets k l → SameOn targets l k
same_on_sym targets k l s a = ((s a).1, (s a).0)

pub same_on_trans : (targets : List ℕ) (k l m : List Constraint) → SameOn targets k l → SameOn targets l m → SameOn targets k m
same_on_trans targets k l m s t a = ((λ e. (t a).0 ((s a).0 e)), (λ e. (s a).1 ((t a).1 e)))

pub alike_same_on : (targets : List ℕ) (k l : List Constraint) → Equivalent k l → SameOn targets k l
alike_same_on targets k l h a = ((λ e. (e.0, e.1, (h e.0).0 e.2)), (λ e. (e.0, e.1, (h e.0).1 e.2)))

-- what the values of each say of the other
pub same_on_by_values : (targets : List ℕ) (k l : List Constraint)
    → ((b : ℕ → ℚ) → Satisfies b k → (c : ℕ → ℚ) × AgreeOn targets b c × Satisfies c l)
    → ((b : ℕ → ℚ) → Satisfies b l → (c : ℕ → ℚ) × AgreeOn targets b c × Satisfies c k) → SameOn targets k l
same_on_by_values targets k l f g a = (
  (λ e.
      let b = (extends_by_values targets a k).0 e in
      let c = f b.0 b.2 in
      (extends_by_values targets a l).1 (c.0, (λ x h. c.1 x h ∙ b.1 x h), c.2)),
  (λ e.
      let b = (extends_by_values targets a l).0 e in
      let c = g b.0 b.2 in
      (extends_by_values targets a k).1 (c.0, (λ x h. c.1 x h ∙ b.1 x h), c.2)),
)

-- fewer targets
pub same_on_fewer : (targets more : List ℕ) (k l : List Constraint) → ((x : ℕ) → Has x targets → Has x more) → SameOn more k l → SameOn targets k l
same_on_fewer targets more k l i s = same_on_by_values targets k l
    (λ b h. let e = (extends_by_values more b l).0 ((s b).0 ((extends_by_values more b k).1 (b, (λ x m. refl), h))) in (e.0, (λ x m. e.1 x (i x m)), e.2))
    (λ b h. let e = (extends_by_values more b k).0 ((s b).1 ((extends_by_values more b l).1 (b, (λ x m. refl), h))) in (e.0, (λ x m. e.1 x (i x m)), e.2))

-- ---- rows over the targets

pub same_from_same_on : (targets : List ℕ) (rows l : List Constraint) → MentionsOnly targets rows → SameOn targets rows l → Same targets rows l
same_from_same_on targets rows l m s = record {
  mentions = m;
  same = λ a. (
    (λ h. (s a).0 (extends targets a rows h)),
    (λ e.
        let b = (extends_by_values targets a rows).0 ((s a).1 e) in
        satisfies_agrees b.0 a rows (λ x k. b.1 x (m x k)) b.2),
  );
}

pub same_on_from_same : (targets : List ℕ) (rows l : List Constraint) → Same targets rows l → SameOn targets rows l
same_on_from_same targets rows l s = same_on_by_values targets rows l
    (λ b h. (extends_by_values targets b l).0 ((s.same b).0 h))
    (λ b h. (b, (λ x k. refl), (s.same b).1 ((extends_by_values targets b l).1 (b, (λ x k. refl), h))))

pub same_on_solvable : (targets : List ℕ) (k l : List Constraint) → SameOn targets k l → Solvable k ↔ Solvable l
same_on_solvable targets k l s = (
  (λ h. let e = (s (number h.0)).0 (agrees_self (number h.0) k h) in (e.0, e.2)),
  (λ h. let e = (s (number h.0)).1 (agrees_self (number h.0) l h) in (e.0, e.2)),
)
  where
    agrees_self : (a : ℕ → ℚ) (m : List Constraint) (h : Solvable m) → Extends targets (number h.0) m
    agrees_self a m h = (h.0, agrees_on targets (number h.0) h.0 (λ x k. refl), h.1)

pub same_on_entails : (targets : List ℕ) (k l : List Constraint) (c : Constraint) → MentionsOnly targets (c ∷ []) → SameOn targets k l → Entails k c → Entails l c
same_on_entails targets k l c m s h = (entails_same l c).1 (λ a sat.
    let b = (extends_by_values targets a k).0 ((s a).1 (extends targets a l sat)) in
    holds_agrees b.0 a c (λ x i. b.1 x (m x (inl i))) ((entails_same k c).0 h b.0 b.2))
