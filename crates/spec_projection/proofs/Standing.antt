-- Whether a variable stands in a list, and which of some variables do.
use Rattle.std.proofs.Common.{◌≡◌, ◌⊎◌, inl, inr, ℕ, List, [], ◌∷◌, sym, subst}
use Rattle.spec_numbers.specs.Sums.{Monomial, Mentions}
use Rattle.spec_linear.specs.Solution.{Constraint, Has, SomeMentions}
use Rattle.spec_projection.proofs.DecidedLemmas.{nat_dec}

mention_or_not : (x : ℕ) (s : List Monomial) → Mentions x s ⊎ (Mentions x s → ⊥)
mention_or_not x [] = inr (λ h. h)
mention_or_not x (m ∷ s) = go (nat_dec x m.variable) (mention_or_not x s)
  where
    go : (x ≡ m.variable) ⊎ (x ≡ m.variable → ⊥) → Mentions x s ⊎ (Mentions x s → ⊥) → Mentions x (m ∷ s) ⊎ (Mentions x (m ∷ s) → ⊥)
    go (inl e) r = inl (inl e)
    go (inr n) (inl h) = inl (inr h)
    go (inr n) (inr k) = inr (λ h. elim h [ inl e ↦ n e | inr i ↦ k i ])

some_mention_or_not : (x : ℕ) (l : List Constraint) → SomeMentions x l ⊎ (SomeMentions x l → ⊥)
some_mention_or_not x [] = inr (λ h. h)
some_mention_or_not x (c ∷ l) = go (mention_or_not x c.form.products) (some_mention_or_not x l)
  where
    go : Mentions x c.form.products ⊎ (Mentions x c.form.products → ⊥) → SomeMentions x l ⊎ (SomeMentions x l → ⊥) → SomeMentions x (c ∷ l) ⊎ (SomeMentions x (c ∷ l) → ⊥)
    go (inl e) r = inl (inl e)
    go (inr n) (inl h) = inl (inr h)
    go (inr n) (inr k) = inr (λ h. elim h [ inl e ↦ n e | inr i ↦ k i ])

pub has_or_not : (x : ℕ) (xs : List ℕ) → Has x xs ⊎ (Has x xs → ⊥)
has_or_not x [] = inr (λ h. h)
has_or_not x (y ∷ xs) = go (nat_dec x y) (has_or_not x xs)
  where
    go : (x ≡ y) ⊎ (x ≡ y → ⊥) → Has x xs ⊎ (Has x xs → ⊥) → Has x (y ∷ xs) ⊎ (Has x (y ∷ xs) → ⊥)
    go (inl e) r = inl (inl e)
    go (inr n) (inl h) = inl (inr h)
    go (inr n) (inr k) = inr (λ h. elim h [ inl e ↦ n e | inr i ↦ k i ])

-- those of the variables that stand in the list
pub record Standing (xs : List ℕ) (l : List Constraint) : Type 0 where
  pub chosen : List ℕ
  pub is : (x : ℕ) → Has x chosen → Has x xs × SomeMentions x l
  pub all : (x : ℕ) → Has x xs → SomeMentions x l → Has x chosen

pub standing : (xs : List ℕ) (l : List Constraint) → Standing xs l
standing [] l = record { chosen = []; is = λ x h. absurd h; all = λ x h m. h }
standing (y ∷ xs) l = go (some_mention_or_not y l) (standing xs l)
  where
    go : SomeMentions y l ⊎ (SomeMentions y l → ⊥) → Standing xs l → Standing (y ∷ xs) l
    go (inl m) s = record {
      chosen = y ∷ s.chosen;
      is = λ x h. elim h [ inl e ↦ (inl e, subst (λ z. SomeMentions z l) (sym e) m) | inr k ↦ (inr (s.is x k).0, (s.is x k).1) ];
      all = λ x h u. elim h [ inl e ↦ inl e | inr k ↦ inr (s.all x k u) ];
    }
    go (inr n) s = record {
      chosen = s.chosen;
      is = λ x h. (inr (s.is x h).0, (s.is x h).1);
      all = λ x h u. elim h [ inl e ↦ absurd (n (subst (λ z. SomeMentions z l) e u)) | inr k ↦ s.all x k u ];
    }
