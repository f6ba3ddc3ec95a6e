-- Which variables are no targets, in their order, and a projection with those that are kept in another order.
use Rattle.std.proofs.Common.{◌≡◌, ◌⊎◌, inl, inr, ℕ, suc, ◌+◌, ◌<◌, List, [], ◌∷◌, ◌++◌, arith, pos, refl}
use Rattle.std.proofs.lemmas.Bool.{cases_eq}
use Rattle.spec_numbers.specs.Rational.{1ℚ}
use Rattle.spec_numbers.specs.Sums.{Monomial, Mentions}
use Rattle.spec_numbers.proofs.Ring.{var, int, ◌⊗◌}
use Rattle.spec_numbers.proofs.RationalLemmas.{ring}
use Rattle.spec_numbers.proofs.Sign.{one_not_zero, pos_one}
use Rattle.spec_linear.specs.Form.{value_at}
use Rattle.spec_linear.specs.Solution.{Constraint, Has, SomeMentions}
use Rattle.spec_linear.proofs.Denominators.{has_left, has_right}
use Rattle.spec_linear.specs.Echelon.{Solved}
use Rattle.spec_projection.specs.Lists.{AreForms}
use Rattle.spec_projection.specs.Partial.{Eliminates, nothing, sifted, step}
use Rattle.spec_projection.specs.Strict.{IsMultiple, AreScaled, no_row, one_row}
use Rattle.spec_projection.specs.Arranged.{IsArranged}
use Rattle.spec_projection.specs.Projection.{Projects}
use Rattle.spec_projection.proofs.Reordered.{reordered_refl}
use Rattle.spec_projection.proofs.Members.{has_either}
use Rattle.spec_projection.proofs.Mentions.{mentioned_factor}

-- ---- whether a variable stands in a list, and a number above all of them

mention_or_not : (x : ℕ) (s : List Monomial) → Mentions x s ⊎ (Mentions x s → ⊥)
mention_or_not x [] = inr (λ h. h)
mention_or_not x (m ∷ s) = go (cases_eq x m.variable) (mention_or_not x s)
  where
    go : (x ≡ m.variable) ⊎ (x ≡ m.variable → ⊥) → Mentions x s ⊎ (Mentions x s → ⊥) → Mentions x (m ∷ s) ⊎ (Mentions x (m ∷ s) → ⊥)
    go (inl e) r = inl (inl e)
    go (inr n) (inl h) = inl (inr h)
    go (inr n) (inr k) = inr (λ h. elim h [ inl e ↦ n e | inr i ↦ k i ])

pub some_mention_or_not : (x : ℕ) (l : List Constraint) → SomeMentions x l ⊎ (SomeMentions x l → ⊥)
some_mention_or_not x [] = inr (λ h. h)
some_mention_or_not x (c ∷ l) = go (mention_or_not x c.form.products) (some_mention_or_not x l)
  where
    go : Mentions x c.form.products ⊎ (Mentions x c.form.products → ⊥) → SomeMentions x l ⊎ (SomeMentions x l → ⊥) → SomeMentions x (c ∷ l) ⊎ (SomeMentions x (c ∷ l) → ⊥)
    go (inl e) r = inl (inl e)
    go (inr n) (inl h) = inl (inr h)
    go (inr n) (inr k) = inr (λ h. elim h [ inl e ↦ n e | inr i ↦ k i ])

abbrev above_products : List Monomial → ℕ
above_products [] = 0
above_products (m ∷ s) = suc m.variable + above_products s

abbrev pub above_list : List Constraint → ℕ
above_list [] = 0
above_list (c ∷ l) = above_products c.form.products + above_list l

mentions_below : (x : ℕ) (s : List Monomial) → Mentions x s → x < above_products s
mentions_below x [] h = absurd h
mentions_below x (m ∷ s) (inl e) = omega (arith, e)
mentions_below x (m ∷ s) (inr h) = let k : x < above_products s = mentions_below x s h in omega (arith, k)

pub some_below : (x : ℕ) (l : List Constraint) → SomeMentions x l → x < above_list l
some_below x [] h = absurd h
some_below x (c ∷ l) (inl m) = let k : x < above_products c.form.products = mentions_below x c.form.products m in omega (arith, k)
some_below x (c ∷ l) (inr h) = let k : x < above_list l = some_below x l h in omega (arith, k)

-- ---- rows as they are

itself : (c : Constraint) → IsMultiple c c
itself c = record {
  relation = refl;
  forms = record { factor = 1ℚ; nonzero = one_not_zero; same = λ a. ring (value_at a c.form ∷ []) (var 0) (int (pos 1) ⊗ var 0) refl };
  turned = λ j. pos_one;
}

scaled_itself : (k : List Constraint) → AreScaled k k
scaled_itself [] = no_row
scaled_itself (c ∷ k) = one_row (itself c) (scaled_itself k)

pub arranged_itself : (k : List Constraint) → AreForms k → IsArranged k k
arranged_itself k i = record {
  order = k;
  reordered = reordered_refl k;
  scaled = scaled_itself k;
  counted = λ c h x m. mentioned_factor x 0 c.form.products (i c h) m;
}

-- ---- the same variables kept, in another order

module _ (targets kept more : List ℕ) (there : (x : ℕ) → Has x kept → Has x more) (back : (x : ℕ) → Has x more → Has x kept) where
  pub moved : (x : ℕ) → Has x (targets ++ kept) → Has x (targets ++ more)
  moved x h = elim (has_either x targets kept h) [ inl k ↦ has_left x targets more k | inr k ↦ has_right x targets more (there x k) ]

  moved_back : (x : ℕ) → Has x (targets ++ more) → Has x (targets ++ kept)
  moved_back x h = elim (has_either x targets more h) [ inl k ↦ has_left x targets kept k | inr k ↦ has_right x targets kept (back x k) ]

  eliminates_moved : (start : List Constraint) {m : List Constraint} → Eliminates (targets ++ kept) start m → Eliminates (targets ++ more) start m
  eliminates_moved start nothing = nothing
  eliminates_moved start (sifted e s) = sifted (eliminates_moved start e) s
  eliminates_moved start (step x e n) = step x (eliminates_moved start e) (λ h. n (moved_back x h))

  module _ {front : List ℕ} {l : List Constraint} {es : List Solved} {inequalities disequations : List Constraint} (p : Projects front targets kept l es inequalities disequations) where
    -- with its rows arranged in any way
    pub projects_moved : (k d : List Constraint) → IsArranged p.rows k → IsArranged p.unequal d → Projects front targets more l es k d
    projects_moved k d a b = record {
      keeps = record {
        others = p.keeps.others;
        echelon = p.keeps.echelon;
        others_in_front = p.keeps.others_in_front;
        solved_targets = p.keeps.solved_targets;
        strict = p.keeps.strict;
        strengthened = p.keeps.strengthened;
        left = p.keeps.left;
        unequal = p.keeps.unequal;
        kept_all = λ x m. moved x (p.keeps.kept_all x m);
        kept_only = λ x h. p.keeps.kept_only x (back x h);
      };
      remaining = p.remaining;
      eliminates = eliminates_moved p.keeps.strict p.eliminates;
      over = λ x m. moved x (p.over x m);
      strict_again = p.strict_again;
      strengthened_again = p.strengthened_again;
      unequal = p.unequal;
      rows = p.rows;
      unequal_again = p.unequal_again;
      last = p.last;
      arrangement = a;
      arrangement_unequal = b;
    }
