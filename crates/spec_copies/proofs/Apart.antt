-- What is connected with some variables, and the rest, are satisfied apart from each other.
use Rattle.std.proofs.Common.{◌≡◌, ◌⊎◌, inl, inr, ℕ, List, [], ◌∷◌, ◌++◌, refl, sym, ◌∙◌}
use Rattle.spec_numbers.specs.Rational.{ℚ}
use Rattle.spec_linear.specs.Solution.{Constraint, Has, SomeMentions, Satisfies, Solvable, Extends}
use Rattle.spec_linear.proofs.Denominators.{satisfies_agrees, solvable_same}
use Rattle.spec_projection.specs.Targets.{SameOn}
use Rattle.spec_projection.proofs.Members.{has_either}
use Rattle.spec_projection.proofs.SameOn.{extends_by_values}
use Rattle.spec_projection.proofs.Standing.{has_or_not, standing}
use Rattle.spec_copies.specs.Parts.{IsSplit, nothing, into_first, into_second, IsPart}

pub some_mention_or_not : (x : ℕ) (l : List Constraint) → SomeMentions x l ⊎ (SomeMentions x l → ⊥)
some_mention_or_not x l =
    let s = standing (x ∷ []) l in
    elim (has_or_not x s.chosen) [ inl h ↦ inl (s.is x h).1 | inr n ↦ inr (λ m. n (s.all x (inl refl) m)) ]

-- one of two values
abbrev pick : {P : Type 0} → P ⊎ (P → ⊥) → ℚ → ℚ → ℚ
pick (inl h) p q = p
pick (inr n) p q = q

pick_first : {P : Type 0} (d : P ⊎ (P → ⊥)) (p q : ℚ) → P → pick d p q ≡ p
pick_first (inl h) p q y = refl
pick_first (inr n) p q y = absurd (n y)

pick_second : {P : Type 0} (d : P ⊎ (P → ⊥)) (p q : ℚ) → (P → ⊥) → pick d p q ≡ q
pick_second (inl h) p q n = absurd (n h)
pick_second (inr m) p q n = refl

both_parts : (a : ℕ → ℚ) (l part rest : List Constraint) → IsSplit l part rest → Satisfies a part → Satisfies a rest → Satisfies a l
both_parts a l part rest nothing s t = tt
both_parts a l part rest (into_first i) s t = (s.0, both_parts a _ _ _ i s.1 t)
both_parts a l part rest (into_second i) s t = (t.0, both_parts a _ _ _ i s t.1)

pub first_part : (a : ℕ → ℚ) (l part rest : List Constraint) → IsSplit l part rest → Satisfies a l → Satisfies a part × Satisfies a rest
first_part a l part rest nothing s = (tt, tt)
first_part a l part rest (into_first i) s = let r = first_part a _ _ _ i s.1 in ((s.0, r.0), r.1)
first_part a l part rest (into_second i) s = let r = first_part a _ _ _ i s.1 in (r.0, (s.0, r.1))

module _ (xs ys : List ℕ) (l part : List Constraint) (p : IsPart xs l part) (solvable : Solvable l)
    (of_part : (y : ℕ) → Has y ys → SomeMentions y part) where
  some_solution : (a : ℕ → ℚ) × Satisfies a l
  some_solution = (solvable_same l).0 solvable

  -- the values of a, but those of some solution where the rest speaks
  abbrev mixed : (ℕ → ℚ) → ℕ → ℚ
  mixed a x = pick (some_mention_or_not x p.rest) (some_solution.0 x) (a x)

  elsewhere : (x : ℕ) → Has x (xs ++ ys) → SomeMentions x p.rest → ⊥
  elsewhere x h m = elim (has_either x xs ys h) [ inl k ↦ p.elsewhere x k m | inr k ↦ p.apart x (of_part x k) m ]

  forth : (a : ℕ → ℚ) → Extends (xs ++ ys) a part → Extends (xs ++ ys) a l
  forth a e =
      let h = (extends_by_values (xs ++ ys) a part).0 e in
      let of_rest : Satisfies (mixed h.0) p.rest =
      satisfies_agrees some_solution.0 (mixed h.0) p.rest (λ x m. sym (pick_first (some_mention_or_not x p.rest) (some_solution.0 x) (h.0 x) m))
      (first_part some_solution.0 l part p.rest p.split some_solution.1).1 in
      let of_first : Satisfies (mixed h.0) part =
      satisfies_agrees h.0 (mixed h.0) part (λ x m. sym (pick_second (some_mention_or_not x p.rest) (some_solution.0 x) (h.0 x) (p.apart x m))) h.2 in
      (extends_by_values (xs ++ ys) a l).1 (
        mixed h.0,
        (λ x k. pick_second (some_mention_or_not x p.rest) (some_solution.0 x) (h.0 x) (elsewhere x k) ∙ h.1 x k),
        both_parts (mixed h.0) l part p.rest p.split of_first of_rest,
      )

  back : (a : ℕ → ℚ) → Extends (xs ++ ys) a l → Extends (xs ++ ys) a part
  back a e =
      let h = (extends_by_values (xs ++ ys) a l).0 e in
      (extends_by_values (xs ++ ys) a part).1 (h.0, h.1, (first_part h.0 l part p.rest p.split h.2).0)

  pub part_same : SameOn (xs ++ ys) part l
  part_same a = (forth a, back a)
