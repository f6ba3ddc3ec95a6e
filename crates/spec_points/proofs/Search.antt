-- Of different values strictly between those of solutions, one after another, one works.
use Rattle.std.proofs.Common.{◌≡◌, ◌⊎◌, inl, inr, ℕ, suc, ◌≤◌, ◌<◌, List, [], ◌∷◌, refl, sym, ap, subst, arith}
use Rattle.spec_numbers.specs.Rational.{ℚ, ◌<ℚ◌}
use Rattle.spec_linear.specs.declared.Relation.{Relation}
use Rattle.spec_linear.specs.declared.Relation.TheVariants.{Eq, Gt, Ge, Ne}
use Rattle.spec_linear.specs.Form.{Linear}
use Rattle.spec_linear.specs.Solution.{Constraint, Has, Solvable, Unsolvable, equal_to}
use Rattle.spec_linear.specs.Weak.{weak, not_zero}
use Rattle.spec_projection.proofs.Decision.{decided}
use Rattle.spec_points.specs.Between.{Inside, Excludes}
use Rattle.spec_points.proofs.Inside.{works_inside, never_two}

module _ (l : List Constraint) (x : ℕ) (value : ℕ → ℚ) (inside : (k : ℕ) → Inside l x (value k))
    (different : (j k : ℕ) → j < k → (value j <ℚ value k) ⊎ (value k <ℚ value j)) where
  -- the form may be other than zero where x has the k-th value
  abbrev Allows : ℕ → Linear → Type 0
  Allows k f = Solvable (not_zero f ∷ equal_to x (value k) ∷ weak l)

  -- from some place on there is a value that none of these disequations excludes
  record Allowed (ds : List Constraint) (n : ℕ) : Type 0 where
    place : ℕ
    behind : n ≤ place
    allows : (f : Linear) → Has (not_zero f) ds → Allows place f

  -- not both of two values are excluded
  one_of_two : (f : Linear) → Has (not_zero f) l → (j k : ℕ) → j < k → Unsolvable (not_zero f ∷ equal_to x (value j) ∷ weak l)
      → Unsolvable (not_zero f ∷ equal_to x (value k) ∷ weak l) → ⊥
  one_of_two f h j k o a b = elim (different j k o) [
    | inl i ↦ never_two l x f h (value j) (value k) i (inside j) (inside k) (record { none = a }) (record { none = b })
    | inr i ↦ never_two l x f h (value k) (value j) i (inside k) (inside j) (record { none = b }) (record { none = a })
  ]

  with_form : (c : Constraint) (ds : List Constraint) (k : ℕ) → (c.relation ≡ Ne → Allows k c.form) → ((f : Linear) → Has (not_zero f) ds → Allows k f)
      → (f : Linear) → Has (not_zero f) (c ∷ ds) → Allows k f
  with_form c ds k h rest f (inl e) =
      subst (λ (g : Linear). Allows k g) (sym (ap (λ (d : Constraint). d.form) e)) (h (sym (ap (λ (d : Constraint). d.relation) e)))
  with_form c ds k h rest f (inr i) = rest f i

  no_disequation : (r : Relation) → (r ≡ Ne → ⊥) ⊎ (r ≡ Ne)
  no_disequation Eq = inl (λ e. cc)
  no_disequation Gt = inl (λ e. cc)
  no_disequation Ge = inl (λ e. cc)
  no_disequation Ne = inr refl

  as_disequation : (c : Constraint) → c.relation ≡ Ne → c ≡ not_zero c.form
  as_disequation c e = λ i. record { relation = e i; form = c.form }

  search : (ds : List Constraint) → ((c : Constraint) → Has c ds → Has c l) → (n : ℕ) → Allowed ds n
  search [] of_l n = record { place = n; behind = omega arith; allows = λ f h. absurd h }
  search (c ∷ ds) of_l n =
      by (no_disequation c.relation) (search ds (λ d h. of_l d (inr h)) n) (λ m. search ds (λ d h. of_l d (inr h)) m)
    where
      later : c.relation ≡ Ne → (a : Allowed ds n) → Unsolvable (not_zero c.form ∷ equal_to x (value a.place) ∷ weak l) → Allowed ds (suc a.place) → Allowed (c ∷ ds) n
      later e a none b = record {
        place = b.place;
        behind = (let i = a.behind in let j = b.behind in omega (arith, i, j));
        allows = with_form c ds b.place
            (λ d. elim (decided (not_zero c.form ∷ equal_to x (value b.place) ∷ weak l)) [
              | inl s ↦ s
              | inr u ↦ absurd (one_of_two c.form (subst (λ (z : Constraint). Has z l) (as_disequation c e) (of_l c (inl refl))) a.place b.place b.behind none u)
            ]) b.allows;
      }

      by : (c.relation ≡ Ne → ⊥) ⊎ (c.relation ≡ Ne) → Allowed ds n → ((m : ℕ) → Allowed ds m) → Allowed (c ∷ ds) n
      by (inl none) a next = record { place = a.place; behind = a.behind; allows = with_form c ds a.place (λ e. absurd (none e)) a.allows }
      by (inr e) a next = elim (decided (not_zero c.form ∷ equal_to x (value a.place) ∷ weak l)) [
        | inl s ↦ record { place = a.place; behind = a.behind; allows = with_form c ds a.place (λ d. s) a.allows }
        | inr u ↦ later e a u (next (suc a.place))
      ]

  pub some_works : (k : ℕ) × Solvable (equal_to x (value k) ∷ l)
  some_works = let a = search l (λ c h. h) 0 in (a.place, works_inside l x (value a.place) (inside a.place) a.allows)
