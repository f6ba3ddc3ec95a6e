-- What the tests of sides tell of rows.
use Rattle.std.proofs.Common.{◌≡◌, ◌↔◌, inl, inr, ℕ, ◌+◌, ◌<◌, ◌≤◌, List, [], ◌∷◌, ◌++◌, length, take, drop, get_or, Bool, true, false, not, arith, refl, ap, ap₂, sym, subst, ◌∙◌}
use Rattle.std.specs.Prelude.{IsTrue}
use Rattle.std.specs.Bool.{OnTrue, OnFalse}
use Rattle.std.proofs.Math.Seq.{take-append_seam, get_or-append_seam, drop-append-add}
use Rattle.std.proofs.lemmas.Bool.{cases_lt}
use Rattle.std.proofs.lemmas.List.{take_more, length-append}
use Rattle.spec_numbers.specs.Rational.{ℚ, neg_ℚ, IsPositive, IsNotNegative}
use Rattle.spec_numbers.proofs.Sign.{not_both, pos_nonneg}
use Rattle.spec_linear.specs.Solution.{Constraint, Solvable, Has}
use Rattle.spec_linear.proofs.Denominators.{has_left, has_right}
use Rattle.spec_linear.proofs.Lists.{member_holds}
use Rattle.spec_projection.specs.Irredundant.{NoneFollows}
use Rattle.spec_projection.specs.Partial.{AreInequalities}
use Rattle.spec_projection.specs.Elimination.{coefficient}
use Rattle.spec_projection.proofs.Members.{has_either, solves_all}
use Rattle.cq_elimination.specs.declared.apart.Side.{Side}
use Rattle.cq_elimination.specs.declared.apart.Side.TheVariants.{Below, Above}
use Rattle.cq_elimination.specs.ApartSides.{IsOn, NoneBounds, StandsApart}
use Rattle.cq_elimination.proofs.Alone.{follows_not}

-- ---- none of some rows

pub none_first : (side : Side) (x : ℕ) → NoneBounds side x []
none_first side x c h = absurd h

pub none_either : (side : Side) (x : ℕ) (k l : List Constraint) → NoneBounds side x k → NoneBounds side x l → NoneBounds side x (k ++ l)
none_either side x k l m n c h = elim (has_either c k l h) [ inl a ↦ m c a | inr b ↦ n c b ]

pub none_more : (side : Side) (x : ℕ) (rows : List Constraint) (i : ℕ) (row : Constraint) → i < length rows → row ≡ get_or rows i row
    → (IsOn side (coefficient x row) → ⊥) → NoneBounds side x (take i rows) → NoneBounds side x (take (i + 1) rows)
none_more side x rows i row h e n all =
    subst (NoneBounds side x) (sym (take_more rows i row h ∙ ap (λ d. take i rows ++ d ∷ []) (sym e)))
    (none_either side x (take i rows) (row ∷ []) all (λ c k. elim k [ inl w ↦ subst (λ d. IsOn side (coefficient x d) → ⊥) (sym w) n | inr m ↦ absurd m ]))

pub none_of_three : (side : Side) (x : ℕ) (k l m : List Constraint) (taken : Bool) → NoneBounds side x k → NoneBounds side x l → OnFalse taken (NoneBounds side x m)
    → OnTrue (not taken) (NoneBounds side x (k ++ l ++ m))
none_of_three side x k l m true a b n = tt
none_of_three side x k l m false a b n = none_either side x (k ++ l) m (none_either side x k l a b) n

-- ---- by the sign of a coefficient

pub not_from_below : (test : Bool) (side : Side) (k q : ℚ) → side ≡ Below → k ≡ q → OnFalse test (IsNotNegative (neg_ℚ k)) → OnFalse test (IsOn side q → ⊥)
not_from_below true side k q s e h = tt
not_from_below false side k q s e h = λ b. not_both (subst (λ t. IsOn t q) s b) (subst (λ w. IsNotNegative (neg_ℚ w)) e h)

pub not_from_above : (test : Bool) (side : Side) (k q : ℚ) → side ≡ Above → k ≡ q → (IsTrue test ↔ IsPositive k) → OnFalse (not test) (IsOn side q → ⊥)
not_from_above true side k q s e h = λ b. not_both (subst IsPositive e (h.0 refl)) (pos_nonneg (subst (λ t. IsOn t q) s b))
not_from_above false side k q s e h = tt

-- ---- each row in its place

-- the first i rows stand apart from the others
abbrev pub StandApart : List Constraint → List Constraint → ℕ → Type 0
StandApart rows beside i = (k m : List Constraint) (c : Constraint) → rows ≡ k ++ c ∷ m → length k < i → StandsApart c (k ++ m ++ beside)

pub stand_more : (rows beside : List Constraint) (i : ℕ) (row : Constraint) → row ≡ get_or rows i row
    → StandsApart row (take i rows ++ drop (i + 1) rows ++ beside) → StandApart rows beside i → StandApart rows beside (i + 1)
stand_more rows beside i row is own all k m c e h = elim (cases_lt (length k) i) [
  | inl b ↦ all k m c e b
  | inr g ↦
      let s : length k ≡ i = omega (arith, g, h) in
      let front : take i rows ≡ k = ap₂ (λ n l. take n l) (sym s) e ∙ take-append_seam k (c ∷ m) in
      let here : row ≡ c = is ∙ ap₂ (λ l n. get_or l n row) e (sym s) ∙ get_or-append_seam k c m row in
      let behind : drop (i + 1) rows ≡ m = ap₂ (λ n l. drop (n + 1) l) (sym s) e ∙ drop-append-add k (c ∷ m) 1 in
      subst (λ d. StandsApart d (k ++ m ++ beside)) here (subst (λ l. StandsApart row (l ++ beside)) (ap₂ (λ a b. a ++ b) front behind) own)
]

-- ---- rows of which each stands apart

module _ (rows beside : List Constraint) (i : AreInequalities rows) (j : AreInequalities beside) (w : Solvable (rows ++ beside)) where
  part : (k m : List Constraint) (c : Constraint) → rows ≡ k ++ c ∷ m → (d : Constraint) → Has d (k ++ m ++ beside) → Has d (rows ++ beside)
  part k m c e d h = subst (λ l. Has d (l ++ beside)) (sym e) (elim (has_either d (k ++ m) beside h) [
    | inl a ↦ has_left d (k ++ c ∷ m) beside (elim (has_either d k m a) [ inl b ↦ has_left d k (c ∷ m) b | inr b ↦ has_right d k (c ∷ m) (inr b) ])
    | inr b ↦ has_right d (k ++ c ∷ m) beside b
  ])

  pub none_follows : (n : ℕ) → length rows ≤ n → StandApart rows beside n → NoneFollows rows beside
  none_follows n whole s k m c e f =
      let more = part k m c e in
      let all : length rows ≡ length k + length (c ∷ m) = ap length e ∙ length-append k (c ∷ m) in
      follows_not c (k ++ m ++ beside) (s k m c e (omega (arith, all, whole)))
      (i c (subst (Has c) (sym e) (has_right c k (c ∷ m) (inl refl))))
      (λ d h. elim (has_either d rows beside (more d h)) [ inl a ↦ i d a | inr b ↦ j d b ])
      (w.0, solves_all w.0 (k ++ m ++ beside) (λ d h. member_holds w.0 (rows ++ beside) d (more d h) w.1))
      f
