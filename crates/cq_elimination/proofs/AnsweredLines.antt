-- Of two printed lines one comes first, or they are the same; and a line has its place among others.
use Rattle.std.proofs.Common.{◌≡◌, ◌≢◌, inl, inr, ℕ, List, [], ◌∷◌, refl, ap}
use Rattle.std.specs.declared.cmp.Ordering.{Ordering}
use Rattle.std.specs.declared.cmp.Ordering.TheVariants.{Less, Equal, Greater}
use Rattle.std.specs.Ordering.{MatchOrdering, ordering_then, nat_cmp}
use Rattle.spec_numbers.specs.Rational.{0ℚ, ◌<ℚ◌}
use Rattle.spec_numbers.specs.Order.{cmp_ℚ}
use Rattle.spec_numbers.specs.Sums.{Monomial}
use Rattle.spec_numbers.proofs.Order.{cmp_ℚ-matches}
use Rattle.spec_numbers.proofs.Sign.{zero_or_not}
use Rattle.spec_linear.specs.Solution.{Has}
use Rattle.spec_linear.specs.Echelon.{AreDistinct}
use Rattle.spec_answers.specs.Forms.{Before}
use Rattle.cq_elimination.specs.Lines.{Line, rank_of}
use Rattle.cq_elimination.specs.Arranging.{IsPlaced, IsLine, first_factor, LineBefore, LastBefore, JoinsAt}
use Rattle.cq_elimination.proofs.Comparing.{Compares, behind_first, compares_end, greater_first, lesser_behind, both_zero, both_lead}
use Rattle.cq_elimination.proofs.ArrangeLines.{Compared, compared_lines}

-- ---- products

module _ (order : List ℕ) (s t : List Monomial) where
  abbrev HasOrder : Type 0
  HasOrder = (o : Ordering) × MatchOrdering o (Before order s t ⊥) (s ≡ t) (Before order t s ⊥)

  by_left : (left : List ℕ) (u v : List Monomial) → Compares order s t left u v → HasOrder
  by_left [] u v c = (Equal, compares_end order s t u v c)
  by_left (x ∷ rest) u v c =
      go (cmp_ℚ (first_factor x u) (first_factor x v)) (cmp_ℚ-matches (first_factor x u) (first_factor x v))
      (λ e z. by_left rest u v (both_zero order s t x rest u v c e z))
      (λ e n. by_left rest (behind_first u) (behind_first v) (both_lead order s t x rest u v c e n))
    where
      go : (o : Ordering) → MatchOrdering o (first_factor x u <ℚ first_factor x v) (first_factor x u ≡ first_factor x v) (first_factor x v <ℚ first_factor x u)
          → (first_factor x u ≡ first_factor x v → first_factor x u ≡ 0ℚ → HasOrder)
          → (first_factor x u ≡ first_factor x v → first_factor x u ≢ 0ℚ → HasOrder) → HasOrder
      go Less h f g = (Greater, lesser_behind order s t x rest u v c h)
      go Equal e f g = elim (zero_or_not (first_factor x u)) [ inl z ↦ f e z | inr n ↦ g e n ]
      go Greater h f g = (Less, greater_first order s t x rest u v c h)

  products_order : AreDistinct order → IsPlaced order s → IsPlaced order t → HasOrder
  products_order d p q = by_left order s t (record { distinct = d; placed = p; other_placed = q; before = λ h. h; behind = λ h. h; same = λ e. e })

-- ---- lines

pub line_order : (order : List ℕ) (k l : Line) → AreDistinct order → IsLine order k → IsLine order l → (o : Ordering) × Compared order k l o
line_order order k l d p q = go (products_order order k.products l.products d p q)
  where
    go : (o : Ordering) × MatchOrdering o (Before order k.products l.products ⊥) (k.products ≡ l.products) (Before order l.products k.products ⊥) → (o : Ordering) × Compared order k l o
    go h = (
      ordering_then h.0 (ordering_then (nat_cmp (rank_of k.comparison) (rank_of l.comparison)) (cmp_ℚ k.bound l.bound)),
      compared_lines order k l h.0 (ordering_then (nat_cmp (rank_of k.comparison) (rank_of l.comparison)) (cmp_ℚ k.bound l.bound)) h.1 refl,
    )

-- behind a first line that comes before it
behind_one : (order : List ℕ) (k l : Line) (front : List Line) → LineBefore order k l → LastBefore order front l → LastBefore order (k ∷ front) l
behind_one order k l [] h b = h
behind_one order k l (m ∷ front) h b = b

abbrev pub Joins : List ℕ → List Line → Line → Type 0
Joins order lines l = (new : List Line) × JoinsAt order lines l new

pub joins : (order : List ℕ) → AreDistinct order → (lines : List Line) → ((k : Line) → Has k lines → IsLine order k) → (l : Line) → IsLine order l
    → (Has l lines → ⊥) → Joins order lines l
joins order d [] ps l p n = (l ∷ [], record { front = []; back = []; old_is = refl; new_is = refl; behind_last = tt; before_first = tt })
joins order d (k ∷ lines) ps l p n =
    go (line_order order l k d p (ps k (inl refl))) (joins order d lines (λ m h. ps m (inr h)) l p (λ h. n (inr h)))
  where
    further : LineBefore order k l → Joins order lines l → Joins order (k ∷ lines) l
    further h j = (
      k ∷ j.0,
      record {
        front = k ∷ j.1.front;
        back = j.1.back;
        old_is = ap (λ w. k ∷ w) j.1.old_is;
        new_is = ap (λ w. k ∷ w) j.1.new_is;
        behind_last = behind_one order k l j.1.front h j.1.behind_last;
        before_first = j.1.before_first;
      },
    )

    by : (o : Ordering) → Compared order l k o → Joins order lines l → Joins order (k ∷ lines) l
    by Less h j = (l ∷ k ∷ lines, record { front = []; back = k ∷ lines; old_is = refl; new_is = refl; behind_last = tt; before_first = h })
    by Equal h j = absurd (n (inl h))
    by Greater h j = further h j

    go : (o : Ordering) × Compared order l k o → Joins order lines l → Joins order (k ∷ lines) l
    go h j = by h.0 h.1 j
