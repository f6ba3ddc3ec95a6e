-- The ratio test: which rows limit a column, and the first of them.
use Rattle.std.proofs.Common.{◌≡◌, ℕ, ◌≤◌, length, List, [], ◌∷◌, Bool, true, pos, arith, refl, ap, ap₂, sym, subst, ◌∙◌, ◌⊎◌, inl, inr, Option, Some, None}
use Rattle.std.specs.Prelude.{MatchOption, slice_get}
use Rattle.spec_numbers.specs.Rational.{ℚ, 0ℚ, ◌*ℚ◌, ◌/ℚ◌, neg_ℚ, inv_ℚ, IsPositive, IsNotNegative, ◌≤ℚ◌, ◌<ℚ◌}
use Rattle.spec_numbers.proofs.Ring.{var, int, ◌⊕◌, ◌⊗◌, minus}
use Rattle.spec_numbers.proofs.RationalLemmas.{ring}
use Rattle.spec_numbers.proofs.Sign.{not_pos_zero, not_both, times_inverse}
use Rattle.spec_numbers.proofs.Order.{le_refl, lt_to_le, lt_trans, lt_irrefl, cmp_ℚ-matches}
use Rattle.spec_numbers.specs.Order.{cmp_ℚ}
use Rattle.std.specs.declared.cmp.Ordering.{Ordering}
use Rattle.std.specs.declared.cmp.Ordering.TheVariants.{Less, Equal, Greater}
use Rattle.std.specs.Ordering.{MatchOrdering}
use Rattle.spec_simplex.specs.Rule.{Limits, Leaves, ratio}
use Rattle.cq_frac.specs.declared.Operation.TheVariants.{Quotient}
use Rattle.cq_frac.specs.declared.Pair.{Pair}
use Rattle.cq_frac.specs.Refused.{Tells}
use Rattle.cq_frac.specs.Row.{Row}
use Rattle.cq_frac.specs.Rows.{Has, Lacks}
use Rattle.cq_frac.specs.Numbers.{at_constant, constant_number}
use Rattle.cq_frac.proofs.Units.{at_unit, no_entry}
use Rattle.cq_frac.proofs.Shifts.{entry_not_zero}
use Rattle.cq_dict.specs.declared.table.Role.{Role}
use Rattle.cq_dict.specs.declared.table.Role.TheVariants.{Live, Dropped, Basic}
use Rattle.cq_dict.specs.Roles.{IsAt, AreOverColumns, HasEntry, PivotPair, pivot_quotient, is_live, is_restricted, role_at, row_role, factor_at}
use Rattle.cq_simplex.specs.declared.leaving.Limit.{Limit}
use Rattle.cq_simplex.specs.Dictionary.{dictionary}
use Rattle.cq_simplex.specs.Turns.{Precedes, LeavesOf, NoneLimits, IsRefusedRatio, IsNearer, IsFirstOf}
use Rattle.cq_dict.specs.declared.holders.Cell.{Cell}
use Rattle.cq_dict.specs.Holders.{IsOn, AreHeld}
use Rattle.std.proofs.lemmas.Option.{same_Some}
use Rattle.cq_simplex.proofs.Entries.{has_entry}
use Rattle.cq_simplex.proofs.Roles.{all_below}
use Rattle.cq_dict.proofs.Roles.{role_is, constant_is, factor_is, row_is}

negative_positive : (f : ℚ) → f <ℚ 0ℚ → IsPositive (neg_ℚ f)
negative_positive f h = subst IsPositive (ring (f ∷ []) (int (pos 0) ⊕ minus (var 0)) (minus (var 0)) refl) h.gap

-- a quotient with the other sign is that by the other sign
opposite_quotient : (n f : ℚ) → (f ≡ 0ℚ → ⊥) → neg_ℚ (n /ℚ f) ≡ n /ℚ neg_ℚ f
opposite_quotient n f k =
    ring (n ∷ inv_ℚ f ∷ []) (minus (var 0 ⊗ var 1)) (var 0 ⊗ (int (pos 1) ⊗ minus (var 1))) refl
    ∙ ap (λ w. n *ℚ (w *ℚ neg_ℚ (inv_ℚ f))) (sym (times_inverse (neg_ℚ f) other))
    ∙ ring (n ∷ f ∷ inv_ℚ f ∷ inv_ℚ (neg_ℚ f) ∷ []) (var 0 ⊗ ((minus (var 1) ⊗ var 3) ⊗ minus (var 2))) (var 0 ⊗ (var 3 ⊗ (var 1 ⊗ var 2))) refl
    ∙ ap (λ w. n *ℚ (inv_ℚ (neg_ℚ f) *ℚ w)) (times_inverse f k)
    ∙ ring (n ∷ inv_ℚ (neg_ℚ f) ∷ []) (var 0 ⊗ (var 1 ⊗ int (pos 1))) (var 0 ⊗ var 1) refl
  where
    other : neg_ℚ f ≡ 0ℚ → ⊥
    other e = k (ring (f ∷ []) (var 0) (minus (minus (var 0))) refl ∙ ap neg_ℚ e ∙ ring [] (minus (int (pos 0))) (int (pos 0)) refl)

pub not_less_ratio : (p q : ℚ) → (cmp_ℚ p q ≡ Less → ⊥) → q ≤ℚ p
not_less_ratio p q n = go (cmp_ℚ p q) n (cmp_ℚ-matches p q)
  where
    go : (o : Ordering) → (o ≡ Less → ⊥) → MatchOrdering o (p <ℚ q) (p ≡ q) (q <ℚ p) → q ≤ℚ p
    go Less n h = absurd (n refl)
    go Equal n h = subst (λ z. q ≤ℚ z) (sym h) (le_refl q)
    go Greater n h = lt_to_le h

-- what a comparison of two ratios tells
pub compared : (p q : ℚ) (o : Ordering) → cmp_ℚ p q ≡ o → MatchOrdering o (p <ℚ q) (p ≡ q) (q <ℚ p)
compared p q o e = subst (λ r. MatchOrdering r (p <ℚ q) (p ≡ q) (q <ℚ p)) e (cmp_ℚ-matches p q)

-- ---- one row
pub column_no_limit : (roles : List Role) (restricted : ℕ → Bool) (asked column q : ℕ) → IsAt roles q Live ⊎ IsAt roles q Dropped → Limits restricted (dictionary roles asked) column q → ⊥
column_no_limit roles restricted asked column q (inl a) h = let e = role_is roles q Live a in let r : row_role (role_at roles q) ≡ true = h.row in cc
column_no_limit roles restricted asked column q (inr a) h = let e = role_is roles q Dropped a in let r : row_role (role_at roles q) ≡ true = h.row in cc

module _ (roles : List Role) (flags : List Bool) (table : AreOverColumns roles) (asked column q : ℕ) (own : Row) (at : IsAt roles q (Basic own)) where
  pub lacks_no_limit : Lacks column own.live → Limits (is_restricted flags) (dictionary roles asked) column q → ⊥
  lacks_no_limit l h =
      not_pos_zero (subst IsPositive (ap neg_ℚ (factor_is roles q own at column ∙ no_entry column own.live l) ∙ ring [] (minus (int (pos 0))) (int (pos 0)) refl) h.falls)

  module _ (f : ℚ) (has : Has (record { quantity = column; factor = f }) own.live) where
    factor_here : factor_at roles q column ≡ f
    factor_here = factor_is roles q own at column ∙ at_unit (is_live roles) 0 own.live (record { quantity = column; factor = f }) (table.rows q own at).live_row has

    pub not_zero_here : f ≡ 0ℚ → ⊥
    not_zero_here = entry_not_zero (is_live roles) 0 own.live column f (table.rows q own at).live_row has

    pub rising_no_limit : IsNotNegative f → Limits (is_restricted flags) (dictionary roles asked) column q → ⊥
    rising_no_limit n h =
        not_both (subst (λ w. IsPositive (neg_ℚ w)) factor_here h.falls) (subst IsNotNegative (ring (f ∷ []) (var 0) (minus (minus (var 0))) refl) n)

    pub limits_here : is_restricted flags q ≡ true → f <ℚ 0ℚ → Limits (is_restricted flags) (dictionary roles asked) column q
    limits_here r n = record { row = row_is roles q own at; flag = r; falls = subst (λ w. IsPositive (neg_ℚ w)) (sym factor_here) (negative_positive f n) }

    pub ratio_here : (number : ℚ) → number ≡ own.constant /ℚ f → neg_ℚ number ≡ ratio (dictionary roles asked) column q
    ratio_here number e =
        ap neg_ℚ e ∙ opposite_quotient own.constant f not_zero_here
        ∙ ap₂ (λ n w. n *ℚ inv_ℚ (neg_ℚ w)) (sym (constant_is roles q own at)) (sym factor_here)

    pub refused_here : (n : ℚ) → n ≡ own.constant → (pair : Pair) → Tells Quotient n f pair → is_restricted flags q ≡ true → f <ℚ 0ℚ → IsRefusedRatio roles flags asked column q pair
    refused_here n e pair t r k =
        let x : HasEntry roles q column = record { own = own; factor = f; is_row = at; in_row = has } in
        subst (IsRefusedRatio roles flags asked column q) (sym t.is_pair) (record {
          limits = limits_here r k;
          made = subst (λ z. PivotPair roles q column Quotient z f) (sym e) (pivot_quotient x at_constant own.constant constant_number);
          refused = t.refused;
        })

-- ---- a row that limits the column stands on its list
pub limits_listed : (roles : List Role) (restricted : ℕ → Bool) (asked column q : ℕ) (heads : List ℕ) (cells : List Cell) → AreHeld roles heads cells → Limits restricted (dictionary roles asked) column q → (h : ℕ) → slice_get heads column ≡ Some h → IsOn cells h q
limits_listed roles restricted asked column q heads cells held k h at =
    let x = has_entry roles q column k.row (λ e. not_pos_zero (subst IsPositive (ap neg_ℚ e ∙ ring [] (minus (int (pos 0))) (int (pos 0)) refl) k.falls)) in
    let l = held.all q x.own column x.is_row (record { quantity = column; factor = x.factor }, inl x.in_row, refl) in
    subst (λ z. IsOn cells z q) (same_Some l.0 h (sym l.1 ∙ at)) l.2

pub none_past : (roles : List Role) (restricted : ℕ → Bool) (asked column q : ℕ) → length roles ≤ q → Limits restricted (dictionary roles asked) column q → ⊥
none_past roles restricted asked column q l k = let b = all_below roles (length roles) q k.row (omega arith) in omega (arith, b, l)

-- ---- the first of the rows that limit the column
module _ (restricted : ℕ → Bool) (roles : List Role) (asked column : ℕ) where
  abbrev ratio_at : ℕ → ℚ
  ratio_at q = ratio (dictionary roles asked) column q

  abbrev precedes : ℕ → ℕ → Type 0
  precedes r q = Precedes (dictionary roles asked) column r q

  abbrev pub First : (ℕ → Type 0) → Option Limit → Type 0
  First Rest first = MatchOption first (NoneLimits Rest restricted (dictionary roles asked) column) (λ l. LeavesOf Rest restricted (dictionary roles asked) column l.row l.ratio)

  own_precedes : (q : ℕ) → precedes q q
  own_precedes q = inr (refl, omega arith)

  precedes_on : (p q r : ℕ) → precedes p q → precedes q r → precedes p r
  precedes_on p q r (inl a) (inl b) = inl (lt_trans a b)
  precedes_on p q r (inl a) (inr b) = inl (subst (λ w. ratio_at p <ℚ w) b.0 a)
  precedes_on p q r (inr a) (inl b) = inl (subst (λ w. w <ℚ ratio_at r) (sym a.0) b)
  precedes_on p q r (inr a) (inr b) = inr (a.0 ∙ b.0, omega (arith, a.1, b.1))

  -- a row that does not limit the column is none of the rest any more
  pub first_kept : (Rest Fewer : ℕ → Type 0) (i : ℕ) → ((q : ℕ) → Rest q → (q ≡ i) ⊎ Fewer q) → (Limits restricted (dictionary roles asked) column i → ⊥) → (first : Option Limit) → First Rest first → First Fewer first
  first_kept Rest Fewer i s n None h = λ q k. elim (s q (h q k)) [ inl e ↦ absurd (n (subst (Limits restricted (dictionary roles asked) column) e k)) | inr l ↦ l ]
  first_kept Rest Fewer i s n (Some l) h = record {
    limits = h.limits;
    ratio_is = h.ratio_is;
    first = λ q k.
        elim (h.first q k) [
          | inl p ↦ inl p
          | inr r ↦ elim (s q r) [ inl e ↦ absurd (n (subst (Limits restricted (dictionary roles asked) column) e k)) | inr l ↦ inr l ]
        ];
  }

  -- it does
  module _ (Rest Fewer : ℕ → Type 0) (next : Limit) (s : (q : ℕ) → Rest q → (q ≡ next.row) ⊎ Fewer q) (limits : Limits restricted (dictionary roles asked) column next.row) (is : next.ratio ≡ ratio_at next.row) where
    new_first : ((q : ℕ) → Limits restricted (dictionary roles asked) column q → precedes next.row q ⊎ Rest q) → LeavesOf Fewer restricted (dictionary roles asked) column next.row next.ratio
    new_first h = record {
      limits = limits;
      ratio_is = is;
      first = λ q k.
          elim (h q k) [
            | inl p ↦ inl p
            | inr r ↦ elim (s q r) [ inl e ↦ inl (subst (precedes next.row) (sym e) (own_precedes next.row)) | inr l ↦ inr l ]
          ];
    }

    old_first : (l : Limit) → LeavesOf Rest restricted (dictionary roles asked) column l.row l.ratio → precedes l.row next.row → LeavesOf Fewer restricted (dictionary roles asked) column l.row l.ratio
    old_first l h p = record {
      limits = h.limits;
      ratio_is = h.ratio_is;
      first = λ q k.
          elim (h.first q k) [
            | inl b ↦ inl b
            | inr r ↦ elim (s q r) [ inl e ↦ inl (subst (precedes l.row) (sym e) p) | inr b ↦ inr b ]
          ];
    }

    near : (l m : Limit) → l.ratio ≡ ratio_at l.row → m.ratio ≡ ratio_at m.row → IsNearer l m → precedes l.row m.row
    near l m e f (inl a) = inl (subst (λ w. w <ℚ ratio_at m.row) e (subst (λ w. l.ratio <ℚ w) f a))
    near l m e f (inr a) = inr (sym e ∙ a.0 ∙ f, a.1)

    pub first_more : (before : Option Limit) (first : Limit) → First Rest before → IsFirstOf before next first → First Fewer (Some first)
    first_more None first h f = subst (λ l. LeavesOf Fewer restricted (dictionary roles asked) column l.row l.ratio) (sym f) (new_first (λ q k. inr (h q k)))
    first_more (Some l) first h (inl f) =
        subst (λ l. LeavesOf Fewer restricted (dictionary roles asked) column l.row l.ratio) (sym f.1) (old_first l h (near l next h.ratio_is is f.0))
    first_more (Some l) first h (inr f) =
        subst (λ l. LeavesOf Fewer restricted (dictionary roles asked) column l.row l.ratio) (sym f.1)
        (new_first (λ q k. elim (h.first q k) [ inl p ↦ inl (precedes_on next.row l.row q (near next l is h.ratio_is f.0) p) | inr r ↦ inr r ]))

  -- nothing is left
  pub none_at_end : (Rest : ℕ → Type 0) → ((q : ℕ) → Rest q → ⊥) → First Rest None → (q : ℕ) → Limits restricted (dictionary roles asked) column q → ⊥
  none_at_end Rest none h q k = none q (h q k)

  pub leaves_at_end : (Rest : ℕ → Type 0) → ((q : ℕ) → Rest q → ⊥) → (l : Limit) → First Rest (Some l) → Leaves restricted (dictionary roles asked) column l.row
  leaves_at_end Rest none l h = record {
    limits = h.limits;
    least_ratio = λ q k. elim (h.first q k) [ inl p ↦ not_above q p | inr r ↦ absurd (none q r) ];
    least_number = λ q k e. elim (h.first q k) [ inl p ↦ not_later q e p | inr r ↦ absurd (none q r) ];
  }
    where
      not_above : (q : ℕ) → precedes l.row q → ratio_at l.row ≤ℚ ratio_at q
      not_above q (inl a) = lt_to_le a
      not_above q (inr a) = subst (λ w. ratio_at l.row ≤ℚ w) a.0 (le_refl (ratio_at l.row))

      not_later : (q : ℕ) → ratio_at q ≡ ratio_at l.row → precedes l.row q → l.row ≤ q
      not_later q e (inl a) = absurd (lt_irrefl (subst (λ w. ratio_at l.row <ℚ w) e a))
      not_later q e (inr a) = a.1
