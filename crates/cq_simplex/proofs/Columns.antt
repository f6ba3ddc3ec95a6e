-- The roles' dictionary is one of the simplex method, and what satisfies it meets the rows where dropped columns are zero.
use Rattle.std.proofs.Common.{◌≡◌, ℕ, zero, suc, ◌+◌, ◌<◌, List, [], ◌∷◌, length, Bool, true, false, pos, refl, ap, ap₂, sym, subst, ◌∙◌, inl, inr}
use Rattle.spec_numbers.specs.Rational.{ℚ, 0ℚ, ◌+ℚ◌, ◌*ℚ◌}
use Rattle.spec_numbers.proofs.Ring.{var, int, ◌⊕◌, ◌⊗◌}
use Rattle.spec_numbers.proofs.RationalLemmas.{ring}
use Rattle.spec_simplex.specs.Dictionary.{IsDictionary, Satisfies, sum_below, pick}
use Rattle.spec_simplex.proofs.Sums.{sum_only}
use Rattle.spec_simplex.proofs.Solutions.{pick_true, pick_false, true_not_false}
use Rattle.cq_frac.specs.declared.row.Entry.{Entry}
use Rattle.cq_frac.specs.Row.{Row}
use Rattle.cq_frac.specs.Rows.{sum_at, unit, Has, IsRowFrom}
use Rattle.cq_frac.specs.Numbers.{right_side}
use Rattle.cq_frac.proofs.Units.{unit_self, unit_other, no_entry}
use Rattle.cq_frac.proofs.Shifts.{passes}
use Rattle.cq_dict.specs.declared.table.Role.{Role}
use Rattle.cq_dict.specs.declared.table.Role.TheVariants.{Live, Dropped, Basic}
use Rattle.cq_dict.specs.Roles.{IsAt, IsRow, AreOverColumns, is_live, is_dropped, role_at, row_role, factor_in, is_row, constant_at, factor_at}
use Rattle.cq_dict.proofs.Roles.{at_below, role_live, row_is_not_dropped, Found, found, role_is, row_is, is_row_of, constant_is, factor_is, live_is_no_row, live_is_not_dropped}
use Rattle.cq_simplex.specs.Dictionary.{dictionary}
use Rattle.cq_simplex.specs.Answers.{IsAdmitted}

-- ---- sums over entries, column by column
sum_none : (n : ℕ) (x : ℕ → ℚ) → sum_below n (λ c. 0ℚ *ℚ x c) ≡ 0ℚ
sum_none zero x = refl
sum_none (suc n) x = ap (λ w. 0ℚ *ℚ x n +ℚ w) (sum_none n x) ∙ ring (x n ∷ []) (int (pos 0) ⊗ var 0 ⊕ int (pos 0)) (int (pos 0)) refl

sum_both : (n : ℕ) (f g : ℕ → ℚ) (x : ℕ → ℚ) → sum_below n (λ c. (f c +ℚ g c) *ℚ x c) ≡ sum_below n (λ c. f c *ℚ x c) +ℚ sum_below n (λ c. g c *ℚ x c)
sum_both zero f g x = ring [] (int (pos 0)) (int (pos 0) ⊕ int (pos 0)) refl
sum_both (suc n) f g x =
    ap (λ w. (f n +ℚ g n) *ℚ x n +ℚ w) (sum_both n f g x)
    ∙ ring (f n ∷ g n ∷ x n ∷ sum_below n (λ c. f c *ℚ x c) ∷ sum_below n (λ c. g c *ℚ x c) ∷ [])
    ((var 0 ⊕ var 1) ⊗ var 2 ⊕ (var 3 ⊕ var 4)) ((var 0 ⊗ var 2 ⊕ var 3) ⊕ (var 1 ⊗ var 2 ⊕ var 4)) refl

one_entry : (n : ℕ) (m : Entry) (x : ℕ → ℚ) → m.quantity < n → sum_below n (λ c. (m.factor *ℚ unit c m.quantity) *ℚ x c) ≡ m.factor *ℚ x m.quantity
one_entry n m x l =
    sum_only n (λ c. (m.factor *ℚ unit c m.quantity) *ℚ x c) m.quantity l
    (λ c k. ap (λ w. (m.factor *ℚ w) *ℚ x c) (unit_other c m.quantity (λ e. k (sym e))) ∙ ring (m.factor ∷ x c ∷ []) ((var 0 ⊗ int (pos 0)) ⊗ var 1) (int (pos 0)) refl)
    ∙ ap (λ w. (m.factor *ℚ w) *ℚ x m.quantity) (unit_self m.quantity)
    ∙ ring (m.factor ∷ x m.quantity ∷ []) ((var 0 ⊗ int (pos 1)) ⊗ var 1) (var 0 ⊗ var 1) refl

pub by_columns : (n : ℕ) (x : ℕ → ℚ) (s : List Entry) → ((m : Entry) → Has m s → m.quantity < n) → sum_at x s ≡ sum_below n (λ c. sum_at (unit c) s *ℚ x c)
by_columns n x [] h = sym (sum_none n x)
by_columns n x (m ∷ s) h =
    ap₂ (λ a b. a +ℚ b) (sym (one_entry n m x (h m (inl refl)))) (by_columns n x s (λ k g. h k (inr g)))
    ∙ sym (sum_both n (λ c. m.factor *ℚ unit c m.quantity) (λ c. sum_at (unit c) s) x)

pub sum_zero : (p : ℕ → Bool) (lo : ℕ) (x : ℕ → ℚ) (s : List Entry) → IsRowFrom p lo s → ((c : ℕ) → p c ≡ true → x c ≡ 0ℚ) → sum_at x s ≡ 0ℚ
sum_zero p lo x [] r h = refl
sum_zero p lo x (m ∷ s) r h =
    ap₂ (λ a b. m.factor *ℚ a +ℚ b) (h m.quantity r.1) (sum_zero p (m.quantity + 1) x s r.3 h)
    ∙ ring (m.factor ∷ []) (var 0 ⊗ int (pos 0) ⊕ int (pos 0)) (int (pos 0)) refl

-- ---- one table
module _ (roles : List Role) (table : AreOverColumns roles) (asked : ℕ) where
  live_below : (c : ℕ) → is_live roles c ≡ true → c < length roles
  live_below c h = at_below roles c Live (role_live roles c h)

  pub entry_live : (q : ℕ) (r : Row) → IsAt roles q (Basic r) → (m : Entry) → Has m r.live → is_live roles m.quantity ≡ true
  entry_live q r h m k = passes (is_live roles) 0 r.live m (table.rows q r h).live_row k

  pub no_factor : (q c : ℕ) → is_live roles c ≡ false → factor_at roles q c ≡ 0ℚ
  no_factor q c h = go (is_row roles q) refl
    where
      at_row : Found roles q → factor_at roles q c ≡ 0ℚ
      at_row f = factor_is roles q f.row f.at c ∙ no_entry c f.row.live (λ m k e. true_not_false (is_live roles c) (subst (λ z. is_live roles z ≡ true) e (entry_live q f.row f.at m k)) h)

      at_column : (s : Role) → row_role s ≡ false → role_at roles q ≡ s → factor_at roles q c ≡ 0ℚ
      at_column Live e g = ap (λ s. factor_in s c) g
      at_column Dropped e g = ap (λ s. factor_in s c) g
      at_column (Basic r) e g = cc

      go : (b : Bool) → is_row roles q ≡ b → factor_at roles q c ≡ 0ℚ
      go true e = at_row (found roles q e)
      go false e = at_column (role_at roles q) e refl

  pub is_dictionary : IsDictionary (length roles) (dictionary roles asked)
  is_dictionary = record {
    rows_below = λ q h. let f = found roles q h in at_below roles q (Basic f.row) f.at;
    columns_below = live_below;
    apart = live_is_no_row roles;
    no_other_entry = no_factor;
    no_other_coefficient = no_factor asked;
  }

  -- a row's value by its columns, where dropped ones are zero
  by_factors : (x : ℕ → ℚ) → ((c : ℕ) → is_dropped roles c ≡ true → x c ≡ 0ℚ) → (q : ℕ) (r : Row) → IsAt roles q (Basic r) → right_side x r ≡ constant_at roles q +ℚ sum_below (length roles) (λ c. factor_at roles q c *ℚ x c)
  by_factors x z q r h =
      ap₂ (λ a b. a +ℚ (b +ℚ sum_at x r.dropped)) (sym (constant_is roles q r h)) (by_columns (length roles) x r.live (λ m k. live_below m.quantity (entry_live q r h m k)))
      ∙ ap (λ b. constant_at roles q +ℚ (sum_below (length roles) (λ c. sum_at (unit c) r.live *ℚ x c) +ℚ b)) (sum_zero (is_dropped roles) 0 x r.dropped (table.rows q r h).dropped_row z)
      ∙ ring (constant_at roles q ∷ sum_below (length roles) (λ c. sum_at (unit c) r.live *ℚ x c) ∷ []) (var 0 ⊕ (var 1 ⊕ int (pos 0))) (var 0 ⊕ var 1) refl
      ∙ ap (λ (f : ℕ → ℚ). constant_at roles q +ℚ sum_below (length roles) (λ c. f c *ℚ x c)) (sym (ap factor_in (role_is roles q (Basic r) h)))

  pub satisfies : IsRow roles asked → (x : ℕ → ℚ) → IsAdmitted roles x → Satisfies (length roles) (dictionary roles asked) x (x asked)
  satisfies row x a = record {
    rows = λ q h. at_row q (found roles q h);
    asked = at_row asked (record { row = row.0; at = row.1 });
  }
    where
      at_row : (q : ℕ) → Found roles q → x q ≡ constant_at roles q +ℚ sum_below (length roles) (λ c. factor_at roles q c *ℚ x c)
      at_row q f = a.met.rows q f.row f.at ∙ by_factors x a.dropped q f.row f.at

  -- values of rows and live columns alone matter
  pub agrees : (x y : ℕ → ℚ) (z : ℚ) → ((q : ℕ) → is_dropped roles q ≡ false → y q ≡ x q) → Satisfies (length roles) (dictionary roles asked) x z → Satisfies (length roles) (dictionary roles asked) y z
  agrees x y z h s = record {
    rows = λ q r. h q (row_is_not_dropped roles q r) ∙ s.rows q r ∙ ap (λ w. constant_at roles q +ℚ w) (sym (sum q));
    asked = s.asked ∙ ap (λ w. constant_at roles asked +ℚ w) (sym (sum asked));
  }
    where
      term : (q c : ℕ) (b : Bool) → is_live roles c ≡ b → factor_at roles q c *ℚ y c ≡ factor_at roles q c *ℚ x c
      term q c true e = ap (λ w. factor_at roles q c *ℚ w) (h c (live_is_not_dropped roles c e))
      term q c false e = ap (λ w. w *ℚ y c) (no_factor q c e) ∙ ring (x c ∷ y c ∷ []) (int (pos 0) ⊗ var 1) (int (pos 0) ⊗ var 0) refl ∙ ap (λ w. w *ℚ x c) (sym (no_factor q c e))

      sums : (n q : ℕ) → sum_below n (λ c. factor_at roles q c *ℚ y c) ≡ sum_below n (λ c. factor_at roles q c *ℚ x c)
      sums zero q = refl
      sums (suc n) q = ap₂ (λ a b. a +ℚ b) (term q n (is_live roles n) refl) (sums n q)

      sum : (q : ℕ) → sum_below (length roles) (λ c. factor_at roles q c *ℚ y c) ≡ sum_below (length roles) (λ c. factor_at roles q c *ℚ x c)
      sum q = sums (length roles) q

  -- the values, with zero at each dropped column
  abbrev pub cleared : (ℕ → ℚ) → ℕ → ℚ
  cleared x q = pick (is_dropped roles q) 0ℚ (x q)

  pub cleared_is : (x : ℕ → ℚ) (q : ℕ) → is_dropped roles q ≡ false → cleared x q ≡ x q
  cleared_is x q h = pick_false (is_dropped roles q) 0ℚ (x q) h

  -- what satisfies the dictionary and is zero at the dropped columns
  pub admitted_as : (x : ℕ → ℚ) (z : ℚ) → ((c : ℕ) → is_dropped roles c ≡ true → x c ≡ 0ℚ) → Satisfies (length roles) (dictionary roles asked) x z → IsAdmitted roles x
  admitted_as x z k s = record {
    met = record { rows = λ q r h. s.rows q (row_is roles q r h) ∙ sym (by_factors x k q r h) };
    dropped = k;
  }

  pub admitted : (x : ℕ → ℚ) (z : ℚ) → Satisfies (length roles) (dictionary roles asked) x z → IsAdmitted roles (cleared x)
  admitted x z s = admitted_as (cleared x) z (λ c k. pick_true (is_dropped roles c) 0ℚ (x c) k) (agrees x (cleared x) z (cleared_is x) s)

  pub asked_is : IsRow roles asked → (x : ℕ → ℚ) (z : ℚ) → Satisfies (length roles) (dictionary roles asked) x z → z ≡ x asked
  asked_is row x z s = s.asked ∙ sym (s.rows asked (is_row_of roles asked row))
