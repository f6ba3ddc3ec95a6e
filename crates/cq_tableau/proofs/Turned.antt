-- A row with the opposite sign: the other quantities are what they were.
use Rattle.std.proofs.Common.{◌≡◌, ℕ, zero, suc, ◌+◌, List, [], ◌∷◌, length, Bool, true, false, nat_eq, refl, ap, ap₂, sym, subst, ◌∙◌}
use Rattle.spec_numbers.proofs.Tests.{nat_eq-self, nat_eq-apart, nat_eq-same, nat_eq-other}
use Rattle.spec_numbers.specs.Rational.{ℚ, ◌+ℚ◌, ◌*ℚ◌, ◌/ℚ◌, neg_ℚ, IsPositive, IsNotNegative, ◌≤ℚ◌}
use Rattle.spec_numbers.proofs.Ring.{var, ◌⊕◌, minus}
use Rattle.spec_numbers.proofs.RationalLemmas.{ring}
use Rattle.spec_simplex.specs.Dictionary.{IsFeasible}
use Rattle.spec_simplex.specs.Rule.{Limits, Leaves, ratio}
use Rattle.cq_frac.specs.declared.row.Entry.{Entry}
use Rattle.cq_frac.specs.Row.{Row}
use Rattle.cq_frac.specs.Rows.{sum_at, unit, IsRowFrom, choose}
use Rattle.cq_frac.specs.Numbers.{right_side, IsOver}
use Rattle.cq_frac.proofs.Units.{row_negated, row_weaker, sum_at-negated}
use Rattle.cq_dict.specs.declared.table.Role.{Role}
use Rattle.cq_dict.specs.declared.table.Role.TheVariants.{Live, Dropped, Basic}
use Rattle.cq_dict.specs.Roles.{IsAt, IsRow, AreOverColumns, IsMet, IsExchanged, is_live, is_dropped, is_row, is_restricted, role_at, constant_in, constant_at, factor_in, factor_at}
use Rattle.cq_dict.specs.Dict.{SameMeaning}
use Rattle.cq_dict.proofs.Roles.{live_at, dropped_at, at_one, constant_is, factor_is}
use Rattle.cq_simplex.specs.Dictionary.{dictionary}
use Rattle.cq_tableau.proofs.Steps.{met_agrees}
use Rattle.cq_tableau.specs.Turned.{opposite_row, opposite_role, turned}

-- ---- kinds stay
pub turned_length : (roles : List Role) (q : ℕ) → length (turned roles q) ≡ length roles
turned_length [] q = refl
turned_length (t ∷ ts) zero = refl
turned_length (t ∷ ts) (suc q) = ap suc (turned_length ts q)

pub turned_live : (roles : List Role) (q z : ℕ) → is_live (turned roles q) z ≡ is_live roles z
turned_live [] q z = refl
turned_live (Live ∷ ts) zero zero = refl
turned_live (Dropped ∷ ts) zero zero = refl
turned_live (Basic r ∷ ts) zero zero = refl
turned_live (t ∷ ts) zero (suc z) = refl
turned_live (t ∷ ts) (suc q) zero = refl
turned_live (t ∷ ts) (suc q) (suc z) = turned_live ts q z

pub turned_dropped : (roles : List Role) (q z : ℕ) → is_dropped (turned roles q) z ≡ is_dropped roles z
turned_dropped [] q z = refl
turned_dropped (Live ∷ ts) zero zero = refl
turned_dropped (Dropped ∷ ts) zero zero = refl
turned_dropped (Basic r ∷ ts) zero zero = refl
turned_dropped (t ∷ ts) zero (suc z) = refl
turned_dropped (t ∷ ts) (suc q) zero = refl
turned_dropped (t ∷ ts) (suc q) (suc z) = turned_dropped ts q z

pub turned_row : (roles : List Role) (q z : ℕ) → is_row (turned roles q) z ≡ is_row roles z
turned_row [] q z = refl
turned_row (Live ∷ ts) zero zero = refl
turned_row (Dropped ∷ ts) zero zero = refl
turned_row (Basic r ∷ ts) zero zero = refl
turned_row (t ∷ ts) zero (suc z) = refl
turned_row (t ∷ ts) (suc q) zero = refl
turned_row (t ∷ ts) (suc q) (suc z) = turned_row ts q z

-- ---- what is at a number
pub turned_other : (roles : List Role) (q z : ℕ) → (z ≡ q → ⊥) → role_at (turned roles q) z ≡ role_at roles z
turned_other [] q z n = refl
turned_other (t ∷ ts) zero zero n = absurd (n refl)
turned_other (t ∷ ts) zero (suc z) n = refl
turned_other (t ∷ ts) (suc q) zero n = refl
turned_other (t ∷ ts) (suc q) (suc z) n = turned_other ts q z (λ e. n (ap suc e))

pub turned_at : (roles : List Role) (q : ℕ) (t : Role) → IsAt roles q t → IsAt (turned roles q) q (opposite_role t)
turned_at [] q t a = absurd a
turned_at (s ∷ ts) zero t a = ap opposite_role a
turned_at (s ∷ ts) (suc q) t a = turned_at ts q t a

pub turned_at_other : (roles : List Role) (q z : ℕ) (t : Role) → (z ≡ q → ⊥) → IsAt roles z t → IsAt (turned roles q) z t
turned_at_other [] q z t n a = absurd a
turned_at_other (s ∷ ts) zero zero t n a = absurd (n refl)
turned_at_other (s ∷ ts) zero (suc z) t n a = a
turned_at_other (s ∷ ts) (suc q) zero t n a = a
turned_at_other (s ∷ ts) (suc q) (suc z) t n a = turned_at_other ts q z t (λ e. n (ap suc e)) a

pub at_other : (roles : List Role) (q z : ℕ) (t : Role) → (z ≡ q → ⊥) → IsAt (turned roles q) z t → IsAt roles z t
at_other [] q z t n a = absurd a
at_other (s ∷ ts) zero zero t n a = absurd (n refl)
at_other (s ∷ ts) zero (suc z) t n a = a
at_other (s ∷ ts) (suc q) zero t n a = a
at_other (s ∷ ts) (suc q) (suc z) t n a = at_other ts q z t (λ e. n (ap suc e)) a

pub turned_live_at : (roles : List Role) (q z : ℕ) → IsAt roles z Live → IsAt (turned roles q) z Live
turned_live_at [] q z a = absurd a
turned_live_at (s ∷ ts) zero zero a = ap opposite_role a
turned_live_at (s ∷ ts) zero (suc z) a = a
turned_live_at (s ∷ ts) (suc q) zero a = a
turned_live_at (s ∷ ts) (suc q) (suc z) a = turned_live_at ts q z a

pub turned_is_row : (roles : List Role) (q z : ℕ) → IsRow roles z → IsRow (turned roles q) z
turned_is_row [] q z a = absurd a.1
turned_is_row (s ∷ ts) zero zero a = (opposite_row a.0, ap opposite_role a.1)
turned_is_row (s ∷ ts) zero (suc z) a = a
turned_is_row (s ∷ ts) (suc q) zero a = a
turned_is_row (s ∷ ts) (suc q) (suc z) a = turned_is_row ts q z a

-- ---- rows are over the columns
module _ (roles : List Role) (q : ℕ) where
  over_turned : (r : Row) → IsOver (is_live roles) (is_dropped roles) r → IsOver (is_live (turned roles q)) (is_dropped (turned roles q)) r
  over_turned r o = record {
    live_row = row_weaker (is_live roles) (is_live (turned roles q)) 0 r.live (λ c e. turned_live roles q c ∙ e) o.live_row;
    dropped_row = row_weaker (is_dropped roles) (is_dropped (turned roles q)) 0 r.dropped (λ c e. turned_dropped roles q c ∙ e) o.dropped_row;
  }

  over_opposite : (r : Row) → IsOver (is_live roles) (is_dropped roles) r → IsOver (is_live roles) (is_dropped roles) (opposite_row r)
  over_opposite r o = record { live_row = row_negated (is_live roles) 0 r.live o.live_row; dropped_row = row_negated (is_dropped roles) 0 r.dropped o.dropped_row }

  module _ (own : Row) (at : IsAt roles q (Basic own)) (table : AreOverColumns roles) where
    own_of : (r : Row) → IsAt (turned roles q) q (Basic r) → r ≡ opposite_row own
    own_of r a = same (at_one (turned roles q) q (Basic r) (Basic (opposite_row own)) a (turned_at roles q (Basic own) at))
      where
        same : {a b : Row} → Basic a ≡ Basic b → a ≡ b
        same e = cc

    pub turned_table : AreOverColumns (turned roles q)
    turned_table = record { rows = λ i r a. go i r a (nat_eq i q) refl }
      where
        go : (i : ℕ) (r : Row) → IsAt (turned roles q) i (Basic r) → (b : Bool) → nat_eq i q ≡ b → IsOver (is_live (turned roles q)) (is_dropped (turned roles q)) r
        go i r a false e = over_turned r (table.rows i r (at_other roles q i (Basic r) (nat_eq-other i q e) a))
        go i r a true e =
            let k = own_of r (subst (λ z. IsAt (turned roles q) z (Basic r)) (nat_eq-same i q e) a) in
            subst (IsOver (is_live (turned roles q)) (is_dropped (turned roles q))) (sym k) (over_turned (opposite_row own) (over_opposite own (table.rows q own at)))

    -- ---- numbers of the quantities, with q's turned
    abbrev pub flipped : (ℕ → ℚ) → ℕ → ℚ
    flipped x z = choose (nat_eq z q) (neg_ℚ (x z)) (x z)

    pub flipped_own : (x : ℕ → ℚ) → flipped x q ≡ neg_ℚ (x q)
    flipped_own x = ap (λ b. choose b (neg_ℚ (x q)) (x q)) (nat_eq-self q)

    pub flipped_other : (x : ℕ → ℚ) (z : ℕ) → (z ≡ q → ⊥) → flipped x z ≡ x z
    flipped_other x z n = ap (λ b. choose b (neg_ℚ (x z)) (x z)) (nat_eq-apart z q n)

    -- q stands in no row
    not_live : (z : ℕ) → is_live roles z ≡ true → z ≡ q → ⊥
    not_live z l e = let n = live_at roles q (Basic own) at in let k = subst (λ y. is_live roles y ≡ true) e l in cc

    not_dropped : (z : ℕ) → is_dropped roles z ≡ true → z ≡ q → ⊥
    not_dropped z l e = let n = dropped_at roles q (Basic own) at in let k = subst (λ y. is_dropped roles y ≡ true) e l in cc

    flipped_sum : (x : ℕ → ℚ) (p : ℕ → Bool) (lo : ℕ) (s : List Entry) → IsRowFrom p lo s → ((z : ℕ) → p z ≡ true → z ≡ q → ⊥) → sum_at (flipped x) s ≡ sum_at x s
    flipped_sum x p lo [] r n = refl
    flipped_sum x p lo (m ∷ s) r n = ap₂ (λ a b. m.factor *ℚ a +ℚ b) (flipped_other x m.quantity (n m.quantity r.1)) (flipped_sum x p (m.quantity + 1) s r.3 n)

    flipped_right : (x : ℕ → ℚ) (r : Row) → IsOver (is_live roles) (is_dropped roles) r → right_side (flipped x) r ≡ right_side x r
    flipped_right x r o =
        ap₂ (λ a b. r.constant +ℚ (a +ℚ b)) (flipped_sum x (is_live roles) 0 r.live o.live_row not_live) (flipped_sum x (is_dropped roles) 0 r.dropped o.dropped_row not_dropped)

    opposite_right : (x : ℕ → ℚ) → right_side x (opposite_row own) ≡ neg_ℚ (right_side x own)
    opposite_right x =
        ap₂ (λ a b. neg_ℚ own.constant +ℚ (a +ℚ b)) (sum_at-negated x own.live) (sum_at-negated x own.dropped)
        ∙ ring (own.constant ∷ sum_at x own.live ∷ sum_at x own.dropped ∷ []) (minus (var 0) ⊕ (minus (var 1) ⊕ minus (var 2))) (minus (var 0 ⊕ (var 1 ⊕ var 2))) refl

    -- numbers that meet the roles meet the turned ones, flipped
    pub met_turned : (x : ℕ → ℚ) → IsMet x roles → IsMet (flipped x) (turned roles q)
    met_turned x m = record { rows = λ i r a. go i r a (nat_eq i q) refl }
      where
        go : (i : ℕ) (r : Row) → IsAt (turned roles q) i (Basic r) → (b : Bool) → nat_eq i q ≡ b → flipped x i ≡ right_side (flipped x) r
        go i r a false e =
            let n = nat_eq-other i q e in
            let b = at_other roles q i (Basic r) n a in
            flipped_other x i n ∙ m.rows i r b ∙ sym (flipped_right x r (table.rows i r b))
        go i r a true e =
            let s = nat_eq-same i q e in
            let k = own_of r (subst (λ z. IsAt (turned roles q) z (Basic r)) s a) in
            ap (flipped x) s ∙ flipped_own x ∙ ap neg_ℚ (m.rows q own at) ∙ sym (opposite_right x)
            ∙ sym (flipped_right x (opposite_row own) (over_opposite own (table.rows q own at))) ∙ ap (right_side (flipped x)) (sym k)

    -- and back
    pub met_back : (x : ℕ → ℚ) → IsMet x (turned roles q) → IsMet (flipped x) roles
    met_back x m = record { rows = λ i r a. go i r a (nat_eq i q) refl }
      where
        go : (i : ℕ) (r : Row) → IsAt roles i (Basic r) → (b : Bool) → nat_eq i q ≡ b → flipped x i ≡ right_side (flipped x) r
        go i r a false e =
            let n = nat_eq-other i q e in
            flipped_other x i n ∙ m.rows i r (turned_at_other roles q i (Basic r) n a) ∙ sym (flipped_right x r (table.rows i r a))
        go i r a true e =
            let s = nat_eq-same i q e in
            let k = same (at_one roles q (Basic r) (Basic own) (subst (λ z. IsAt roles z (Basic r)) s a) at) in
            ap (flipped x) s ∙ flipped_own x ∙ ap neg_ℚ (m.rows q (opposite_row own) (turned_at roles q (Basic own) at) ∙ opposite_right x)
            ∙ ring (right_side x own ∷ []) (minus (minus (var 0))) (var 0) refl
            ∙ sym (flipped_right x own (table.rows q own at)) ∙ ap (right_side (flipped x)) (sym k)
          where
            same : {a b : Row} → Basic a ≡ Basic b → a ≡ b
            same e = cc

-- ---- two tables in which q is a row
module _ (old new : List Role) (q : ℕ) (old_row : IsRow old q) (new_row : IsRow new q) (old_table : AreOverColumns old) (new_table : AreOverColumns new) where
  twice : (x : ℕ → ℚ) (z : ℕ) → flipped old q old_row.0 old_row.1 old_table (flipped old q old_row.0 old_row.1 old_table x) z ≡ x z
  twice x z = go (nat_eq z q) refl
    where
      go : (b : Bool) → nat_eq z q ≡ b → choose b (neg_ℚ (choose b (neg_ℚ (x z)) (x z))) (choose b (neg_ℚ (x z)) (x z)) ≡ x z
      go true e = ring (x z ∷ []) (minus (minus (var 0))) (var 0) refl
      go false e = refl

  one_way : ((x : ℕ → ℚ) → IsMet x old → IsMet x new) → (x : ℕ → ℚ) → IsMet x (turned old q) → IsMet x (turned new q)
  one_way h x m =
      met_agrees (turned new q) (turned_table new q new_row.0 new_row.1 new_table) (flipped old q old_row.0 old_row.1 old_table (flipped old q old_row.0 old_row.1 old_table x)) x
      (λ z l. twice x z)
      (met_turned new q new_row.0 new_row.1 new_table (flipped old q old_row.0 old_row.1 old_table x) (h (flipped old q old_row.0 old_row.1 old_table x) (met_back old q old_row.0 old_row.1 old_table x m)))

pub turned_same : (old new : List Role) (q : ℕ) → IsRow old q → IsRow new q → AreOverColumns old → AreOverColumns new → SameMeaning old new → SameMeaning (turned old q) (turned new q)
turned_same old new q a b t u same x = (one_way old new q a b t u (λ y. (same y).0) x, one_way new old q b a u t (λ y. (same y).1) x)

pub turned_exchanged : (old new : List Role) (q r c : ℕ) → IsExchanged old r c new → IsExchanged (turned old q) r c (turned new q)
turned_exchanged old new q r c x = record {
  size = turned_length new q ∙ x.size ∙ sym (turned_length old q);
  leaves = turned_live_at new q r x.leaves;
  enters = turned_is_row new q c x.enters;
  others = λ i n m. let k = x.others i n m in
      record {
        live = turned_live new q i ∙ k.live ∙ sym (turned_live old q i);
        dropped = turned_dropped new q i ∙ k.dropped ∙ sym (turned_dropped old q i);
        row = turned_row new q i ∙ k.row ∙ sym (turned_row old q i);
      };
}

-- ---- the dictionary of the turned roles
module _ (roles : List Role) (flags : List Bool) (q : ℕ) (free : is_restricted flags q ≡ false) where
  apart_from : (z : ℕ) → is_restricted flags z ≡ true → z ≡ q → ⊥
  apart_from z r e = let k = subst (λ y. is_restricted flags y ≡ true) e r in cc

  pub constant_stays : (z : ℕ) → is_restricted flags z ≡ true → constant_at (turned roles q) z ≡ constant_at roles z
  constant_stays z r = ap constant_in (turned_other roles q z (apart_from z r))

  pub factor_stays : (z c : ℕ) → is_restricted flags z ≡ true → factor_at (turned roles q) z c ≡ factor_at roles z c
  factor_stays z c r = ap (λ t. factor_in t c) (turned_other roles q z (apart_from z r))

  pub feasible_turned : IsFeasible (is_restricted flags) (dictionary roles q) → IsFeasible (is_restricted flags) (dictionary (turned roles q) q)
  feasible_turned f = record {
    constants = λ z k r. subst IsNotNegative (sym (constant_stays z r)) (f.constants z (sym (turned_row roles q z) ∙ k) r);
    no_free_column = λ z c k r l n. factor_stays z c r ∙ f.no_free_column z c (sym (turned_row roles q z) ∙ k) r (sym (turned_live roles q c) ∙ l) n;
  }

  pub feasible_back : IsFeasible (is_restricted flags) (dictionary (turned roles q) q) → IsFeasible (is_restricted flags) (dictionary roles q)
  feasible_back f = record {
    constants = λ z k r. subst IsNotNegative (constant_stays z r) (f.constants z (turned_row roles q z ∙ k) r);
    no_free_column = λ z c k r l n. sym (factor_stays z c r) ∙ f.no_free_column z c (turned_row roles q z ∙ k) r (turned_live roles q c ∙ l) n;
  }

  pub limits_back : (c z : ℕ) → Limits (is_restricted flags) (dictionary (turned roles q) q) c z → Limits (is_restricted flags) (dictionary roles q) c z
  limits_back c z l = record { row = sym (turned_row roles q z) ∙ l.row; flag = l.flag; falls = subst (λ b. IsPositive (neg_ℚ b)) (factor_stays z c l.flag) l.falls }

  pub limits_there : (c z : ℕ) → Limits (is_restricted flags) (dictionary roles q) c z → Limits (is_restricted flags) (dictionary (turned roles q) q) c z
  limits_there c z l = record { row = turned_row roles q z ∙ l.row; flag = l.flag; falls = subst (λ b. IsPositive (neg_ℚ b)) (sym (factor_stays z c l.flag)) l.falls }

  ratio_stays : (c z : ℕ) → is_restricted flags z ≡ true → ratio (dictionary (turned roles q) q) c z ≡ ratio (dictionary roles q) c z
  ratio_stays c z r = ap₂ (λ a b. a /ℚ neg_ℚ b) (constant_stays z r) (factor_stays z c r)

  pub leaves_turned : (c r : ℕ) → Leaves (is_restricted flags) (dictionary roles q) c r → Leaves (is_restricted flags) (dictionary (turned roles q) q) c r
  leaves_turned c r l = record {
    limits = limits_there c r l.limits;
    least_ratio = λ z k. subst (λ a. a ≤ℚ ratio (dictionary (turned roles q) q) c z) (sym (ratio_stays c r l.limits.flag))
        (subst (λ b. ratio (dictionary roles q) c r ≤ℚ b) (sym (ratio_stays c z k.flag)) (l.least_ratio z (limits_back c z k)));
    least_number = λ z k e. l.least_number z (limits_back c z k) (sym (ratio_stays c z k.flag) ∙ e ∙ ratio_stays c r l.limits.flag);
  }

  pub none_limits_turned : (c : ℕ) → ((z : ℕ) → Limits (is_restricted flags) (dictionary roles q) c z → ⊥) → (z : ℕ)
      → Limits (is_restricted flags) (dictionary (turned roles q) q) c z → ⊥
  none_limits_turned c n z l = n z (limits_back c z l)

-- its own row
module _ (roles : List Role) (q : ℕ) (own : Row) (at : IsAt roles q (Basic own)) where
  pub own_constant : constant_at (turned roles q) q ≡ neg_ℚ (constant_at roles q)
  own_constant =
      constant_is (turned roles q) q (opposite_row own) (turned_at roles q (Basic own) at) ∙ ap neg_ℚ (sym (constant_is roles q own at))

  pub own_factor : (c : ℕ) → factor_at (turned roles q) q c ≡ neg_ℚ (factor_at roles q c)
  own_factor c =
      factor_is (turned roles q) q (opposite_row own) (turned_at roles q (Basic own) at) c ∙ sum_at-negated (unit c) own.live ∙ ap neg_ℚ (sym (factor_is roles q own at c))
