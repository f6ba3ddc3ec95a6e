-- The role of a quantity, by its number.
use Rattle.std.proofs.Common.{◌≡◌, ◌↔◌, ℕ, zero, suc, ◌<◌, List, [], ◌∷◌, ◌++◌, length, get_or, Bool, Some, true, false, nat_eq, arith, refl, ap, sym, subst, ◌∙◌, ◌⊎◌, inl, inr}
use Rattle.std.specs.Prelude.{slice_get}
use Rattle.std.proofs.lemmas.Option.{none-some, same_Some}
use Rattle.cq_frac.specs.Row.{Row}
use Rattle.cq_frac.specs.Rows.{sum_at, unit}
use Rattle.cq_frac.proofs.Units.{same_number}
use Rattle.cq_dict.specs.declared.table.Role.{Role}
use Rattle.cq_dict.specs.declared.table.Role.TheVariants.{Live, Dropped, Basic}
use Rattle.cq_dict.specs.Roles.{IsAt, IsRow, IsOfOneKind, is_live, is_dropped, is_row, is_restricted, live_role, dropped_role, row_role, role_at, constant_in, constant_at, factor_in, factor_at}
use Rattle.spec_numbers.proofs.Tests.{nat_eq-self}

pub at_one : (l : List Role) (i : ℕ) (s t : Role) → IsAt l i s → IsAt l i t → s ≡ t
at_one [] i s t h k = absurd h
at_one (x ∷ l) zero s t h k = h ∙ sym k
at_one (x ∷ l) (suc i) s t h k = at_one l i s t h k

pub live_at : (l : List Role) (i : ℕ) (s : Role) → IsAt l i s → is_live l i ≡ live_role s
live_at [] i s h = absurd h
live_at (x ∷ l) zero s h = ap live_role (sym h)
live_at (x ∷ l) (suc i) s h = live_at l i s h

pub dropped_at : (l : List Role) (i : ℕ) (s : Role) → IsAt l i s → is_dropped l i ≡ dropped_role s
dropped_at [] i s h = absurd h
dropped_at (x ∷ l) zero s h = ap dropped_role (sym h)
dropped_at (x ∷ l) (suc i) s h = dropped_at l i s h

pub role_live : (l : List Role) (i : ℕ) → is_live l i ≡ true → IsAt l i Live
role_live [] i h = cc
role_live (Live ∷ l) zero h = refl
role_live (Dropped ∷ l) zero h = cc
role_live (Basic r ∷ l) zero h = cc
role_live (x ∷ l) (suc i) h = role_live l i h

pub role_dropped : (l : List Role) (i : ℕ) → is_dropped l i ≡ true → IsAt l i Dropped
role_dropped [] i h = cc
role_dropped (Dropped ∷ l) zero h = refl
role_dropped (Live ∷ l) zero h = cc
role_dropped (Basic r ∷ l) zero h = cc
role_dropped (x ∷ l) (suc i) h = role_dropped l i h

pub at_index : (l : List Role) (i : ℕ) (s : Role) → i < length l → s ≡ get_or l i s → IsAt l i s
at_index [] i s h e = absurd (omega arith)
at_index (x ∷ l) zero s h e = e
at_index (x ∷ l) (suc i) s h e = at_index l i s (omega arith) e

pub at_get : (l : List Role) (i : ℕ) (s : Role) → slice_get l i ≡ Some s → IsAt l i s
at_get [] i s e = absurd (none-some s e)
at_get (x ∷ l) zero s e = sym (same_Some x s e)
at_get (x ∷ l) (suc i) s e = at_get l i s e

pub at_exists : (l : List Role) (i : ℕ) → i < length l → (s : Role) × IsAt l i s
at_exists [] i h = absurd (omega arith)
at_exists (x ∷ l) zero h = (x, refl)
at_exists (x ∷ l) (suc i) h = at_exists l i (omega arith)

pub at_below : (l : List Role) (i : ℕ) (s : Role) → IsAt l i s → i < length l
at_below [] i s h = absurd h
at_below (x ∷ l) zero s h = omega arith
at_below (x ∷ l) (suc i) s h = let k = at_below l i s h in omega (arith, k)

pub flag_get : (l : List Bool) (i : ℕ) (b : Bool) → slice_get l i ≡ Some b → b ≡ is_restricted l i
flag_get [] i b e = absurd (none-some b e)
flag_get (x ∷ l) zero b e = sym (same_Some x b e)
flag_get (x ∷ l) (suc i) b e = flag_get l i b e

-- ---- a role at the end
pub at_left : (l : List Role) (i : ℕ) (s t : Role) → IsAt l i s → IsAt (l ++ t ∷ []) i s
at_left [] i s t h = absurd h
at_left (x ∷ l) zero s t h = h
at_left (x ∷ l) (suc i) s t h = at_left l i s t h

pub at_last : (l : List Role) (t : Role) → IsAt (l ++ t ∷ []) (length l) t
at_last [] t = refl
at_last (x ∷ l) t = at_last l t

pub at_end : (l : List Role) (i : ℕ) (s t : Role) → IsAt (l ++ t ∷ []) i s → IsAt l i s ⊎ ((i ≡ length l) × (s ≡ t))
at_end [] zero s t h = inr (refl, h)
at_end [] (suc i) s t h = absurd h
at_end (x ∷ l) zero s t h = inl h
at_end (x ∷ l) (suc i) s t h = elim (at_end l i s t h) [ inl k ↦ inl k | inr k ↦ inr (ap suc k.0, k.1) ]

pub live_left : (l : List Role) (t : Role) (c : ℕ) → is_live l c ≡ true → is_live (l ++ t ∷ []) c ≡ true
live_left l t c h = live_at (l ++ t ∷ []) c Live (at_left l c Live t (role_live l c h))

pub dropped_left : (l : List Role) (t : Role) (c : ℕ) → is_dropped l c ≡ true → is_dropped (l ++ t ∷ []) c ≡ true
dropped_left l t c h = dropped_at (l ++ t ∷ []) c Dropped (at_left l c Dropped t (role_dropped l c h))

-- ---- numbers
pub differs : (a b : ℕ) → nat_eq a b ≡ false → a ≡ b → ⊥
differs a b e h = let f : nat_eq a b ≡ true = subst (λ z. nat_eq z b ≡ true) (sym h) (nat_eq-self b) in cc

pub equal_or_not : (a b : ℕ) → (a ≡ b) ⊎ (a ≡ b → ⊥)
equal_or_not a b = go (nat_eq a b) refl
  where
    go : (t : Bool) → nat_eq a b ≡ t → (a ≡ b) ⊎ (a ≡ b → ⊥)
    go true e = inl (same_number a b e)
    go false e = inr (differs a b e)

-- ---- a role that is read
pub column_role : (l : List Role) (q : ℕ) (s : Role) → IsAt l q s → ((r : Row) → s ≡ Basic r → ⊥) → IsAt l q Live ⊎ IsAt l q Dropped
column_role l q Live a n = inl a
column_role l q Dropped a n = inr a
column_role l q (Basic r) a n = absurd (n r refl)

pub not_dropped_role : (l : List Role) (q : ℕ) (s : Role) → IsAt l q s → (s ≡ Dropped → ⊥) → false ≡ is_dropped l q
not_dropped_role l q Live a n = sym (dropped_at l q Live a)
not_dropped_role l q Dropped a n = absurd (n refl)
not_dropped_role l q (Basic r) a n = sym (dropped_at l q (Basic r) a)

pub row_one : (l : List Role) (q : ℕ) (r o : Row) → IsAt l q (Basic r) → IsAt l q (Basic o) → r ≡ o
row_one l q r o a b = let w = at_one l q (Basic r) (Basic o) a b in cc

-- ---- what is read at a number
pub role_is : (roles : List Role) (q : ℕ) (s : Role) → IsAt roles q s → role_at roles q ≡ s
role_is [] q s h = absurd h
role_is (t ∷ roles) zero s h = sym h
role_is (t ∷ roles) (suc q) s h = role_is roles q s h

-- a row that is found, and its number's role
pub record Found (roles : List Role) (q : ℕ) : Type 0 where
  pub row : Row
  pub at : IsAt roles q (Basic row)

pub found : (roles : List Role) (q : ℕ) → is_row roles q ≡ true → Found roles q
found [] q h = cc
found (Live ∷ roles) zero h = cc
found (Dropped ∷ roles) zero h = cc
found (Basic r ∷ roles) zero h = record { row = r; at = refl }
found (s ∷ roles) (suc q) h = let f = found roles q h in record { row = f.row; at = f.at }

pub row_is : (roles : List Role) (q : ℕ) (r : Row) → IsAt roles q (Basic r) → is_row roles q ≡ true
row_is roles q r h = ap row_role (role_is roles q (Basic r) h)

pub is_row_of : (roles : List Role) (q : ℕ) → IsRow roles q → is_row roles q ≡ true
is_row_of roles q h = row_is roles q h.0 h.1

pub constant_is : (roles : List Role) (q : ℕ) (r : Row) → IsAt roles q (Basic r) → constant_at roles q ≡ r.constant
constant_is roles q r h = ap constant_in (role_is roles q (Basic r) h)

pub factor_is : (roles : List Role) (q : ℕ) (r : Row) → IsAt roles q (Basic r) → (c : ℕ) → factor_at roles q c ≡ sum_at (unit c) r.live
factor_is roles q r h c = ap (λ s. factor_in s c) (role_is roles q (Basic r) h)

pub live_is_no_row : (roles : List Role) (q : ℕ) → is_live roles q ≡ true → is_row roles q ≡ false
live_is_no_row roles q h = ap row_role (role_is roles q Live (role_live roles q h))

pub dropped_is_no_row : (roles : List Role) (q : ℕ) → is_dropped roles q ≡ true → is_row roles q ≡ false
dropped_is_no_row roles q h = ap row_role (role_is roles q Dropped (role_dropped roles q h))

pub live_is_not_dropped : (roles : List Role) (q : ℕ) → is_live roles q ≡ true → is_dropped roles q ≡ false
live_is_not_dropped roles q h = dropped_at roles q Live (role_live roles q h)

pub row_is_not_dropped : (roles : List Role) (q : ℕ) → is_row roles q ≡ true → is_dropped roles q ≡ false
row_is_not_dropped roles q h = let f = found roles q h in dropped_at roles q (Basic f.row) f.at

pub row_of : (roles : List Role) (q : ℕ) → is_row roles q ≡ true → IsRow roles q
row_of roles q h = let f = found roles q h in (f.row, f.at)

-- ---- a quantity that stays of its kind
same_bool : (a b : Bool) → (a ≡ true → b ≡ true) → (b ≡ true → a ≡ true) → a ≡ b
same_bool true b f g = sym (f refl)
same_bool false true f g = g refl
same_bool false false f g = refl

module _ (old new : List Role) (i : ℕ) where
  pub one_kind : (IsAt old i Live ↔ IsAt new i Live) → (IsAt old i Dropped ↔ IsAt new i Dropped) → (IsRow old i ↔ IsRow new i) → IsOfOneKind old new i
  one_kind l d r = record {
    live = same_bool (is_live new i) (is_live old i) (λ h. live_at old i Live (l.1 (role_live new i h))) (λ h. live_at new i Live (l.0 (role_live old i h)));
    dropped = same_bool (is_dropped new i) (is_dropped old i) (λ h. dropped_at old i Dropped (d.1 (role_dropped new i h))) (λ h. dropped_at new i Dropped (d.0 (role_dropped old i h)));
    row = same_bool (is_row new i) (is_row old i) (λ h. is_row_of old i (r.1 (row_of new i h))) (λ h. is_row_of new i (r.0 (row_of old i h)));
  }

  module _ (k : IsOfOneKind old new i) where
    pub live_on : IsAt old i Live → IsAt new i Live
    live_on h = role_live new i (k.live ∙ live_at old i Live h)

    pub live_back : IsAt new i Live → IsAt old i Live
    live_back h = role_live old i (sym k.live ∙ live_at new i Live h)

    pub dropped_on : IsAt old i Dropped → IsAt new i Dropped
    dropped_on h = role_dropped new i (k.dropped ∙ dropped_at old i Dropped h)

    pub dropped_back : IsAt new i Dropped → IsAt old i Dropped
    dropped_back h = role_dropped old i (sym k.dropped ∙ dropped_at new i Dropped h)

    pub row_on : IsRow old i → IsRow new i
    row_on h = row_of new i (k.row ∙ is_row_of old i h)

    pub row_back : IsRow new i → IsRow old i
    row_back h = row_of old i (sym k.row ∙ is_row_of new i h)
