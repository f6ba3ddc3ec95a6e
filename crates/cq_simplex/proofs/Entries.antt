-- The columns of a row, in order: which are free, and which raises it first.
use Rattle.std.proofs.Common.{◌≡◌, ℕ, zero, suc, ◌+◌, ◌<◌, ◌≤◌, List, [], ◌∷◌, ◌++◌, length, get_or, take, Bool, true, false, arith, refl, ap, sym, subst, ◌∙◌, ◌⊎◌, inl, inr}
use Rattle.std.proofs.lemmas.List.{take_more}
use Rattle.spec_numbers.specs.Rational.{0ℚ, neg_ℚ, IsPositive}
use Rattle.spec_numbers.proofs.Sign.{not_pos_zero}
use Rattle.spec_simplex.specs.Rule.{Raises, Enters, IsFree}
use Rattle.cq_frac.specs.declared.row.Entry.{Entry}
use Rattle.cq_frac.specs.Row.{Row}
use Rattle.cq_frac.specs.Rows.{Has, Lacks, IsRowFrom, negated}
use Rattle.cq_frac.proofs.Units.{at_unit, no_entry, has_least}
use Rattle.cq_frac.proofs.Steps.{has_end}
use Rattle.cq_frac.proofs.Shifts.{entry_not_zero}
use Rattle.cq_dict.specs.declared.table.Role.{Role}
use Rattle.cq_dict.specs.declared.table.Role.TheVariants.{Live, Basic}
use Rattle.cq_dict.specs.Roles.{IsAt, AreOverColumns, HasEntry, is_live, is_restricted, is_row, factor_at}
use Rattle.cq_dict.proofs.Roles.{equal_or_not, at_below, role_live, Found, found, factor_is}
use Rattle.cq_simplex.specs.Dictionary.{dictionary}
use Rattle.cq_simplex.proofs.Columns.{entry_live}

-- the list has an entry of the quantity, or none
pub record EntryOf (c : ℕ) (s : List Entry) : Type 0 where
  pub entry : Entry
  pub in_list : Has entry s
  pub of : entry.quantity ≡ c

pub entry_or_lacks : (c : ℕ) (s : List Entry) → EntryOf c s ⊎ Lacks c s
entry_or_lacks c [] = inr (λ m h e. absurd h)
entry_or_lacks c (n ∷ s) = go (equal_or_not n.quantity c) (entry_or_lacks c s)
  where
    none : (n.quantity ≡ c → ⊥) → Lacks c s → (m : Entry) → (m ≡ n) ⊎ Has m s → m.quantity ≡ c → ⊥
    none k l m (inl e) g = k (sym (ap (λ (t : Entry). t.quantity) e) ∙ g)
    none k l m (inr h) g = l m h g

    go : (n.quantity ≡ c) ⊎ (n.quantity ≡ c → ⊥) → EntryOf c s ⊎ Lacks c s → EntryOf c (n ∷ s) ⊎ Lacks c (n ∷ s)
    go (inl e) r = inl (record { entry = n; in_list = inl refl; of = e })
    go (inr k) (inl f) = inl (record { entry = f.entry; in_list = inr f.in_list; of = f.of })
    go (inr k) (inr l) = inr (λ m h g. none k l m h g)

-- an entry stands before a place, or its quantity is not below that of the place
pub before_or_after : (p : ℕ → Bool) (lo : ℕ) (s : List Entry) (i : ℕ) (m n : Entry) → IsRowFrom p lo s → i < length s → m ≡ get_or s i m → Has n s → Has n (take i s) ⊎ (m.quantity ≤ n.quantity)
before_or_after p lo [] i m n r l e h = absurd h
before_or_after p lo (x ∷ s) zero m n r l e (inl g) = inr (omega (arith, ap (λ (t : Entry). t.quantity) e, ap (λ (t : Entry). t.quantity) g))
before_or_after p lo (x ∷ s) zero m n r l e (inr g) = inr (omega (arith, ap (λ (t : Entry). t.quantity) e, has_least p (x.quantity + 1) s n r.3 g))
before_or_after p lo (x ∷ s) (suc i) m n r l e (inl g) = inl (inl g)
before_or_after p lo (x ∷ s) (suc i) m n r l e (inr g) = elim (before_or_after p (x.quantity + 1) s i m n r.3 (omega (arith, l)) e g) [ inl k ↦ inl (inr k) | inr k ↦ inr k ]

-- ---- what holds of each entry before a place, and of the one there, holds before the next
pub each_more : (P : Entry → Type 0) (s : List Entry) (i : ℕ) (m : Entry) → i < length s → m ≡ get_or s i m → ((n : Entry) → Has n (take i s) → P n) → P m → (n : Entry) → Has n (take (i + 1) s) → P n
each_more P s i m l e h p n k =
    let t = take_more s i m l ∙ ap (λ x. take i s ++ x ∷ []) (sym e) in
    elim (has_end (take i s) n m (subst (Has n) t k)) [ inl g ↦ h n g | inr g ↦ subst P (sym g) p ]

module _ (roles : List Role) (flags : List Bool) (table : AreOverColumns roles) (asked : ℕ) (own : Row) (at : IsAt roles asked (Basic own)) where
  pub entry_below : (m : Entry) → Has m own.live → m.quantity < length roles
  entry_below m h = at_below roles m.quantity Live (role_live roles m.quantity (entry_live roles table asked asked own at m h))

  pub factor_of : (m : Entry) → Has m own.live → factor_at roles asked m.quantity ≡ m.factor
  factor_of m h = factor_is roles asked own at m.quantity ∙ at_unit (is_live roles) 0 own.live m (table.rows asked own at).live_row h

  pub free_is : (m : Entry) → Has m own.live → is_restricted flags m.quantity ≡ false → IsFree (is_restricted flags) (dictionary roles asked) m.quantity
  free_is m h f = record {
    column = entry_live roles table asked asked own at m h;
    flag = f;
    coefficient = λ e. entry_not_zero (is_live roles) 0 own.live m.quantity m.factor (table.rows asked own at).live_row h (sym (factor_of m h) ∙ e);
  }

  lacking : (c : ℕ) → Lacks c own.live → factor_at roles asked c ≡ 0ℚ
  lacking c l = factor_is roles asked own at c ∙ no_entry c own.live l

  pub none_free : ((m : Entry) → Has m own.live → is_restricted flags m.quantity ≡ true) → (c : ℕ) → is_live roles c ≡ true → is_restricted flags c ≡ false → factor_at roles asked c ≡ 0ℚ
  none_free h c l f = go (entry_or_lacks c own.live)
    where
      go : EntryOf c own.live ⊎ Lacks c own.live → factor_at roles asked c ≡ 0ℚ
      go (inr k) = lacking c k
      go (inl e) = let g = subst (λ z. is_restricted flags z ≡ true) e.of (h e.entry e.in_list) in cc

  -- an entry that raises the row
  abbrev pub Raising : Entry → Type 0
  Raising m = IsPositive m.factor × (is_restricted flags m.quantity ≡ true)

  pub raises_is : (m : Entry) → Has m own.live → Raising m → Raises (is_restricted flags) (dictionary roles asked) m.quantity
  raises_is m h r = record {
    column = entry_live roles table asked asked own at m h;
    flag = r.1;
    coefficient = subst IsPositive (sym (factor_of m h)) r.0;
  }

  pub entry_raising : (c : ℕ) → Raises (is_restricted flags) (dictionary roles asked) c → (m : Entry) × Has m own.live × (m.quantity ≡ c) × Raising m
  entry_raising c r = go (entry_or_lacks c own.live)
    where
      go : EntryOf c own.live ⊎ Lacks c own.live → (m : Entry) × Has m own.live × (m.quantity ≡ c) × Raising m
      go (inr k) = absurd (not_pos_zero (subst IsPositive (lacking c k) r.coefficient))
      go (inl e) = (
        e.entry,
        e.in_list,
        e.of,
        (
          subst IsPositive (sym (ap (factor_at roles asked) e.of) ∙ factor_of e.entry e.in_list) (subst (λ z. IsPositive (factor_at roles asked z)) refl r.coefficient),
          subst (λ z. is_restricted flags z ≡ true) (sym e.of) r.flag,
        ),
      )

  pub none_raises : ((m : Entry) → Has m own.live → Raising m → ⊥) → (c : ℕ) → Raises (is_restricted flags) (dictionary roles asked) c → ⊥
  none_raises h c r = let e = entry_raising c r in h e.0 e.1 e.3

  pub first_enters : (i : ℕ) (m : Entry) → i < length own.live → m ≡ get_or own.live i m → Has m own.live → ((n : Entry) → Has n (take i own.live) → Raising n → ⊥) → Raising m → Enters (is_restricted flags) (dictionary roles asked) m.quantity
  first_enters i m l e h none r = record { raises = raises_is m h r; least = λ q k. least q k }
    where
      least : (q : ℕ) → Raises (is_restricted flags) (dictionary roles asked) q → m.quantity ≤ q
      least q k =
          let n = entry_raising q k in
          elim (before_or_after (is_live roles) 0 own.live i m n.0 (table.rows asked own at).live_row l e n.1) [
            | inl g ↦ absurd (none n.0 g n.3)
            | inr g ↦ omega (arith, g, n.2)
          ]

-- a column with a factor in a row is one of its entries
pub has_entry : (roles : List Role) (r c : ℕ) → is_row roles r ≡ true → (factor_at roles r c ≡ 0ℚ → ⊥) → HasEntry roles r c
has_entry roles r c h n = at_row (found roles r h)
  where
    at_row : Found roles r → HasEntry roles r c
    at_row f = go (entry_or_lacks c f.row.live)
      where
        go : EntryOf c f.row.live ⊎ Lacks c f.row.live → HasEntry roles r c
        go (inr l) = absurd (n (factor_is roles r f.row f.at c ∙ no_entry c f.row.live l))
        go (inl e) = record {
          own = f.row;
          factor = e.entry.factor;
          is_row = f.at;
          in_row = subst (λ z. Has (record { quantity = z; factor = e.entry.factor }) f.row.live) e.of e.in_list;
        }

pub negated_entry : (s : List Entry) (m : Entry) → Has m (negated s) → (n : Entry) × Has n s × (m.quantity ≡ n.quantity) × (m.factor ≡ neg_ℚ n.factor)
negated_entry [] m h = absurd h
negated_entry (n ∷ s) m (inl e) = (n, inl refl, ap (λ (t : Entry). t.quantity) e, ap (λ (t : Entry). t.factor) e)
negated_entry (n ∷ s) m (inr h) = let r = negated_entry s m h in (r.0, inr r.1, r.2, r.3)
