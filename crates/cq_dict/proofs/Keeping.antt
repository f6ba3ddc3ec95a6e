-- Where a column is dropped or restored, a row holds no column that it did not hold.
use Rattle.std.proofs.Common.{◌≡◌, ℕ, List, [], ◌∷◌, length, Bool, true, ◌⊎◌, inl, inr, pos, refl, ap, ap₂, sym, subst, ◌∙◌}
use Rattle.spec_numbers.specs.Rational.{ℚ, 0ℚ, ◌+ℚ◌, ◌-ℚ◌, ◌*ℚ◌}
use Rattle.spec_numbers.proofs.Ring.{var, int, ◌⊕◌, ◌⊗◌, minus}
use Rattle.spec_numbers.proofs.RationalLemmas.{ring}
use Rattle.cq_frac.specs.declared.row.Entry.{Entry}
use Rattle.cq_frac.specs.Row.{Row}
use Rattle.cq_frac.specs.Rows.{sum_at, IsRowFrom, everywhere, Has, Lacks, except, unit}
use Rattle.cq_frac.specs.Numbers.{right_side, IsOver, also, IsDropped, IsRestored}
use Rattle.cq_frac.proofs.Shifts.{over_anywhere, entry_not_zero, passes}
use Rattle.cq_frac.proofs.Units.{except_below, no_entry, at_unit, vanished}
use Rattle.cq_dict.specs.declared.columns.Turn.{Turn}
use Rattle.cq_dict.specs.declared.columns.Turn.TheVariants.{Dropping, Restoring}
use Rattle.cq_dict.specs.declared.holders.Cell.{Cell}
use Rattle.cq_dict.specs.declared.table.Change.{Change}
use Rattle.cq_dict.specs.declared.table.Role.{Role}
use Rattle.cq_dict.specs.declared.table.Role.TheVariants.{Live, Dropped, Basic}
use Rattle.cq_dict.specs.Changes.{Covers, IsWritten, kind_of, IsTurnedRow, Turned}
use Rattle.cq_dict.specs.Holders.{Holds, HoldsNoMore, AreHeld}
use Rattle.cq_dict.specs.Roles.{IsAt, AreOverColumns, is_live, is_dropped}
use Rattle.cq_dict.proofs.Held.{held_written}
use Rattle.cq_dict.proofs.Roles.{equal_or_not}

-- ---- lists of entries
zero_sum : (s : List Entry) → sum_at (λ y. 0ℚ) s ≡ 0ℚ
zero_sum [] = refl
zero_sum (m ∷ s) = ap (λ w. m.factor *ℚ 0ℚ +ℚ w) (zero_sum s) ∙ ring (m.factor ∷ []) (var 0 ⊗ int (pos 0) ⊕ int (pos 0)) (int (pos 0)) refl

holds_or_lacks : (c : ℕ) (s : List Entry) → ((m : Entry) × Has m s × (m.quantity ≡ c)) ⊎ Lacks c s
holds_or_lacks c [] = inr (λ m h e. h)
holds_or_lacks c (n ∷ s) = go (equal_or_not n.quantity c) (holds_or_lacks c s)
  where
    none : (n.quantity ≡ c → ⊥) → Lacks c s → (m : Entry) → (m ≡ n) ⊎ Has m s → m.quantity ≡ c → ⊥
    none k l m (inl e) g = k (sym (ap (λ (t : Entry). t.quantity) e) ∙ g)
    none k l m (inr h) g = l m h g

    go : (n.quantity ≡ c) ⊎ (n.quantity ≡ c → ⊥) → ((m : Entry) × Has m s × (m.quantity ≡ c)) ⊎ Lacks c s → ((m : Entry) × Has m (n ∷ s) × (m.quantity ≡ c)) ⊎ Lacks c (n ∷ s)
    go (inl e) r = inl (n, inl refl, e)
    go (inr k) (inl f) = inl (f.0, inr f.1, f.2)
    go (inr k) (inr l) = inr (λ m h g. none k l m h g)

no_more : (p : ℕ → Bool) (s : List Entry) (c : ℕ) → IsRowFrom p 0 s → (p c ≡ true → ⊥) → Lacks c s
no_more p s c r n m h e = n (subst (λ i. p i ≡ true) e (passes p 0 s m r h))

not_excepted : (c : ℕ) (p : ℕ → Bool) → except c p c ≡ true → ⊥
not_excepted c p h = (except_below c c p h).1 refl

-- an entry of a column whose factor is zero
not_zero : (p : ℕ → Bool) (s : List Entry) (c : ℕ) → IsRowFrom p 0 s → sum_at (unit c) s ≡ 0ℚ → (m : Entry) → Has m s → m.quantity ≡ c → ⊥
not_zero p s c r z m h e =
    entry_not_zero p 0 s m.quantity m.factor r h (sym (at_unit p 0 s m r h) ∙ subst (λ i. sum_at (unit i) s ≡ 0ℚ) (sym e) z)

-- ---- one row
module _ (o r : Row) (column c : ℕ) (ov : IsOver everywhere everywhere o) (value : (x : ℕ → ℚ) → right_side x r ≡ right_side x o) where
  -- where the old row lacks the column
  module _ (l : Lacks c o.live) (d : Lacks c o.dropped) where
    without : IsOver (except c everywhere) (except c everywhere) o
    without = record {
      live_row = vanished everywhere 0 c o.live ov.live_row (no_entry c o.live l);
      dropped_row = vanished everywhere 0 c o.dropped ov.dropped_row (no_entry c o.dropped d);
    }

    at_nothing : r.constant ≡ o.constant
    at_nothing =
        ring (r.constant ∷ []) (var 0) (var 0 ⊕ (int (pos 0) ⊕ int (pos 0))) refl
        ∙ ap₂ (λ a b. r.constant +ℚ (a +ℚ b)) (sym (zero_sum r.live)) (sym (zero_sum r.dropped)) ∙ value (λ y. 0ℚ)
        ∙ ap₂ (λ a b. o.constant +ℚ (a +ℚ b)) (zero_sum o.live) (zero_sum o.dropped)
        ∙ ring (o.constant ∷ []) (var 0 ⊕ (int (pos 0) ⊕ int (pos 0))) (var 0) refl

    both : sum_at (unit c) r.live +ℚ sum_at (unit c) r.dropped ≡ 0ℚ
    both =
        let a = sum_at (unit c) r.live in
        let b = sum_at (unit c) r.dropped in
        ring (r.constant ∷ a ∷ b ∷ []) (var 1 ⊕ var 2) ((var 0 ⊕ (var 1 ⊕ var 2)) ⊕ minus (var 0)) refl
        ∙ ap (λ w. w -ℚ r.constant) (value (unit c) ∙ ap₂ (λ s t. o.constant +ℚ (s +ℚ t)) (no_entry c o.live l) (no_entry c o.dropped d))
        ∙ ap (λ w. (o.constant +ℚ (0ℚ +ℚ 0ℚ)) -ℚ w) at_nothing
        ∙ ring (o.constant ∷ []) ((var 0 ⊕ (int (pos 0) ⊕ int (pos 0))) ⊕ minus (var 0)) (int (pos 0)) refl

    live_zero : Lacks c r.dropped → sum_at (unit c) r.live ≡ 0ℚ
    live_zero n =
        ring (sum_at (unit c) r.live ∷ []) (var 0) (var 0 ⊕ int (pos 0)) refl ∙ ap (λ w. sum_at (unit c) r.live +ℚ w) (sym (no_entry c r.dropped n)) ∙ both

    dropped_zero : Lacks c r.live → sum_at (unit c) r.dropped ≡ 0ℚ
    dropped_zero n =
        ring (sum_at (unit c) r.dropped ∷ []) (var 0) (int (pos 0) ⊕ var 0) refl ∙ ap (λ w. w +ℚ sum_at (unit c) r.dropped) (sym (no_entry c r.live n)) ∙ both

    -- the new row's entries of live columns are those of the old one but for the column, or the other way round
    excepted : (m : Entry) (s : List Entry) → IsRowFrom (except column (except c everywhere)) 0 s → Has m s → m.quantity ≡ c → ⊥
    excepted m s w h e =
        not_excepted c everywhere
        (except_below column c (except c everywhere) (subst (λ i. except column (except c everywhere) i ≡ true) e (passes (except column (except c everywhere)) 0 s m w h))).0

    lacking : (s : List Entry) → IsRowFrom (except column (except c everywhere)) 0 s → Lacks c s
    lacking s w m h e = excepted m s w h e

    added : (m : Entry) (s : List Entry) → IsRowFrom (also column (except c everywhere)) 0 s → sum_at (unit c) s ≡ 0ℚ → Has m s → m.quantity ≡ c → ⊥
    added m s w z h e = not_zero (also column (except c everywhere)) s c w z m h e

  back : (Lacks c o.live → Lacks c o.dropped → ⊥) → Holds o c
  back n = go (holds_or_lacks c o.live) (holds_or_lacks c o.dropped)
    where
      go : ((m : Entry) × Has m o.live × (m.quantity ≡ c)) ⊎ Lacks c o.live → ((m : Entry) × Has m o.dropped × (m.quantity ≡ c)) ⊎ Lacks c o.dropped → Holds o c
      go (inl h) k = (h.0, inl h.1, h.2)
      go (inr l) (inl h) = (h.0, inr h.1, h.2)
      go (inr l) (inr d) = absurd (n l d)

dropped_holds : (o r : Row) (column c : ℕ) → IsOver everywhere everywhere o → IsDropped o column r → Holds r c → Holds o c
dropped_holds o r column c ov i k =
    back o r column c ov i.value
    (λ l d.
    let w = i.over (except c everywhere) (except c everywhere) (without o r column c ov i.value l d) in
    elim k.1 [
      | inl h ↦ excepted o r column c ov i.value l d k.0 r.live w.live_row h k.2
      | inr h ↦ added o r column c ov i.value l d k.0 r.dropped w.dropped_row
          (dropped_zero o r column c ov i.value l d (lacking o r column c ov i.value l d r.live w.live_row)) h k.2
    ])

restored_holds : (o r : Row) (column c : ℕ) → IsOver everywhere everywhere o → IsRestored o column r → Holds r c → Holds o c
restored_holds o r column c ov i k =
    back o r column c ov i.value
    (λ l d.
    let w = i.over (except c everywhere) (except c everywhere) (without o r column c ov i.value l d) in
    elim k.1 [
      | inr h ↦ excepted o r column c ov i.value l d k.0 r.dropped w.dropped_row h k.2
      | inl h ↦ added o r column c ov i.value l d k.0 r.live w.live_row
          (live_zero o r column c ov i.value l d (lacking o r column c ov i.value l d r.dropped w.dropped_row)) h k.2
    ])

turned_holds : (turn : Turn) (o r : Row) (column c : ℕ) → IsOver everywhere everywhere o → IsTurnedRow turn column o r → Holds r c → Holds o c
turned_holds Dropping = dropped_holds
turned_holds Restoring = restored_holds

-- ---- all changes
not_kind : (turn : Turn) (r : Row) → Basic r ≡ kind_of turn → ⊥
not_kind Dropping r e = cc
not_kind Restoring r e = cc

same_row : (r w : Row) → Basic r ≡ Basic w → w ≡ r
same_row r w e = cc

turned_from : (turn : Turn) (column j : ℕ) (s : Role) (r : Row) → Turned turn column j s (Basic r) → (o : Row) × (s ≡ Basic o) × IsTurnedRow turn column o r
turned_from turn column j Live r t = let e : Basic r ≡ Live = t.live (λ h. not_kind turn r (t.own h)) refl in cc
turned_from turn column j Dropped r t = let e : Basic r ≡ Dropped = t.dropped (λ h. not_kind turn r (t.own h)) refl in cc
turned_from turn column j (Basic o) r t =
    let w = t.row (λ h. not_kind turn r (t.own h)) o refl in (o, refl, subst (λ (z : Row). IsTurnedRow turn column o z) (same_row r w.0 w.1) w.2)

pub turned_hold : (turn : Turn) (roles : List Role) (column : ℕ) → AreOverColumns roles → (changes : List Change) → Covers (Turned turn column) roles (length roles) changes
    → HoldsNoMore roles changes
turned_hold turn roles column table changes covers d own c m e k =
    let w = covers.changed d m in
    let f = turned_from turn column d.at w.0 own (subst (Turned turn column d.at w.0) e w.2) in
    let a = subst (IsAt roles d.at) f.1 w.1 in
    (f.0, a, turned_holds turn f.0 own column c (over_anywhere (is_live roles) (is_dropped roles) f.0 (table.rows d.at f.0 a)) f.2 k)

-- so the rows stand on their lists still
pub held_still : (roles new : List Role) (changes : List Change) (heads : List ℕ) (cells : List Cell) → AreHeld roles heads cells → IsWritten roles changes new → HoldsNoMore roles changes
    → AreHeld new heads cells
held_still roles new changes heads cells a w n =
    held_written roles new changes heads cells a w (λ d own c m e k. let h = n d own c m e k in a.all d.at h.0 c h.1 h.2)
