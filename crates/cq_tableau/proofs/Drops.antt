-- One column more is dropped.
use Rattle.std.proofs.Common.{◌≡◌, ℕ, ◌+◌, ◌<◌, List, [], ◌∷◌, ◌++◌, length, take, get_or, zero, suc, arith, Bool, true, false, ◌⊎◌, inl, inr, refl, ap, sym, subst, ◌∙◌}
use Rattle.spec_numbers.proofs.Places.{take-next}
use Rattle.spec_linear.specs.Solution.{Has}
use Rattle.cq_frac.specs.declared.row.Entry.{Entry}
use Rattle.cq_dict.specs.declared.table.Role.{Role}
use Rattle.cq_dict.specs.declared.table.Role.TheVariants.{Live, Dropped}
use Rattle.cq_dict.specs.Roles.{AreOverColumns, ChangesKind, is_live, is_dropped}
use Rattle.cq_dict.specs.Dict.{SameMeaning}
use Rattle.cq_dict.proofs.Roles.{dropped_at, equal_or_not, at_below, role_live, role_dropped}
use Rattle.cq_tableau.specs.Dropped.{quantities, DropsEach}

quantities-end : (s : List Entry) (m : Entry) → quantities (s ++ m ∷ []) ≡ quantities s ++ m.quantity ∷ []
quantities-end [] m = refl
quantities-end (n ∷ s) m = ap (λ t. n.quantity ∷ t) (quantities-end s m)

quantities-next : (s : List Entry) (i : ℕ) (m : Entry) → i < length s → m ≡ get_or s i m → quantities (take (i + 1) s) ≡ quantities (take i s) ++ m.quantity ∷ []
quantities-next s i m l e = ap quantities (take-next s i m l e) ∙ quantities-end (take i s) m

pub has_end : (s : List ℕ) (c z : ℕ) → Has z (s ++ c ∷ []) → Has z s ⊎ (z ≡ c)
has_end [] c z (inl e) = inr e
has_end [] c z (inr h) = absurd h
has_end (d ∷ s) c z (inl e) = inl (inl e)
has_end (d ∷ s) c z (inr h) = elim (has_end s c z h) [ inl k ↦ inl (inr k) | inr e ↦ inr e ]

pub has_left : (s : List ℕ) (c z : ℕ) → Has z s → Has z (s ++ c ∷ [])
has_left [] c z h = absurd h
has_left (d ∷ s) c z (inl e) = inl e
has_left (d ∷ s) c z (inr h) = inr (has_left s c z h)

pub has_last : (s : List ℕ) (c : ℕ) → Has c (s ++ c ∷ [])
has_last [] c = inl refl
has_last (d ∷ s) c = inr (has_last s c)

module _ (old : List Role) (s : List ℕ) (mid : List Role) (d : DropsEach old s mid) (c : ℕ) where
  -- the column is dropped already
  already : is_dropped mid c ≡ true → DropsEach old (s ++ c ∷ []) mid
  already h = record {
    table = d.table;
    size = d.size;
    same = d.same;
    each = λ z g. elim (has_end s c z g) [ inl k ↦ d.each z k | inr e ↦ subst (λ y. is_dropped mid y ≡ true) (sym e) h ];
    still = d.still;
    only = λ z g. elim (d.only z g) [ inl k ↦ inl (has_left s c z k) | inr k ↦ inr k ];
    live = d.live;
  }

  -- or now
  module _ (new : List Role) (k : ChangesKind mid c Dropped new) (table : AreOverColumns new) (same : SameMeaning mid new) where
    gone : is_dropped new c ≡ true
    gone = dropped_at new c Dropped k.own

    stays : (z : ℕ) → is_dropped mid z ≡ true → is_dropped new z ≡ true
    stays z h = elim (equal_or_not z c) [ inl e ↦ subst (λ y. is_dropped new y ≡ true) (sym e) gone | inr n ↦ (k.others z n).dropped ∙ h ]

    only_these : (z : ℕ) → is_dropped new z ≡ true → Has z (s ++ c ∷ []) ⊎ (is_dropped old z ≡ true)
    only_these z h = elim (equal_or_not z c) [
      | inl e ↦ inl (subst (λ y. Has y (s ++ c ∷ [])) (sym e) (has_last s c))
      | inr n ↦ elim (d.only z (sym (k.others z n).dropped ∙ h)) [ inl g ↦ inl (has_left s c z g) | inr g ↦ inr g ]
    ]

    live_or_not : (z : ℕ) → is_live old z ≡ true → (is_live new z ≡ true) ⊎ (is_dropped new z ≡ true)
    live_or_not z h = elim (equal_or_not z c) [
      | inl e ↦ inr (subst (λ y. is_dropped new y ≡ true) (sym e) gone)
      | inr n ↦ elim (d.live z h) [ inl g ↦ inl ((k.others z n).live ∙ g) | inr g ↦ inr ((k.others z n).dropped ∙ g) ]
    ]

    now : DropsEach old (s ++ c ∷ []) new
    now = record {
      table = table;
      size = k.size ∙ d.size;
      same = λ x. (λ m. (same x).0 ((d.same x).0 m), λ m. (d.same x).1 ((same x).1 m));
      each = λ z g. elim (has_end s c z g) [ inl h ↦ stays z (d.each z h) | inr e ↦ subst (λ y. is_dropped new y ≡ true) (sym e) gone ];
      still = λ z h. stays z (d.still z h);
      only = only_these;
      live = live_or_not;
    }

-- ---- along the entries
module _ (old mid : List Role) (items : List Entry) (i : ℕ) (m : Entry) (l : i < length items) (e : m ≡ get_or items i m)
    (d : DropsEach old (quantities (take i items)) mid) where
  pub skipped : is_dropped mid m.quantity ≡ true → DropsEach old (quantities (take (i + 1) items)) mid
  skipped h = subst (λ s. DropsEach old s mid) (sym (quantities-next items i m l e)) (already old (quantities (take i items)) mid d m.quantity h)

  pub dropped_next : (new : List Role) → ChangesKind mid m.quantity Dropped new → AreOverColumns new → SameMeaning mid new → DropsEach old (quantities (take (i + 1) items)) new
  dropped_next new k table same = subst (λ s. DropsEach old s new) (sym (quantities-next items i m l e)) (now old (quantities (take i items)) mid d m.quantity new k table same)

-- an entry's quantity is among them
pub has_quantity : (s : List Entry) (i : ℕ) (m : Entry) → i < length s → m ≡ get_or s i m → Has m.quantity (quantities s)
has_quantity [] i m l e = absurd (omega (arith, l))
has_quantity (n ∷ s) zero m l e = inl (ap (λ (t : Entry). t.quantity) e)
has_quantity (n ∷ s) (suc i) m l e = inr (has_quantity s i m (omega (arith, l)) e)

-- a live column is there, and it is live still where it is not dropped
module _ (old : List Role) (s : List ℕ) (mid : List Role) (d : DropsEach old s mid) (c : ℕ) (h : is_live old c ≡ true) where
  pub live_below : c < length mid
  live_below = elim (d.live c h) [ inl g ↦ at_below mid c Live (role_live mid c g) | inr g ↦ at_below mid c Dropped (role_dropped mid c g) ]

  pub not_dropped_live : is_dropped mid c ≡ false → is_live mid c ≡ true
  not_dropped_live n = elim (d.live c h) [ inl g ↦ g | inr g ↦ clash (is_dropped mid c) n g ]
    where
      clash : (b : Bool) → b ≡ false → b ≡ true → is_live mid c ≡ true
      clash b n p = cc
