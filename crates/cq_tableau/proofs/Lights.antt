-- In how many rows a column stands, and the first of the fewest.
use Rattle.std.proofs.Common.{◌≡◌, ℕ, zero, suc, ◌+◌, ◌<◌, ◌≤◌, List, [], ◌∷◌, ◌++◌, length, get_or, take, Bool, true, false, nat_eq, ◌⊎◌, inl, inr, Option, None, Some, is_some, arith, refl, ap, sym, subst, ◌∙◌}
use Rattle.std.specs.Prelude.{MatchBool, MatchOption}
use Rattle.std.proofs.lemmas.List.{take_more}
use Rattle.spec_numbers.proofs.Tests.{nat_eq-self, nat_eq-apart}
use Rattle.spec_numbers.specs.Rational.{ℚ}
use Rattle.spec_simplex.specs.Rule.{IsFree}
use Rattle.cq_frac.specs.declared.row.Entry.{Entry}
use Rattle.cq_frac.specs.Row.{Row}
use Rattle.cq_frac.specs.Rows.{Has, Lacks, choose}
use Rattle.cq_dict.specs.declared.table.Role.{Role}
use Rattle.cq_dict.specs.declared.table.Role.TheVariants.{Live, Dropped, Basic}
use Rattle.cq_dict.specs.Roles.{IsAt, AreOverColumns, is_restricted, role_at}
use Rattle.cq_dict.proofs.Roles.{role_is, factor_is}
use Rattle.cq_frac.proofs.Units.{no_entry}
use Rattle.cq_frac.proofs.Steps.{has_end}
use Rattle.cq_simplex.specs.Dictionary.{dictionary}
use Rattle.cq_simplex.proofs.Entries.{entry_or_lacks, free_is, none_free}
use Rattle.cq_tableau.specs.declared.level.choosing.Candidate.{Candidate}
use Rattle.cq_tableau.specs.Lightest.{has_column, stands, rows_with, IsLighter, IsLightest}

-- ---- one row
lacks_column : (c : ℕ) (s : List Entry) → Lacks c s → has_column c s ≡ false
lacks_column c [] l = refl
lacks_column c (m ∷ s) l =
    ap (λ b. choose b true (has_column c s)) (nat_eq-apart m.quantity c (λ e. l m (inl refl) e)) ∙ lacks_column c s (λ n h e. l n (inr h) e)

has_its_column : (c : ℕ) (s : List Entry) (m : Entry) → Has m s → m.quantity ≡ c → has_column c s ≡ true
has_its_column c [] m h e = absurd h
has_its_column c (n ∷ s) m (inl g) e =
    ap (λ b. choose b true (has_column c s)) (subst (λ z. nat_eq n.quantity z ≡ true) (sym (ap (λ (k : Entry). k.quantity) g) ∙ e) (nat_eq-self n.quantity))
has_its_column c (n ∷ s) m (inr h) e = go (nat_eq n.quantity c) (has_its_column c s m h e)
  where
    go : (b : Bool) → has_column c s ≡ true → choose b true (has_column c s) ≡ true
    go true k = refl
    go false k = k

module _ (roles : List Role) (q c : ℕ) where
  pub column_stands : IsAt roles q Live ⊎ IsAt roles q Dropped → stands c (role_at roles q) ≡ 0
  column_stands (inl a) = ap (stands c) (role_is roles q Live a)
  column_stands (inr a) = ap (stands c) (role_is roles q Dropped a)

  module _ (own : Row) (at : IsAt roles q (Basic own)) where
    entry_stands : (f : Entry) → Has f own.live → f.quantity ≡ c → stands c (role_at roles q) ≡ 1
    entry_stands f h e = ap (stands c) (role_is roles q (Basic own) at) ∙ ap (λ b. choose b 1 0) (has_its_column c own.live f h e)

    pub lacking_stands : Lacks c own.live → stands c (role_at roles q) ≡ 0
    lacking_stands l = ap (stands c) (role_is roles q (Basic own) at) ∙ ap (λ b. choose b 1 0) (lacks_column c own.live l)

    -- what is found at the column
    pub stands_where : (o : Option ℚ) → MatchOption o (Lacks c own.live) (λ f. Has (record { quantity = c; factor = f }) own.live) → (b : Bool) → b ≡ is_some o
        → MatchBool b (stands c (role_at roles q) ≡ 1) (stands c (role_at roles q) ≡ 0)
    stands_where None l b e = subst (λ k. MatchBool k (stands c (role_at roles q) ≡ 1) (stands c (role_at roles q) ≡ 0)) (sym e) (lacking_stands l)
    stands_where (Some f) h b e =
        subst (λ k. MatchBool k (stands c (role_at roles q) ≡ 1) (stands c (role_at roles q) ≡ 0)) (sym e) (entry_stands (record { quantity = c; factor = f }) h refl)

-- ---- row by row
rows_end : (c : ℕ) (roles : List Role) (t : Role) → rows_with c (roles ++ t ∷ []) ≡ rows_with c roles + stands c t
rows_end c [] t = let n = stands c t in omega arith
rows_end c (s ∷ roles) t = ap (λ n. stands c s + n) (rows_end c roles t) ∙ (let a = stands c s in let b = rows_with c roles in let d = stands c t in omega arith)

role_get : (roles : List Role) (q : ℕ) → q < length roles → (d : Role) → get_or roles q d ≡ role_at roles q
role_get [] q h d = absurd (omega (arith, h))
role_get (t ∷ roles) zero h d = refl
role_get (t ∷ roles) (suc q) h d = role_get roles q (omega (arith, h)) d

pub rows_next : (c : ℕ) (roles : List Role) (q : ℕ) → q < length roles → rows_with c (take (q + 1) roles) ≡ rows_with c (take q roles) + stands c (role_at roles q)
rows_next c roles q h =
    ap (rows_with c) (take_more roles q Live h ∙ ap (λ t. take q roles ++ t ∷ []) (role_get roles q h Live)) ∙ rows_end c (take q roles) (role_at roles q)

-- ---- of the entries so far
pub record IsLightestOf (roles : List Role) (flags : List Bool) (s : List Entry) (k : Candidate) : Type 0 where
  pub entry : Entry
  pub has : Has entry s
  pub quantity : entry.quantity ≡ k.column
  pub flag : is_restricted flags entry.quantity ≡ false
  pub rows_are : k.rows ≡ rows_with k.column roles
  pub least : (n : Entry) → Has n s → is_restricted flags n.quantity ≡ false → k.rows ≤ rows_with n.quantity roles

abbrev pub AreLightest : List Role → List Bool → List Entry → Option Candidate → Type 0
AreLightest roles flags s found = MatchOption found ((n : Entry) → Has n s → is_restricted flags n.quantity ≡ true) (IsLightestOf roles flags s)

has_left : (s : List Entry) (n m : Entry) → Has n s → Has n (s ++ m ∷ [])
has_left [] n m h = absurd h
has_left (x ∷ s) n m (inl e) = inl e
has_left (x ∷ s) n m (inr h) = inr (has_left s n m h)

has_last : (s : List Entry) (m : Entry) → Has m (s ++ m ∷ [])
has_last [] m = inl refl
has_last (x ∷ s) m = inr (has_last s m)

module _ (roles : List Role) (flags : List Bool) (s : List Entry) (m : Entry) where
  clash : {A : Type 0} (b : Bool) → b ≡ true → b ≡ false → A
  clash b p n = cc

  -- the next is restricted
  restricted_more : is_restricted flags m.quantity ≡ true → (o : Option Candidate) → AreLightest roles flags s o → AreLightest roles flags (s ++ m ∷ []) o
  restricted_more r None a = λ n h. elim (has_end s n m h) [ inl k ↦ a n k | inr e ↦ subst (λ (y : Entry). is_restricted flags y.quantity ≡ true) (sym e) r ]
  restricted_more r (Some k) a = record {
    entry = a.entry;
    has = has_left s a.entry m a.has;
    quantity = a.quantity;
    flag = a.flag;
    rows_are = a.rows_are;
    least = λ n h f. elim (has_end s n m h) [
      | inl g ↦ a.least n g f
      | inr e ↦ clash (is_restricted flags m.quantity) r (subst (λ (y : Entry). is_restricted flags y.quantity ≡ false) e f)
    ];
  }

  -- it is not
  module _ (f : is_restricted flags m.quantity ≡ false) (next : Candidate) (column : next.column ≡ m.quantity) (rows : next.rows ≡ rows_with m.quantity roles) where
    own_rows : next.rows ≡ rows_with next.column roles
    own_rows = rows ∙ ap (λ z. rows_with z roles) (sym column)

    first_one : ((n : Entry) → Has n s → is_restricted flags n.quantity ≡ true) → IsLightestOf roles flags (s ++ m ∷ []) next
    first_one a = record {
      entry = m;
      has = has_last s m;
      quantity = sym column;
      flag = f;
      rows_are = own_rows;
      least = λ n h g. elim (has_end s n m h) [
        | inl k ↦ clash (is_restricted flags n.quantity) (a n k) g
        | inr e ↦ (let y = ap (λ (z : Entry). rows_with z.quantity roles) e in omega (arith, y, rows))
      ];
    }

    pub free_more : (o : Option Candidate) → AreLightest roles flags s o → (first : Candidate) → IsLighter o next first → AreLightest roles flags (s ++ m ∷ []) (Some first)
    free_more None a first e = subst (IsLightestOf roles flags (s ++ m ∷ [])) (sym e) (first_one a)
    free_more (Some k) a first (inl h) = subst (IsLightestOf roles flags (s ++ m ∷ [])) (sym h.1) (record {
      entry = m;
      has = has_last s m;
      quantity = sym column;
      flag = f;
      rows_are = own_rows;
      least = λ n g r. elim (has_end s n m g) [
        | inl i ↦ (let y = a.least n i r in let l = h.0 in omega (arith, y, l))
        | inr e ↦ (let y = ap (λ (z : Entry). rows_with z.quantity roles) e in omega (arith, y, rows))
      ];
    })
    free_more (Some k) a first (inr h) = subst (IsLightestOf roles flags (s ++ m ∷ [])) (sym h.1) (record {
      entry = a.entry;
      has = has_left s a.entry m a.has;
      quantity = a.quantity;
      flag = a.flag;
      rows_are = a.rows_are;
      least = λ n g r. elim (has_end s n m g) [
        | inl i ↦ a.least n i r
        | inr e ↦ (let y = ap (λ (z : Entry). rows_with z.quantity roles) e in let l = h.0 in omega (arith, y, l, rows))
      ];
    })

-- along the entries
module _ (roles : List Role) (flags : List Bool) (items : List Entry) (i : ℕ) (m : Entry) (l : i < length items) (e : m ≡ get_or items i m) where
  next_entries : take (i + 1) items ≡ take i items ++ m ∷ []
  next_entries = take_more items i m l ∙ ap (λ x. take i items ++ x ∷ []) (sym e)

  pub restricted_next : is_restricted flags m.quantity ≡ true → (o : Option Candidate) → AreLightest roles flags (take i items) o → AreLightest roles flags (take (i + 1) items) o
  restricted_next r o a = subst (λ s. AreLightest roles flags s o) (sym next_entries) (restricted_more roles flags (take i items) m r o a)

  pub free_next : is_restricted flags m.quantity ≡ false → (next : Candidate) → next.column ≡ m.quantity → next.rows ≡ rows_with m.quantity roles → (o : Option Candidate)
      → AreLightest roles flags (take i items) o → (first : Candidate) → IsLighter o next first → AreLightest roles flags (take (i + 1) items) (Some first)
  free_next f next c r o a first h = subst (λ s. AreLightest roles flags s (Some first)) (sym next_entries) (free_more roles flags (take i items) m f next c r o a first h)

-- ---- all of them
module _ (roles : List Role) (flags : List Bool) (q : ℕ) (table : AreOverColumns roles) (own : Row) (at : IsAt roles q (Basic own)) where
  free_entry : (d : ℕ) → IsFree (is_restricted flags) (dictionary roles q) d → (n : Entry) × Has n own.live × (n.quantity ≡ d)
  free_entry d f = elim (entry_or_lacks d own.live) [
    | inl h ↦ (h.entry, h.in_list, h.of)
    | inr l ↦ absurd (f.coefficient (factor_is roles q own at d ∙ no_entry d own.live l))
  ]

  pub lightest_of : (k : Candidate) → IsLightestOf roles flags own.live k → IsLightest roles flags q (Some k.column)
  lightest_of k h = (
    subst (IsFree (is_restricted flags) (dictionary roles q)) h.quantity (free_is roles flags table q own at h.entry h.has h.flag),
    λ d f.
        let n = free_entry d f in
        let g = h.least n.0 n.1 (subst (λ z. is_restricted flags z ≡ false) (sym n.2) f.flag) in
        let r = h.rows_are in
        subst (λ z. rows_with k.column roles ≤ rows_with z roles) n.2 (omega (arith, g, r)),
  )

  pub none_lightest : ((n : Entry) → Has n own.live → is_restricted flags n.quantity ≡ true) → IsLightest roles flags q None
  none_lightest h = none_free roles flags table q own at h

  pub only_lightest : (m : Entry) → own.live ≡ m ∷ [] → is_restricted flags m.quantity ≡ false → IsLightest roles flags q (Some m.quantity)
  only_lightest m e f = lightest_of (record { column = m.quantity; rows = rows_with m.quantity roles }) (record {
    entry = m;
    has = subst (Has m) (sym e) (inl refl);
    quantity = refl;
    flag = f;
    rows_are = refl;
    least = λ n h g. elim (subst (Has n) e h) [
      | inl i ↦ (let y = ap (λ (z : Entry). rows_with z.quantity roles) i in omega (arith, y))
      | inr k ↦ absurd k
    ];
  })

  pub only_restricted : (m : Entry) → own.live ≡ m ∷ [] → is_restricted flags m.quantity ≡ true → IsLightest roles flags q None
  only_restricted m e f =
      none_lightest (λ n h. elim (subst (Has n) e h) [ inl i ↦ subst (λ (z : Entry). is_restricted flags z.quantity ≡ true) (sym i) f | inr k ↦ absurd k ])
