-- In how many rows a column stands, counted along the numbers of the rows that were touched, which ascend.
use Rattle.std.proofs.Common.{◌≡◌, ℕ, zero, suc, ◌+◌, ◌-◌, ◌<◌, ◌≤◌, List, length, take, take_all, ◌⊎◌, inl, inr, arith, refl, ap, sym, subst, ◌∙◌}
use Rattle.std.specs.Prelude.{slice_index}
use Rattle.std.specs.List.{Contains}
use Rattle.std.proofs.lemmas.List.{get_or_default}
use Rattle.std.proofs.lemmas.List.Elements.{Contains-get_or}
use Rattle.cq_dict.specs.declared.table.Role.{Role}
use Rattle.cq_dict.specs.declared.table.Role.TheVariants.{Live, Dropped, Basic}
use Rattle.cq_dict.specs.Holders.{AreTouched}
use Rattle.cq_dict.specs.Roles.{IsAt, role_at}
use Rattle.cq_dict.proofs.Roles.{at_exists}
use Rattle.cq_simplex.proofs.Entries.{entry_or_lacks}
use Rattle.cq_tableau.proofs.Opens.{rises}
use Rattle.cq_tableau.specs.Lightest.{stands, rows_with}
use Rattle.cq_tableau.proofs.Lights.{column_stands, lacking_stands, rows_next}

-- the first k of the touched rows are counted: n of the quantities below the end hold the column
pub record IsCounted (roles : List Role) (c : ℕ) (rows : List ℕ) (k n : ℕ) : Type 0 where
  pub end : ℕ
  pub within : end ≤ length roles
  pub count : n ≡ rows_with c (take end roles)
  pub before : (j : ℕ) → j < k → j < length rows → slice_index rows j < end
  pub behind : (j : ℕ) → k ≤ j → j < length rows → end ≤ slice_index rows j

before_or_behind : (j k : ℕ) → (j < k) ⊎ (k ≤ j)
before_or_behind j k = grind arith

module _ (roles : List Role) (c : ℕ) (rows : List ℕ) (t : AreTouched roles c rows) where
  -- a quantity that is not touched is no row of the column
  away_stands : (z : ℕ) → z < length roles → (Contains rows z → ⊥) → stands c (role_at roles z) ≡ 0
  away_stands z h away = let s = at_exists roles z h in go s.0 s.1
    where
      go : (s : Role) → IsAt roles z s → stands c (role_at roles z) ≡ 0
      go Live a = column_stands roles z c (inl a)
      go Dropped a = column_stands roles z c (inr a)
      go (Basic own) a = elim (entry_or_lacks c own.live) [
        | inl e ↦ absurd (away (t.all z own a (e.entry, inl e.in_list, e.of)))
        | inr l ↦ lacking_stands roles z c own a l
      ]

  -- some quantities of which none is touched
  none_more : (from n : ℕ) → from + n ≤ length roles → ((z : ℕ) → from ≤ z → z < from + n → Contains rows z → ⊥)
      → rows_with c (take (from + n) roles) ≡ rows_with c (take from roles)
  none_more from zero h away = let same : from + 0 ≡ from = omega arith in ap (λ m. rows_with c (take m roles)) same
  none_more from (suc n) h away =
      let here : from + n < length roles = omega (arith, h) in
      let none = away_stands (from + n) here (away (from + n) (omega arith) (omega arith)) in
      let next = rows_next c roles (from + n) here in
      let before = none_more from n (omega (arith, h)) (λ z a b. away z a (omega (arith, b))) in
      let same : from + suc n ≡ from + n + 1 = omega arith in
      ap (λ m. rows_with c (take m roles)) same ∙ omega (arith, next, none, before)

  none_until : (from to : ℕ) → from ≤ to → to ≤ length roles → ((z : ℕ) → from ≤ z → z < to → Contains rows z → ⊥)
      → rows_with c (take to roles) ≡ rows_with c (take from roles)
  none_until from to h l away =
      let same : from + (to - from) ≡ to = omega (arith, h) in
      ap (λ m. rows_with c (take m roles)) (sym same)
      ∙ none_more from (to - from) (omega (arith, h, l)) (λ z a b. away z a (omega (arith, b, h)))

  -- ---- row by row
  rises_to : (k j : ℕ) → k < j → j < length rows → slice_index rows k < slice_index rows j
  rises_to k j h l =
      let same : k + (j - (k + 1)) + 1 ≡ j = omega (arith, h) in
      subst (λ i. slice_index rows k < slice_index rows i) same (rises rows t.ascending k (j - (k + 1)) (omega (arith, same, l)))

  rises_or_same : (k j : ℕ) → k ≤ j → j < length rows → slice_index rows k ≤ slice_index rows j
  rises_or_same k j h l = elim (same_or_below k j h) [
    | inl e ↦ (let y = ap (slice_index rows) e in omega (arith, y))
    | inr m ↦ (let y = rises_to k j m l in omega (arith, y))
  ]
    where
      same_or_below : (k j : ℕ) → k ≤ j → (k ≡ j) ⊎ (k < j)
      same_or_below k j h = grind arith

  -- between the end and the next touched row
  module _ (k n : ℕ) (h : k < length rows) (i : IsCounted roles c rows k n) where
    none_between : (z : ℕ) → i.end ≤ z → z < slice_index rows k → Contains rows z → ⊥
    none_between z a b o =
        let at = get_or_default rows o.0 0 z o.1 ∙ o.2 in
        elim (before_or_behind o.0 k) [
          | inl m ↦ (let y = i.before o.0 m o.1 in omega (arith, at, y, a))
          | inr m ↦ (let y = rises_or_same k o.0 m o.1 in omega (arith, at, y, b))
        ]

    pub one_counted : IsCounted roles c rows (k + 1) (n + stands c (role_at roles (slice_index rows k)))
    one_counted =
        let q = slice_index rows k in
        let l : slice_index rows k < length roles = t.within (slice_index rows k) (Contains-get_or rows k 0 h) in
        let b : i.end ≤ slice_index rows k = i.behind k (omega arith) h in
        let none = none_until i.end (slice_index rows k) b (omega (arith, l)) none_between in
        let next = rows_next c roles (slice_index rows k) l in
        let count = i.count in
        record {
          end = slice_index rows k + 1;
          within = omega (arith, l);
          count = omega (arith, next, none, count);
          before = λ j m o. let y = rises_or_same j k (omega (arith, m)) h in omega (arith, y);
          behind = λ j m o. let y = rises_to k j (omega (arith, m)) o in omega (arith, y);
        }

  pub none_counted : IsCounted roles c rows 0 0
  none_counted = record {
    end = 0;
    within = omega arith;
    count = refl;
    before = λ j m o. absurd (omega (arith, m));
    behind = λ j m o. omega arith;
  }

  pub all_counted : (k n : ℕ) → length rows ≤ k → IsCounted roles c rows k n → n ≡ rows_with c roles
  all_counted k n h i =
      i.count
      ∙ sym (none_until i.end (length roles) i.within (omega arith) (λ z a b o.
      let at = get_or_default rows o.0 0 z o.1 ∙ o.2 in
      let l = o.1 in
      let y = i.before o.0 (omega (arith, l, h)) l in
      omega (arith, at, y, a)))
      ∙ ap (rows_with c) (take_all (length roles) roles (omega arith))
