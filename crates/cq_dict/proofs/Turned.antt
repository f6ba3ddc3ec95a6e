-- A column that is dropped or restored: the new roles, and the assignments that meet them.
use Rattle.std.proofs.Common.{◌≡◌, ℕ, List, [], ◌∷◌, ◌++◌, length, true, arith, refl, ap, sym, subst, ◌∙◌, ◌⊎◌, inl, inr}
use Rattle.cq_frac.specs.Row.{Row}
use Rattle.cq_frac.specs.Rows.{Lacks, except}
use Rattle.cq_frac.specs.Numbers.{IsOver, also, IsDropped, IsRestored}
use Rattle.cq_frac.proofs.Shifts.{also_more, passes}
use Rattle.cq_frac.proofs.Units.{row_weaker, vanished, no_entry, except_below}
use Rattle.cq_dict.specs.declared.columns.Turn.{Turn}
use Rattle.cq_dict.specs.declared.columns.Turn.TheVariants.{Dropping, Restoring}
use Rattle.cq_dict.specs.declared.table.Change.{Change}
use Rattle.cq_dict.specs.declared.table.Role.{Role}
use Rattle.cq_dict.specs.declared.table.Role.TheVariants.{Live, Dropped, Basic}
use Rattle.cq_dict.specs.Changes.{Changes, Covers, IsWritten, had, kind_of, LacksOther, IsTurnedRow, Turned, AreTurned, Turns}
use Rattle.cq_dict.specs.Roles.{IsAt, IsRow, is_live, is_dropped, AreOverColumns, ChangesKind}
use Rattle.cq_dict.proofs.Moves.{also_cases}
use Rattle.cq_dict.proofs.Roles.{at_one, live_at, dropped_at, role_live, role_dropped, one_kind}
use Rattle.cq_dict.proofs.Written.{went, found, changes_left, changes_last, changes_end, no_changes}

-- ---- a row without an entry of the column stays
pub stays_dropped : (row : Row) (c : ℕ) → Lacks c row.live → IsDropped row c row
stays_dropped row c n = record {
  over = λ live dropped o. record {
    live_row = vanished live 0 c row.live o.live_row (no_entry c row.live n);
    dropped_row = row_weaker dropped (also c dropped) 0 row.dropped (also_more c dropped) o.dropped_row;
  };
  value = λ x. refl;
}

pub stays_restored : (row : Row) (c : ℕ) → Lacks c row.dropped → IsRestored row c row
stays_restored row c n = record {
  over = λ live dropped o. record {
    live_row = row_weaker live (also c live) 0 row.live (also_more c live) o.live_row;
    dropped_row = vanished dropped 0 c row.dropped o.dropped_row (no_entry c row.dropped n);
  };
  value = λ x. refl;
}

-- ---- what one role becomes
module _ (turn : Turn) (column n : ℕ) (s t : Role) where
  pub turned_row : (n ≡ column → ⊥) → (o r : Row) → s ≡ Basic o → t ≡ Basic r → IsTurnedRow turn column o r → Turned turn column n s t
  turned_row a o r e f i = record {
    own = λ h. absurd (a h);
    live = λ h l. cc;
    dropped = λ h l. cc;
    row = λ h p l. let w : o ≡ p = cc in (r, f, subst (λ (z : Row). IsTurnedRow turn column z r) w i);
  }

pub turned_kept : (turn : Turn) (column n : ℕ) (s t : Role) → (n ≡ column → ⊥) → ((r : Row) → s ≡ Basic r → ⊥) → t ≡ s → Turned turn column n s t
turned_kept turn column n Live t a h e = record { own = λ k. absurd (a k); live = λ k l. e; dropped = λ k l. cc; row = λ k o l. cc }
turned_kept turn column n Dropped t a h e = record { own = λ k. absurd (a k); live = λ k l. cc; dropped = λ k l. e; row = λ k o l. cc }
turned_kept turn column n (Basic r) t a h e = absurd (h r refl)

-- the role of the column before
pub had_role : (turn : Turn) (roles : List Role) (column : ℕ) → had turn roles column ≡ true → (s : Role) × IsAt roles column s × ((r : Row) → s ≡ Basic r → ⊥)
had_role Dropping roles column h = (Live, role_live roles column h, (λ r e. cc))
had_role Restoring roles column h = (Dropped, role_dropped roles column h, (λ r e. cc))

-- a row has no entry of the column on the other side
pub lacks_other : (turn : Turn) (roles : List Role) (column : ℕ) (o : Row) → had turn roles column ≡ true → IsOver (is_live roles) (is_dropped roles) o → LacksOther turn column o
lacks_other Dropping roles column o h k = λ m g e.
    let t : is_dropped roles column ≡ true = subst (λ i. is_dropped roles i ≡ true) e (passes (is_dropped roles) 0 o.dropped m k.dropped_row g) in
    let w = at_one roles column Live Dropped (role_live roles column h) (role_dropped roles column t) in cc
lacks_other Restoring roles column o h k = λ m g e.
    let t : is_live roles column ≡ true = subst (λ i. is_live roles i ≡ true) e (passes (is_live roles) 0 o.live m k.live_row g) in
    let w = at_one roles column Dropped Live (role_dropped roles column h) (role_live roles column t) in cc

-- ---- all roles
module _ (turn : Turn) (roles : List Role) (column : ℕ) (table : AreOverColumns roles) (column_had : had turn roles column ≡ true)
    (changes : List Change) (covers : Covers (Turned turn column) roles (length roles) changes) (new : List Role) (written : IsWritten roles changes new) where
  go_to : (j : ℕ) (s : Role) → IsAt roles j s → (t : Role) × IsAt new j t × Turned turn column j s t
  go_to j s h = went (Turned turn column) roles (length roles) changes covers (omega arith) new written j s h

  come_from : (j : ℕ) (t : Role) → IsAt new j t → (s : Role) × IsAt roles j s × Turned turn column j s t
  come_from j t h = found (Turned turn column) roles (length roles) changes covers (omega arith) new written j t h

  no_row : (j : ℕ) (r : Row) → IsAt roles j (Basic r) → j ≡ column → ⊥
  no_row j r h e = let s = had_role turn roles column column_had in s.2 r (at_one roles column s.0 (Basic r) s.1 (subst (λ k. IsAt roles k (Basic r)) e h))

  was_live : (j : ℕ) (s : Role) → IsAt roles j s → Turned turn column j s Live → (j ≡ column → ⊥) → IsAt roles j Live
  was_live j Live a m n = a
  was_live j Dropped a m n = let w = m.dropped n refl in cc
  was_live j (Basic o) a m n = let w = (m.row n o refl).1 in cc

  was_dropped : (j : ℕ) (s : Role) → IsAt roles j s → Turned turn column j s Dropped → (j ≡ column → ⊥) → IsAt roles j Dropped
  was_dropped j Live a m n = let w = m.live n refl in cc
  was_dropped j Dropped a m n = a
  was_dropped j (Basic o) a m n = let w = (m.row n o refl).1 in cc

  was_row : (j : ℕ) (r : Row) (s : Role) → IsAt roles j s → Turned turn column j s (Basic r) → (j ≡ column → ⊥) → IsRow roles j
  was_row j r Live a m n = let w = m.live n refl in cc
  was_row j r Dropped a m n = let w = m.dropped n refl in cc
  was_row j r (Basic o) a m n = (o, a)

  kinds : ChangesKind roles column (kind_of turn) new
  kinds =
      let s = had_role turn roles column column_had in
      let a = go_to column s.0 s.1 in
      record {
        size = written.size;
        own = subst (IsAt new column) (a.2.own refl) a.1;
        others = λ j n. one_kind roles new j
            ((λ h. let t = go_to j Live h in subst (IsAt new j) (t.2.live n refl) t.1), (λ h. let f = come_from j Live h in was_live j f.0 f.1 f.2 n))
            ((λ h. let t = go_to j Dropped h in subst (IsAt new j) (t.2.dropped n refl) t.1), (λ h. let f = come_from j Dropped h in was_dropped j f.0 f.1 f.2 n))
            ((λ h. let t = go_to j (Basic h.0) h.1 in let r = t.2.row n h.0 refl in (r.0, subst (IsAt new j) r.1 t.1)), (λ h. let f = come_from j (Basic h.0) h.1 in was_row j h.0 f.0 f.1 f.2 n));
      }

  live_stays : (y : ℕ) → is_live roles y ≡ true → (y ≡ column → ⊥) → is_live new y ≡ true
  live_stays y h n = (kinds.others y n).live ∙ h

  dropped_stays : (y : ℕ) → is_dropped roles y ≡ true → (y ≡ column → ⊥) → is_dropped new y ≡ true
  dropped_stays y h n = (kinds.others y n).dropped ∙ h

  row_same : (r z : Row) → Basic r ≡ Basic z → z ≡ r
  row_same r z e = cc

  not_basic : (kind : Turn) (r : Row) → Basic r ≡ kind_of kind → ⊥
  not_basic Dropping r e = cc
  not_basic Restoring r e = cc

  of_role : (j : ℕ) (r : Row) (s : Role) → IsAt roles j s → Turned turn column j s (Basic r) → (j ≡ column → ⊥) → (o : Row) × IsAt roles j (Basic o) × IsTurnedRow turn column o r
  of_role j r Live a m n = let e : Basic r ≡ Live = m.live n refl in cc
  of_role j r Dropped a m n = let e : Basic r ≡ Dropped = m.dropped n refl in cc
  of_role j r (Basic o) a m n = let w = m.row n o refl in (o, a, subst (λ (z : Row). IsTurnedRow turn column o z) (row_same r w.0 w.1) w.2)

  old_row : (j : ℕ) (r : Row) → IsAt new j (Basic r) → (o : Row) × IsAt roles j (Basic o) × IsTurnedRow turn column o r
  old_row j r h = let f = come_from j (Basic r) h in of_role j r f.0 f.1 f.2 (λ e. not_basic turn r (f.2.own e))

  new_row : (j : ℕ) (o : Row) → IsAt roles j (Basic o) → (r : Row) × IsAt new j (Basic r) × IsTurnedRow turn column o r
  new_row j o h = let t = go_to j (Basic o) h in let w = t.2.row (no_row j o h) o refl in (w.0, subst (IsAt new j) w.1 t.1, w.2)

module _ (roles : List Role) (column : ℕ) (table : AreOverColumns roles) (changes : List Change) (new : List Role) (written : IsWritten roles changes new) where
  pub drops : is_live roles column ≡ true → Covers (Turned Dropping column) roles (length roles) changes → Turns Dropping roles column new
  drops h covers =
      let K = kinds Dropping roles column table h changes covers new written in
      record {
        table = record {
          rows = λ j r a.
              let f = old_row Dropping roles column table h changes covers new written j r a in
              let o = f.2.over (is_live roles) (is_dropped roles) (table.rows j f.0 f.1) in
              record {
                live_row = row_weaker (except column (is_live roles)) (is_live new) 0 r.live
                    (λ y t. let b = except_below column y (is_live roles) t in live_stays Dropping roles column table h changes covers new written y b.0 b.1) o.live_row;
                dropped_row = row_weaker (also column (is_dropped roles)) (is_dropped new) 0 r.dropped
                    (λ y t. dropped_too h covers y t) o.dropped_row;
              };
        };
        same = λ x. (
          (λ m. record { rows = λ j r a. let f = old_row Dropping roles column table h changes covers new written j r a in m.rows j f.0 f.1 ∙ sym (f.2.value x) }),
          (λ m. record { rows = λ j o a. let f = new_row Dropping roles column table h changes covers new written j o a in m.rows j f.0 f.1 ∙ f.2.value x }),
        );
        kinds = K;
      }
    where
      dropped_too : is_live roles column ≡ true → Covers (Turned Dropping column) roles (length roles) changes → (y : ℕ) → also column (is_dropped roles) y ≡ true → is_dropped new y ≡ true
      dropped_too h covers y t =
          elim (also_cases column y (is_dropped roles) t) [
            | inl e ↦ subst (λ z. is_dropped new z ≡ true) (sym e) (dropped_at new column Dropped (kinds Dropping roles column table h changes covers new written).own)
            | inr k ↦ dropped_stays Dropping roles column table h changes covers new written y k
                (λ e. let w = at_one roles column Live Dropped (role_live roles column h) (subst (λ z. IsAt roles z Dropped) e (role_dropped roles y k)) in cc)
          ]

  pub restores : is_dropped roles column ≡ true → Covers (Turned Restoring column) roles (length roles) changes → Turns Restoring roles column new
  restores h covers =
      let K = kinds Restoring roles column table h changes covers new written in
      record {
        table = record {
          rows = λ j r a.
              let f = old_row Restoring roles column table h changes covers new written j r a in
              let o = f.2.over (is_live roles) (is_dropped roles) (table.rows j f.0 f.1) in
              record {
                live_row = row_weaker (also column (is_live roles)) (is_live new) 0 r.live
                    (λ y t. live_too h covers y t) o.live_row;
                dropped_row = row_weaker (except column (is_dropped roles)) (is_dropped new) 0 r.dropped
                    (λ y t. let b = except_below column y (is_dropped roles) t in dropped_stays Restoring roles column table h changes covers new written y b.0 b.1) o.dropped_row;
              };
        };
        same = λ x. (
          (λ m. record { rows = λ j r a. let f = old_row Restoring roles column table h changes covers new written j r a in m.rows j f.0 f.1 ∙ sym (f.2.value x) }),
          (λ m. record { rows = λ j o a. let f = new_row Restoring roles column table h changes covers new written j o a in m.rows j f.0 f.1 ∙ f.2.value x }),
        );
        kinds = K;
      }
    where
      live_too : is_dropped roles column ≡ true → Covers (Turned Restoring column) roles (length roles) changes → (y : ℕ) → also column (is_live roles) y ≡ true → is_live new y ≡ true
      live_too h covers y t =
          elim (also_cases column y (is_live roles) t) [
            | inl e ↦ subst (λ z. is_live new z ≡ true) (sym e) (live_at new column Live (kinds Restoring roles column table h changes covers new written).own)
            | inr k ↦ live_stays Restoring roles column table h changes covers new written y k
                (λ e. let w = at_one roles column Dropped Live (role_dropped roles column h) (subst (λ z. IsAt roles z Live) e (role_live roles y k)) in cc)
          ]

pub turns : (turn : Turn) (roles : List Role) (column : ℕ) (table : AreOverColumns roles) (changes : List Change) → had turn roles column ≡ true → Covers (Turned turn column) roles (length roles) changes → (new : List Role) → IsWritten roles changes new → Turns turn roles column new
turns Dropping roles column table changes h covers new written = drops roles column table changes new written h covers
turns Restoring roles column table changes h covers new written = restores roles column table changes new written h covers

-- ---- changes that are turned, one after another from the end
-- what the loop keeps: the changes done are those of what is no more in the rest
pub record Turning (turn : Turn) (column : ℕ) (all rest done : List Change) : Type 0 where
  pub from : (c : Change) → Changes c done → (d : Change) × Changes d all × (d.at ≡ c.at) × Turned turn column d.at d.role c.role
  pub to : (d : Change) → Changes d all → Changes d rest ⊎ ((c : Change) × Changes c done × (c.at ≡ d.at))
  pub within : (d : Change) → Changes d rest → Changes d all

pub turning_start : (turn : Turn) (column : ℕ) (all done : List Change) → done ≡ [] → Turning turn column all all done
turning_start turn column all done e = record { from = λ c h. absurd (subst (Changes c) e h); to = λ d h. inl h; within = λ d h. h }

module _ (turn : Turn) (column : ℕ) (all rest done : List Change) (w : Turning turn column all rest done) where
  pub turning_next : (d : Change) (less : List Change) → rest ≡ less ++ d ∷ [] → Changes d all
  turning_next d less e = w.within d (subst (Changes d) (sym e) (changes_last d less))

  pub turning_more : (d c : Change) (less more : List Change) → rest ≡ less ++ d ∷ [] → more ≡ done ++ c ∷ [] → c.at ≡ d.at → Turned turn column d.at d.role c.role → Turning turn column all less more
  turning_more d c less more e f at t = subst (Turning turn column all less) (sym f) (record {
    from = λ x h.
        elim (changes_end x c done h) [
          | inl k ↦ w.from x k
          | inr g ↦ subst (λ (z : Change). (y : Change) × Changes y all × (y.at ≡ z.at) × Turned turn column y.at y.role z.role) (sym g) (d, turning_next d less e, sym at, t)
        ];
    to = λ y h.
        elim (w.to y h) [
          | inl k ↦ elim (changes_end y d less (subst (Changes y) e k)) [
            | inl m ↦ inl m
            | inr g ↦ inr (c, changes_last c done, at ∙ ap (λ (z : Change). z.at) (sym g))
          ]
          | inr k ↦ inr (k.0, changes_left k.0 c done k.1, k.2)
        ];
    within = λ y h. w.within y (subst (Changes y) (sym e) (changes_left y d less h));
  })

  pub turning_end : length rest ≡ 0 → AreTurned turn column all done
  turning_end e = record {
    from = w.from;
    to = λ d h. elim (w.to d h) [ inl k ↦ absurd (subst (Changes d) (no_changes rest e) k) | inr k ↦ k ];
  }
