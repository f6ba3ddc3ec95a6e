-- What restored columns leave, and what a row at its greatest value shows then.
use Rattle.std.proofs.Common.{◌≡◌, ℕ, zero, suc, ◌+◌, ◌<◌, get_or, List, [], ◌∷◌, ◌++◌, length, Bool, true, false, Some, ◌⊎◌, inl, inr, arith, length-append, refl, ap, sym, subst, ◌∙◌}
use Rattle.std.specs.Prelude.{slice_get}
use Rattle.std.proofs.lemmas.Option.{same_Some}
use Rattle.spec_numbers.specs.Rational.{ℚ, ◌+ℚ◌}
use Rattle.spec_numbers.specs.Sums.{Mentions}
use Rattle.spec_numbers.proofs.Order.{lt_le_false}
use Rattle.spec_linear.specs.Form.{Linear}
use Rattle.spec_linear.specs.Solution.{Constraint}
use Rattle.spec_simplex.specs.Dictionary as of_simplex
use Rattle.spec_simplex.specs.Reach.{IsGreatest}
use Rattle.spec_simplex.specs.Tableau.{Restored, IsWritten}
use Rattle.spec_simplex.proofs.Feasible.{restoring}
use Rattle.spec_simplex.proofs.Linked.{linked_written}
use Rattle.spec_simplex.proofs.More.{still_dropped, restored_equations}
use Rattle.spec_simplex.proofs.Steps.{sound_dropped}
use Rattle.cq_frac.specs.declared.Pair.{Pair}
use Rattle.cq_form.specs.Entries.{products_of}
use Rattle.cq_frac.specs.declared.row.Entry.{Entry}
use Rattle.cq_frac.specs.Row.{Row}
use Rattle.cq_frac.specs.Rows as rows
use Rattle.cq_dict.specs.declared.table.Role.{Role}
use Rattle.cq_dict.specs.declared.table.Role.TheVariants.{Live, Dropped, Basic}
use Rattle.cq_dict.specs.Roles.{Quantities, AreOverColumns, ChangesKind, IsAt, IsRow, dropped_role, is_live, is_dropped, is_restricted}
use Rattle.cq_dict.specs.Dict.{SameMeaning, DefinesLast}
use Rattle.cq_dict.proofs.Roles.{at_below, at_last, dropped_at, equal_or_not, is_row_of, live_at, role_dropped, row_of}
use Rattle.cq_simplex.specs.Dictionary.{dictionary}
use Rattle.cq_simplex.specs.Climbs.{IsCarried, IsSpentAfter}
use Rattle.cq_simplex.specs.declared.Aim.TheVariants.{Best}
use Rattle.cq_simplex.specs.Answers.{AreMultipliers, IsOverflow, AreSpent, RisesWithoutEnd}
use Rattle.cq_tableau.specs.declared.names.Name.{Name}
use Rattle.cq_tableau.specs.Forms.{form_at, tableau, Describes}
use Rattle.cq_tableau.specs.Keeps.{Speaks, StillSpeaks}
use Rattle.cq_tableau.specs.Restored.{Restores, NoneBelow, HasGreatest, IsHighest, members_of, AreHighest, RefusesRaised, SpendsRaised, HasFormRow}
use Rattle.cq_tableau.specs.Stored.{IsBetween}
use Rattle.cq_tableau.proofs.Tied.{linked, still_describes, feasible_of, flag_below, unbounded}
use Rattle.cq_tableau.proofs.Steps.{changed_more, feasible_more, described_row, form_last, more_length}
use Rattle.cq_tableau.proofs.Storing.{placed_below, placed_value}
use Rattle.spec_simplex.proofs.Solutions.{true_not_false}
use Rattle.cq_tableau.proofs.Looks.{carried_speaks, search_feasible}

-- ---- columns restored
pub restores_further : (flags : List Bool) (old mid new : List Role) → Restores flags old mid → Restores flags mid new → Restores flags old new
restores_further flags old mid new a b = record {
  table = b.table;
  size = b.size ∙ a.size;
  same = λ x. (λ m. (b.same x).0 ((a.same x).0 m), λ m. (a.same x).1 ((b.same x).1 m));
  rows = λ z r. b.rows z (a.rows z r);
  live = λ z h. b.live z (a.live z h);
  only = λ z h. a.only z (b.only z h);
  turned = λ z h. elim (a.turned z h) [ inl g ↦ b.turned z g | inr g ↦ inr (b.live z g.0, g.1) ];
}

-- one column
module _ (flags : List Bool) (old : List Role) (q : ℕ) (new : List Role) (k : ChangesKind old q Live new) (dropped : is_dropped old q ≡ true) where
  pub live_again : is_dropped new q ≡ false
  live_again = dropped_at new q Live k.own

  pub restores_one : AreOverColumns new → SameMeaning old new → is_restricted flags q ≡ true → Restores flags old new
  restores_one table same flag = record {
    table = table;
    size = k.size;
    same = same;
    rows = λ z r. elim (equal_or_not z q) [
      | inl e ↦ absurd (no_row z e r)
      | inr n ↦ row_of new z ((k.others z n).row ∙ is_row_of old z r)
    ];
    live = λ z h. elim (equal_or_not z q) [ inl e ↦ now z e | inr n ↦ (k.others z n).live ∙ h ];
    only = λ z h. elim (equal_or_not z q) [ inl e ↦ subst (λ y. is_dropped old y ≡ true) (sym e) dropped | inr n ↦ sym (k.others z n).dropped ∙ h ];
    turned = λ z h. elim (equal_or_not z q) [
      | inl e ↦ inr (now z e, subst (λ y. is_restricted flags y ≡ true) (sym e) flag)
      | inr n ↦ inl ((k.others z n).dropped ∙ h)
    ];
  }
    where
      now : (z : ℕ) → z ≡ q → is_live new z ≡ true
      now z e = subst (λ y. is_live new y ≡ true) (sym e) (live_at new q Live k.own)

      no_row : (z : ℕ) → z ≡ q → IsRow old z → ⊥
      no_row z e r = true_not_false (is_dropped old z) (subst (λ y. is_dropped old y ≡ true) (sym e) dropped) (dropped_at old z (Basic r.0) r.1)

-- one number more
pub none_further : (flags : List Bool) (old mid new : List Role) (q : ℕ) → Restores flags mid new → NoneBelow flags q mid
    → (is_dropped new q ≡ true → is_restricted flags q ≡ false) → NoneBelow flags (q + 1) new
none_further flags old mid new q r n own z h d = elim (last z h) [
  | inl g ↦ n z g (r.only z d)
  | inr e ↦ subst (λ y. is_restricted flags y ≡ false) (sym e) (own (subst (λ y. is_dropped new y ≡ true) e d))
]
  where
    last : (z : ℕ) → z < q + 1 → (z < q) ⊎ (z ≡ q)
    last z l = grind arith

-- what was said is said still
pub restored_speaks : (flags : List Bool) (old new : List Role) → Restores flags old new → StillSpeaks old new flags
restored_speaks flags old new r forms l s =
    let d = tableau old flags forms in
    let e = tableau new flags forms in
    let size = s.size ∙ sym r.size in
    let describes = still_describes old new forms r.size r.same s.describes in
    let w : IsWritten e = linked_written e (linked new flags forms r.table size describes) in
    let ch : Restored d e = record { count = r.size; form = λ z h. refl; is_restricted = λ z. refl; dropped_only = r.only } in
    record {
      table = r.table;
      size = size;
      describes = describes;
      sound = restored_equations d e l s.sound s.dropped ch w (feasible_of new flags forms r.table (restoring d e s.sound.written w ch r.live r.turned s.sound.feasible)) stay;
      dropped = λ c m q v g. s.dropped c m q v (λ z n o. g z (stay z n o) o);
    }
  where
    stay : (z : ℕ) → is_dropped old z ≡ true → is_restricted flags z ≡ false → is_dropped new z ≡ true
    stay z h o = elim (r.turned z h) [ inl g ↦ g | inr g ↦ absurd (true_not_false (is_restricted flags z) g.1 o) ]

-- ---- the row is raised then
module _ (flags : List Bool) (old mid : List Role) (r : Restores flags old mid) (n : NoneBelow flags (length old) mid) (q : ℕ) (new : List Role)
    (carried : IsCarried mid flags q new) where
  pub raised_speaks : StillSpeaks old new flags
  raised_speaks forms l s = carried_speaks mid new flags q carried forms l (restored_speaks flags old mid r forms l s)

  pub raised_highest : (v : ℚ) (multipliers : List Entry) → AreMultipliers mid flags q new v multipliers → (own : Row) → IsAt new q (Basic own)
      → IsHighest flags q old new own
  raised_highest v multipliers m own at = record {
    speaks = raised_speaks;
    none = λ z h. let g = sym (carried.dropped z) ∙ h in
        n z (subst (λ k. z < k) r.size (at_below mid z Dropped (role_dropped mid z g))) g;
    only = λ z h. r.only z (sym (carried.dropped z) ∙ h);
    is_row = at;
    positive = λ y h. m.positive y (subst (rows.Has y) (sym (m.entries own at)) h);
    restricted = λ y h. m.restricted y (subst (rows.Has y) (sym (m.entries own at)) h);
  }

-- it has a greatest value
pub not_without_end : (flags : List Bool) (old mid : List Role) → Restores flags old mid → (q : ℕ) → IsRow mid q → HasGreatest old flags q → RisesWithoutEnd mid flags q → ⊥
not_without_end flags old mid r q row g u =
    let s = restored_speaks flags old mid r g.forms g.list g.speaks in
    let o = unbounded mid flags g.forms g.list s.describes s.sound q (at_below mid q (Basic row.0) row.1) u g.value in
    lt_le_false o.2 (g.greatest.bound o.0 o.1)

-- ---- a form's row behind the quantities
speaks_more : (forms : List Linear) (l : List Constraint) (roles : List Role) (flags : List Bool) → Speaks forms l roles flags → (f : Linear) (t : Role)
    → dropped_role t ≡ false → AreOverColumns (roles ++ t ∷ []) → Describes (roles ++ t ∷ []) (forms ++ f ∷ [])
    → Speaks (forms ++ f ∷ []) l (roles ++ t ∷ []) (flags ++ false ∷ [])
speaks_more forms l roles flags k f t n table d =
    let size = length-append flags (false ∷ []) ∙ ap (λ m. m + 1) k.size ∙ sym (more_length roles t) in
    let old = tableau roles flags forms in
    let new = tableau (roles ++ t ∷ []) (flags ++ false ∷ []) (forms ++ f ∷ []) in
    let ch = changed_more roles flags forms k.table k.describes f t n in
    record {
      table = table;
      size = size;
      describes = d;
      sound = sound_dropped old new [] [] ch l k.sound (linked_written new (linked (roles ++ t ∷ []) (flags ++ false ∷ []) (forms ++ f ∷ []) table size d))
          (feasible_more roles flags forms k.table k.describes f t (λ z e. subst (λ m. z < m) k.size (flag_below flags z e)) k.sound.feasible)
          (λ c h. absurd h) (λ z h. absurd h);
      dropped = still_dropped old new k.sound.written [] [] ch (λ z h. absurd h) l k.dropped;
    }

module _ (l : List Constraint) (names : List Name) (q : Quantities) (s : IsBetween l names q) (f : Linear) (mid : Quantities) (h : HasFormRow names q f mid) where
  pub made_row : IsRow mid.roles (length q.roles)
  made_row = (h.row.row, subst (λ r. IsAt r (length q.roles) (Basic h.row.row)) (sym h.row.last) (at_last q.roles (Basic h.row.row)))

  pub made_form : form_at (s.forms ++ f ∷ []) (length q.roles) ≡ f
  made_form = ap (form_at (s.forms ++ f ∷ [])) (sym s.keeps.describes.size) ∙ form_last s.forms f

  pub made_speaks : Speaks (s.forms ++ f ∷ []) l mid.roles mid.restricted
  made_speaks =
      subst (λ g. Speaks (s.forms ++ f ∷ []) l mid.roles g) (sym h.flags)
      (subst (λ r. Speaks (s.forms ++ f ∷ []) l r (q.restricted ++ false ∷ [])) (sym h.row.last)
      (speaks_more s.forms l q.roles q.restricted s.keeps f (Basic h.row.row) refl (subst AreOverColumns h.row.last h.table)
      (described_row q.roles q.restricted s.forms s.keeps.table s.keeps.describes f h.entries f.constant h.row.row
      (λ m i. subst (λ n. m.quantity < n) s.size (placed_below names f.products h.entries h.placed m i))
      (subst (λ r. DefinesLast q.roles h.entries f.constant r) h.row.last h.defines)
      (λ v. ap (λ b. f.constant +ℚ b) (sym (placed_value s.forms names s.variables v f.products h.entries h.placed))))))

  pub made_greatest : (v : ℚ) → IsGreatest l f v → HasGreatest mid.roles mid.restricted (length q.roles)
  made_greatest v g = record {
    forms = s.forms ++ f ∷ [];
    list = l;
    speaks = made_speaks;
    value = v;
    greatest = subst (λ y. IsGreatest l y v) (sym made_form) g;
  }

-- ---- products of a form
pub entry_mentioned : (s : List Entry) (i : ℕ) (m : Entry) → i < length s → m ≡ get_or s i m → Mentions m.quantity (products_of s)
entry_mentioned [] i m l e = absurd (omega (arith, l))
entry_mentioned (n ∷ s) zero m l e = inl (ap (λ (t : Entry). t.quantity) e)
entry_mentioned (n ∷ s) (suc i) m l e = inr (entry_mentioned s i m (omega (arith, l)) e)

-- ---- what the search leaves, with its own flags, which are the same
module _ (flags : List Bool) (old mid : List Role) (r : Restores flags old mid) (n : NoneBelow flags (length old) mid) (q : ℕ)
    (mid_flags : List Bool) (e : mid_flags ≡ flags) (new : List Role) (w : IsCarried mid mid_flags q new) where
  same_carried : IsCarried mid flags q new
  same_carried = subst (λ f. IsCarried mid f q new) e w

  pub found_highest : (v : ℚ) (multipliers : List Entry) → AreMultipliers mid mid_flags q new v multipliers → (names : List Name) (found : List (ℕ × ℚ))
      → ((own : Row) → IsAt new q (Basic own) → found ≡ members_of names own) → AreHighest names q old flags found
  found_highest v multipliers m names found is =
      let own = same_carried.asked_row in
      record {
        new = new;
        own = own.0;
        highest = raised_highest flags old mid r n q new same_carried v multipliers (subst (λ f. AreMultipliers mid f q new v multipliers) e m) own.0 own.1;
        is = is own.0 own.1;
      }

  pub raise_refuses : (pair : Pair) → IsOverflow mid_flags q new pair → RefusesRaised q old flags pair
  raise_refuses pair o = record {
    roles = new;
    speaks = raised_speaks flags old mid r n q new same_carried;
    is_row = same_carried.asked_row;
    row = o.row;
    column = o.column;
    made = o.made;
    refused = o.refused;
  }

  pub raise_spends : (k : ℕ) → IsSpentAfter mid mid_flags q Best k new → SpendsRaised q old flags k
  raise_spends k s = record {
    roles = s.from;
    speaks = λ forms l h. carried_speaks mid s.from flags q (subst (λ f. IsCarried mid f q s.from) e s.carried) forms l (restored_speaks flags old mid r forms l h);
    is_row = s.carried.asked_row;
    last = new;
    spent = subst (λ f. AreSpent s.from f q Best k new) e s.spent;
  }

pub restored_feasible : (flags : List Bool) (old mid : List Role) → Restores flags old mid → (q : ℕ) → HasGreatest old flags q → (mid_flags : List Bool) → mid_flags ≡ flags
    → of_simplex.IsFeasible (is_restricted mid_flags) (dictionary mid q)
restored_feasible flags old mid r q g mid_flags e =
    subst (λ f. of_simplex.IsFeasible (is_restricted f) (dictionary mid q)) (sym e)
    (search_feasible g.forms g.list mid flags (restored_speaks flags old mid r g.forms g.list g.speaks) q)

-- ---- a mark that is undone
module _ {X : Type 0} where
  seam : (before : List X) (x : X) → slice_get (before ++ x ∷ []) (length before) ≡ Some x
  seam [] x = refl
  seam (y ∷ before) x = seam before x

  pub undone : (before : List X) (x y : X) (number : ℕ) → number ≡ length before → (saved : List X) → saved ≡ before ++ x ∷ [] → slice_get saved number ≡ Some y → y ≡ x
  undone before x y number n saved e g =
      same_Some y x (sym g ∙ ap (λ l. slice_get l number) e ∙ ap (λ i. slice_get (before ++ x ∷ []) i) n ∙ seam before x)
