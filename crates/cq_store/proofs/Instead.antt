-- An equation's quantity is dropped in place of an inequality's column: the same is zero as before.
use Rattle.std.proofs.Common.{◌≡◌, ℕ, ◌+◌, ◌<◌, List, [], ◌∷◌, ◌++◌, length, Bool, true, false, ◌⊎◌, inl, inr, pos, arith, refl, ap, ap₂, sym, subst, ◌∙◌}
use Rattle.std.proofs.lemmas.Option.{slice_get_within}
use Rattle.spec_numbers.specs.Rational.{ℚ, 0ℚ, ◌+ℚ◌, ◌*ℚ◌}
use Rattle.spec_numbers.specs.Sums.{Monomial, sum_at, unit, factor_of}
use Rattle.spec_numbers.proofs.Ring.{var, int, ◌⊕◌, ◌⊗◌}
use Rattle.spec_numbers.proofs.RationalLemmas.{ring}
use Rattle.spec_numbers.proofs.Sign.{product_zero}
use Rattle.spec_numbers.proofs.Sums.{sum_at-times, factor_of-is, unit-self, unit-other}
use Rattle.spec_linear.specs.declared.Relation.{Relation}
use Rattle.spec_linear.specs.declared.Relation.TheVariants.{Eq, Gt, Ge, Ne}
use Rattle.spec_linear.specs.Form.{Linear, value_at, variable_form}
use Rattle.spec_linear.specs.Solution.{Constraint, Has}
use Rattle.spec_simplex.specs.Asked.{NoQuestion, of_joining}
use Rattle.spec_simplex.specs.Fixing.{NewlyFixed, is_unmentioned}
use Rattle.spec_simplex.specs.Reach.{IsFlat}
use Rattle.spec_simplex.specs.Tableau.{Within, WithinEquations, AllIn, IsWritten, IsNothing, HasFeasibleNumbers, Held, Invariant, Place, numbers, right_side}
use Rattle.spec_simplex.proofs.Feasible.{level_elimination}
use Rattle.spec_simplex.proofs.Linked.{linked_written}
use Rattle.spec_simplex.proofs.More.{one_constant, one_entry, own_dropped, nothing_joins}
use Rattle.spec_simplex.proofs.Told.{none_newly, not_newly}
use Rattle.spec_simplex.proofs.TableauWritten.{same_sum, nothing_is, kept_same_one}
use Rattle.cq_form.specs.Entries.{products_of}
use Rattle.cq_frac.specs.declared.Pair.{Pair}
use Rattle.cq_frac.specs.declared.VarId.{VarId}
use Rattle.cq_frac.specs.Row.{Row}
use Rattle.cq_frac.specs.Rows as rows
use Rattle.cq_dict.specs.declared.table.Role.{Role}
use Rattle.cq_dict.specs.declared.table.Role.TheVariants.{Live, Basic}
use Rattle.cq_dict.specs.Roles.{IsAt, IsRow, AreOverColumns, ChangesKind, HasEntry, IsEliminated, is_live, is_dropped, is_restricted, role_at}
use Rattle.cq_dict.specs.Dict.{SameMeaning, RefusesPivot}
use Rattle.cq_dict.proofs.Roles.{at_below, live_at, role_is, equal_or_not, factor_is, is_row_of}
use Rattle.cq_simplex.proofs.Entries.{has_entry}
use Rattle.cq_tableau.specs.declared.names.Name.{Name}
use Rattle.cq_tableau.specs.declared.names.Name.TheVariants.{Variable, Member}
use Rattle.cq_tableau.specs.Forms.{row_of, form_at, tableau}
use Rattle.cq_tableau.specs.Keeps.{Keeps, Speaks}
use Rattle.cq_equations.specs.Told.{numbers_of}
use Rattle.cq_tableau.specs.Newly.{AreNewlyFixed}
use Rattle.cq_tableau.specs.Restored.{Restores}
use Rattle.cq_tableau.specs.Stored.{IsKnown, JoinsStored}
use Rattle.cq_tableau.proofs.Joined.{written}
use Rattle.cq_tableau.proofs.Restores.{restores_one, restored_speaks}
use Rattle.cq_tableau.proofs.Steps.{form_more}
use Rattle.cq_tableau.proofs.Storing.{known_or_not}
use Rattle.cq_tableau.proofs.Tied.{linked, still_describes, feasible_of, each_restricted, entry_live, entry_not_zero, factor_same}
use Rattle.cq_store.specs.Equated.{IsRowBehind, HasNoLiveEntry, IsHeldBy}
use Rattle.cq_store.specs.StoreValue.{MayRefuse, Only}
use Rattle.cq_store.proofs.Equations.{eliminated, gone, still_dropped, only_dropped, factor_there, row_below, roles_size, form_here, front_is, unflagged, stored_behind}
use Rattle.cq_store.proofs.Moments.{speaks_of, behind_refused}

-- a sum in which one number alone is not zero
one_left : (p : ℕ → Bool) (x : ℕ → ℚ) (s : List Monomial) (c : ℕ) → AllIn p s → ((z : ℕ) → p z ≡ true → (z ≡ c → ⊥) → x z ≡ 0ℚ) → sum_at x s ≡ x c *ℚ factor_of c s
one_left p x s c a h = same_sum p x (λ z. x c *ℚ unit c z) s a (λ z k. agree z k (equal_or_not z c)) ∙ sum_at-times (x c) (unit c) s ∙ ap (λ r. x c *ℚ r) (sym (factor_of-is c s))
  where
    agree : (z : ℕ) → p z ≡ true → (z ≡ c) ⊎ (z ≡ c → ⊥) → x z ≡ x c *ℚ unit c z
    agree z k (inl e) =
        ap x e ∙ ring (x c ∷ []) (var 0) (var 0 ⊗ int (pos 1)) refl ∙ ap (λ r. x c *ℚ r) (sym (unit-self c)) ∙ ap (λ y. x c *ℚ unit c y) (sym e)
    agree z k (inr n) = h z k n ∙ ring (x c ∷ []) (int (pos 0)) (var 0 ⊗ int (pos 0)) refl ∙ ap (λ r. x c *ℚ r) (sym (unit-other c z (λ e. n (sym e))))

module _ (told : List Constraint) (names : List Name) (c : Constraint) (roles : List Role) (flags : List Bool) (q : ℕ) (b : IsRowBehind told names c roles flags q)
    (i : c.relation ≡ Eq) (none : HasNoLiveEntry roles q) (zero : (own : Row) → IsAt roles q (Basic own) → own.constant ≡ 0ℚ) (column : ℕ)
    (held : IsHeldBy roles flags q column) where
  own_row : row_of q (role_at roles q) ≡ row_of q (Basic held.own)
  own_row = ap (row_of q) (role_is roles q (Basic held.own) held.is_row)

  is_nothing : IsNothing (row_of q (role_at roles q))
  is_nothing = subst IsNothing (sym own_row) (record { constant = zero held.own held.is_row; live = ap products_of (none held.own held.is_row) })

  pub was_dropped : is_dropped roles column ≡ true
  was_dropped =
      subst (λ y. is_dropped roles y ≡ true) held.quantity
      (entry_live (is_dropped roles) 0 held.own.dropped (b.keeps.table.rows q held.own held.is_row).dropped_row held.entry held.has)

  old_written : IsWritten (tableau roles flags (b.stored.forms ++ c.form ∷ []))
  old_written = written (b.stored.forms ++ c.form ∷ []) told roles flags b.keeps

  -- the column has a factor in the row
  there : factor_of column (products_of held.own.dropped) ≡ 0ℚ → ⊥
  there z =
      entry_not_zero (is_dropped roles) 0 held.own.dropped (b.keeps.table.rows q held.own held.is_row).dropped_row held.entry held.has
      (ap (λ y. rows.sum_at (rows.unit y) held.own.dropped) held.quantity ∙ sym (factor_same column held.own.dropped) ∙ z)

  over_dropped : AllIn (is_dropped roles) (products_of held.own.dropped)
  over_dropped = subst (λ r. AllIn (is_dropped roles) r.dropped) own_row (old_written.over_dropped q (row_below told names c roles flags q b))

  -- ---- where the other dropped columns are zero
  only_column : (v : ℕ → ℚ) → ((z : ℕ) → is_dropped roles z ≡ true → (z ≡ column → ⊥) → value_at v (form_at (b.stored.forms ++ c.form ∷ []) z) ≡ 0ℚ)
      → value_at v (form_at (b.stored.forms ++ c.form ∷ []) q) ≡ value_at v (form_at (b.stored.forms ++ c.form ∷ []) column) *ℚ factor_of column (products_of held.own.dropped)
  only_column v h =
      let x : ℕ → ℚ = numbers (tableau roles flags (b.stored.forms ++ c.form ∷ [])) v in
      old_written.rows q (row_below told names c roles flags q b) v
      ∙ ap (right_side x) own_row
      ∙ ap₂ (λ k r. k +ℚ (r +ℚ sum_at x (products_of held.own.dropped))) (zero held.own held.is_row) (ap (λ s. sum_at x (products_of s)) (none held.own held.is_row))
      ∙ ring (sum_at x (products_of held.own.dropped) ∷ []) (int (pos 0) ⊕ (int (pos 0) ⊕ var 0)) (var 0) refl
      ∙ one_left (is_dropped roles) x (products_of held.own.dropped) column over_dropped h

  -- ---- the column is restored
  module _ (mid : List Role) (k : ChangesKind roles column Live mid) (same : SameMeaning roles mid) (table : AreOverColumns mid) where
    restores : Restores flags roles mid
    restores = restores_one flags roles column mid k was_dropped table same held.flag

    mid_speaks : Speaks (b.stored.forms ++ c.form ∷ []) told mid flags
    mid_speaks =
        restored_speaks flags roles mid restores (b.stored.forms ++ c.form ∷ []) told (speaks_of (b.stored.forms ++ c.form ∷ []) told roles flags b.keeps)

    column_live : is_live mid column ≡ true
    column_live = live_at mid column Live k.own

    mid_row : IsRow mid q
    mid_row = restores.rows q b.row

    mid_below : q < length mid
    mid_below = at_below mid q (Basic mid_row.0) mid_row.1

    mid_number : (v : ℕ → ℚ) → Within (tableau mid flags (b.stored.forms ++ c.form ∷ [])) v
        → numbers (tableau mid flags (b.stored.forms ++ c.form ∷ [])) v q
        ≡ 0ℚ +ℚ sum_at (numbers (tableau mid flags (b.stored.forms ++ c.form ∷ [])) v)
        (record { variable = column; factor = factor_of column (products_of held.own.dropped) } ∷ [])
    mid_number v w =
        only_column v (λ z d n. w z ((k.others z n).dropped ∙ d))
        ∙ ring (value_at v (form_at (b.stored.forms ++ c.form ∷ []) column) ∷ factor_of column (products_of held.own.dropped) ∷ [])
        (var 0 ⊗ var 1) (int (pos 0) ⊕ (var 1 ⊗ var 0 ⊕ int (pos 0))) refl

    -- the row has this entry alone
    mid_constant : 0ℚ ≡ (row_of q (role_at mid q)).constant
    mid_constant =
        one_constant (tableau mid flags (b.stored.forms ++ c.form ∷ [])) mid_speaks.sound.written q mid_below 0ℚ
        (record { variable = column; factor = factor_of column (products_of held.own.dropped) } ∷ []) (column_live, tt) mid_number

    mid_entry : (z : ℕ) → factor_of z (record { variable = column; factor = factor_of column (products_of held.own.dropped) } ∷ []) ≡ factor_of z (row_of q (role_at mid q)).live
    mid_entry =
        one_entry (tableau mid flags (b.stored.forms ++ c.form ∷ [])) mid_speaks.sound.written q mid_below 0ℚ
        (record { variable = column; factor = factor_of column (products_of held.own.dropped) } ∷ []) (column_live, tt) mid_number

    one_factor : (z : ℕ) → factor_of z (record { variable = column; factor = factor_of column (products_of held.own.dropped) } ∷ []) ≡ factor_of column (products_of held.own.dropped) *ℚ unit z column
    one_factor z =
        factor_of-is z (record { variable = column; factor = factor_of column (products_of held.own.dropped) } ∷ [])
        ∙ ring (factor_of column (products_of held.own.dropped) ∷ unit z column ∷ []) (var 0 ⊗ var 1 ⊕ int (pos 0)) (var 0 ⊗ var 1) refl

    mid_there : factor_of column (row_of q (role_at mid q)).live ≡ 0ℚ → ⊥
    mid_there z =
        there (ring (factor_of column (products_of held.own.dropped) ∷ []) (var 0) (var 0 ⊗ int (pos 1)) refl
        ∙ ap (λ r. factor_of column (products_of held.own.dropped) *ℚ r) (sym (unit-self column)) ∙ sym (one_factor column) ∙ mid_entry column ∙ z)

    pub entry_there : HasEntry mid q column
    entry_there = has_entry mid q column (is_row_of mid q mid_row) (λ z. mid_there (factor_there mid q mid_row column ∙ z))

    no_free_there : (z : ℕ) → is_live mid z ≡ true → is_restricted flags z ≡ false → rows.sum_at (rows.unit z) mid_row.0.live ≡ 0ℚ
    no_free_there z l n =
        sym (factor_is mid q mid_row.0 mid_row.1 z) ∙ sym (factor_there mid q mid_row z) ∙ sym (mid_entry z) ∙ one_factor z
        ∙ ap (λ r. factor_of column (products_of held.own.dropped) *ℚ r) (unit-other z column (λ e. other z e n))
        ∙ ring (factor_of column (products_of held.own.dropped) ∷ []) (var 0 ⊗ int (pos 0)) (int (pos 0)) refl
      where
        other : (z : ℕ) → z ≡ column → is_restricted flags z ≡ false → ⊥
        other z e n = let f = held.flag in let g = subst (λ y. is_restricted flags y ≡ false) e n in cc

    mid_restricted : AllIn (is_restricted flags) (row_of q (role_at mid q)).live
    mid_restricted =
        subst (λ s. AllIn (is_restricted flags) (row_of q s).live) (sym (role_is mid q (Basic mid_row.0) mid_row.1))
        (each_restricted flags (is_live mid) mid_row.0 (table.rows q mid_row.0 mid_row.1).live_row no_free_there mid_row.0.live (λ m h. h))

    -- an operation of the exchange refuses the pair
    pub held_refused : (pair : Pair) → RefusesPivot mid q column pair → MayRefuse told (Only c) NoQuestion pair
    held_refused pair p =
        behind_refused told names b.before b.stored c.form (Only c) NoQuestion (of_joining c refl) b.knows mid flags b.flags_are mid_speaks
        (subst (IsRow mid) b.last mid_row) q column pair p

    -- ---- and takes the row's place
    module _ (new : List Role) (x : IsEliminated mid q column new) (still : SameMeaning mid new) (new_table : AreOverColumns new) where
      new_size : length new ≡ length roles
      new_size = x.size ∙ k.size

      flags_size : length flags ≡ length new
      flags_size = b.keeps.size ∙ sym new_size

      new_same : SameMeaning roles new
      new_same z = (λ m. (still z).0 ((same z).0 m), λ m. (same z).1 ((still z).1 m))

      new_written : IsWritten (tableau new flags (b.stored.forms ++ c.form ∷ []))
      new_written =
          linked_written (tableau new flags (b.stored.forms ++ c.form ∷ []))
          (linked new flags (b.stored.forms ++ c.form ∷ []) new_table flags_size (still_describes roles new (b.stored.forms ++ c.form ∷ []) new_size new_same b.keeps.describes))

      new_feasible : HasFeasibleNumbers (tableau new flags (b.stored.forms ++ c.form ∷ []))
      new_feasible =
          level_elimination (tableau mid flags (b.stored.forms ++ c.form ∷ [])) (tableau new flags (b.stored.forms ++ c.form ∷ [])) mid_speaks.sound.written new_written q column
          (eliminated mid new q column mid_row column_live x flags (b.stored.forms ++ c.form ∷ [])) mid_speaks.sound.feasible mid_restricted (sym mid_constant) mid_there

      -- what is dropped
      own_gone : is_dropped new q ≡ true
      own_gone = gone mid new q column mid_row column_live x

      other_still : (z : ℕ) → is_dropped roles z ≡ true → (z ≡ column → ⊥) → is_dropped new z ≡ true
      other_still z d n = still_dropped mid new q column mid_row column_live x z ((k.others z n).dropped ∙ d)

      dropped_of : (z : ℕ) → is_dropped new z ≡ true → (z ≡ q) ⊎ (is_dropped roles z ≡ true)
      dropped_of z d = elim (only_dropped mid new q column mid_row column_live x z d) [ inl e ↦ inl e | inr g ↦ inr (restores.only z g) ]

      -- the same is zero
      within_new : (v : ℕ → ℚ) → Within (tableau roles flags (b.stored.forms ++ c.form ∷ [])) v → Within (tableau new flags (b.stored.forms ++ c.form ∷ [])) v
      within_new v w z d = elim (dropped_of z d) [
        | inl e ↦ ap (λ y. value_at v (form_at (b.stored.forms ++ c.form ∷ []) y)) e
            ∙ nothing_is (tableau roles flags (b.stored.forms ++ c.form ∷ [])) old_written q (row_below told names c roles flags q b) is_nothing v w
        | inr g ↦ w z g
      ]

      within_old : (v : ℕ → ℚ) → Within (tableau new flags (b.stored.forms ++ c.form ∷ [])) v → Within (tableau roles flags (b.stored.forms ++ c.form ∷ [])) v
      within_old v w z d = elim (equal_or_not z column) [
        | inl e ↦ ap (λ y. value_at v (form_at (b.stored.forms ++ c.form ∷ []) y)) e
            ∙ product_zero (factor_of column (products_of held.own.dropped)) (value_at v (form_at (b.stored.forms ++ c.form ∷ []) column)) there
            (ring (factor_of column (products_of held.own.dropped) ∷ value_at v (form_at (b.stored.forms ++ c.form ∷ []) column) ∷ []) (var 0 ⊗ var 1) (var 1 ⊗ var 0) refl
            ∙ sym (only_column v (λ y g n. w y (other_still y g n))) ∙ w q own_gone)
        | inr n ↦ w z (other_still z d n)
      ]

      new_place : (f : Linear) → Place (tableau roles flags (b.stored.forms ++ c.form ∷ [])) f → Place (tableau new flags (b.stored.forms ++ c.form ∷ [])) f
      new_place f p = record { quantity = p.quantity; made = subst (λ n. p.quantity < n) (sym new_size) p.made; form_is = p.form_is }

      new_held : (r : Relation) (f : Linear) → Held (tableau roles flags (b.stored.forms ++ c.form ∷ [])) r f → Held (tableau new flags (b.stored.forms ++ c.form ∷ [])) r f
      new_held Eq f h = λ v w. h v (within_old v w)
      new_held Gt f h = (record { quantity = h.0.quantity; made = subst (λ n. h.0.quantity < n) (sym new_size) h.0.made; form_is = h.0.form_is }, h.1)
      new_held Ge f h = (record { quantity = h.0.quantity; made = subst (λ n. h.0.quantity < n) (sym new_size) h.0.made; form_is = h.0.form_is }, h.1)
      new_held Ne f h = tt

      old_invariant : Invariant (tableau roles flags (b.stored.forms ++ c.form ∷ [])) (c ∷ told)
      old_invariant =
          let d = tableau roles flags (b.stored.forms ++ c.form ∷ []) in
          subst (λ y. Invariant d (y ∷ told)) (front_is told names c roles flags q b i)
          (nothing_joins d told b.keeps.invariant q (row_below told names c roles flags q b) is_nothing)

      new_invariant : Invariant (tableau new flags (b.stored.forms ++ c.form ∷ [])) (c ∷ told)
      new_invariant =
          let d = tableau roles flags (b.stored.forms ++ c.form ∷ []) in
          let e = tableau new flags (b.stored.forms ++ c.form ∷ []) in
          record {
            sound = record {
              written = new_written;
              feasible = feasible_of new flags (b.stored.forms ++ c.form ∷ []) new_table new_feasible;
              inside = λ v s. within_new v (old_invariant.sound.inside v s);
              held = λ y h. new_held y.relation y.form (old_invariant.sound.held y h);
              restricted = λ z l r. old_invariant.sound.restricted z (subst (λ n. z < n) new_size l) r;
            };
            stands = λ y h. kept_same_one (Within d) (Within e) (c ∷ told) within_new within_old y.relation y.form (old_invariant.stands y h);
          }

      narrower : (v : ℕ → ℚ) → WithinEquations (tableau new flags (b.stored.forms ++ c.form ∷ [])) v → WithinEquations (tableau roles flags (b.stored.forms ++ c.form ∷ [])) v
      narrower v w z d n = w z (other_still z d (λ e. other z e n)) n
        where
          other : (z : ℕ) → z ≡ column → is_restricted flags z ≡ false → ⊥
          other z e n = let f = held.flag in let g = subst (λ y. is_restricted flags y ≡ false) e n in cc

      own_flat : IsFlat (WithinEquations (tableau new flags (b.stored.forms ++ c.form ∷ []))) c.form
      own_flat =
          subst (λ g. IsFlat (WithinEquations (tableau new flags (b.stored.forms ++ c.form ∷ []))) g) (form_here told names c roles flags q b)
          (own_dropped (tableau new flags (b.stored.forms ++ c.form ∷ [])) q own_gone (unflagged told names c roles flags q b))

      held_keeps : Keeps (b.stored.forms ++ c.form ∷ []) (c ∷ told) new flags
      held_keeps = record {
        table = new_table;
        size = flags_size;
        describes = still_describes roles new (b.stored.forms ++ c.form ∷ []) new_size new_same b.keeps.describes;
        invariant = new_invariant;
        dropped = flat;
      }
        where
          flat : (y : Constraint) → Has y (c ∷ told) → y.relation ≡ Eq → IsFlat (WithinEquations (tableau new flags (b.stored.forms ++ c.form ∷ []))) y.form
          flat y (inl e) r = subst (λ (t : Constraint). IsFlat (WithinEquations (tableau new flags (b.stored.forms ++ c.form ∷ []))) t.form) (sym e) own_flat
          flat y (inr h) r = λ v w. b.keeps.dropped y h r v (narrower v w)

      none_fixed : (y : ℕ) → NewlyFixed told (told ++ c ∷ []) y → ⊥
      none_fixed y = elim (known_or_not names y) [
        | inl h ↦ none_newly (tableau roles flags (b.stored.forms ++ c.form ∷ [])) (tableau new flags (b.stored.forms ++ c.form ∷ [])) told c b.keeps.invariant new_invariant y
            within_new (variable_there h)
        | inr h ↦ not_newly (tableau roles flags (b.stored.forms ++ c.form ∷ [])) (tableau new flags (b.stored.forms ++ c.form ∷ [])) told c b.keeps.invariant new_invariant y
            (is_unmentioned (λ m. elim m [ inl g ↦ h (b.knows y g) | inr g ↦ h (b.stored.known y g) ]))
      ]
        where
          variable_there : IsKnown names y → Place (tableau new flags (b.stored.forms ++ c.form ∷ [])) (variable_form y)
          variable_there h =
              let l : h.0 < length b.before.roles = subst (λ m. h.0 < m) b.stored.size (slice_get_within names h.0 (Variable (record { 0 = y })) h.1) in
              let z = roles_size told names c roles flags q b in
              let s = new_size in
              record {
                quantity = h.0;
                made = omega (arith, l, z, s);
                form_is = form_more b.stored.forms c.form h.0 (subst (λ m. h.0 < m) (sym b.stored.keeps.describes.size) l) ∙ b.stored.variables h.0 (record { 0 = y }) h.1;
              }

      pub held_stored : (number : ℕ) → number ≡ length told + 1 → (new_names : List Name) → new_names ≡ names ++ Member number ∷ [] → (fixed : List VarId) → fixed ≡ []
          → JoinsStored told c fixed new_names (record { roles = new; restricted = flags })
      held_stored number num new_names names_are fixed empty = record {
        stored = stored_behind told names c roles flags q b i new new_size (λ z d. elim (dropped_of z d) [ inl e ↦ inl e | inr g ↦ inr (inr g) ]) held_keeps
            number num new_names names_are;
        newly = subst (λ xs. AreNewlyFixed told (told ++ c ∷ []) (numbers_of xs)) (sym empty) (record { once = tt; each = λ y. (λ h. absurd h, λ n. absurd (none_fixed y n)) });
      }
