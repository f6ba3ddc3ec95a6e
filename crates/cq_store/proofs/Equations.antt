-- An equation is stored: its row's quantity is dropped, or its row is zero by dropped columns.
use Rattle.std.proofs.Common.{◌≡◌, ℕ, suc, ◌+◌, ◌<◌, List, [], ◌∷◌, ◌++◌, length, Bool, true, false, Some, ◌⊎◌, inl, inr, pos, arith, length-append, add-one, refl, ap, ap₂, sym, subst, ◌∙◌}
use Rattle.std.specs.Prelude.{slice_get}
use Rattle.std.proofs.lemmas.Option.{slice_get_within, same_Some}
use Rattle.spec_numbers.specs.Rational.{ℚ, 0ℚ, ◌+ℚ◌, ◌*ℚ◌}
use Rattle.spec_numbers.specs.Sums.{sum_at, factor_of}
use Rattle.spec_numbers.proofs.Ring.{var, int, ◌⊕◌, ◌⊗◌}
use Rattle.spec_numbers.proofs.RationalLemmas.{ring}
use Rattle.spec_linear.specs.declared.Relation.{Relation}
use Rattle.spec_linear.specs.declared.Relation.TheVariants.{Eq, Ne}
use Rattle.spec_linear.specs.Form.{Linear, value_at, variable_form, negated_form}
use Rattle.spec_linear.specs.Solution.{Constraint, equal_zero, Has}
use Rattle.spec_linear.specs.Certificate.{member}
use Rattle.spec_projection.specs.Elimination.{IsInequality}
use Rattle.spec_simplex.specs.Asked.{NoQuestion, of_joining}
use Rattle.spec_simplex.specs.Rule as of_rule
use Rattle.spec_simplex.proofs.Solutions.{true_not_false}
use Rattle.spec_simplex.specs.Fixing.{NewlyFixed, is_unmentioned}
use Rattle.spec_simplex.specs.Reach.{IsFlat, Moves, Rises}
use Rattle.spec_simplex.specs.Tableau.{Within, WithinEquations, IsWritten, IsNothing, Eliminated, Invariant, Place, numbers, right_side}
use Rattle.spec_simplex.proofs.Linked.{linked_written}
use Rattle.spec_simplex.proofs.Steps.{joined_zero}
use Rattle.spec_simplex.proofs.More.{own_dropped, nothing_joins}
use Rattle.spec_simplex.proofs.More as of_more
use Rattle.spec_simplex.proofs.Told.{none_newly, not_newly}
use Rattle.spec_simplex.proofs.Feasible.{free_elimination}
use Rattle.spec_simplex.proofs.TableauWritten.{free_rises, moves}
use Rattle.cq_form.specs.Entries.{products_of}
use Rattle.cq_frac.specs.declared.Pair.{Pair}
use Rattle.cq_frac.specs.declared.VarId.{VarId}
use Rattle.cq_frac.specs.declared.row.Entry.{Entry}
use Rattle.cq_frac.specs.Row.{Row}
use Rattle.cq_frac.specs.Rows as rows
use Rattle.cq_dict.specs.declared.table.Role.{Role}
use Rattle.cq_dict.specs.declared.table.Role.TheVariants.{Dropped, Basic}
use Rattle.cq_dict.specs.Roles.{Quantities, IsAt, IsRow, AreOverColumns, IsEliminated, is_live, is_dropped, is_restricted, role_at, factor_at}
use Rattle.cq_dict.specs.Dict.{SameMeaning, RefusesPivot}
use Rattle.cq_dict.proofs.Roles.{at_below, live_at, dropped_at, role_dropped, role_is, equal_or_not, factor_is}
use Rattle.cq_simplex.specs.Dictionary.{dictionary}
use Rattle.cq_tableau.specs.declared.names.Name.{Name}
use Rattle.cq_tableau.specs.declared.names.Name.TheVariants.{Variable, Member}
use Rattle.cq_tableau.specs.Asking.{AsksForm}
use Rattle.cq_tableau.specs.Fixing.{AreFixedNow}
use Rattle.cq_tableau.specs.Forms.{row_of, form_at, tableau}
use Rattle.cq_tableau.specs.Keeps.{Keeps}
use Rattle.cq_tableau.specs.Looked.{IsApart}
use Rattle.cq_equations.specs.Told.{numbers_of}
use Rattle.cq_tableau.specs.Newly.{AreNewlyFixed}
use Rattle.cq_tableau.specs.Stored.{IsKnown, IsMemberOf, IsStored, IsStoredBy, JoinsStored}
use Rattle.cq_tableau.proofs.Tied.{linked, still_describes, flag_below, feasible_of, entry_live, factor_same}
use Rattle.cq_tableau.proofs.Steps.{unchanged, dropped_more, flag_more, form_more, form_last}
use Rattle.cq_tableau.proofs.Joined.{written, free_entry}
use Rattle.cq_tableau.proofs.Storing.{keeps_last, member_by, known_or_not, placed_known, asked_kept, asked_row}
use Rattle.cq_store.specs.Equated.{IsRowBehind, Crosses, HasNoLiveEntry, IsOverEquations}
use Rattle.cq_tableau.specs.Faced.{AllApart}
use Rattle.cq_store.specs.StoreValue.{MayRefuse, Only}
use Rattle.cq_store.proofs.Moments.{speaks_of, behind_refused}
use Rattle.cq_store.proofs.Stays.{not_zero_something, place_of, Covers, newly_fixed, named_before}

-- ---- an elimination of a row
module _ (old new : List Role) (r c : ℕ) (row : IsRow old r) (live : is_live old c ≡ true) (x : IsEliminated old r c new) where
  not_row : (z : ℕ) → is_live old z ≡ true → z ≡ r → ⊥
  not_row z l e = true_not_false (is_live old r) (subst (λ y. is_live old y ≡ true) e l) (live_at old r (Basic row.0) row.1)

  live_not_dropped : (z : ℕ) → is_live old z ≡ true → is_dropped old z ≡ true → ⊥
  live_not_dropped z l d = true_not_false (is_live old z) l (live_at old z Dropped (role_dropped old z d))

  pub gone : is_dropped new r ≡ true
  gone = dropped_at new r Dropped x.leaves

  pub still_dropped : (z : ℕ) → is_dropped old z ≡ true → is_dropped new z ≡ true
  still_dropped z d = (x.others z (λ e. true_not_false (is_dropped old r) (subst (λ y. is_dropped old y ≡ true) e d) (dropped_at old r (Basic row.0) row.1))
      (λ e. live_not_dropped c live (subst (λ y. is_dropped old y ≡ true) e d))).dropped ∙ d

  pub only_dropped : (z : ℕ) → is_dropped new z ≡ true → (z ≡ r) ⊎ (is_dropped old z ≡ true)
  only_dropped z d = elim (equal_or_not z r) [
    | inl e ↦ inl e
    | inr n ↦ inr (sym (x.others z n (λ e. true_not_false (is_dropped new c) (subst (λ y. is_dropped new y ≡ true) e d) (dropped_at new c (Basic x.enters.0) x.enters.1))).dropped ∙ d)
  ]

  pub live_still : (z : ℕ) → is_live old z ≡ true → (z ≡ c → ⊥) → is_live new z ≡ true
  live_still z l n = (x.others z (not_row z l) n).live ∙ l

  pub eliminated : (flags : List Bool) (forms : List Linear) → Eliminated (tableau old flags forms) (tableau new flags forms) r c
  eliminated flags forms = record {
    changed = record {
      count = let e = x.size in omega arith;
      form = λ z h. refl;
      drops_made = λ z k. elim k [ inl e ↦ subst (λ y. y < length old) (sym e) (at_below old r (Basic row.0) row.1) | inr e ↦ absurd e ];
      drops_each = λ z k. elim k [ inl e ↦ subst (λ y. is_dropped new y ≡ true) (sym e) gone | inr e ↦ absurd e ];
      dropped_still = still_dropped;
      dropped_only = λ z k. elim (only_dropped z k) [ inl e ↦ inl (inl e) | inr d ↦ inr d ];
      restricts_made = λ z k. absurd k;
      restricts_each = λ z k. absurd k;
      restricted_still = λ z k. k;
      restricted_only = λ z k. inr k;
    };
    made = at_below old r (Basic row.0) row.1;
    others = live_still;
  }

-- a column's factor in a row
pub factor_there : (roles : List Role) (q : ℕ) (row : IsRow roles q) (c : ℕ) → factor_of c (row_of q (role_at roles q)).live ≡ factor_at roles q c
factor_there roles q row c =
    ap (λ s. factor_of c (row_of q s).live) (role_is roles q (Basic row.0) row.1) ∙ factor_same c row.0.live ∙ sym (factor_is roles q row.0 row.1 c)

-- ---- the quantity of a told constraint
pub record IsQuantityOf (told : List Constraint) (names : List Name) (forms : List Linear) (k : Constraint) : Type 0 where
  pub number : ℕ
  pub member_number : ℕ
  pub named : slice_get names number ≡ Some (Member member_number)
  pub told_at : member told member_number ≡ Some k
  pub below : number < length forms
  pub form_is : form_at forms number ≡ k.form

pub quantity : (told : List Constraint) (names : List Name) (q : Quantities) (s : IsStored told names q) (k : Constraint) → Has k told → IsQuantityOf told names s.forms k
quantity told names q s k h =
    let i = place_of told k h in
    let n = s.placed (suc i.0) k i.1 in
    let m = s.members n.0 (suc i.0) n.1 in
    record {
      number = n.0;
      member_number = suc i.0;
      named = n.1;
      told_at = i.1;
      below = subst (λ y. n.0 < y) (s.size ∙ sym s.keeps.describes.size) (slice_get_within names n.0 (Member (suc i.0)) n.1);
      form_is = sym m.form_is ∙ ap (λ (x : Constraint). x.form) (same_Some m.constraint k (sym m.told_at ∙ i.1));
    }

pub is_member : (R : Relation → Type 0) (told : List Constraint) (names : List Name) (forms : List Linear) (k : Constraint) (z : IsQuantityOf told names forms k) → R k.relation
    → IsMemberOf R told names z.number
is_member R told names forms k z r = record { number = z.member_number; named = z.named; constraint = k; told_at = z.told_at; relation_is = r }

-- ---- the form's row
module _ (told : List Constraint) (names : List Name) (c : Constraint) (roles : List Role) (flags : List Bool) (q : ℕ) (b : IsRowBehind told names c roles flags q) where
  pub row_below : q < length roles
  row_below = at_below roles q (Basic b.row.0) b.row.1

  pub roles_size : length roles ≡ length b.before.roles + 1
  roles_size = sym b.keeps.describes.size ∙ length-append b.stored.forms (c.form ∷ []) ∙ ap (λ m. m + 1) b.stored.keeps.describes.size

  pub form_here : form_at (b.stored.forms ++ c.form ∷ []) q ≡ c.form
  form_here = ap (form_at (b.stored.forms ++ c.form ∷ [])) (b.last ∙ sym b.stored.keeps.describes.size) ∙ form_last b.stored.forms c.form

  pub flag_before : (z : ℕ) → is_restricted flags z ≡ is_restricted b.before.restricted z
  flag_before z = ap (λ g. is_restricted g z) b.flags_are ∙ flag_more b.before.restricted z

  pub unflagged : is_restricted flags q ≡ false
  unflagged = go (is_restricted flags q) refl
    where
      go : (f : Bool) → is_restricted flags q ≡ f → is_restricted flags q ≡ false
      go false e = e
      go true e =
          let l = flag_below b.before.restricted q (sym (flag_before q) ∙ e) in
          let s = b.stored.keeps.size in
          let n = b.last in
          absurd (omega (arith, l, s, n))

  -- ---- the equation in front of the told list
  module _ (i : c.relation ≡ Eq) where
    equation_is : (r : Relation) → r ≡ Eq → (f : Linear) → equal_zero f ≡ record { relation = r; form = f }
    equation_is r e f = ap (λ t. record { relation = t; form = f }) (sym e)

    pub front_is : equal_zero (form_at (b.stored.forms ++ c.form ∷ []) q) ≡ c
    front_is = ap equal_zero form_here ∙ equation_is c.relation i c.form

    not_inequality : (r : Relation) → r ≡ Eq → IsInequality r → ⊥
    not_inequality r e h = subst IsInequality e h

    -- it is stored where no flag changes, and its own quantity may be dropped
    pub stored_by : (K : List Linear → List Constraint → List Role → List Bool → Type 0) (new : List Role) → length new ≡ length roles
        → ((z : ℕ) → is_dropped new z ≡ true → (z ≡ q) ⊎ ((is_restricted flags z ≡ true) ⊎ (is_dropped roles z ≡ true)))
        → K (b.stored.forms ++ c.form ∷ []) (told ++ c ∷ []) new flags
        → IsStoredBy K (told ++ c ∷ []) (names ++ Member (suc (length told)) ∷ []) (record { roles = new; restricted = flags })
    stored_by K new size only k =
        member_by K told names b.before (record { roles = new; restricted = flags }) b.stored c b.knows k (size ∙ roles_size)
        (λ z r. inl (sym (flag_before z) ∙ r))
        (λ z r. flag_before z ∙ r)
        (λ z h. elim (only z h) [ inl e ↦ inr (inr (e ∙ b.last, i)) | inr (inl r) ↦ inl r | inr (inr d) ↦ inr (inl (b.dropped z d)) ])
        (λ r. absurd (not_inequality c.relation i r))

    pub stored_behind : (new : List Role) → length new ≡ length roles → ((z : ℕ) → is_dropped new z ≡ true → (z ≡ q) ⊎ ((is_restricted flags z ≡ true) ⊎ (is_dropped roles z ≡ true)))
        → Keeps (b.stored.forms ++ c.form ∷ []) (c ∷ told) new flags → (number : ℕ) → number ≡ length told + 1
        → (new_names : List Name) → new_names ≡ names ++ Member number ∷ [] → IsStored (told ++ c ∷ []) new_names (record { roles = new; restricted = flags })
    stored_behind new size only front number num new_names names_are =
        subst (λ l. IsStored (told ++ c ∷ []) l (record { roles = new; restricted = flags })) (sym (names_are ∙ ap (λ m. names ++ Member m ∷ []) (num ∙ add-one (length told))))
        (stored_by Keeps new size only (keeps_last (b.stored.forms ++ c.form ∷ []) told c new flags front))

    -- disequations that are something move within
    pub moves_within : (new : List Role) → AreOverColumns new → length new ≡ length roles → IsWritten (tableau new flags (b.stored.forms ++ c.form ∷ [])) → AllApart told names new
        → (k : Constraint) → Has k told → k.relation ≡ Ne → Moves (Within (tableau new flags (b.stored.forms ++ c.form ∷ []))) k.form
    moves_within new table size w apart k h r =
        let z = quantity told names b.before b.stored k h in
        let l = z.below in
        let d = b.stored.keeps.describes.size in
        let y = roles_size in
        let n : z.number < length new = omega (arith, l, d, y, size) in
        subst (λ g. Moves (Within (tableau new flags (b.stored.forms ++ c.form ∷ []))) g) (form_more b.stored.forms c.form z.number z.below ∙ z.form_is)
        (moves (tableau new flags (b.stored.forms ++ c.form ∷ [])) w z.number n (not_zero_something new table z.number (apart z.number n (is_member IsApart told names b.stored.forms k z r))))

  -- ---- an unrestricted column may take the row's place
  pub free_crosses : (column : ℕ) → of_rule.IsFree (is_restricted flags) (dictionary roles q) column → Crosses told names c roles flags q column
  free_crosses column free =
      let d = tableau roles flags (b.stored.forms ++ c.form ∷ []) in
      let both = free_rises d told b.keeps.invariant.sound q row_below column free.column free.flag
      (λ z. free.coefficient (sym (factor_there roles q b.row column) ∙ z)) in
      record {
        behind = b;
        rises = subst (Rises told) form_here both.0;
        falls = subst (λ f. Rises told (negated_form f)) form_here both.1;
        entry = free_entry roles (is_restricted flags) q column b.row free;
        feasible = λ new x same table.
            free_elimination d (tableau new flags (b.stored.forms ++ c.form ∷ [])) (written (b.stored.forms ++ c.form ∷ []) told roles flags b.keeps)
            (made_written new table x.size same) q column (eliminated roles new q column b.row free.column x flags (b.stored.forms ++ c.form ∷ []))
            b.keeps.invariant.sound.feasible free.flag;
      }
    where
      made_written : (new : List Role) → AreOverColumns new → length new ≡ length roles → SameMeaning roles new → IsWritten (tableau new flags (b.stored.forms ++ c.form ∷ []))
      made_written new table size same =
          linked_written (tableau new flags (b.stored.forms ++ c.form ∷ []))
          (linked new flags (b.stored.forms ++ c.form ∷ []) table (b.keeps.size ∙ sym size) (still_describes roles new (b.stored.forms ++ c.form ∷ []) size same b.keeps.describes))

-- ---- the column takes the row's place
module _ (told : List Constraint) (names : List Name) (c : Constraint) (roles : List Role) (flags : List Bool) (q column : ℕ) (y : Crosses told names c roles flags q column)
    (i : c.relation ≡ Eq) (new : List Role) (x : IsEliminated roles q column new) (same : SameMeaning roles new) (table : AreOverColumns new) where
  column_live : is_live roles column ≡ true
  column_live =
      entry_live (is_live roles) 0 y.entry.own.live (y.behind.keeps.table.rows q y.entry.own y.entry.is_row).live_row (record { quantity = column; factor = y.entry.factor }) y.entry.in_row

  new_size : length flags ≡ length new
  new_size = y.behind.keeps.size ∙ sym x.size

  new_written : IsWritten (tableau new flags (y.behind.stored.forms ++ c.form ∷ []))
  new_written =
      linked_written (tableau new flags (y.behind.stored.forms ++ c.form ∷ []))
      (linked new flags (y.behind.stored.forms ++ c.form ∷ []) table new_size (still_describes roles new (y.behind.stored.forms ++ c.form ∷ []) x.size same y.behind.keeps.describes))

  crossed_keeps : AllApart told names new → Keeps (y.behind.stored.forms ++ c.form ∷ []) (c ∷ told) new flags
  crossed_keeps apart =
      let forms : List Linear = y.behind.stored.forms ++ c.form ∷ [] in
      let d = tableau roles flags forms in
      let e = tableau new flags forms in
      let ch = (eliminated roles new q column y.behind.row column_live x flags forms).changed in
      let w0 = written forms told roles flags y.behind.keeps in
      let here = form_here told names c roles flags q y.behind in
      record {
        table = table;
        size = new_size;
        describes = still_describes roles new forms x.size same y.behind.keeps.describes;
        invariant = subst (λ k. Invariant e (k ∷ told)) (front_is told names c roles flags q y.behind i)
            (joined_zero d e told q [] ch (λ z k. absurd k) w0 new_written (feasible_of new flags forms table (y.feasible new x same table)) y.behind.keeps.invariant
            (subst (Rises told) (sym here) y.rises) (subst (λ f. Rises told (negated_form f)) (sym here) y.falls)
            (λ k h r. moves_within told names c roles flags q y.behind i new table x.size new_written apart k h r));
        dropped = of_more.dropped_more d e w0 (q ∷ []) [] ch (λ z k. absurd k) told y.behind.keeps.dropped c
            (λ r. subst (λ g. IsFlat (WithinEquations e) g) here
            (own_dropped e q (gone roles new q column y.behind.row column_live x) (unflagged told names c roles flags q y.behind)));
      }

  pub crossed_stored : AllApart told names new → (number : ℕ) → number ≡ length told + 1
      → (new_names : List Name) → new_names ≡ names ++ Member number ∷ [] → IsStored (told ++ c ∷ []) new_names (record { roles = new; restricted = flags })
  crossed_stored apart number num new_names names_are =
      stored_behind told names c roles flags q y.behind i new x.size
      (λ z h. elim (only_dropped roles new q column y.behind.row column_live x z h) [ inl e ↦ inl e | inr d ↦ inr (inr d) ]) (crossed_keeps apart)
      number num new_names names_are

-- ---- the row is zero by other equations' columns
module _ (told : List Constraint) (names : List Name) (c : Constraint) (roles : List Role) (flags : List Bool) (q : ℕ) (b : IsRowBehind told names c roles flags q)
    (i : c.relation ≡ Eq) (none : HasNoLiveEntry roles q) (zero : (own : Row) → IsAt roles q (Basic own) → own.constant ≡ 0ℚ) (over : IsOverEquations roles flags q) where
  row_is : row_of q (role_at roles q) ≡ row_of q (Basic b.row.0)
  row_is = ap (row_of q) (role_is roles q (Basic b.row.0) b.row.1)

  is_nothing : IsNothing (row_of q (role_at roles q))
  is_nothing = subst IsNothing (sym row_is) (record { constant = zero b.row.0 b.row.1; live = ap products_of (none b.row.0 b.row.1) })

  zero_sum : (x : ℕ → ℚ) (t : List Entry) → ((m : Entry) → rows.Has m t → x m.quantity ≡ 0ℚ) → sum_at x (products_of t) ≡ 0ℚ
  zero_sum x [] h = refl
  zero_sum x (m ∷ t) h =
      ap₂ (λ p r. m.factor *ℚ p +ℚ r) (h m (inl refl)) (zero_sum x t (λ n k. h n (inr k)))
      ∙ ring (m.factor ∷ []) (var 0 ⊗ int (pos 0) ⊕ int (pos 0)) (int (pos 0)) refl

  flat : IsFlat (WithinEquations (tableau roles flags (b.stored.forms ++ c.form ∷ []))) c.form
  flat v w =
      let d = tableau roles flags (b.stored.forms ++ c.form ∷ []) in
      let o = b.keeps.table.rows q b.row.0 b.row.1 in
      ap (value_at v) (sym (form_here told names c roles flags q b))
      ∙ (written (b.stored.forms ++ c.form ∷ []) told roles flags b.keeps).rows q (row_below told names c roles flags q b) v
      ∙ ap (right_side (numbers d v)) row_is
      ∙ ap₂ (λ k r. k +ℚ r) (zero b.row.0 b.row.1)
      (ap₂ (λ s t. sum_at (numbers d v) (products_of s) +ℚ t) (none b.row.0 b.row.1)
      (zero_sum (numbers d v) b.row.0.dropped (λ m h. w m.quantity (entry_live (is_dropped roles) 0 b.row.0.dropped o.dropped_row m h) (over b.row.0 b.row.1 m h))))
      ∙ ring [] (int (pos 0) ⊕ (int (pos 0) ⊕ int (pos 0))) (int (pos 0)) refl

  nothing_keeps : Keeps (b.stored.forms ++ c.form ∷ []) (c ∷ told) roles flags
  nothing_keeps =
      let d = tableau roles flags (b.stored.forms ++ c.form ∷ []) in
      record {
        table = b.keeps.table;
        size = b.keeps.size;
        describes = b.keeps.describes;
        invariant = subst (λ k. Invariant d (k ∷ told)) (front_is told names c roles flags q b i)
            (nothing_joins d told b.keeps.invariant q (row_below told names c roles flags q b) is_nothing);
        dropped = of_more.dropped_more d d (written (b.stored.forms ++ c.form ∷ []) told roles flags b.keeps) [] [] (unchanged roles flags (b.stored.forms ++ c.form ∷ []))
            (λ z k. absurd k) told b.keeps.dropped c (λ r. flat);
      }

  none_fixed : (x : ℕ) → NewlyFixed told (told ++ c ∷ []) x → ⊥
  none_fixed x = elim (known_or_not names x) [
    | inl h ↦ none_newly (tableau roles flags (b.stored.forms ++ c.form ∷ [])) (tableau roles flags (b.stored.forms ++ c.form ∷ [])) told c b.keeps.invariant nothing_keeps.invariant x
        (λ v w. w) (variable_there h)
    | inr h ↦ not_newly (tableau roles flags (b.stored.forms ++ c.form ∷ [])) (tableau roles flags (b.stored.forms ++ c.form ∷ [])) told c b.keeps.invariant nothing_keeps.invariant x
        (is_unmentioned (λ m. elim m [ inl g ↦ h (b.knows x g) | inr g ↦ h (b.stored.known x g) ]))
  ]
    where
      variable_there : IsKnown names x → Place (tableau roles flags (b.stored.forms ++ c.form ∷ [])) (variable_form x)
      variable_there h =
          let l : h.0 < length b.before.roles = subst (λ m. h.0 < m) b.stored.size (slice_get_within names h.0 (Variable (record { 0 = x })) h.1) in
          let z = roles_size told names c roles flags q b in
          record {
            quantity = h.0;
            made = omega (arith, l, z);
            form_is = form_more b.stored.forms c.form h.0 (subst (λ m. h.0 < m) (sym b.stored.keeps.describes.size) l) ∙ b.stored.variables h.0 (record { 0 = x }) h.1;
          }

  pub nothing_stored : (number : ℕ) → number ≡ length told + 1 → (new_names : List Name) → new_names ≡ names ++ Member number ∷ [] → (fixed : List VarId) → fixed ≡ []
      → JoinsStored told c fixed new_names (record { roles = roles; restricted = flags })
  nothing_stored number num new_names names_are fixed empty = record {
    stored = stored_behind told names c roles flags q b i roles refl (λ z h. inr (inr h)) nothing_keeps number num new_names names_are;
    newly = subst (λ xs. AreNewlyFixed told (told ++ c ∷ []) (numbers_of xs)) (sym empty) (record { once = tt; each = λ x. (λ h. absurd h, λ n. absurd (none_fixed x n)) });
  }

-- ---- the form is asked
pub asked_behind : (told : List Constraint) (names : List Name) (q : Quantities) (s : IsStored told names q) (c : Constraint) (new_names : List Name) (mid : Quantities) (n : ℕ)
    → AsksForm names q c.form new_names mid n → IsRowBehind told new_names c mid.roles mid.restricted n
asked_behind told names q s c new_names mid n a = record {
  before = a.before;
  stored = a.stays told s;
  keeps = asked_kept told names q s c.form new_names mid n a;
  flags_are = a.flags;
  dropped = λ z h. sym (dropped_more a.before.roles (Basic a.row.row) refl z) ∙ ap (λ m. is_dropped m z) (sym a.row.last) ∙ h;
  row = asked_row told names q s c.form new_names mid n a;
  last = a.number;
  knows = λ x m. placed_known new_names c.form.products a.entries a.placed x m;
}

-- ---- which variables it fixes, and which pairs are due
module _ (told : List Constraint) (names : List Name) (c : Constraint) (roles : List Role) (flags : List Bool) (q : ℕ) (b : IsRowBehind told names c roles flags q) where
  pub joined_behind : (open_ones : List VarId) (number : ℕ) (new_names : List Name) → new_names ≡ names ++ Member number ∷ []
      → (new : Quantities) → Covers names roles new.roles open_ones → (fixed_ones : List VarId) → AreFixedNow new_names new open_ones fixed_ones
      → IsStored (told ++ c ∷ []) new_names new → JoinsStored told c fixed_ones new_names new
  joined_behind open_ones number new_names names_are new a fixed_ones f stored = record {
    stored = stored;
    newly = newly_fixed told names b.before b.stored c roles flags b.keeps open_ones fixed_ones new_names new a f stored
        (λ n x h. named_before names number n x (subst (λ l. slice_get l n ≡ Some (Variable (record { 0 = x }))) names_are h));
  }

  pub crossing_refused : (r column : ℕ) (pair : Pair) → RefusesPivot roles r column pair → MayRefuse told (Only c) NoQuestion pair
  crossing_refused r column pair p =
      behind_refused told names b.before b.stored c.form (Only c) NoQuestion (of_joining c refl) b.knows roles flags b.flags_are
      (speaks_of (b.stored.forms ++ c.form ∷ []) told roles flags b.keeps) (subst (IsRow roles) b.last b.row) r column pair p
