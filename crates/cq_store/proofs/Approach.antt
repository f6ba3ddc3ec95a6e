-- A row behind what is stored that is brought to zero: where it has come to, and what its stops are due to.
use Rattle.std.proofs.Common.{◌≡◌, ℕ, ◌<◌, List, [], ◌∷◌, ◌++◌, length, Bool, true, false, inl, inr, nat_eq, pos, arith, length-append, refl, ap, sym, subst, ◌∙◌}
use Rattle.spec_numbers.proofs.Tests.{nat_eq-same, nat_eq-other}
use Rattle.spec_numbers.specs.Rational.{ℚ, 0ℚ, neg_ℚ, IsPositive, IsNotNegative, ◌<ℚ◌}
use Rattle.spec_numbers.specs.Sums.{Monomial, Mentions, negated_products}
use Rattle.spec_numbers.proofs.Ring.{var, int, ◌⊕◌, minus}
use Rattle.spec_numbers.proofs.RationalLemmas.{ring}
use Rattle.spec_numbers.proofs.Order.{lt_irrefl, lt_trans, pos_to_lt}
use Rattle.spec_linear.specs.declared.Relation.{Relation}
use Rattle.spec_linear.specs.declared.Relation.TheVariants.{Eq, Gt, Ge, Ne}
use Rattle.spec_linear.specs.Form.{Linear, IsForm, value_at, negated_form}
use Rattle.spec_linear.specs.Solution.{Constraint}
use Rattle.spec_linear.proofs.Values.{value_at-negated_form}
use Rattle.spec_simplex.specs.Asked.{NoQuestion, of_joining, negated}
use Rattle.spec_simplex.specs.Dictionary as of_simplex
use Rattle.spec_simplex.specs.Reach.{Rises, IsGreatest}
use Rattle.spec_simplex.specs.Tableau.{Within, AllIn, Held, Owned, Place, IsOptimal}
use Rattle.spec_simplex.proofs.Linked.{linked_written}
use Rattle.spec_simplex.proofs.TableauWritten.{top}
use Rattle.cq_frac.specs.declared.Pair.{Pair}
use Rattle.cq_frac.specs.declared.row.Entry.{Entry}
use Rattle.cq_frac.specs.Row.{Row}
use Rattle.cq_frac.specs.Rows as rows
use Rattle.cq_dict.specs.declared.table.Role.{Role}
use Rattle.cq_dict.specs.declared.table.Role.TheVariants.{Dropped, Basic}
use Rattle.cq_dict.specs.Roles.{Quantities, IsAt, IsRow, AreOverColumns, is_dropped, is_restricted, role_at}
use Rattle.cq_dict.specs.Dict.{AddsRow, DefinesLast, RefusesForm}
use Rattle.cq_dict.proofs.Roles.{at_below, dropped_at, role_dropped, role_is}
use Rattle.cq_simplex.specs.declared.Aim.TheVariants.{Positive}
use Rattle.cq_simplex.specs.Answers.{AreSpent}
use Rattle.cq_simplex.specs.Dictionary.{dictionary}
use Rattle.cq_tableau.specs.declared.names.Name.{Name}
use Rattle.cq_tableau.specs.Forms.{form_at, tableau, row_of, Describes}
use Rattle.cq_tableau.specs.Keeps.{Speaks}
use Rattle.cq_tableau.specs.Stored.{IsStored, IsPlaced}
use Rattle.cq_tableau.proofs.Tied.{linked, searchable, flag_below, optimal_of}
use Rattle.cq_tableau.proofs.Steps.{form_more, form_last, met_agrees}
use Rattle.cq_tableau.specs.Turned.{opposite_row, turned, towards}
use Rattle.cq_tableau.specs.Levelled.{StaysRow, CrossesAt, RefusesLevel, SpendsLevel, HoldBelow, HoldAbove, IsShort}
use Rattle.cq_tableau.proofs.Goes.{carried_stays}
use Rattle.cq_tableau.proofs.Turned.{turned_at, turned_length, turned_dropped, turned_other, turned_is_row, turned_table, flipped, flipped_own, flipped_other, met_turned, met_back}
use Rattle.cq_store.specs.Equated.{IsRowBehind, Crosses, StaysBelow, IsShortBelow, IsShortAbove, IsToJoin}
use Rattle.cq_store.specs.StoreValue.{MayRefuse, MayTake, Only}
use Rattle.cq_store.proofs.Equations.{row_below, roles_size, form_here, unflagged, asked_behind, crossing_refused}
use Rattle.cq_store.proofs.Moments.{speaks_of, behind_spent, asking_refused}

pub negated_mentions : (x : ℕ) (s : List Monomial) → Mentions x (negated_products s) → Mentions x s
negated_mentions x [] m = absurd m
negated_mentions x (p ∷ s) (inl e) = inl e
negated_mentions x (p ∷ s) (inr h) = inr (negated_mentions x s h)

pub negative_below : (k : ℚ) → IsPositive k → neg_ℚ k <ℚ 0ℚ
negative_below k p = record { gap = subst IsPositive (ring (k ∷ []) (var 0) (int (pos 0) ⊕ minus (minus (var 0))) refl) p }

-- ---- entries that hold a row below zero, or its negative
pub below_entry : (flags : List Bool) (t : List Entry) → ((m : Entry) → rows.Has m t → IsPositive (neg_ℚ m.factor) × (is_restricted flags m.quantity ≡ true)) → (m : Entry)
    → rows.Has m (rows.negated t) → IsPositive m.factor × (is_restricted flags m.quantity ≡ true)
below_entry flags [] k m h = absurd h
below_entry flags (n ∷ t) k m (inl e) =
    (subst IsPositive (sym (ap (λ (y : Entry). y.factor) e)) (k n (inl refl)).0, ap (λ (y : Entry). is_restricted flags y.quantity) e ∙ (k n (inl refl)).1)
below_entry flags (n ∷ t) k m (inr h) = below_entry flags t (λ y z. k y (inr z)) m h

pub above_entry : (flags : List Bool) (t : List Entry) → ((m : Entry) → rows.Has m t → IsPositive m.factor × (is_restricted flags m.quantity ≡ true)) → (m : Entry)
    → rows.Has m (rows.negated (rows.negated t)) → IsPositive m.factor × (is_restricted flags m.quantity ≡ true)
above_entry flags [] k m h = absurd h
above_entry flags (n ∷ t) k m (inl e) = (
  subst IsPositive (ring (n.factor ∷ []) (var 0) (minus (minus (var 0))) refl ∙ sym (ap (λ (y : Entry). y.factor) e)) (k n (inl refl)).0,
  ap (λ (y : Entry). is_restricted flags y.quantity) e ∙ (k n (inl refl)).1,
)
above_entry flags (n ∷ t) k m (inr h) = above_entry flags t (λ y z. k y (inr z)) m h

module _ (told : List Constraint) (names : List Name) (c : Constraint) (roles : List Role) (flags : List Bool) (q : ℕ) (b : IsRowBehind told names c roles flags q) where
  -- ---- the search may begin
  pub row_feasible : of_simplex.IsFeasible (is_restricted flags) (dictionary roles q)
  row_feasible = searchable roles flags (b.stored.forms ++ c.form ∷ []) q b.keeps.size b.keeps.invariant.sound.feasible

  -- ---- where it has come to
  pub moved_behind : (new : List Role) → StaysRow q roles flags new → IsRowBehind told names c new flags q
  moved_behind new s = record {
    before = b.before;
    stored = b.stored;
    keeps = s.keeps (b.stored.forms ++ c.form ∷ []) told b.keeps;
    flags_are = b.flags_are;
    dropped = λ z h. b.dropped z (sym (s.dropped z) ∙ h);
    row = s.row;
    last = b.last;
    knows = b.knows;
  }

  pub crosses_there : (column : ℕ) → CrossesAt roles flags q column → Crosses told names c roles flags q column
  crosses_there column x = record {
    behind = b;
    rises = subst (Rises told) (form_here told names c roles flags q b) (x.rises (b.stored.forms ++ c.form ∷ []) told b.keeps);
    falls = subst (λ f. Rises told (negated_form f)) (form_here told names c roles flags q b) (x.falls (b.stored.forms ++ c.form ∷ []) told b.keeps);
    entry = x.entry;
    feasible = x.feasible (b.stored.forms ++ c.form ∷ []) told b.keeps;
  }

  -- ---- the stops of the search
  pub level_refused : (pair : Pair) → RefusesLevel q roles flags pair → MayRefuse told (Only c) NoQuestion pair
  level_refused pair r =
      crossing_refused told names c r.roles flags q (moved_behind r.roles r.stays) r.refuses.row r.refuses.column pair (r.refuses.made, r.refuses.refused)

  -- the negative of the form, with the row turned
  forms_length : length (b.stored.forms ++ negated_form c.form ∷ []) ≡ length (turned roles q)
  forms_length =
      length-append b.stored.forms (negated_form c.form ∷ []) ∙ sym (length-append b.stored.forms (c.form ∷ [])) ∙ b.keeps.describes.size ∙ sym (turned_length roles q)

  other_form : (z : ℕ) → z < length roles → (z ≡ q → ⊥) → form_at (b.stored.forms ++ negated_form c.form ∷ []) z ≡ form_at (b.stored.forms ++ c.form ∷ []) z
  other_form z l n =
      let s = roles_size told names c roles flags q b in
      let d = b.stored.keeps.describes.size in
      let e = b.last in
      let k : z < length b.stored.forms = grind (arith, l, s, d, e, n) in
      form_more b.stored.forms (negated_form c.form) z k ∙ sym (form_more b.stored.forms c.form z k)

  pub own_form : form_at (b.stored.forms ++ negated_form c.form ∷ []) q ≡ negated_form c.form
  own_form = ap (form_at (b.stored.forms ++ negated_form c.form ∷ [])) (b.last ∙ sym b.stored.keeps.describes.size) ∙ form_last b.stored.forms (negated_form c.form)

  abbrev flip : (ℕ → ℚ) → ℕ → ℚ
  flip x = flipped roles q b.row.0 b.row.1 b.keeps.table x

  flipped_numbers : (v : ℕ → ℚ) (z : ℕ) → z < length roles
      → flipped roles q b.row.0 b.row.1 b.keeps.table (λ y. value_at v (form_at (b.stored.forms ++ c.form ∷ []) y)) z ≡ value_at v (form_at (b.stored.forms ++ negated_form c.form ∷ []) z)
  flipped_numbers v z l = go (nat_eq z q) refl
    where
      x : ℕ → ℚ
      x y = value_at v (form_at (b.stored.forms ++ c.form ∷ []) y)

      at_own : flipped roles q b.row.0 b.row.1 b.keeps.table (λ y. value_at v (form_at (b.stored.forms ++ c.form ∷ []) y)) q ≡ value_at v (form_at (b.stored.forms ++ negated_form c.form ∷ []) q)
      at_own =
          flipped_own roles q b.row.0 b.row.1 b.keeps.table (λ y. value_at v (form_at (b.stored.forms ++ c.form ∷ []) y))
          ∙ ap (λ f. neg_ℚ (value_at v f)) (form_here told names c roles flags q b) ∙ sym (value_at-negated_form v c.form) ∙ ap (value_at v) (sym own_form)

      go : (t : Bool) → nat_eq z q ≡ t
          → flipped roles q b.row.0 b.row.1 b.keeps.table (λ y. value_at v (form_at (b.stored.forms ++ c.form ∷ []) y)) z ≡ value_at v (form_at (b.stored.forms ++ negated_form c.form ∷ []) z)
      go true e = subst (λ y. flipped roles q b.row.0 b.row.1 b.keeps.table (λ y. value_at v (form_at (b.stored.forms ++ c.form ∷ []) y)) y ≡ value_at v (form_at (b.stored.forms ++ negated_form c.form ∷ []) y)) (sym (nat_eq-same z q e)) at_own
      go false e =
          let n = nat_eq-other z q e in
          flipped_other roles q b.row.0 b.row.1 b.keeps.table (λ y. value_at v (form_at (b.stored.forms ++ c.form ∷ []) y)) z n ∙ ap (value_at v) (sym (other_form z l n))

  opposite_table : AreOverColumns (turned roles q)
  opposite_table = turned_table roles q b.row.0 b.row.1 b.keeps.table

  opposite_describes : Describes (turned roles q) (b.stored.forms ++ negated_form c.form ∷ [])
  opposite_describes = record {
    size = forms_length;
    agrees = λ v.
        met_agrees (turned roles q) opposite_table (flip (λ y. value_at v (form_at (b.stored.forms ++ c.form ∷ []) y))) (λ y. value_at v (form_at (b.stored.forms ++ negated_form c.form ∷ []) y))
        (λ z l. flipped_numbers v z (subst (λ n. z < n) (turned_length roles q) l))
        (met_turned roles q b.row.0 b.row.1 b.keeps.table (λ y. value_at v (form_at (b.stored.forms ++ c.form ∷ []) y)) (b.keeps.describes.agrees v));
    defines = λ x m.
        let o = b.keeps.describes.defines (flip x) (met_back roles q b.row.0 b.row.1 b.keeps.table x m) in
        (o.0, λ z l. let k = subst (λ n. z < n) (turned_length roles q) l in sym (flipped_numbers o.0 z k) ∙ flipped_same (λ y. value_at o.0 (form_at (b.stored.forms ++ c.form ∷ []) y)) x z (o.1 z k));
  }
    where
      flipped_same : (y x : ℕ → ℚ) (z : ℕ) → y z ≡ flip x z → flip y z ≡ x z
      flipped_same y x z e = go (nat_eq z q) e
        where
          go : (t : Bool) → y z ≡ rows.choose t (neg_ℚ (x z)) (x z) → rows.choose t (neg_ℚ (y z)) (y z) ≡ x z
          go true g = ap neg_ℚ g ∙ ring (x z ∷ []) (minus (minus (var 0))) (var 0) refl
          go false g = g

  opposite_size : length flags ≡ length (turned roles q)
  opposite_size = b.keeps.size ∙ sym (turned_length roles q)

  -- what is restricted or dropped is another quantity
  not_own : (z : ℕ) → is_restricted flags z ≡ true → z ≡ q → ⊥
  not_own z r e = let u = unflagged told names c roles flags q b in let k = subst (λ y. is_restricted flags y ≡ true) e r in cc

  restricted_below : (z : ℕ) → is_restricted flags z ≡ true → z < length roles
  restricted_below z r = subst (λ n. z < n) b.keeps.size (flag_below flags z r)

  pub restricted_form : (z : ℕ) → is_restricted flags z ≡ true → form_at (b.stored.forms ++ negated_form c.form ∷ []) z ≡ form_at (b.stored.forms ++ c.form ∷ []) z
  restricted_form z r = other_form z (restricted_below z r) (not_own z r)

  restricted_role : (z : ℕ) → is_restricted flags z ≡ true → role_at (turned roles q) z ≡ role_at roles z
  restricted_role z r = turned_other roles q z (not_own z r)

  pub dropped_form : (z : ℕ) → is_dropped roles z ≡ true → form_at (b.stored.forms ++ negated_form c.form ∷ []) z ≡ form_at (b.stored.forms ++ c.form ∷ []) z
  dropped_form z d =
      other_form z (at_below roles z Dropped (role_dropped roles z d))
      (λ e. let n = dropped_at roles q (Basic b.row.0) b.row.1 in let k = subst (λ y. is_dropped roles y ≡ true) e d in cc)

  within_own : (v : ℕ → ℚ) → Within (tableau (turned roles q) flags (b.stored.forms ++ negated_form c.form ∷ [])) v → Within (tableau roles flags (b.stored.forms ++ c.form ∷ [])) v
  within_own v w z d = ap (value_at v) (sym (dropped_form z d)) ∙ w z (turned_dropped roles q z ∙ d)

  within_opposite : (v : ℕ → ℚ) → Within (tableau roles flags (b.stored.forms ++ c.form ∷ [])) v → Within (tableau (turned roles q) flags (b.stored.forms ++ negated_form c.form ∷ [])) v
  within_opposite v w z d = let k = sym (turned_dropped roles q z) ∙ d in ap (value_at v) (dropped_form z k) ∙ w z k

  opposite_held : (r : Relation) (f : Linear) → Held (tableau roles flags (b.stored.forms ++ c.form ∷ [])) r f → Held (tableau (turned roles q) flags (b.stored.forms ++ negated_form c.form ∷ [])) r f
  opposite_held Eq f h = λ v w. h v (within_own v w)
  opposite_held Gt f h = place_of_restricted h
    where
      place_of_restricted : (p : Place (tableau roles flags (b.stored.forms ++ c.form ∷ [])) f) × (is_restricted flags p.quantity ≡ true)
          → (p : Place (tableau (turned roles q) flags (b.stored.forms ++ negated_form c.form ∷ [])) f) × (is_restricted flags p.quantity ≡ true)
      place_of_restricted p = (
        record { quantity = p.0.quantity; made = subst (λ n. p.0.quantity < n) (sym (turned_length roles q)) p.0.made; form_is = restricted_form p.0.quantity p.1 ∙ p.0.form_is },
        p.1,
      )
  opposite_held Ge f h = (
    record { quantity = h.0.quantity; made = subst (λ n. h.0.quantity < n) (sym (turned_length roles q)) h.0.made; form_is = restricted_form h.0.quantity h.1 ∙ h.0.form_is },
    h.1,
  )
  opposite_held Ne f h = tt

  pub opposite_speaks : Speaks (b.stored.forms ++ negated_form c.form ∷ []) told (turned roles q) flags
  opposite_speaks =
      let i = b.keeps.invariant.sound in
      record {
        table = opposite_table;
        size = opposite_size;
        describes = opposite_describes;
        sound = record {
          written = linked_written (tableau (turned roles q) flags (b.stored.forms ++ negated_form c.form ∷ []))
              (linked (turned roles q) flags (b.stored.forms ++ negated_form c.form ∷ []) opposite_table opposite_size opposite_describes);
          feasible = record {
            constants = λ z l r. subst (λ t. IsNotNegative (row_of z t).constant) (sym (restricted_role z r)) (i.feasible.constants z (restricted_below z r) r);
            columns = λ z l r. subst (λ t. AllIn (is_restricted flags) (row_of z t).live) (sym (restricted_role z r)) (i.feasible.columns z (restricted_below z r) r);
          };
          inside = λ v s. within_opposite v (i.inside v s);
          held = λ k h. opposite_held k.relation k.form (i.held k h);
          restricted = λ z l r. subst (Owned told) (sym (restricted_form z r)) (i.restricted z (restricted_below z r) r);
        };
        dropped = λ k h e v w. b.keeps.dropped k h e v (λ z d n. ap (value_at v) (sym (dropped_form z d)) ∙ w z (turned_dropped roles q z ∙ d) n);
      }

  pub spent_here : (n : ℕ) (up : Bool) (last : List Role) → AreSpent (towards up roles q) flags q Positive n last → MayTake told (Only c) NoQuestion n
  spent_here n up last spent = go up spent
    where
      go : (up : Bool) → AreSpent (towards up roles q) flags q Positive n last → MayTake told (Only c) NoQuestion n
      go true t =
          behind_spent told names b.before b.stored c.form (Only c) NoQuestion (of_joining c refl) b.knows roles flags b.flags_are
          (speaks_of (b.stored.forms ++ c.form ∷ []) told roles flags b.keeps) (subst (IsRow roles) b.last b.row) Positive n last
          (subst (λ z. AreSpent roles flags z Positive n last) b.last t)
      go false t =
          behind_spent told names b.before b.stored (negated_form c.form) (Only c) NoQuestion (negated c.form (of_joining c refl))
          (λ x m. b.knows x (negated_mentions x c.form.products m)) (turned roles q) flags b.flags_are opposite_speaks
          (subst (IsRow (turned roles q)) b.last (turned_is_row roles q q b.row)) Positive n last
          (subst (λ z. AreSpent (turned roles q) flags z Positive n last) b.last t)

  -- ---- where it is short of zero
  low_not_high : (k : ℚ) → k <ℚ 0ℚ → IsPositive k → ⊥
  low_not_high k l p = lt_irrefl (lt_trans l (pos_to_lt p))

  pub short_below : IsShort roles flags q → (IsPositive b.row.0.constant → ⊥) → IsShortBelow told names c roles flags q
  short_below h n = record { behind = b; held = elim (h b.row.0 b.row.1) [ inl s ↦ s | inr s ↦ absurd (n s.0) ] }

  pub short_above : IsShort roles flags q → IsPositive b.row.0.constant → IsShortAbove told names c roles flags q
  short_above h p = record { behind = b; held = elim (h b.row.0 b.row.1) [ inl s ↦ absurd (low_not_high b.row.0.constant s.0 p) | inr s ↦ s ] }

  module _ (own : Row) (at : IsAt roles q (Basic own)) where
    pub held_below : HoldBelow flags own → StaysBelow told c.form
    held_below h =
        let d = tableau roles flags (b.stored.forms ++ c.form ∷ []) in
        let here : row_of q (Basic own) ≡ row_of q (role_at roles q) = ap (row_of q) (sym (role_is roles q (Basic own) at)) in
        record {
          value = own.constant;
          greatest = subst (λ f. IsGreatest told f own.constant) (form_here told names c roles flags q b)
              (subst (λ r. IsGreatest told (form_at (b.stored.forms ++ c.form ∷ []) q) r.constant) (sym here)
              (top d told b.keeps.invariant.sound q (row_below told names c roles flags q b)
              (subst (λ r. IsOptimal d r.live) here
              (optimal_of roles flags (b.stored.forms ++ c.form ∷ []) own.live (λ m k. (below_entry flags own.live h.1 m k).0) (λ m k. (below_entry flags own.live h.1 m k).1)))));
          below = h.0;
        }

    pub held_above : HoldAbove flags own → StaysBelow told (negated_form c.form)
    held_above h =
        let d = tableau (turned roles q) flags (b.stored.forms ++ negated_form c.form ∷ []) in
        let there : IsAt (turned roles q) q (Basic (opposite_row own)) = turned_at roles q (Basic own) at in
        let here : row_of q (Basic (opposite_row own)) ≡ row_of q (role_at (turned roles q) q) = ap (row_of q) (sym (role_is (turned roles q) q (Basic (opposite_row own)) there)) in
        record {
          value = neg_ℚ own.constant;
          greatest = subst (λ f. IsGreatest told f (neg_ℚ own.constant)) own_form
              (subst (λ r. IsGreatest told (form_at (b.stored.forms ++ negated_form c.form ∷ []) q) r.constant) (sym here)
              (top d told opposite_speaks.sound q (at_below (turned roles q) q (Basic (opposite_row own)) there)
              (subst (λ r. IsOptimal d r.live) here
              (optimal_of (turned roles q) flags (b.stored.forms ++ negated_form c.form ∷ []) (rows.negated own.live)
              (λ m k. (above_entry flags own.live h.1 m k).0) (λ m k. (above_entry flags own.live h.1 m k).1)))));
          below = negative_below own.constant h.0;
        }

-- it stays so at each solution
pub stays_below : (told : List Constraint) (names : List Name) (c : Constraint) (roles : List Role) (flags : List Bool) (q : ℕ) → IsShortBelow told names c roles flags q
    → StaysBelow told c.form
stays_below told names c roles flags q s = held_below told names c roles flags q s.behind s.behind.row.0 s.behind.row.1 s.held

pub stays_above : (told : List Constraint) (names : List Name) (c : Constraint) (roles : List Role) (flags : List Bool) (q : ℕ) → IsShortAbove told names c roles flags q
    → StaysBelow told (negated_form c.form)
stays_above told names c roles flags q s = held_above told names c roles flags q s.behind s.behind.row.0 s.behind.row.1 s.held

-- ---- where the search ends
pub level_spent : (told : List Constraint) (names : List Name) (c : Constraint) (roles : List Role) (flags : List Bool) (q : ℕ) → IsRowBehind told names c roles flags q
    → (n : ℕ) → SpendsLevel q roles flags n → MayTake told (Only c) NoQuestion n
level_spent told names c roles flags q b n p = spent_here told names c p.from flags q (moved_behind told names c roles flags q b p.from (carried_stays q roles flags p.from p.carried)) n p.up p.last p.spent

-- ---- a constraint that is to join, where its form is placed
pub joining : (told : List Constraint) (names : List Name) (c : Constraint) (before now : Quantities) → now ≡ before → IsStored told names before
    → (entries places : List Entry) → places ≡ entries → IsPlaced names c.form.products entries → IsForm c.form → (constant : ℚ) → constant ≡ c.form.constant
    → IsToJoin told names c now places constant
joining told names c before now e s entries places f p ordered constant g = record {
  stored = subst (IsStored told names) (sym e) s;
  placed = subst (IsPlaced names c.form.products) (sym f) p;
  ordered = ordered;
  constant_is = g;
}

-- ---- the row is made
pub joining_behind : (told : List Constraint) (names : List Name) (c : Constraint) (q : Quantities) (places : List Entry) (constant : ℚ)
    → IsToJoin told names c q places constant → (new : Quantities) → AddsRow q.roles places constant new.roles → DefinesLast q.roles places constant new.roles
    → AreOverColumns new.roles → new.restricted ≡ q.restricted ++ false ∷ [] → (n : ℕ) → n ≡ length q.roles → IsRowBehind told names c new.roles new.restricted n
joining_behind told names c q places constant j new a d table flags n e =
    asked_behind told names q j.stored c names new n (record {
      entries = places;
      before = q;
      stays = λ l h. h;
      placed = j.placed;
      row = subst (λ k. AddsRow q.roles places k new.roles) j.constant_is a;
      defines = subst (λ k. DefinesLast q.roles places k new.roles) j.constant_is d;
      table = table;
      flags = flags;
      number = e;
    })

-- an operation of making it refuses the pair
pub joining_refused : (told : List Constraint) (names : List Name) (c : Constraint) (q : Quantities) (places : List Entry) (constant : ℚ)
    → IsToJoin told names c q places constant → (pair : Pair) → RefusesForm q.roles places constant pair → MayRefuse told (Only c) NoQuestion pair
joining_refused told names c q places constant j pair r =
    asking_refused told names q j.stored c.form (Only c) NoQuestion (of_joining c refl) pair (record {
      entries = places;
      new_names = names;
      before = q;
      stays = λ l h. h;
      placed = j.placed;
      ordered = j.ordered;
      refused = subst (λ k. RefusesForm q.roles places k pair) j.constant_is r;
    })
