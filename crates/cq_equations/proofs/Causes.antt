-- The pairs of the table's steps are pairs that may overflow.
use Rattle.std.proofs.Common.{◌≡◌, ℕ, ◌+◌, List, [], ◌∷◌, ◌++◌, Bool, true, refl, ap, ap₂, sym, subst, ◌∙◌, pos, inl, inr}
use Rattle.spec_numbers.specs.Rational.{ℚ, 0ℚ, 1ℚ, ◌+ℚ◌, ◌*ℚ◌, ◌/ℚ◌}
use Rattle.spec_numbers.specs.Sums.{Monomial, Mentions, sum_at}
use Rattle.spec_numbers.proofs.Ring.{var, int, ◌⊕◌}
use Rattle.spec_numbers.proofs.RationalLemmas.{ring}
use Rattle.spec_linear.specs.Form.{Linear, IsForm, variable_form}
use Rattle.spec_linear.specs.Solution.{Constraint, Has}
use Rattle.spec_linear.proofs.Denominators.{has_left, has_right}
use Rattle.spec_linear.proofs.Values.{value_at-variable_form}
use Rattle.spec_simplex.specs.LimitsDictionary.{Quantity, variable}
use Rattle.spec_simplex.specs.Overflow.{Moment, settling, IsInUse, beside_feasible, IsRow, asked_row, quantity_row, Row as Numbered, RowIndex, constant, column, IsRowIndex, number_at, Exchange, Adding, Makes, scaled, added, quotient, inverse, product, product_inverse, difference}
use Rattle.spec_simplex.proofs.LimitsWritten.{asked_mentions}
use Rattle.cq_frac.specs.declared.Operation.{Operation}
use Rattle.cq_frac.specs.declared.Operation.TheVariants.{Difference, Product as Times, Quotient}
use Rattle.cq_frac.specs.declared.row.Entry.{Entry}
use Rattle.cq_frac.specs.Row.{Row}
use Rattle.cq_frac.specs.Rows as row
use Rattle.cq_frac.specs.Numbers as own
use Rattle.cq_frac.specs.Numbers.{IsOver, IsNumber, constant_number, live_number, dropped_number}
use Rattle.cq_frac.proofs.Shifts.{passes}
use Rattle.cq_frac.proofs.Units.{at_unit, no_entry}
use Rattle.cq_dict.specs.declared.table.Role.{Role}
use Rattle.cq_dict.specs.declared.table.Role.TheVariants.{Live, Dropped, Basic}
use Rattle.cq_dict.specs.Roles.{IsAt, is_live, is_dropped, AreOverColumns, IsMet, Expresses, HasEntry, FormPair, form_product, form_sum, PivotPair, pivot_quotient, pivot_inverse, pivot_product, pivot_product_inverse, pivot_difference}
use Rattle.cq_dict.specs.Roles as table
use Rattle.cq_equations.specs.Describes.{Agree, Describes, IsSolved, AllKnown, Known, members_from, numbers, placed}
use Rattle.cq_dict.proofs.Roles.{role_live, role_dropped, at_one}
use Rattle.cq_equations.proofs.Dictionary.{dictionary, row_written, has_either}
use Rattle.cq_equations.proofs.Feasible.{feasible, rest}

-- ---- numbers at places
pub not_both : (roles : List Role) (c : ℕ) → is_live roles c ≡ true → is_dropped roles c ≡ true → ⊥
not_both roles c h k = let w = at_one roles c Live Dropped (role_live roles c h) (role_dropped roles c k) in cc

module _ (roles : List Role) (place : Quantity → ℕ) (r : Row) (o : IsOver (is_live roles) (is_dropped roles) r) (q : Quantity) (n : Entry) (e : place q ≡ n.quantity) where
  pub number_live : row.Has n r.live → (numbers place r).entry q ≡ n.factor
  number_live h =
      ap (λ c. row.sum_at (row.unit c) r.live +ℚ row.sum_at (row.unit c) r.dropped) e
      ∙ ap₂ (λ a b. a +ℚ b) (at_unit (is_live roles) 0 r.live n o.live_row h)
      (no_entry n.quantity r.dropped (λ m k f. not_both roles n.quantity (passes (is_live roles) 0 r.live n o.live_row h) (subst (λ c. is_dropped roles c ≡ true) f (passes (is_dropped roles) 0 r.dropped m o.dropped_row k))))
      ∙ ring (n.factor ∷ []) (var 0 ⊕ int (pos 0)) (var 0) refl

  pub number_dropped : row.Has n r.dropped → (numbers place r).entry q ≡ n.factor
  number_dropped h =
      ap (λ c. row.sum_at (row.unit c) r.live +ℚ row.sum_at (row.unit c) r.dropped) e
      ∙ ap₂ (λ a b. a +ℚ b)
      (no_entry n.quantity r.live (λ m k f. not_both roles n.quantity (subst (λ c. is_live roles c ≡ true) f (passes (is_live roles) 0 r.live m o.live_row k)) (passes (is_dropped roles) 0 r.dropped n o.dropped_row h)))
      (at_unit (is_dropped roles) 0 r.dropped n o.dropped_row h)
      ∙ ring (n.factor ∷ []) (int (pos 0) ⊕ var 0) (var 0) refl

pub never_zero : (t : ℕ → Bool) (lo : ℕ) (s : List Entry) (m : Entry) → row.IsRowFrom t lo s → row.Has m s → m.factor ≡ 0ℚ → ⊥
never_zero t lo [] m r h z = h
never_zero t lo (x ∷ s) m r (inl e) z = r.2 (ap (λ (y : Entry). y.factor) (sym e) ∙ z)
never_zero t lo (x ∷ s) m r (inr h) z = never_zero t (x.quantity + 1) s m r.3 h z

-- ---- forms over variables and over quantities
split_placed : (place : Quantity → ℕ) (s : List Monomial) (earlier later : List Entry) (m : Entry) → placed place s ≡ earlier ++ m ∷ later →
    (before : List Monomial) × (n : Monomial) × (after : List Monomial) × (s ≡ before ++ n ∷ after) × (placed place before ≡ earlier) × (record { quantity = place (variable n.variable); factor = n.factor } ≡ m)
split_placed place [] [] later m e = cc
split_placed place [] (x ∷ earlier) later m e = cc
split_placed place (n ∷ s) [] later m e = ([], n, s, refl, refl, (cc))
split_placed place (n ∷ s) (x ∷ earlier) later m e =
    let f : placed place s ≡ earlier ++ m ∷ later = cc in
    let g : record { quantity = place (variable n.variable); factor = n.factor } ≡ x = cc in
    let r = split_placed place s earlier later m f in
    (n ∷ r.0, r.1, r.2, ap (λ t. n ∷ t) r.3, ap₂ (λ a b. a ∷ b) g r.4, r.5)

mentions_here : (before after : List Monomial) (n : Monomial) → Mentions n.variable (before ++ n ∷ after)
mentions_here [] after n = inl refl
mentions_here (x ∷ before) after n = inr (mentions_here before after n)

mentions_more : (x : ℕ) (s t : List Monomial) → Mentions x s → Mentions x (s ++ t)
mentions_more x [] t h = absurd h
mentions_more x (n ∷ s) t (inl e) = inl e
mentions_more x (n ∷ s) t (inr h) = inr (mentions_more x s t h)

pub placed_sum : (place : Quantity → ℕ) (v x : ℕ → ℚ) (s : List Monomial) → ((y : ℕ) → Mentions y s → x (place (variable y)) ≡ v y) → row.sum_at x (placed place s) ≡ sum_at v s
placed_sum place v x [] h = refl
placed_sum place v x (n ∷ s) h = ap₂ (λ a b. n.factor *ℚ a +ℚ b) (h n.variable (inl refl)) (placed_sum place v x s (λ y k. h y (inr k)))

-- what a call that works in one table for one list asks
abbrev pub at_work : List Constraint → List Linear → Moment
at_work l asked = record { stage = settling; list = l; asked = asked; operations = []; rows = [] }

makes_same : (m : Moment) (o : Operation) (a b c d : ℚ) → a ≡ c → b ≡ d → Makes m o a b → Makes m o c d
makes_same m o a b c d e f h = subst (λ y. Makes m o c y) f (subst (λ x. Makes m o x b) e h)

-- a table of solved equations is in use
pub solved_in_use : (l : List Constraint) (asked : List Linear) (roles : List Role) (place : Quantity → ℕ) (live gone : List Quantity) → AreOverColumns roles
    → Describes l asked roles place live gone → IsSolved l roles place gone → IsInUse (at_work l asked) [] (live ++ gone)
solved_in_use l asked roles place live gone is_table d solved = beside_feasible (record {
  own = dictionary l asked roles place live gone is_table d;
  all_zeros = members_from 0 l;
  live = live;
  feasible = feasible l asked roles place live gone is_table d solved;
  part = λ q h. absurd h;
  rest = rest l asked roles place live gone is_table d solved;
})

module _ (l : List Constraint) (asked : List Linear) (roles : List Role) (place : Quantity → ℕ) (live gone : List Quantity) (is_table : AreOverColumns roles)
    (d : Describes l asked roles place live gone) (in_use : IsInUse (at_work l asked) [] (live ++ gone)) where
  -- ---- where the numbers of a row stand

  abbrev Stands : own.Site → RowIndex → Type 0
  Stands own.at_constant p = p ≡ constant
  Stands (own.at_live c) p = (q : Quantity) × (place q ≡ c) × (p ≡ column q)
  Stands (own.at_dropped c) p = (q : Quantity) × (place q ≡ c) × (p ≡ column q)

  place_of_number : (r : Row) → IsOver (is_live roles) (is_dropped roles) r → {at : own.Site} {n : ℚ} → IsNumber r at n → (p : RowIndex) × IsRowIndex (live ++ gone) p × Stands at p
  place_of_number r o constant_number = (constant, tt, refl)
  place_of_number r o (live_number m h) = let e = d.each_live m.quantity (passes (is_live roles) 0 r.live m o.live_row h) in (column e.0, has_left e.0 live gone e.1, (e.0, e.2, refl))
  place_of_number r o (dropped_number m h) = let e = d.each_gone m.quantity (passes (is_dropped roles) 0 r.dropped m o.dropped_row h) in (column e.0, has_right e.0 live gone e.1, (e.0, e.2, refl))

  number_there : (r : Row) → IsOver (is_live roles) (is_dropped roles) r → {at : own.Site} {n : ℚ} → IsNumber r at n → (p : RowIndex) → Stands at p → number_at (numbers place r) p ≡ n
  number_there r o constant_number p e = ap (number_at (numbers place r)) e
  number_there r o (live_number m h) p s = ap (number_at (numbers place r)) s.2 ∙ number_live roles place r o s.0 m s.1 h
  number_there r o (dropped_number m h) p s = ap (number_at (numbers place r)) s.2 ∙ number_dropped roles place r o s.0 m s.1 h

  -- ---- adding an asked form

  module _ (f : Linear) (f_asked : Has f asked) (ordered : IsForm f) where
    agrees : (v x : ℕ → ℚ) → Agree l asked place v x → (y : ℕ) → Mentions y f.products → x (place (variable y)) ≡ v y
    agrees v x a y h = a.same (variable y) (inr (asked_mentions f asked y f_asked h)) ∙ value_at-variable_form v y

    module _ (earlier later : List Monomial) (n : Monomial) (split : f.products ≡ earlier ++ n ∷ later) (before own : Row)
        (b : Expresses roles (λ x. f.constant +ℚ row.sum_at x (placed place earlier)) before) (w : Expresses roles (λ x. x (place (variable n.variable))) own) where
      mention_n : Mentions n.variable f.products
      mention_n = subst (Mentions n.variable) (sym split) (mentions_here earlier later n)

      pub adding : Adding (at_work l asked)
      adding = record {
        zeros = [];
        columns = live ++ gone;
        in_use = in_use;
        form = f;
        is_asked = f_asked;
        ordered = ordered;
        earlier = earlier;
        now = n;
        later = later;
        split = split;
        numbers = numbers place own;
        written = row_written l asked roles place live gone is_table d (variable_form n.variable) own w.over (λ v x m a. sym (a.same (variable n.variable) (inr (asked_mentions f asked n.variable f_asked mention_n))) ∙ sym (w.value_is x m));
        before = numbers place before;
        gave = row_written l asked roles place live gone is_table d (record { products = earlier; constant = f.constant }) before b.over
            (λ v x m a. ap (λ s. f.constant +ℚ s) (sym (placed_sum place v x earlier (λ y h. agrees v x a y (subst (Mentions y) (sym split) (mentions_more y earlier (n ∷ later) h))))) ∙ sym (b.value_is x m));
      }

    record Split (a : table.Adding roles (placed place f.products) f.constant) : Type 0 where
      pub earlier : List Monomial
      pub now : Monomial
      pub later : List Monomial
      pub split : f.products ≡ earlier ++ now ∷ later
      pub factor : now.factor ≡ a.now.factor
      pub gave : Expresses roles (λ x. f.constant +ℚ row.sum_at x (placed place earlier)) a.before
      pub expresses : Expresses roles (λ x. x (place (variable now.variable))) a.own

    split_of : (a : table.Adding roles (placed place f.products) f.constant) → Split a
    split_of a =
        let s = split_placed place f.products a.earlier a.later a.now a.split in
        record {
          earlier = s.0;
          now = s.1;
          later = s.2;
          split = s.3;
          factor = ap (λ (z : Entry). z.factor) s.5;
          gave = subst (λ z. Expresses roles (λ x. f.constant +ℚ row.sum_at x z) a.before) (sym s.4) a.gave;
          expresses = subst (λ z. Expresses roles (λ x. x z) a.own) (sym (ap (λ (z : Entry). z.quantity) s.5)) a.expresses;
        }

    pub form_pairs : {o : Operation} {p q : ℚ} → FormPair roles (placed place f.products) f.constant o p q → Makes (at_work l asked) o p q
    unfolding adding
    form_pairs (form_product a at n h) =
        let s = split_of a in
        let t = place_of_number a.own s.expresses.over h in
        makes_same (at_work l asked) _ _ _ _ _ s.factor (number_there a.own s.expresses.over h t.0 t.2)
        (scaled (adding s.earlier s.later s.now s.split a.before a.own s.gave s.expresses) t.0 t.1)
    form_pairs (form_sum a at m n g h) =
        let s = split_of a in
        let t = place_of_number a.own s.expresses.over h in
        makes_same (at_work l asked) _ _ _ _ _ (number_there a.before s.gave.over g t.0 t.2) (ap₂ (λ x y. x *ℚ y) s.factor (number_there a.own s.expresses.over h t.0 t.2))
        (added (adding s.earlier s.later s.now s.split a.before a.own s.gave s.expresses) t.0 t.1)

  -- ---- an exchange

  module _ (known : AllKnown l asked roles place) where
    -- a row is no column
    no_column : (q : Quantity) (i : ℕ) (r : Row) → IsAt roles i (Basic r) → place q ≡ i → Has q (live ++ gone) → ⊥
    no_column q i r a e h =
        elim (has_either q live gone h) [
          | inl k ↦ let w = at_one roles i (Basic r) Live a (subst (λ c. IsAt roles c Live) e (role_live roles (place q) (d.live_is q k))) in cc
          | inr k ↦ let w = at_one roles i (Basic r) Dropped a (subst (λ c. IsAt roles c Dropped) e (role_dropped roles (place q) (d.gone_is q k))) in cc
        ]

    is_row : (i : ℕ) (r : Row) → IsAt roles i (Basic r) → (k : Known l asked roles place i) → IsRow (at_work l asked) (live ++ gone) k.form
    is_row i r a k =
        elim k.kind [
          | inl h ↦ subst (IsRow (at_work l asked) (live ++ gone)) h.3 (quantity_row h.0 h.1 (no_column h.0 i r a h.2))
          | inr h ↦ asked_row h
        ]

    pub numbered : (i : ℕ) (r : Row) → IsAt roles i (Basic r) → Numbered (at_work l asked) [] (live ++ gone)
    numbered i r a =
        let k = known i r a in
        record {
          form = k.form;
          is_row = is_row i r a k;
          numbers = numbers place r;
          written = row_written l asked roles place live gone is_table d k.form r (is_table.rows i r a) (λ v x m g. k.value v x m g ∙ m.rows i r a);
        }

    module _ (leaving c : ℕ) (x : HasEntry roles leaving c) where
      o : IsOver (is_live roles) (is_dropped roles) x.own
      o = is_table.rows leaving x.own x.is_row

      column_of : (q : Quantity) × Has q (live ++ gone) × (place q ≡ c)
      column_of = let e = d.each_live c (passes (is_live roles) 0 x.own.live (record { quantity = c; factor = x.factor }) o.live_row x.in_row) in (e.0, has_left e.0 live gone e.1, e.2)

      -- the entry of a row in the column
      entry_is : (i : ℕ) (y : HasEntry roles i c) → (numbers place y.own).entry column_of.0 ≡ y.factor
      entry_is i y = number_live roles place y.own (is_table.rows i y.own y.is_row) column_of.0 (record { quantity = c; factor = y.factor }) column_of.2 y.in_row

      pub exchange : Exchange (at_work l asked)
      unfolding numbered
      exchange = record {
        zeros = [];
        columns = live ++ gone;
        in_use = in_use;
        row = numbered leaving x.own x.is_row;
        column = column_of.0;
        is_column = column_of.1;
        not_zero = λ z. never_zero (is_live roles) 0 x.own.live (record { quantity = c; factor = x.factor }) o.live_row x.in_row (sym (entry_is leaving x) ∙ z);
      }

      quotient_due : {at : own.Site} {n : ℚ} → IsNumber x.own at n → Makes (at_work l asked) Quotient n x.factor
      unfolding exchange numbered
      quotient_due h =
          let t = place_of_number x.own o h in
          makes_same (at_work l asked) _ _ _ _ _ (number_there x.own o h t.0 t.2) (entry_is leaving x) (quotient exchange t.0 t.1)

      inverse_due : Makes (at_work l asked) Quotient 1ℚ x.factor
      unfolding exchange numbered
      inverse_due = makes_same (at_work l asked) _ _ _ _ _ refl (entry_is leaving x) (inverse exchange)

      product_due : (i : ℕ) (y : HasEntry roles i c) → {at : own.Site} {n : ℚ} → IsNumber x.own at n → Makes (at_work l asked) Times y.factor (n /ℚ x.factor)
      unfolding exchange numbered
      product_due i y h =
          let t = place_of_number x.own o h in
          makes_same (at_work l asked) _ _ _ _ _ (entry_is i y) (ap₂ (λ a b. a /ℚ b) (number_there x.own o h t.0 t.2) (entry_is leaving x)) (product exchange (numbered i y.own y.is_row) t.0 t.1)

      product_inverse_due : (i : ℕ) (y : HasEntry roles i c) → Makes (at_work l asked) Times y.factor (1ℚ /ℚ x.factor)
      unfolding exchange numbered
      product_inverse_due i y = makes_same (at_work l asked) _ _ _ _ _ (entry_is i y) (ap (λ b. 1ℚ /ℚ b) (entry_is leaving x)) (product_inverse exchange (numbered i y.own y.is_row))

      difference_due : (i : ℕ) (y : HasEntry roles i c) → {at : own.Site} {m n : ℚ} → IsNumber y.own at m → IsNumber x.own at n → Makes (at_work l asked) Difference m (y.factor *ℚ (n /ℚ x.factor))
      unfolding exchange numbered
      difference_due i y g h =
          let t = place_of_number x.own o h in
          makes_same (at_work l asked) _ _ _ _ _ (number_there y.own (is_table.rows i y.own y.is_row) g t.0 t.2)
          (ap₂ (λ a b. a *ℚ b) (entry_is i y) (ap₂ (λ a b. a /ℚ b) (number_there x.own o h t.0 t.2) (entry_is leaving x)))
          (difference exchange (numbered i y.own y.is_row) t.0 t.1)

    pub pivot_pairs : (leaving c : ℕ) {a : Operation} {x y : ℚ} → PivotPair roles leaving c a x y → Makes (at_work l asked) a x y
    pivot_pairs leaving c (pivot_quotient x at n h) = quotient_due leaving c x h
    pivot_pairs leaving c (pivot_inverse x) = inverse_due leaving c x
    pivot_pairs leaving c (pivot_product x i y ne at n h) = product_due leaving c x i y h
    pivot_pairs leaving c (pivot_product_inverse x i y ne) = product_inverse_due leaving c x i y
    pivot_pairs leaving c (pivot_difference x i y ne at m n g h) = difference_due leaving c x i y g h
