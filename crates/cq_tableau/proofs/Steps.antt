-- What each call of a dictionary makes of the tableau.
use Rattle.std.proofs.Common.{◌≡◌, ℕ, zero, suc, ◌+◌, ◌<◌, List, [], ◌∷◌, ◌++◌, length, Bool, true, false, ◌⊎◌, inl, inr, arith, length-append, refl, ap, ap₂, sym, subst, ◌∙◌}
use Rattle.std.specs.Prelude.{slice_set, ◌==◌}
use Rattle.std.proofs.lemmas.List.{get_or_append_left}
use Rattle.std.proofs.Math.Seq.{get_or-append_seam}
use Rattle.spec_numbers.proofs.Tests.{nat_eq-apart, nat_eq-self}
use Rattle.std.proofs.lemmas.Bool.{cond-true, cond-false}
use Rattle.spec_numbers.specs.Rational.{ℚ, 0ℚ, ◌+ℚ◌, ◌*ℚ◌, IsNotNegative}
use Rattle.spec_numbers.specs.Sums.{Monomial, Mentions}
use Rattle.spec_numbers.proofs.Sums.{sum_at-agrees}
use Rattle.spec_linear.specs.Form.{Linear, value_at, variable_form, constant_form, changed_at}
use Rattle.spec_linear.specs.Solution.{Has}
use Rattle.spec_linear.proofs.Values.{value_at-variable_form}
use Rattle.spec_simplex.specs.Tableau.{AllIn, Changed, Exchanged, IsFeasible}
use Rattle.cq_frac.specs.declared.row.Entry.{Entry}
use Rattle.cq_frac.specs.Row.{Row}
use Rattle.cq_frac.specs.Rows as rows
use Rattle.cq_dict.specs.declared.table.Role.{Role}
use Rattle.cq_dict.specs.declared.table.Role.TheVariants.{Live, Dropped, Basic}
use Rattle.cq_dict.specs.Roles.{IsRow, AreOverColumns, IsMet, IsExchanged, is_live, is_dropped, is_restricted, dropped_role, role_at}
use Rattle.cq_dict.specs.Dict.{SameMeaning, DefinesLast}
use Rattle.cq_dict.proofs.Roles.{live_at, role_dropped, role_live, at_below}
use Rattle.cq_dict.proofs.Free.{sum_agrees}
use Rattle.cq_simplex.proofs.Roles.{dropped_after}
use Rattle.cq_tableau.specs.Forms.{row_of, form_at, tableau, Describes}

-- ---- flags
pub flag_set : (flags : List Bool) (r : ℕ) → r < length flags → is_restricted (slice_set flags r true) r ≡ true
flag_set [] r h = absurd (omega (arith, h))
flag_set (b ∷ flags) zero h = refl
flag_set (b ∷ flags) (suc r) h = flag_set flags r (omega (arith, h))

pub flag_still : (flags : List Bool) (r z : ℕ) → is_restricted flags z ≡ true → is_restricted (slice_set flags r true) z ≡ true
flag_still [] r z e = e
flag_still (b ∷ flags) zero zero e = refl
flag_still (b ∷ flags) zero (suc z) e = e
flag_still (b ∷ flags) (suc r) zero e = e
flag_still (b ∷ flags) (suc r) (suc z) e = flag_still flags r z e

pub flag_only : (flags : List Bool) (r z : ℕ) → is_restricted (slice_set flags r true) z ≡ true → Has z (r ∷ []) ⊎ (is_restricted flags z ≡ true)
flag_only [] r z e = inr e
flag_only (b ∷ flags) zero zero e = inl (inl refl)
flag_only (b ∷ flags) zero (suc z) e = inr e
flag_only (b ∷ flags) (suc r) zero e = inr e
flag_only (b ∷ flags) (suc r) (suc z) e = elim (flag_only flags r z e) [ inl (inl h) ↦ inl (inl (ap suc h)) | inl (inr h) ↦ absurd h | inr h ↦ inr h ]

pub flag_more : (flags : List Bool) (z : ℕ) → is_restricted (flags ++ false ∷ []) z ≡ is_restricted flags z
flag_more [] zero = refl
flag_more [] (suc z) = refl
flag_more (b ∷ flags) zero = refl
flag_more (b ∷ flags) (suc z) = flag_more flags z

-- ---- roles behind others
pub dropped_more : (roles : List Role) (t : Role) → dropped_role t ≡ false → (z : ℕ) → is_dropped (roles ++ t ∷ []) z ≡ is_dropped roles z
dropped_more [] t n zero = n
dropped_more [] t n (suc z) = refl
dropped_more (s ∷ roles) t n zero = refl
dropped_more (s ∷ roles) t n (suc z) = dropped_more roles t n z

role_more : (roles : List Role) (t : Role) (z : ℕ) → z < length roles → role_at (roles ++ t ∷ []) z ≡ role_at roles z
role_more [] t z h = absurd (omega (arith, h))
role_more (s ∷ roles) t zero h = refl
role_more (s ∷ roles) t (suc z) h = role_more roles t z (omega (arith, h))

pub more_length : (roles : List Role) (t : Role) → length (roles ++ t ∷ []) ≡ length roles + 1
more_length roles t = length-append roles (t ∷ [])

pub form_more : (forms : List Linear) (f : Linear) (z : ℕ) → z < length forms → form_at (forms ++ f ∷ []) z ≡ form_at forms z
form_more forms f z h = get_or_append_left forms (f ∷ []) (constant_form 0ℚ) z h

pub form_last : (forms : List Linear) (f : Linear) → form_at (forms ++ f ∷ []) (length forms) ≡ f
form_last forms f = get_or-append_seam forms f [] (constant_form 0ℚ)

-- rows over columns look at quantities that are there alone
pub met_agrees : (roles : List Role) → AreOverColumns roles → (x y : ℕ → ℚ) → ((q : ℕ) → q < length roles → x q ≡ y q) → IsMet x roles → IsMet y roles
met_agrees roles table x y h m = record {
  rows = λ i r a.
      sym (h i (at_below roles i (Basic r) a)) ∙ m.rows i r a
      ∙ ap₂ (λ p q. r.constant +ℚ (p +ℚ q))
      (sum_agrees (is_live roles) 0 x y r.live (table.rows i r a).live_row (λ c e. h c (at_below roles c Live (role_live roles c e))))
      (sum_agrees (is_dropped roles) 0 x y r.dropped (table.rows i r a).dropped_row (λ c e. h c (at_below roles c Dropped (role_dropped roles c e))));
}

-- ---- an exchange after which the leaving row is restricted
module _ (old new : List Role) (flags : List Bool) (forms : List Linear) (r c : ℕ) (row : IsRow old r) (live : is_live old c ≡ true) (x : IsExchanged old r c new) where
  not_row : (z : ℕ) → is_live old z ≡ true → z ≡ r → ⊥
  not_row z l e = clash (is_live old r) (live_at old r (Basic row.0) row.1) (subst (λ y. is_live old y ≡ true) e l)
    where
      clash : (b : Bool) → b ≡ false → b ≡ true → ⊥
      clash b n p = cc

  pub exchanged : length flags ≡ length old → Exchanged (tableau old flags forms) (tableau new (slice_set flags r true) forms) r c (r ∷ [])
  exchanged size =
      let made : r < length old = at_below old r (Basic row.0) row.1 in
      record {
        changed = record {
          count = let e = x.size in omega arith;
          form = λ z h. refl;
          drops_made = λ z k. absurd k;
          drops_each = λ z k. absurd k;
          dropped_still = λ z k. dropped_after old new r c row live x z ∙ k;
          dropped_only = λ z k. inr (sym (dropped_after old new r c row live x z) ∙ k);
          restricts_made = λ z k. elim k [ inl e ↦ subst (λ y. y < length old) (sym e) made | inr e ↦ absurd e ];
          restricts_each = λ z k. elim k [
            | inl e ↦ subst (λ y. is_restricted (slice_set flags r true) y ≡ true) (sym e) (flag_set flags r (subst (λ n. r < n) (sym size) made))
            | inr e ↦ absurd e
          ];
          restricted_still = λ z k. flag_still flags r z k;
          restricted_only = λ z k. flag_only flags r z k;
        };
        made = made;
        column = live;
        leaves = live_at new r Live x.leaves;
        others = λ z l n. (x.others z (not_row z l) n).live ∙ l;
      }

-- nothing changes
pub unchanged : (roles : List Role) (flags : List Bool) (forms : List Linear) → Changed (tableau roles flags forms) (tableau roles flags forms) [] []
unchanged roles flags forms = record {
  count = omega arith;
  form = λ z h. refl;
  drops_made = λ z k. absurd k;
  drops_each = λ z k. absurd k;
  dropped_still = λ z k. k;
  dropped_only = λ z k. inr k;
  restricts_made = λ z k. absurd k;
  restricts_each = λ z k. absurd k;
  restricted_still = λ z k. k;
  restricted_only = λ z k. inr k;
}

-- a restricted row
pub restricted : (roles : List Role) (flags : List Bool) (forms : List Linear) (r : ℕ) → r < length roles → length flags ≡ length roles
    → Changed (tableau roles flags forms) (tableau roles (slice_set flags r true) forms) [] (r ∷ [])
restricted roles flags forms r made size = record {
  count = omega arith;
  form = λ z h. refl;
  drops_made = λ z k. absurd k;
  drops_each = λ z k. absurd k;
  dropped_still = λ z k. k;
  dropped_only = λ z k. inr k;
  restricts_made = λ z k. elim k [ inl e ↦ subst (λ y. y < length roles) (sym e) made | inr e ↦ absurd e ];
  restricts_each = λ z k. elim k [
    | inl e ↦ subst (λ y. is_restricted (slice_set flags r true) y ≡ true) (sym e) (flag_set flags r (subst (λ n. r < n) (sym size) made))
    | inr e ↦ absurd e
  ];
  restricted_still = λ z k. flag_still flags r z k;
  restricted_only = λ z k. flag_only flags r z k;
}

-- ---- a row more
module _ (roles : List Role) (flags : List Bool) (forms : List Linear) (table : AreOverColumns roles) (d : Describes roles forms) (f : Linear) where
  forms_more : (z : ℕ) → z < length roles → form_at (forms ++ f ∷ []) z ≡ form_at forms z
  forms_more z h = form_more forms f z (subst (λ n. z < n) (sym d.size) h)

  last_form : form_at (forms ++ f ∷ []) (length roles) ≡ f
  last_form = ap (form_at (forms ++ f ∷ [])) (sym d.size) ∙ form_last forms f

  sizes_more : (t : Role) → length (forms ++ f ∷ []) ≡ length (roles ++ t ∷ [])
  sizes_more t = length-append forms (f ∷ []) ∙ ap (λ n. n + 1) d.size ∙ sym (more_length roles t)

  pub changed_more : (t : Role) → dropped_role t ≡ false
      → Changed (tableau roles flags forms) (tableau (roles ++ t ∷ []) (flags ++ false ∷ []) (forms ++ f ∷ [])) [] []
  changed_more t n = record {
    count = let e = more_length roles t in omega arith;
    form = forms_more;
    drops_made = λ z k. absurd k;
    drops_each = λ z k. absurd k;
    dropped_still = λ z k. dropped_more roles t n z ∙ k;
    dropped_only = λ z k. inr (sym (dropped_more roles t n z) ∙ k);
    restricts_made = λ z k. absurd k;
    restricts_each = λ z k. absurd k;
    restricted_still = λ z k. flag_more flags z ∙ k;
    restricted_only = λ z k. inr (sym (flag_more flags z) ∙ k);
  }

  all_in_more : (s : List Monomial) → AllIn (is_restricted flags) s → AllIn (is_restricted (flags ++ false ∷ [])) s
  all_in_more [] a = tt
  all_in_more (m ∷ s) a = (flag_more flags m.variable ∙ a.0, all_in_more s a.1)

  -- nothing more is restricted
  pub feasible_more : (t : Role) → ((z : ℕ) → is_restricted flags z ≡ true → z < length roles) → IsFeasible (tableau roles flags forms)
      → IsFeasible (tableau (roles ++ t ∷ []) (flags ++ false ∷ []) (forms ++ f ∷ []))
  feasible_more t made i = record {
    constants = λ z h k. let e = sym (flag_more flags z) ∙ k in
        subst (λ s. IsNotNegative (row_of z s).constant) (sym (role_more roles t z (made z e))) (i.constants z (made z e) e);
    columns = λ z h k. let e = sym (flag_more flags z) ∙ k in
        all_in_more (row_of z (role_at (roles ++ t ∷ []) z)).live
        (subst (λ s. AllIn (is_restricted flags) (row_of z s).live) (sym (role_more roles t z (made z e))) (i.columns z (made z e) e));
  }

  numbers_more : (v : ℕ → ℚ) (z : ℕ) → z < length roles → value_at v (form_at forms z) ≡ value_at v (form_at (forms ++ f ∷ []) z)
  numbers_more v z h = ap (value_at v) (sym (forms_more z h))

  below_sum : (x y : ℕ → ℚ) → ((z : ℕ) → z < length roles → x z ≡ y z) → (s : List Entry) → ((m : Entry) → rows.Has m s → m.quantity < length roles)
      → rows.sum_at x s ≡ rows.sum_at y s
  below_sum x y h [] k = refl
  below_sum x y h (m ∷ s) k = ap₂ (λ p q. m.factor *ℚ p +ℚ q) (h m.quantity (k m (inl refl))) (below_sum x y h s (λ n i. k n (inr i)))

  -- the row of a form over quantities that are there
  pub described_row : (s : List Entry) (constant : ℚ) (row : Row) → ((m : Entry) → rows.Has m s → m.quantity < length roles)
      → DefinesLast roles s constant (roles ++ Basic row ∷ [])
      → ((v : ℕ → ℚ) → value_at v f ≡ constant +ℚ rows.sum_at (λ q. value_at v (form_at forms q)) s)
      → Describes (roles ++ Basic row ∷ []) (forms ++ f ∷ [])
  described_row s constant row below defines is = record {
    size = sizes_more (Basic row);
    agrees = λ v.
        let x : ℕ → ℚ = λ q. value_at v (form_at (forms ++ f ∷ []) q) in
        (defines x).1 (
          met_agrees roles table (λ q. value_at v (form_at forms q)) x (numbers_more v) (d.agrees v),
          ap (value_at v) last_form ∙ is v
              ∙ ap (λ b. constant +ℚ b) (below_sum (λ q. value_at v (form_at forms q)) x (numbers_more v) s below),
        );
    defines = λ x m.
        let o = (defines x).0 m in
        let v = d.defines x o.0 in
        (v.0, λ q h. each x o.1 v.0 v.1 q (under q h));
  }
    where
      under : (q : ℕ) → q < length (roles ++ Basic row ∷ []) → (q < length roles) ⊎ (q ≡ length roles)
      under q h = let e = more_length roles (Basic row) in grind arith

      each : (x : ℕ → ℚ) → x (length roles) ≡ constant +ℚ rows.sum_at x s → (v : ℕ → ℚ)
          → ((q : ℕ) → q < length roles → value_at v (form_at forms q) ≡ x q) → (q : ℕ) → (q < length roles) ⊎ (q ≡ length roles)
          → value_at v (form_at (forms ++ f ∷ []) q) ≡ x q
      each x last v e q (inl h) = sym (numbers_more v q h) ∙ e q h
      each x last v e q (inr h) =
          ap (λ z. value_at v (form_at (forms ++ f ∷ []) z)) h ∙ ap (value_at v) last_form ∙ is v
          ∙ ap (λ b. constant +ℚ b) (below_sum (λ z. value_at v (form_at forms z)) x e s below) ∙ sym last ∙ ap x (sym h)

-- ---- a new variable's column
module _ (roles : List Role) (flags : List Bool) (forms : List Linear) (table : AreOverColumns roles) (d : Describes roles forms) (x : ℕ)
    (new : (q : ℕ) → q < length roles → Mentions x (form_at forms q).products → ⊥) where
  other_value : (v : ℕ → ℚ) (r : ℚ) (q : ℕ) → q < length roles → value_at (changed_at x r v) (form_at forms q) ≡ value_at v (form_at forms q)
  other_value v r q h =
      ap (λ b. (form_at forms q).constant +ℚ b)
      (sum_at-agrees (changed_at x r v) v (form_at forms q).products
      (λ y m. cond-false (x == y) r (v y) (nat_eq-apart x y (λ e. new q h (subst (λ z. Mentions z (form_at forms q).products) (sym e) m)))))

  pub described_column : SameMeaning roles (roles ++ Live ∷ []) → Describes (roles ++ Live ∷ []) (forms ++ variable_form x ∷ [])
  described_column same = record {
    size = sizes_more roles flags forms table d (variable_form x) Live;
    agrees = λ v.
        (same (λ q. value_at v (form_at (forms ++ variable_form x ∷ []) q))).0
        (met_agrees roles table (λ q. value_at v (form_at forms q)) (λ q. value_at v (form_at (forms ++ variable_form x ∷ []) q))
        (numbers_more roles flags forms table d (variable_form x) v) (d.agrees v));
    defines = λ y m.
        let v = d.defines y ((same y).1 m) in
        (changed_at x (y (length roles)) v.0, λ q h. each y v.0 v.1 q (under q h));
  }
    where
      under : (q : ℕ) → q < length (roles ++ Live ∷ []) → (q < length roles) ⊎ (q ≡ length roles)
      under q h = let e = more_length roles Live in grind arith

      each : (y v : ℕ → ℚ) → ((q : ℕ) → q < length roles → value_at v (form_at forms q) ≡ y q) → (q : ℕ) → (q < length roles) ⊎ (q ≡ length roles)
          → value_at (changed_at x (y (length roles)) v) (form_at (forms ++ variable_form x ∷ []) q) ≡ y q
      each y v e q (inl h) =
          sym (numbers_more roles flags forms table d (variable_form x) (changed_at x (y (length roles)) v) q h)
          ∙ other_value v (y (length roles)) q h ∙ e q h
      each y v e q (inr h) =
          let w : ℕ → ℚ = changed_at x (y (length roles)) v in
          ap (λ z. value_at w (form_at (forms ++ variable_form x ∷ []) z)) h ∙ ap (value_at w) (last_form roles flags forms table d (variable_form x))
          ∙ value_at-variable_form w x ∙ cond-true (x == x) (y (length roles)) (v x) (nat_eq-self x) ∙ ap y (sym h)
