-- Roles make a linked tableau, and answers of the search say what the laws of a store ask.
use Rattle.std.proofs.Common.{◌≡◌, ℕ, zero, suc, ◌+◌, ◌<◌, List, [], ◌∷◌, length, Bool, true, false, nat_eq, inl, inr, pos, arith, refl, ap, ap₂, sym, subst, ◌∙◌}
use Rattle.spec_numbers.specs.Rational.{ℚ, 0ℚ, 1ℚ, ◌+ℚ◌, ◌*ℚ◌, neg_ℚ, IsPositive, IsNotNegative, ◌<ℚ◌}
use Rattle.spec_numbers.specs.Sums.{Monomial, factor_of}
use Rattle.spec_numbers.specs.Sums as sums
use Rattle.spec_numbers.proofs.Ring.{var, int, ◌⊕◌, ◌⊗◌}
use Rattle.spec_numbers.proofs.RationalLemmas.{ring}
use Rattle.spec_linear.specs.Form.{Linear, value_at}
use Rattle.spec_linear.specs.Solution.{Constraint, Satisfies}
use Rattle.spec_linear.specs.Weak.{weak}
use Rattle.spec_simplex.specs.Dictionary.{basic_solution}
use Rattle.spec_simplex.specs.Dictionary as of_simplex
use Rattle.cq_frac.proofs.Units.{at_unit}
use Rattle.spec_simplex.proofs.Steps.{exchanged}
use Rattle.spec_simplex.proofs.Linked.{linked_written}
use Rattle.cq_frac.specs.declared.row.Entry.{Entry}
use Rattle.cq_frac.specs.Row.{Row}
use Rattle.cq_frac.specs.Rows as rows
use Rattle.cq_frac.specs.Numbers as of_row
use Rattle.cq_dict.specs.declared.table.Role.{Role}
use Rattle.cq_dict.specs.declared.table.Role.TheVariants.{Live, Dropped, Basic}
use Rattle.cq_dict.specs.Roles.{AreOverColumns, IsMet, IsAt, is_live, is_dropped, is_restricted, role_at, constant_at, constant_in, factor_in}
use Rattle.cq_dict.specs.Dict.{SameMeaning}
use Rattle.cq_dict.proofs.Roles.{live_at, dropped_at, role_live, role_dropped, role_is, constant_is, factor_is, row_is, at_exists, at_below}
use Rattle.cq_simplex.specs.Dictionary.{dictionary}
use Rattle.cq_simplex.specs.Climbs.{IsCarried}
use Rattle.cq_simplex.specs.Answers.{IsSolution, IsMaximum, AreMultipliers, RisesWithoutEnd}
use Rattle.spec_simplex.specs.Reach.{Rises, IsGreatest}
use Rattle.spec_simplex.specs.Tableau.{numbers, AllIn, right_side, MeetsRows, IsShaped, Linked, Sound, IsOptimal, Changed, IsFeasible, HasFeasibleNumbers, Invariant}
use Rattle.spec_simplex.proofs.Extent.{Grows}
use Rattle.spec_numbers.proofs.Order.{lt_to_pos}
use Rattle.spec_numbers.proofs.Sign.{pos_nonneg, nonneg_zero}
use Rattle.spec_simplex.proofs.TableauWritten.{not_in, solves_weak, restricted_nonneg, rises_by_constant}
use Rattle.spec_numbers.proofs.Tests.{nat_eq-sym}
use Rattle.cq_form.specs.Entries.{products_of}
use Rattle.cq_tableau.specs.Forms.{row_of, form_at, tableau, Describes}

same_sum : (x : ℕ → ℚ) (s : List Entry) → sums.sum_at x (products_of s) ≡ rows.sum_at x s
same_sum x [] = refl
same_sum x (m ∷ s) = ap (λ q. m.factor *ℚ x m.quantity +ℚ q) (same_sum x s)

all_in : (p : ℕ → Bool) (lo : ℕ) (s : List Entry) → rows.IsRowFrom p lo s → AllIn p (products_of s)
all_in p lo [] h = tt
all_in p lo (m ∷ s) h = (h.1, all_in p (m.quantity + 1) s h.3)

same_right : (x : ℕ → ℚ) (q : ℕ) (r : Row) → right_side x (row_of q (Basic r)) ≡ of_row.right_side x r
same_right x q r = ap₂ (λ a b. r.constant +ℚ (a +ℚ b)) (same_sum x r.live) (same_sum x r.dropped)

pub flag_below : (flags : List Bool) (c : ℕ) → is_restricted flags c ≡ true → c < length flags
flag_below [] c h = cc
flag_below (b ∷ flags) zero h = omega arith
flag_below (b ∷ flags) (suc c) h = let k = flag_below flags c h in omega arith

module _ (roles : List Role) (flags : List Bool) (forms : List Linear) (table : AreOverColumns roles) (size : length flags ≡ length roles) where
  live_in : (q : ℕ) (s : Role) → IsAt roles q s → AllIn (is_live roles) (row_of q s).live
  live_in q Live a = (live_at roles q Live a, tt)
  live_in q Dropped a = tt
  live_in q (Basic r) a = all_in (is_live roles) 0 r.live (table.rows q r a).live_row

  dropped_in : (q : ℕ) (s : Role) → IsAt roles q s → AllIn (is_dropped roles) (row_of q s).dropped
  dropped_in q Live a = tt
  dropped_in q Dropped a = (dropped_at roles q Dropped a, tt)
  dropped_in q (Basic r) a = all_in (is_dropped roles) 0 r.dropped (table.rows q r a).dropped_row

  shaped : IsShaped (tableau roles flags forms)
  shaped = record {
    over_live = λ q h. let a = at_exists roles q h in subst (λ s. AllIn (is_live roles) (row_of q s).live) (sym (role_is roles q a.0 a.1)) (live_in q a.0 a.1);
    over_dropped = λ q h. let a = at_exists roles q h in subst (λ s. AllIn (is_dropped roles) (row_of q s).dropped) (sym (role_is roles q a.0 a.1)) (dropped_in q a.0 a.1);
    live_row = λ c e. ap (row_of c) (role_is roles c Live (role_live roles c e));
    dropped_row = λ c e. ap (row_of c) (role_is roles c Dropped (role_dropped roles c e));
    not_live = λ c e. live_at roles c Dropped (role_dropped roles c e);
    made = λ c e. at_below roles c Live (role_live roles c e);
    made_dropped = λ c e. at_below roles c Dropped (role_dropped roles c e);
    made_restricted = λ c e. subst (λ n. c < n) size (flag_below flags c e);
  }

-- numbers meet the tableau's rows just where they meet the roles
met_one : (x : ℕ → ℚ) (roles : List Role) → IsMet x roles → (q : ℕ) (s : Role) → IsAt roles q s → x q ≡ right_side x (row_of q s)
met_one x roles m q Live a = ring (x q ∷ []) (var 0) (int (pos 0) ⊕ ((int (pos 1) ⊗ var 0 ⊕ int (pos 0)) ⊕ int (pos 0))) refl
met_one x roles m q Dropped a = ring (x q ∷ []) (var 0) (int (pos 0) ⊕ (int (pos 0) ⊕ (int (pos 1) ⊗ var 0 ⊕ int (pos 0)))) refl
met_one x roles m q (Basic r) a = m.rows q r a ∙ sym (same_right x q r)

pub meets_rows : (roles : List Role) (flags : List Bool) (forms : List Linear) (x : ℕ → ℚ) → IsMet x roles → MeetsRows (tableau roles flags forms) x
meets_rows roles flags forms x m q h =
    let a = at_exists roles q h in
    subst (λ s. x q ≡ right_side x (row_of q s)) (sym (role_is roles q a.0 a.1)) (met_one x roles m q a.0 a.1)

pub met_back : (roles : List Role) (flags : List Bool) (forms : List Linear) (x : ℕ → ℚ) → MeetsRows (tableau roles flags forms) x → IsMet x roles
met_back roles flags forms x m = record {
  rows = λ i r a. subst (λ s. x i ≡ right_side x (row_of i s)) (role_is roles i (Basic r) a) (m i (at_below roles i (Basic r) a)) ∙ same_right x i r;
}

-- roles over columns make a linked tableau of the forms that they describe
pub linked : (roles : List Role) (flags : List Bool) (forms : List Linear) → AreOverColumns roles → length flags ≡ length roles → Describes roles forms → Linked (tableau roles flags forms)
linked roles flags forms table size d = record {
  shaped = shaped roles flags forms table size;
  agrees = λ v. meets_rows roles flags forms (numbers (tableau roles flags forms) v) (d.agrees v);
  defines = λ x m. d.defines x (met_back roles flags forms x m);
}

-- an exchange, a column dropped or restored: the same assignments meet the roles
pub still_describes : (old new : List Role) (forms : List Linear) → length new ≡ length old → SameMeaning old new → Describes old forms → Describes new forms
still_describes old new forms size same d = record {
  size = d.size ∙ sym size;
  agrees = λ v. (same (λ q. value_at v (form_at forms q))).0 (d.agrees v);
  defines = λ x m. let o = d.defines x ((same x).1 m) in (o.0, λ q h. o.1 q (subst (λ n. q < n) size h));
}

-- ---- answers
module _ (roles : List Role) (flags : List Bool) (forms : List Linear) (l : List Constraint) (d : Describes roles forms) (i : Sound (tableau roles flags forms) l) where
  -- the weak list's solutions are solutions of the roles
  forth : (v : ℕ → ℚ) → Satisfies v (weak l) → IsSolution roles flags (numbers (tableau roles flags forms) v)
  forth v s = record {
    admitted = record { met = d.agrees v; dropped = i.inside v s };
    obeys = λ q r. restricted_nonneg (tableau roles flags forms) l i v s q (i.written.made_restricted q r) r;
  }

  -- and back
  back : (x : ℕ → ℚ) → IsSolution roles flags x → (v : ℕ → ℚ) × Satisfies v (weak l) × ((q : ℕ) → q < length roles → numbers (tableau roles flags forms) v q ≡ x q)
  back x s =
      let o = d.defines x s.admitted.met in (
        o.0,
        solves_weak (tableau roles flags forms) l i o.0 (λ c k. o.1 c (i.written.made_dropped c k) ∙ s.admitted.dropped c k)
            (λ q h r. subst IsNotNegative (sym (o.1 q h)) (s.obeys q r)),
        o.1,
      )

  -- the maximum of an asked row is its form's greatest value
  pub maximum : (asked : ℕ) → asked < length roles → (new : List Role) (v : ℚ) → IsMaximum roles flags asked new v → IsGreatest l (form_at forms asked) v
  maximum asked h new v m =
      let o = back (basic_solution (dictionary new asked)) m.reached in
      record { bound = λ w s. m.bound (numbers (tableau roles flags forms) w) (forth w s); at = o.0; solves = o.1; value = o.2 asked h ∙ m.value }

  -- an asked row without a greatest value rises, and its form is above each number at a solution of the weak list
  pub unbounded : (asked : ℕ) → asked < length roles → RisesWithoutEnd roles flags asked → Grows l (form_at forms asked)
  unbounded asked h u r =
      let x = u r in
      let o = back x.0 x.1 in
      (o.0, o.1, subst (λ q. r <ℚ q) (sym (o.2 asked h)) x.2)

  pub unbounded_rises : (asked : ℕ) → asked < length roles → RisesWithoutEnd roles flags asked → Rises l (form_at forms asked)
  unbounded_rises asked h u = let o = unbounded asked h u 0ℚ in (o.0, (lt_to_pos o.2, o.1))

-- a constant above zero in the roles that are sound for the list
pub constant_row : (q : ℕ) (s : Role) → (row_of q s).constant ≡ constant_in s
constant_row q Live = refl
constant_row q Dropped = refl
constant_row q (Basic r) = refl

pub positive : (new : List Role) (flags : List Bool) (forms : List Linear) (l : List Constraint) → Sound (tableau new flags forms) l → (asked : ℕ) → asked < length new → IsPositive (constant_at new asked) → Rises l (form_at forms asked)
positive new flags forms l i asked h p = rises_by_constant (tableau new flags forms) l i asked h (subst IsPositive (sym (constant_row asked (role_at new asked))) p)

-- ---- the multipliers of an answer
pub optimal_of : (roles : List Role) (flags : List Bool) (forms : List Linear) (s : List Entry) → ((m : Entry) → rows.Has m (rows.negated s) → IsPositive m.factor) → ((m : Entry) → rows.Has m (rows.negated s) → is_restricted flags m.quantity ≡ true) → IsOptimal (tableau roles flags forms) (products_of s)
optimal_of roles flags forms [] h k = tt
optimal_of roles flags forms (m ∷ s) h k = (
  (k (record { quantity = m.quantity; factor = neg_ℚ m.factor }) (inl refl), pos_nonneg (h (record { quantity = m.quantity; factor = neg_ℚ m.factor }) (inl refl))),
  optimal_of roles flags forms s (λ n i. h n (inr i)) (λ n i. k n (inr i)),
)

-- the asked row of the new roles is optimal
pub optimal : (roles : List Role) (flags : List Bool) (forms : List Linear) (asked : ℕ) (new : List Role) (v : ℚ) (multipliers : List Entry) (own : Row) → IsAt new asked (Basic own) →
    AreMultipliers roles flags asked new v multipliers → IsOptimal (tableau new flags forms) (row_of asked (Basic own)).live
optimal roles flags forms asked new v multipliers own a m =
    let e = m.entries own a in
    optimal_of new flags forms own.live (λ n i. m.positive n (subst (rows.Has n) (sym e) i)) (λ n i. m.restricted n (subst (rows.Has n) (sym e) i))

-- ---- exchanges of the climb and of the search
pub changed : (old new : List Role) (flags : List Bool) (forms : List Linear) (asked : ℕ) → IsCarried old flags asked new → Changed (tableau old flags forms) (tableau new flags forms) [] []
changed old new flags forms asked r = record {
  count = let e = r.size in omega arith;
  form = λ z h. refl;
  drops_made = λ z k. absurd k;
  drops_each = λ z k. absurd k;
  dropped_still = λ z k. r.dropped z ∙ k;
  dropped_only = λ z k. inr (sym (r.dropped z) ∙ k);
  restricts_made = λ z k. absurd k;
  restricts_each = λ z k. absurd k;
  restricted_still = λ z k. k;
  restricted_only = λ z k. inr k;
}

pub entry_live : (p : ℕ → Bool) (lo : ℕ) (s : List Entry) → rows.IsRowFrom p lo s → (m : Entry) → rows.Has m s → p m.quantity ≡ true
entry_live p lo [] h m i = absurd i
entry_live p lo (n ∷ s) h m (inl e) = ap (λ k. p k.quantity) e ∙ h.1
entry_live p lo (n ∷ s) h m (inr i) = entry_live p (n.quantity + 1) s h.3 m i

pub factor_not_zero : (p : ℕ → Bool) (lo : ℕ) (s : List Entry) → rows.IsRowFrom p lo s → (m : Entry) → rows.Has m s → m.factor ≡ 0ℚ → ⊥
factor_not_zero p lo [] h m i z = absurd i
factor_not_zero p lo (n ∷ s) h m (inl e) z = h.2 (sym (ap (λ k. k.factor) e) ∙ z)
factor_not_zero p lo (n ∷ s) h m (inr i) z = factor_not_zero p (n.quantity + 1) s h.3 m i z

pub entry_not_zero : (p : ℕ → Bool) (lo : ℕ) (s : List Entry) → rows.IsRowFrom p lo s → (m : Entry) → rows.Has m s → rows.sum_at (rows.unit m.quantity) s ≡ 0ℚ → ⊥
entry_not_zero p lo s h m i z = factor_not_zero p lo s h m i (sym (at_unit p lo s m h i) ∙ z)

-- a column's factor in a row, as a coefficient
pub factor_same : (c : ℕ) (s : List Entry) → factor_of c (products_of s) ≡ rows.sum_at (rows.unit c) s
factor_same c [] = refl
factor_same c (m ∷ s) = ap₂ (λ p q. p +ℚ q) (go (nat_eq c m.quantity) ∙ ap (λ b. m.factor *ℚ rows.choose b 1ℚ 0ℚ) (nat_eq-sym c m.quantity)) (factor_same c s)
  where
    go : (b : Bool) → sums.when b m.factor ≡ m.factor *ℚ rows.choose b 1ℚ 0ℚ
    go true = ring (m.factor ∷ []) (var 0) (var 0 ⊗ int (pos 1)) refl
    go false = ring (m.factor ∷ []) (int (pos 0)) (var 0 ⊗ int (pos 0)) refl

-- what stands in a row without zeros is restricted, where the row has no entry in an unrestricted column
module _ (flags : List Bool) (p : ℕ → Bool) (o : Row) (h : rows.IsRowFrom p 0 o.live)
    (free : (c : ℕ) → p c ≡ true → is_restricted flags c ≡ false → rows.sum_at (rows.unit c) o.live ≡ 0ℚ) where
  pub each_restricted : (s : List Entry) → ((m : Entry) → rows.Has m s → rows.Has m o.live) → AllIn (is_restricted flags) (products_of s)
  each_restricted [] i = tt
  each_restricted (m ∷ s) i = (go (is_restricted flags m.quantity) refl, each_restricted s (λ n k. i n (inr k)))
    where
      stands : rows.Has m o.live
      stands = i m (inl refl)

      go : (b : Bool) → is_restricted flags m.quantity ≡ b → is_restricted flags m.quantity ≡ true
      go true e = e
      go false e = absurd (entry_not_zero p 0 o.live h m stands (free m.quantity (entry_live p 0 o.live h m stands) e))

-- numbers that are feasible make a feasible tableau of roles over columns
module _ (roles : List Role) (flags : List Bool) (forms : List Linear) (table : AreOverColumns roles) where
  feasible_columns : (f : HasFeasibleNumbers (tableau roles flags forms)) (q : ℕ) (s : Role) → IsAt roles q s → is_restricted flags q ≡ true
      → AllIn (is_restricted flags) (row_of q s).live
  feasible_columns f q Live a r = (r, tt)
  feasible_columns f q Dropped a r = tt
  feasible_columns f q (Basic o) a r =
      each_restricted flags (is_live roles) o (table.rows q o a).live_row
      (λ c l n. sym (factor_same c o.live) ∙ ap (λ s. factor_of c (row_of q s).live) (sym (role_is roles q (Basic o) a))
      ∙ f.no_free_column q (at_below roles q (Basic o) a) r c n)
      o.live (λ m k. k)

  pub feasible_of : HasFeasibleNumbers (tableau roles flags forms) → IsFeasible (tableau roles flags forms)
  feasible_of f = record {
    constants = f.constants;
    columns = λ q h r. let a = at_exists roles q h in
        subst (λ s. AllIn (is_restricted flags) (row_of q s).live) (sym (role_is roles q a.0 a.1)) (feasible_columns f q a.0 a.1 r);
  }

-- the search's view of what is feasible, and a tableau's
module _ (roles : List Role) (flags : List Bool) (forms : List Linear) (asked : ℕ) (size : length flags ≡ length roles) where
  factor_zero : (q c : ℕ) (s : Role) → AllIn (is_restricted flags) (row_of q s).live → is_restricted flags c ≡ false → factor_in s c ≡ 0ℚ
  factor_zero q c Live a n = refl
  factor_zero q c Dropped a n = refl
  factor_zero q c (Basic o) a n = sym (factor_same c o.live) ∙ not_in (is_restricted flags) c (products_of o.live) a n

  made_flag : (q : ℕ) → is_restricted flags q ≡ true → q < length roles
  made_flag q r = subst (λ n. q < n) size (flag_below flags q r)

  pub searchable : IsFeasible (tableau roles flags forms) → of_simplex.IsFeasible (is_restricted flags) (dictionary roles asked)
  searchable f = record {
    constants = λ q k r. subst IsNotNegative (constant_row q (role_at roles q)) (f.constants q (made_flag q r) r);
    no_free_column = λ q c k r l n. factor_zero q c (role_at roles q) (f.columns q (made_flag q r) r) n;
  }

  found_constant : of_simplex.IsFeasible (is_restricted flags) (dictionary roles asked) → (q : ℕ) (s : Role) → IsAt roles q s
      → is_restricted flags q ≡ true → IsNotNegative (row_of q s).constant
  found_constant f q Live a r = nonneg_zero
  found_constant f q Dropped a r = nonneg_zero
  found_constant f q (Basic o) a r = subst IsNotNegative (constant_is roles q o a) (f.constants q (row_is roles q o a) r)

  found_columns : AreOverColumns roles → of_simplex.IsFeasible (is_restricted flags) (dictionary roles asked) → (q : ℕ) (s : Role) → IsAt roles q s
      → is_restricted flags q ≡ true → AllIn (is_restricted flags) (row_of q s).live
  found_columns table f q Live a r = (r, tt)
  found_columns table f q Dropped a r = tt
  found_columns table f q (Basic o) a r =
      each_restricted flags (is_live roles) o (table.rows q o a).live_row
      (λ c l n. sym (factor_is roles q o a c) ∙ f.no_free_column q c (row_is roles q o a) r l n) o.live (λ m k. k)

  pub feasible : AreOverColumns roles → of_simplex.IsFeasible (is_restricted flags) (dictionary roles asked) → IsFeasible (tableau roles flags forms)
  feasible table f = record {
    constants = λ q h r. let a = at_exists roles q h in
        subst (λ s. IsNotNegative (row_of q s).constant) (sym (role_is roles q a.0 a.1)) (found_constant f q a.0 a.1 r);
    columns = λ q h r. let a = at_exists roles q h in
        subst (λ s. AllIn (is_restricted flags) (row_of q s).live) (sym (role_is roles q a.0 a.1)) (found_columns table f q a.0 a.1 r);
  }

-- the search keeps the invariant
pub carried_invariant : (old new : List Role) (flags : List Bool) (forms : List Linear) (l : List Constraint) (asked : ℕ) → length flags ≡ length old → Describes old forms → Invariant (tableau old flags forms) l → IsCarried old flags asked new → Invariant (tableau new flags forms) l
carried_invariant old new flags forms l asked size d i r =
    exchanged (tableau old flags forms) (tableau new flags forms) l i (changed old new flags forms asked r)
    (linked_written (tableau new flags forms) (linked new flags forms r.table (size ∙ sym r.size) (still_describes old new forms r.size r.same d)))
    (feasible new flags forms asked (size ∙ sym r.size) r.table r.feasible)
