-- Each solution of the told list goes on to an equation that mentions a variable of which the list says nothing: no other variable
-- gets a value by it, and no member falls.
use Rattle.std.proofs.Common.{◌≡◌, ℕ, suc, ◌+◌, ◌<◌, ◌≤◌, List, [], ◌∷◌, ◌++◌, length, Bool, Option, None, Some, ◌⊎◌, inl, inr, arith, pos, refl, ap, sym, subst, ◌∙◌}
use Rattle.std.specs.Prelude.{slice_get, IfSome}
use Rattle.std.proofs.lemmas.Option.{slice_get_within}
use Rattle.spec_numbers.specs.Prefixes.{IsPrefix}
use Rattle.spec_numbers.proofs.Places.{get_kept}
use Rattle.spec_numbers.specs.Rational.{ℚ, 0ℚ, ◌*ℚ◌, ◌-ℚ◌, inv_ℚ, IsPositive}
use Rattle.spec_numbers.specs.Sums.{Monomial, factor_of}
use Rattle.spec_numbers.proofs.Ring.{var, int, ◌⊕◌, ◌⊗◌, minus}
use Rattle.spec_numbers.proofs.RationalLemmas.{ring}
use Rattle.spec_numbers.proofs.Sign.{times_inverse, zero_or_not, not_pos_zero}
use Rattle.spec_linear.specs.declared.Relation.TheVariants.{Eq, Gt, Ne}
use Rattle.spec_linear.specs.Form.{changed_at, value_at, IsForm, IsSumFrom}
use Rattle.spec_linear.specs.Solution.{Constraint, HoldsAt, Meets, Satisfies, SomeMentions, Solvable, Fixed}
use Rattle.spec_linear.proofs.Denominators.{satisfies_agrees, solvable_same}
use Rattle.spec_linear.proofs.Lists.{fixed_same}
use Rattle.spec_linear.proofs.Ordered.{factor_of-first, factor_of-rest}
use Rattle.spec_linear.proofs.Far.{weak_satisfied, member_satisfied}
use Rattle.spec_projection.proofs.Eliminated.{value_at-changed}
use Rattle.spec_projection.proofs.Projected.{changed_elsewhere}
use Rattle.spec_projection.proofs.Members.{satisfies_both}
use Rattle.spec_simplex.specs.Fixing.{NewlyFixed}
use Rattle.spec_simplex.proofs.Members.{unmentioned_free}
use Rattle.cq_frac.specs.declared.VarId.{VarId}
use Rattle.cq_frac.specs.declared.row.Entry.{Entry}
use Rattle.cq_frac.specs.Row.{Row}
use Rattle.cq_frac.specs.Rows as rows
use Rattle.cq_dict.specs.declared.table.Role.{Role}
use Rattle.cq_dict.specs.declared.table.Role.TheVariants.{Live, Dropped, Basic}
use Rattle.cq_dict.specs.Roles.{Quantities, IsAt, AreOverColumns, IsEliminated}
use Rattle.cq_dict.specs.Dict.{SameMeaning}
use Rattle.cq_dict.proofs.Roles.{at_exists, equal_or_not}
use Rattle.cq_equations.specs.Told.{numbers_of}
use Rattle.cq_tableau.specs.declared.names.Name.{Name}
use Rattle.cq_tableau.specs.declared.names.Name.TheVariants.{Variable, Member}
use Rattle.cq_tableau.specs.Newly.{AreNewlyFixed}
use Rattle.cq_tableau.specs.Fixing.{AreOnce}
use Rattle.cq_tableau.specs.Stored.{IsStored, IsPlaced, JoinsStored}
use Rattle.cq_tableau.specs.Values.{IsOpen, IsNumber, open_row, open_column, number_row, dropped_column}
use Rattle.cq_store.specs.Alone.{IsNewIn, IsAloneFixed, IsPlaceBehind}
use Rattle.cq_store.specs.Equated.{Crosses}
use Rattle.cq_tableau.specs.Faced.{AllApart, IsNotZero}
use Rattle.cq_store.specs.Fallen.{FallsAt}
use Rattle.cq_store.proofs.Concluded.{crossing_falls}
use Rattle.cq_store.proofs.Equations.{crossed_stored}
use Rattle.cq_store.proofs.Stays.{open_before, number_before}
use Rattle.cq_store.proofs.Stops.{has_member}
use Rattle.cq_tableau.proofs.Storing.{stored_solvable}

-- ---- solutions go on
module _ (told : List Constraint) (names : List Name) (c : Constraint) (n : ℕ) (i : c.relation ≡ Eq) (new : IsNewIn told names c n) where
  abbrev x : ℕ
  x = new.variable.0

  abbrev factor : ℚ
  factor = factor_of new.variable.0 c.form.products

  abbrev target : (ℕ → ℚ) → ℚ
  target a = a new.variable.0 -ℚ inv_ℚ (factor_of new.variable.0 c.form.products) *ℚ value_at a c.form

  abbrev there : (ℕ → ℚ) → ℕ → ℚ
  there a = changed_at new.variable.0 (target a) a

  form_zero : (a : ℕ → ℚ) → value_at (there a) c.form ≡ 0ℚ
  form_zero a =
      value_at-changed a x (target a) c.form
      ∙ ring (value_at a c.form ∷ a x ∷ inv_ℚ factor ∷ factor ∷ [])
      (var 0 ⊕ ((var 1 ⊕ minus (var 2 ⊗ var 0)) ⊕ minus (var 1)) ⊗ var 3) (var 0 ⊕ minus (var 0 ⊗ (var 3 ⊗ var 2))) refl
      ∙ ap (λ w. value_at a c.form -ℚ value_at a c.form *ℚ w) (times_inverse factor new.factor)
      ∙ ring (value_at a c.form ∷ []) (var 0 ⊕ minus (var 0 ⊗ int (pos 1))) (int (pos 0)) refl

  elsewhere : (a : ℕ → ℚ) (y : ℕ) → (y ≡ x → ⊥) → there a y ≡ a y
  elsewhere a y k = changed_elsewhere a x (target a) y k

  still_told : (a : ℕ → ℚ) → Satisfies a told → Satisfies (there a) told
  still_told a s = satisfies_agrees a (there a) told (λ y m. sym (elsewhere a y (λ e. new.unmentioned (subst (λ z. SomeMentions z told) e m)))) s

  holds_there : (a : ℕ → ℚ) → HoldsAt (there a) c
  holds_there a = subst (λ r. Meets r (value_at (there a) c.form)) (sym i) (form_zero a)

  pub goes_on : (a : ℕ → ℚ) → Satisfies a told → Satisfies (there a) (told ++ c ∷ [])
  goes_on a s = satisfies_both (there a) told (c ∷ []) (still_told a s) (holds_there a, tt)

  -- no other variable gets a value
  pub fixed_before : Solvable told → (y : ℕ) → (y ≡ x → ⊥) → (q : ℚ) → Fixed (told ++ c ∷ []) y q → Fixed told y q
  fixed_before solvable y k q f =
      let g = (fixed_same (told ++ c ∷ []) y q).0 f in
      (fixed_same told y q).1 (solvable, λ a s. sym (elsewhere a y k) ∙ g.1 (there a) (goes_on a s))

  -- no member falls
  pub none_falls : Solvable told → (z : ℕ) → FallsAt told (told ++ c ∷ []) (names ++ Member (length told + 1) ∷ []) z → ⊥
  none_falls solvable z f =
      let a = (solvable_same told).0 solvable in
      let b = there a.0 in
      apart f.constraint b f.relation_is (member_satisfied b told f.constraint (has_member told f.number f.constraint f.told_at) (still_told a.0 a.1))
      (f.flat b (weak_satisfied b (told ++ c ∷ []) (goes_on a.0 a.1)))
    where
      apart : (k : Constraint) (b : ℕ → ℚ) → (k.relation ≡ Gt) ⊎ (k.relation ≡ Ne) → HoldsAt b k → value_at b k.form ≡ 0ℚ → ⊥
      apart k b (inl r) h e = not_pos_zero (subst IsPositive e (subst (λ t. Meets t (value_at b k.form)) r h))
      apart k b (inr r) h e = subst (λ t. Meets t (value_at b k.form)) r h e

-- ---- what a quantity is
pub state : (roles : List Role) (z : ℕ) → z < length roles → IsOpen roles z ⊎ ((v : ℚ) × IsNumber roles z v)
state roles z h = let a = at_exists roles z h in role a.0 a.1
  where
    row : (own : Row) → IsAt roles z (Basic own) → (live : List Entry) → own.live ≡ live → IsOpen roles z ⊎ ((v : ℚ) × IsNumber roles z v)
    row own a [] e = inr (own.constant, number_row own a e refl)
    row own a (m ∷ rest) e = inl (open_row own m rest a e)

    role : (t : Role) → IsAt roles z t → IsOpen roles z ⊎ ((v : ℚ) × IsNumber roles z v)
    role Live a = inl (open_column a)
    role Dropped a = inr (0ℚ, dropped_column a refl)
    role (Basic own) a = row own a own.live refl

-- ---- the column takes the row's place
module _ (told : List Constraint) (names : List Name) (c : Constraint) (roles : List Role) (flags : List Bool) (q column : ℕ) (y : Crosses told names c roles flags q column)
    (i : c.relation ≡ Eq) (n : ℕ) (new : IsNewIn told names c n) (after : List Role) (e : IsEliminated roles q column after) (same : SameMeaning roles after) (table : AreOverColumns after) where
  solvable : Solvable told
  solvable = stored_solvable told names y.behind.before y.behind.stored

  all_apart : AllApart told names after
  all_apart z h m = elim (state after z h) [ inl o ↦ inl o | inr k ↦ number k.0 k.1 (zero_or_not k.0) ]
    where
      number : (v : ℚ) → IsNumber after z v → (v ≡ 0ℚ) ⊎ (v ≡ 0ℚ → ⊥) → IsNotZero after z
      number v k (inl g) =
          absurd (none_falls told names c n i new solvable z
          (crossing_falls told names c roles flags q column y i after e same table (length told + 1) refl (Some z) (m, subst (IsNumber after z) g k)))
      number v k (inr d) = inr (v, k, d)

  module _ (fixed : List VarId) (alone : IsAloneFixed names after n fixed) (new_names : List Name) (names_are : new_names ≡ names ++ Member (length told + 1) ∷ []) where
    after_told : IsStored (told ++ c ∷ []) new_names (record { roles = after; restricted = flags })
    after_told = crossed_stored told names c roles flags q column y i after e same table all_apart (length told + 1) refl new_names names_are

    named_there : slice_get new_names n ≡ Some (Variable new.variable)
    named_there = ap (λ l. slice_get l n) names_are ∙ get_kept names (Member (length told + 1) ∷ []) n (Variable new.variable) new.named

    below : n < length after
    below = subst (λ m. n < m) after_told.size (slice_get_within new_names n (Variable new.variable) named_there)

    -- no other variable is newly fixed
    only : (z : ℕ) → NewlyFixed told (told ++ c ∷ []) z → z ≡ new.variable.0
    only z f = elim (equal_or_not z new.variable.0) [
      | inl g ↦ g
      | inr k ↦ absurd (f.not_before f.value (fixed_before told names c n i new solvable z k f.value f.fixed))
    ]

    itself : (v : ℚ) → IsNumber after n v → NewlyFixed told (told ++ c ∷ []) new.variable.0
    itself v k = record {
      value = v;
      fixed = number_before after_told.forms (told ++ c ∷ []) after flags after_told.keeps n new.variable.0 below (after_told.variables n new.variable named_there) v k;
      not_before = unmentioned_free told new.variable.0 new.unmentioned;
    }

    open_still : IsOpen after n → NewlyFixed told (told ++ c ∷ []) new.variable.0 → ⊥
    open_still o f =
        open_before after_told.forms (told ++ c ∷ []) after flags after_told.keeps n new.variable.0 below (after_told.variables n new.variable named_there) o f.value f.fixed

    newly : AreNewlyFixed told (told ++ c ∷ []) (numbers_of fixed)
    newly = elim (alone new.variable new.named) [
      | inl h ↦ subst (λ xs. AreNewlyFixed told (told ++ c ∷ []) (numbers_of xs)) (sym h.0) (record {
        once = (λ k. absurd k, tt);
        each = λ z. (
          λ k. elim k [ inl g ↦ subst (NewlyFixed told (told ++ c ∷ [])) (sym g) (itself h.1 h.2) | inr g ↦ absurd g ],
          λ f. inl (only z f),
        );
      })
      | inr h ↦ subst (λ xs. AreNewlyFixed told (told ++ c ∷ []) (numbers_of xs)) (sym h.0) (record {
        once = tt;
        each = λ z. (λ k. absurd k, λ f. absurd (open_still h.1 (subst (NewlyFixed told (told ++ c ∷ [])) (only z f) f)));
      })
    ]

    pub alone_joins : JoinsStored told c fixed new_names (record { roles = after; restricted = flags })
    alone_joins = record { stored = after_told; newly = newly }

-- ---- a variable whose quantity is behind those that were known
factor_there : (names : List Name) (low : ℕ) (ps : List Monomial) (s : List Entry) → IsPlaced names ps s → IsSumFrom low ps → (m : Entry) → rows.Has m s
    → (x : VarId) × (slice_get names m.quantity ≡ Some (Variable x)) × (low ≤ x.0) × (factor_of x.0 ps ≡ 0ℚ → ⊥)
factor_there names low [] [] p f m h = absurd h
factor_there names low [] (k ∷ s) p f m h = absurd p
factor_there names low (p ∷ ps) [] l f m h = absurd l
factor_there names low (p ∷ ps) (k ∷ s) l f m (inl e) = (
  record { 0 = p.variable },
  ap (λ (t : Entry). slice_get names t.quantity) e ∙ l.0,
  f.0,
  λ z. f.1 (sym (factor_of-first low p ps f) ∙ z),
)
factor_there names low (p ∷ ps) (k ∷ s) l f m (inr h) =
    let r = factor_there names (suc p.variable) ps s l.2 f.2 m h in
    let a : suc p.variable ≤ r.0.0 = r.2 in
    let b : low ≤ p.variable = f.0 in (
      r.0,
      r.1,
      omega (arith, a, b),
      λ z. r.3 (sym (factor_of-rest r.0.0 p ps (λ e. absurd (omega (arith, a, e)))) ∙ z),
    )

pub new_in : (told : List Constraint) (old : List Name) (q : Quantities) → IsStored told old q → (names : List Name) → IsPrefix old names → AreOnce names → (c : Constraint)
    → (places : List Entry) → IsPlaced names c.form.products places → IsForm c.form → (n : ℕ) → IsPlaceBehind (length old) places n → IsNewIn told names c n
new_in told old q s names grows once c places placed ordered n b =
    let r = factor_there names 0 c.form.products places placed ordered b.entry b.has in
    let here : slice_get names n ≡ Some (Variable r.0) = subst (λ m. slice_get names m ≡ Some (Variable r.0)) b.quantity r.1 in
    record {
      variable = r.0;
      named = here;
      unmentioned = λ m.
          let k = s.known r.0.0 m in
          let l = slice_get_within old k.0 (Variable r.0) k.1 in
          let there = ap (λ t. slice_get t k.0) grows.1 ∙ get_kept old grows.0 k.0 (Variable r.0) k.1 in
          let e = once k.0 n (Variable r.0) there here in
          let z = b.behind in
          absurd (omega (arith, l, e, z));
      factor = r.3;
    }

-- where there is one
pub new_if : (told : List Constraint) (old : List Name) (q : Quantities) → IsStored told old q → (names : List Name) → IsPrefix old names → AreOnce names → (c : Constraint)
    → (places : List Entry) → IsPlaced names c.form.products places → IsForm c.form → (known : ℕ) → known ≡ length old → (found : Option ℕ) → IfSome found (IsPlaceBehind known places)
    → IfSome found (IsNewIn told names c)
new_if told old q s names grows once c places placed ordered known e None h = tt
new_if told old q s names grows once c places placed ordered known e (Some n) h =
    new_in told old q s names grows once c places placed ordered n (subst (λ k. IsPlaceBehind k places n) e h)
