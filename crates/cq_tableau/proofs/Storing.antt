-- What a store holds at first, and with more quantities and constraints.
use Rattle.std.proofs.Common.{◌≡◌, ℕ, zero, suc, ◌+◌, ◌<◌, List, [], ◌∷◌, ◌++◌, length, Bool, true, false, Some, ◌⊎◌, inl, inr, arith, length-append, add-one, cond, nat_eq, take, get_or, refl, ap, ap₂, sym, subst, ◌∙◌}
use Rattle.std.specs.Prelude.{slice_get, slice_set}
use Rattle.std.specs.Map.{lookup}
use Rattle.std.proofs.lemmas.Bool.{cond-true, cond-false}
use Rattle.spec_numbers.proofs.Tests.{nat_eq-self, nat_eq-apart, nat_eq-same, nat_eq-other}
use Rattle.cq_frac.specs.Row.{Row}
use Rattle.cq_frac.proofs.Units.{row_weaker}
use Rattle.cq_dict.proofs.Roles.{at_end, at_last, live_left, dropped_left}
use Rattle.std.proofs.lemmas.Option.{slice_get_within, none-some, same_Some}
use Rattle.spec_numbers.proofs.Places.{get_push, get_kept, take-next}
use Rattle.spec_numbers.specs.Rational.{ℚ, ◌+ℚ◌, ◌*ℚ◌}
use Rattle.spec_numbers.specs.Sums.{Monomial, Mentions, sum_at}
use Rattle.spec_linear.specs.Form.{Linear, value_at, variable_form}
use Rattle.spec_linear.proofs.Values.{value_at-variable_form}
use Rattle.cq_form.specs.Entries.{product_of, products_of}
use Rattle.cq_frac.specs.declared.row.Entry.{Entry}
use Rattle.cq_frac.specs.Rows as rows
use Rattle.spec_numbers.specs.Prefixes.{IsPrefix}
use Rattle.spec_linear.specs.Solution.{Constraint, Has, SomeMentions, Solvable, Fixed}
use Rattle.spec_simplex.specs.Tableau.{Place, Invariant, IsSomething}
use Rattle.spec_simplex.proofs.Linked.{linked_written}
use Rattle.spec_simplex.proofs.Steps as of_steps
use Rattle.spec_simplex.proofs.Members.{invariant_there, told_last, unmentioned_free}
use Rattle.spec_simplex.proofs.More as of_more
use Rattle.spec_simplex.proofs.More.{empty_kept, still_dropped}
use Rattle.spec_simplex.proofs.TableauWritten.{solvable_of}
use Rattle.spec_simplex.specs.Fixing.{is_unmentioned}
use Rattle.spec_simplex.proofs.Told.{none_newly, not_newly}
use Rattle.cq_frac.specs.declared.VarId.{VarId}
use Rattle.cq_dict.specs.declared.table.Role.{Role}
use Rattle.cq_dict.specs.declared.table.Role.TheVariants.{Live, Basic}
use Rattle.cq_dict.specs.Roles.{Quantities, IsAt, IsRow, AreOverColumns, is_live, is_dropped, is_restricted, dropped_role, role_at}
use Rattle.cq_dict.specs.Dict.{SameMeaning, AddsRow, DefinesLast}
use Rattle.spec_simplex.specs.Dictionary as of_simplex
use Rattle.cq_simplex.specs.Dictionary.{dictionary}
use Rattle.spec_linear.specs.declared.Relation.{Relation}
use Rattle.spec_linear.specs.declared.Relation.TheVariants.{Eq, Gt, Ge, Ne}
use Rattle.spec_linear.specs.Certificate.{member}
use Rattle.spec_linear.specs.Weak.{above_zero, at_least_zero, not_zero}
use Rattle.spec_projection.specs.Elimination.{IsInequality}
use Rattle.cq_tableau.specs.declared.names.Name.{Name}
use Rattle.cq_tableau.specs.declared.names.Name.TheVariants.{Variable, Member}
use Rattle.cq_tableau.specs.Asking.{AsksForm}
use Rattle.cq_tableau.specs.Forms as of_forms
use Rattle.cq_tableau.specs.Forms.{form_at, tableau, Describes}
use Rattle.cq_tableau.specs.Keeps.{Keeps, KeepsBoth, Joins}
use Rattle.cq_tableau.specs.Stored.{IsKnown, IsMemberForm, IsMemberOf, IsEquation, IsStoredBy, IsStored, StaysStored, IsPlaced, JoinsStored}
use Rattle.cq_tableau.specs.Newly.{AreNewlyFixed}
use Rattle.spec_simplex.specs.Fixing.{NewlyFixed}
use Rattle.cq_tableau.specs.Numbered.{AreNumbered}
use Rattle.cq_tableau.proofs.Tied.{linked, flag_below, searchable}
use Rattle.cq_tableau.proofs.Steps.{unchanged, changed_more, feasible_more, described_column, described_row, flag_only, flag_set, flag_still, dropped_more, form_more, form_last, flag_more, more_length}
use Rattle.cq_equations.specs.Told.{numbers_of}
use Rattle.cq_tableau.proofs.Joined.{written}

-- ---- nothing yet
nothing_described : Describes [] []
nothing_described = record { size = refl; agrees = λ v. record { rows = λ i r a. absurd a }; defines = λ x m. (x, λ q h. absurd (omega (arith, h))) }

nothing_over : AreOverColumns []
nothing_over = record { rows = λ i r a. absurd a }

no_member : (i : ℕ) (c : Constraint) → member [] i ≡ Some c → ⊥
no_member zero c e = none-some c e
no_member (suc i) c e = none-some c e

pub empty_stored : IsStored [] [] (record { roles = []; restricted = [] })
empty_stored = record {
  forms = [];
  keeps = record {
    table = nothing_over;
    size = refl;
    describes = nothing_described;
    invariant =
        of_steps.exchanged _ (tableau [] [] []) [] empty_kept
        (record {
          count = omega arith;
          form = λ z h. absurd (omega (arith, h));
          drops_made = λ z k. absurd k;
          drops_each = λ z k. absurd k;
          dropped_still = λ z k. cc;
          dropped_only = λ z k. inr k;
          restricts_made = λ z k. absurd k;
          restricts_each = λ z k. absurd k;
          restricted_still = λ z k. cc;
          restricted_only = λ z k. inr k;
        })
        (linked_written (tableau [] [] []) (linked [] [] [] nothing_over refl nothing_described))
        (record { constants = λ q h. absurd (omega (arith, h)); columns = λ q h. absurd (omega (arith, h)) });
    dropped = λ c h. absurd h;
  };
  size = refl;
  variables = λ n x e. cc;
  members = λ n i e. cc;
  placed = λ i c e. absurd (no_member i c e);
  once = λ m n t e. absurd (none-some t e);
  ascends = λ m n i j e. absurd (none-some (Member i) e);
  owned = λ n e. cc;
  flagged = λ n m. absurd (none-some (Member m.number) m.named);
  dropped = λ n e. cc;
  mentioned = λ n h. absurd (omega (arith, h));
  known = λ x h. absurd h;
}

-- ---- a quantity more
pub keeps_more : (forms : List Linear) (l : List Constraint) (roles : List Role) (flags : List Bool) → Keeps forms l roles flags → (f : Linear) (t : Role)
    → dropped_role t ≡ false → AreOverColumns (roles ++ t ∷ []) → Describes (roles ++ t ∷ []) (forms ++ f ∷ [])
    → Keeps (forms ++ f ∷ []) l (roles ++ t ∷ []) (flags ++ false ∷ [])
keeps_more forms l roles flags k f t n table d =
    let size = length-append flags (false ∷ []) ∙ ap (λ m. m + 1) k.size ∙ sym (more_length roles t) in
    let old = tableau roles flags forms in
    let new = tableau (roles ++ t ∷ []) (flags ++ false ∷ []) (forms ++ f ∷ []) in
    let ch = changed_more roles flags forms k.table k.describes f t n in
    record {
      table = table;
      size = size;
      describes = d;
      invariant =
          of_steps.exchanged old new l k.invariant ch (linked_written new (linked (roles ++ t ∷ []) (flags ++ false ∷ []) (forms ++ f ∷ []) table size d))
          (feasible_more roles flags forms k.table k.describes f t (λ z e. subst (λ m. z < m) k.size (flag_below flags z e)) k.invariant.sound.feasible);
      dropped = still_dropped old new (written forms l roles flags k) [] [] ch (λ z h. absurd h) l k.dropped;
    }

-- the constraint that was told last stands last
pub keeps_last : (forms : List Linear) (l : List Constraint) (c : Constraint) (roles : List Role) (flags : List Bool) → Keeps forms (c ∷ l) roles flags
    → Keeps forms (l ++ c ∷ []) roles flags
keeps_last forms l c roles flags k = record {
  table = k.table;
  size = k.size;
  describes = k.describes;
  invariant = invariant_there (tableau roles flags forms) (c ∷ l) (l ++ c ∷ []) (told_last l c) k.invariant;
  dropped = λ e h r. k.dropped e ((told_last l c).back e h) r;
}

-- ---- what the list says
module _ (told : List Constraint) (names : List Name) (q : Quantities) (s : IsStored told names q) where
  pub stored_solvable : Solvable told
  stored_solvable = solvable_of (tableau q.roles q.restricted s.forms) told s.keeps.invariant

  -- a variable without a quantity is not fixed
  pub unknown_not_fixed : (x : ℕ) → (IsKnown names x → ⊥) → (r : ℚ) → Fixed told x r → ⊥
  unknown_not_fixed x n r f = unmentioned_free told x (λ m. n (s.known x m)) r f

  -- a variable's quantity
  abbrev pub variable_place : (n : ℕ) (x : VarId) → slice_get names n ≡ Some (Variable x) → Place (tableau q.roles q.restricted s.forms) (variable_form x.0)
  variable_place n x e = record { quantity = n; made = subst (λ m. n < m) s.size (slice_get_within names n (Variable x) e); form_is = s.variables n x e }

-- ---- a name more
module _ (names : List Name) (t : Name) where
  known_more : (y : ℕ) → IsKnown names y → IsKnown (names ++ t ∷ []) y
  known_more y k = (k.0, get_kept names (t ∷ []) k.0 (Variable (record { 0 = y })) k.1)

  name_at : (n : ℕ) (u : Name) → slice_get (names ++ t ∷ []) n ≡ Some u → (slice_get names n ≡ Some u) ⊎ ((n ≡ length names) × (t ≡ u))
  name_at n u e = get_push names t n u e

-- the members stay
member_more : (R : Relation → Type 0) (told : List Constraint) (names : List Name) (t : Name) (n : ℕ) → IsMemberOf R told names n → IsMemberOf R told (names ++ t ∷ []) n
member_more R told names t n m =
    record { number = m.number; named = get_kept names (t ∷ []) n (Member m.number) m.named; constraint = m.constraint; told_at = m.told_at; relation_is = m.relation_is }

pub told_more : (told : List Constraint) (c : Constraint) (i : ℕ) (k : Constraint) → member told i ≡ Some k → member (told ++ c ∷ []) i ≡ Some k
told_more told c zero k e = absurd (none-some k e)
told_more told c (suc i) k e = get_kept told (c ∷ []) i k e

pub last_told : (l : List Constraint) (c : Constraint) → slice_get (l ++ c ∷ []) (length l) ≡ Some c
last_told [] c = refl
last_told (d ∷ l) c = last_told l c

member_both : (R : Relation → Type 0) (told : List Constraint) (c : Constraint) (names : List Name) (t : Name) (n : ℕ) → IsMemberOf R told names n
    → IsMemberOf R (told ++ c ∷ []) (names ++ t ∷ []) n
member_both R told c names t n m = record {
  number = m.number;
  named = get_kept names (t ∷ []) n (Member m.number) m.named;
  constraint = m.constraint;
  told_at = told_more told c m.number m.constraint m.told_at;
  relation_is = m.relation_is;
}

name_last : (names : List Name) (t : Name) → slice_get (names ++ t ∷ []) (length names) ≡ Some t
name_last [] t = refl
name_last (u ∷ names) t = name_last names t

-- a new variable's column
pub variable_stored : (told : List Constraint) (names : List Name) (q : Quantities) → IsStored told names q → (x : VarId) → (IsKnown names x.0 → ⊥)
    → SameMeaning q.roles (q.roles ++ Live ∷ []) → AreOverColumns (q.roles ++ Live ∷ [])
    → IsStored told (names ++ Variable x ∷ []) (record { roles = q.roles ++ Live ∷ []; restricted = q.restricted ++ false ∷ [] })
variable_stored told names q s x new same table = record {
  forms = s.forms ++ variable_form x.0 ∷ [];
  keeps = keeps_more s.forms told q.roles q.restricted s.keeps (variable_form x.0) Live refl table
      (described_column q.roles q.restricted s.forms s.keeps.table s.keeps.describes x.0 (λ n h m. new (s.mentioned n (subst (λ k. n < k) (sym s.size) h) x.0 m)) same);
  size = length-append names (Variable x ∷ []) ∙ ap (λ m. m + 1) s.size ∙ sym (more_length q.roles Live);
  variables = λ n y e. elim (name_at names (Variable x) n (Variable y) e) [
    | inl h ↦ ap (λ f. f) (form_more s.forms (variable_form x.0) n (within n (Variable y) h)) ∙ s.variables n y h
    | inr h ↦ last n h.0 ∙ ap variable_form (same_variable x y h.1)
  ];
  members = λ n i e. elim (name_at names (Variable x) n (Member i) e) [
    | inl h ↦ subst (IsMemberForm told i) (sym (form_more s.forms (variable_form x.0) n (within n (Member i) h))) (s.members n i h)
    | inr h ↦ absurd (no_member x i h.1)
  ];
  placed = λ i c e. let p = s.placed i c e in (p.0, get_kept names (Variable x ∷ []) p.0 (Member i) p.1);
  once = once;
  ascends = λ m n i j e f l. elim (name_at names (Variable x) m (Member i) e) [
    | inl h ↦ elim (name_at names (Variable x) n (Member j) f) [ inl g ↦ s.ascends m n i j h g l | inr g ↦ absurd (no_member x j g.1) ]
    | inr h ↦ absurd (no_member x i h.1)
  ];
  flagged = λ n m. flag_more q.restricted n ∙ s.flagged n (was_member n m);
  owned = λ n e. member_more IsInequality told names (Variable x) n (s.owned n (sym (flag_more q.restricted n) ∙ e));
  dropped = λ n e. elim (s.dropped n (sym (dropped_more q.roles Live refl n) ∙ e)) [
    | inl h ↦ inl (flag_more q.restricted n ∙ h)
    | inr h ↦ inr (member_more IsEquation told names (Variable x) n h)
  ];
  mentioned = λ n h y m. elim (under n h) [
    | inl k ↦ known_more names (Variable x) y (s.mentioned n k y (subst (λ f. Mentions y f.products) (form_more s.forms (variable_form x.0) n (below n k)) m))
    | inr e ↦ subst (λ z. IsKnown (names ++ Variable x ∷ []) z) (sym (only y (subst (λ f. Mentions y f.products) (last n e) m))) (length names, name_last names (Variable x))
  ];
  known = λ y m. known_more names (Variable x) y (s.known y m);
}
  where
    below : (n : ℕ) → n < length names → n < length s.forms
    below n h = subst (λ k. n < k) (s.size ∙ sym s.keeps.describes.size) h

    within : (n : ℕ) (u : Name) → slice_get names n ≡ Some u → n < length s.forms
    within n u h = below n (slice_get_within names n u h)

    last : (n : ℕ) → n ≡ length names → form_at (s.forms ++ variable_form x.0 ∷ []) n ≡ variable_form x.0
    last n e = ap (form_at (s.forms ++ variable_form x.0 ∷ [])) (e ∙ s.size ∙ sym s.keeps.describes.size) ∙ form_last s.forms (variable_form x.0)

    under : (n : ℕ) → n < length (names ++ Variable x ∷ []) → (n < length names) ⊎ (n ≡ length names)
    under n h = let e = length-append names (Variable x ∷ []) in grind arith

    same_variable : (x y : VarId) → Variable x ≡ Variable y → x.0 ≡ y.0
    same_variable x y e = cc

    no_member : (x : VarId) (i : ℕ) → Variable x ≡ Member i → ⊥
    no_member x i e = cc

    was_member : (n : ℕ) → IsMemberOf IsInequality told (names ++ Variable x ∷ []) n → IsMemberOf IsInequality told names n
    was_member n m = elim (name_at names (Variable x) n (Member m.number) m.named) [
      | inl h ↦ record { number = m.number; named = h; constraint = m.constraint; told_at = m.told_at; relation_is = m.relation_is }
      | inr h ↦ absurd (no_member x m.number h.1)
    ]

    known_at : (n : ℕ) (t : Name) → Variable x ≡ t → slice_get names n ≡ Some t → ⊥
    known_at n t e h = new (n, h ∙ ap Some (sym e))

    once : (m n : ℕ) (t : Name) → slice_get (names ++ Variable x ∷ []) m ≡ Some t → slice_get (names ++ Variable x ∷ []) n ≡ Some t → m ≡ n
    once m n t e f = elim (name_at names (Variable x) m t e) [
      | inl h ↦ elim (name_at names (Variable x) n t f) [ inl k ↦ s.once m n t h k | inr k ↦ absurd (known_at m t k.1 h) ]
      | inr h ↦ elim (name_at names (Variable x) n t f) [ inl k ↦ absurd (known_at n t h.1 k) | inr k ↦ h.0 ∙ sym k.0 ]
    ]

    only : (y : ℕ) → Mentions y (variable_form x.0).products → y ≡ x.0
    only y (inl e) = e
    only y (inr h) = absurd h

-- rows stay over columns where a column comes behind them
columns_more : (roles : List Role) → AreOverColumns roles → AreOverColumns (roles ++ Live ∷ [])
columns_more roles table = record {
  rows = λ i r a. elim (at_end roles i (Basic r) Live a) [
    | inl h ↦ record {
      live_row = row_weaker (is_live roles) (is_live (roles ++ Live ∷ [])) 0 r.live (λ c e. live_left roles Live c e) (table.rows i r h).live_row;
      dropped_row = row_weaker (is_dropped roles) (is_dropped (roles ++ Live ∷ [])) 0 r.dropped (λ c e. dropped_left roles Live c e) (table.rows i r h).dropped_row;
    }
    | inr h ↦ absurd (no_row r h.1)
  ];
}
  where
    no_row : (r : Row) → Basic r ≡ Live → ⊥
    no_row r e = cc

-- the calls that make the column
pub variable_stays : (names : List Name) (q : Quantities) (x : VarId) → (IsKnown names x.0 → ⊥) → (new_names : List Name) → new_names ≡ names ++ Variable x ∷ []
    → (new : Quantities) → new.roles ≡ q.roles ++ Live ∷ [] → new.restricted ≡ q.restricted ++ false ∷ [] → SameMeaning q.roles new.roles
    → StaysStored names q new_names new
variable_stays names q x n new_names e new r f same told s =
    subst (λ m. IsStored told m new) (sym e)
    (subst (λ z. IsStored told (names ++ Variable x ∷ []) z) (sym (quantities_are new _ _ r f))
    (variable_stored told names q s x n (subst (SameMeaning q.roles) r same) (columns_more q.roles s.keeps.table)))
  where
    quantities_are : (new : Quantities) (roles : List Role) (flags : List Bool) → new.roles ≡ roles → new.restricted ≡ flags → new ≡ record { roles = roles; restricted = flags }
    quantities_are new roles flags a b = ap₂ (λ p q. record { roles = p; restricted = q }) a b

-- the look-ups after it
pub numbered_more : (names : List Name) (old : List (VarId × ℕ)) → AreNumbered names old → (x : VarId) → (IsKnown names x.0 → ⊥) → (n : ℕ) → n ≡ length names
    → (new : List (VarId × ℕ))
    → ((y : VarId) → lookup (λ z. nat_eq y.0 z.0) new ≡ cond (nat_eq x.0 y.0) (Some n) (lookup (λ z. nat_eq y.0 z.0) old))
    → (new_names : List Name) → new_names ≡ names ++ Variable x ∷ [] → AreNumbered new_names new
numbered_more names old h x free n e new u new_names f k y g =
    elim (name_at names (Variable x) k (Variable y) (subst (λ l. slice_get l k ≡ Some (Variable y)) f g)) [
      | inl i ↦ u y ∙ cond-false (nat_eq x.0 y.0) (Some n) (lookup (λ z. nat_eq y.0 z.0) old)
          (nat_eq-apart x.0 y.0 (λ j. free (k, subst (λ z. slice_get names k ≡ Some (Variable (record { 0 = z }))) (sym j) i)))
          ∙ h k y i
      | inr i ↦ u y ∙ cond-true (nat_eq x.0 y.0) (Some n) (lookup (λ z. nat_eq y.0 z.0) old)
          (subst (λ z. nat_eq x.0 z ≡ true) (same_variable x y i.1) (nat_eq-self x.0))
          ∙ ap (λ z. Some z) (e ∙ sym i.0)
    ]
  where
    same_variable : (x y : VarId) → Variable x ≡ Variable y → x.0 ≡ y.0
    same_variable x y e = cc

-- ---- the constraint joins that the last quantity is named for
pub member_by : (K : List Linear → List Constraint → List Role → List Bool → Type 0) (told : List Constraint) (names : List Name) (q new : Quantities) (s : IsStored told names q) (c : Constraint)
    → ((x : ℕ) → Mentions x c.form.products → IsKnown names x)
    → K (s.forms ++ c.form ∷ []) (told ++ c ∷ []) new.roles new.restricted
    → length new.roles ≡ length q.roles + 1
    → ((n : ℕ) → is_restricted new.restricted n ≡ true → (is_restricted q.restricted n ≡ true) ⊎ ((n ≡ length q.roles) × IsInequality c.relation))
    → ((n : ℕ) → is_restricted q.restricted n ≡ true → is_restricted new.restricted n ≡ true)
    → ((n : ℕ) → is_dropped new.roles n ≡ true
    → (is_restricted new.restricted n ≡ true) ⊎ ((is_dropped q.roles n ≡ true) ⊎ ((n ≡ length q.roles) × IsEquation c.relation)))
    → (IsInequality c.relation → is_restricted new.restricted (length q.roles) ≡ true)
    → IsStoredBy K (told ++ c ∷ []) (names ++ Member (suc (length told)) ∷ []) new
member_by K told names q new s c knows k size flags still drops own_flag = record {
  forms = s.forms ++ c.form ∷ [];
  keeps = k;
  size = length-append names (t ∷ []) ∙ ap (λ m. m + 1) s.size ∙ sym size;
  variables = λ n y e. elim (name_at names t n (Variable y) e) [
    | inl h ↦ form_more s.forms c.form n (within n (Variable y) h) ∙ s.variables n y h
    | inr h ↦ absurd (no_variable y h.1)
  ];
  members = λ n i e. elim (name_at names t n (Member i) e) [
    | inl h ↦ more n i (within n (Member i) h) (s.members n i h)
    | inr h ↦ subst (λ j. IsMemberForm (told ++ c ∷ []) j (form_at (s.forms ++ c.form ∷ []) n)) (same_member i h.1)
        (record { constraint = c; told_at = last_told told c; form_is = sym (last n h.0) })
  ];
  placed = placed;
  once = once;
  ascends = ascends;
  flagged = flagged;
  owned = λ n e. elim (flags n e) [
    | inl h ↦ member_both IsInequality told c names t n (s.owned n h)
    | inr h ↦ own IsInequality n h.0 h.1
  ];
  dropped = λ n e. elim (drops n e) [
    | inl h ↦ inl h
    | inr (inl h) ↦ was_dropped n (s.dropped n h)
    | inr (inr h) ↦ inr (own IsEquation n h.0 h.1)
  ];
  mentioned = λ n h y m. elim (under n h) [
    | inl g ↦ known_more names t y (s.mentioned n g y (subst (λ f. Mentions y f.products) (form_more s.forms c.form n (below n g)) m))
    | inr e ↦ known_more names t y (knows y (subst (λ f. Mentions y f.products) (last n e) m))
  ];
  known = λ y m. known_more names t y (mentions_end y m);
}
  where
    t : Name
    t = Member (suc (length told))

    below : (n : ℕ) → n < length names → n < length s.forms
    below n h = subst (λ k. n < k) (s.size ∙ sym s.keeps.describes.size) h

    within : (n : ℕ) (u : Name) → slice_get names n ≡ Some u → n < length s.forms
    within n u h = below n (slice_get_within names n u h)

    last : (n : ℕ) → n ≡ length names → form_at (s.forms ++ c.form ∷ []) n ≡ c.form
    last n e = ap (form_at (s.forms ++ c.form ∷ [])) (e ∙ s.size ∙ sym s.keeps.describes.size) ∙ form_last s.forms c.form

    under : (n : ℕ) → n < length (names ++ t ∷ []) → (n < length names) ⊎ (n ≡ length names)
    under n h = let e = length-append names (t ∷ []) in grind arith

    no_variable : (y : VarId) → Member (suc (length told)) ≡ Variable y → ⊥
    no_variable y e = cc

    same_member : (i : ℕ) → Member (suc (length told)) ≡ Member i → suc (length told) ≡ i
    same_member i e = cc

    own : (R : Relation → Type 0) (n : ℕ) → n ≡ length q.roles → R c.relation → IsMemberOf R (told ++ c ∷ []) (names ++ t ∷ []) n
    own R n h r = record {
      number = suc (length told);
      named = ap (slice_get (names ++ t ∷ [])) (h ∙ sym s.size) ∙ name_last names t;
      constraint = c;
      told_at = last_told told c;
      relation_is = r;
    }

    placed : (i : ℕ) (k : Constraint) → member (told ++ c ∷ []) i ≡ Some k → (n : ℕ) × (slice_get (names ++ t ∷ []) n ≡ Some (Member i))
    placed zero k e = absurd (none-some k e)
    placed (suc i) k e = elim (get_push told c i k e) [
      | inl h ↦ let p = s.placed (suc i) k h in (p.0, get_kept names (t ∷ []) p.0 (Member (suc i)) p.1)
      | inr h ↦ (length names, name_last names t ∙ ap (λ j. Some (Member (suc j))) (sym h.0))
    ]

    number_below : (n i : ℕ) → slice_get names n ≡ Some (Member i) → i < suc (length told)
    number_below n zero h = omega arith
    number_below n (suc i) h = let m = s.members n (suc i) h in let w = slice_get_within told i m.constraint m.told_at in omega (arith, w)

    ascends : (m n i j : ℕ) → slice_get (names ++ t ∷ []) m ≡ Some (Member i) → slice_get (names ++ t ∷ []) n ≡ Some (Member j) → i < j → m < n
    ascends m n i j e f l = elim (name_at names t n (Member j) f) [
      | inl g ↦ elim (name_at names t m (Member i) e) [
        | inl h ↦ s.ascends m n i j h g l
        | inr h ↦ let a = same_member i h.1 in let b = number_below n j g in absurd (omega (arith, a, b, l))
      ]
      | inr g ↦ elim (name_at names t m (Member i) e) [
        | inl h ↦ let a = slice_get_within names m (Member i) h in let b = g.0 in omega (arith, a, b)
        | inr h ↦ let a = same_member i h.1 in let b = same_member j g.1 in absurd (omega (arith, a, b, l))
      ]
    ]

    flagged : (n : ℕ) → IsMemberOf IsInequality (told ++ c ∷ []) (names ++ t ∷ []) n → is_restricted new.restricted n ≡ true
    flagged n m = elim (name_at names t n (Member m.number) m.named) [
      | inl h ↦
          let o = s.members n m.number h in
          let e = same_Some m.constraint o.constraint (sym m.told_at ∙ told_more told c m.number o.constraint o.told_at) in
          still n (s.flagged n (record { number = m.number; named = h; constraint = o.constraint; told_at = o.told_at; relation_is = subst (λ (z : Constraint). IsInequality z.relation) e m.relation_is }))
      | inr h ↦
          let i = same_member m.number h.1 in
          let e = same_Some m.constraint c (sym m.told_at ∙ ap (member (told ++ c ∷ [])) (sym i) ∙ last_told told c) in
          let f = own_flag (subst (λ (z : Constraint). IsInequality z.relation) e m.relation_is) in
          subst (λ z. is_restricted new.restricted z ≡ true) (sym (h.0 ∙ s.size)) f
    ]

    not_before : (n : ℕ) (u : Name) → t ≡ u → slice_get names n ≡ Some u → ⊥
    not_before n u e h =
        let m = s.members n (suc (length told)) (h ∙ ap Some (sym e)) in
        absurd (omega (arith, slice_get_within told (length told) m.constraint m.told_at))

    once : (m n : ℕ) (u : Name) → slice_get (names ++ t ∷ []) m ≡ Some u → slice_get (names ++ t ∷ []) n ≡ Some u → m ≡ n
    once m n u e f = elim (name_at names t m u e) [
      | inl h ↦ elim (name_at names t n u f) [ inl k ↦ s.once m n u h k | inr k ↦ absurd (not_before m u k.1 h) ]
      | inr h ↦ elim (name_at names t n u f) [ inl k ↦ absurd (not_before n u h.1 k) | inr k ↦ h.0 ∙ sym k.0 ]
    ]

    was_dropped : (n : ℕ) → (is_restricted q.restricted n ≡ true) ⊎ IsMemberOf IsEquation told names n
        → (is_restricted new.restricted n ≡ true) ⊎ IsMemberOf IsEquation (told ++ c ∷ []) (names ++ t ∷ []) n
    was_dropped n (inl h) = inl (still n h)
    was_dropped n (inr h) = inr (member_both IsEquation told c names t n h)

    more : (n i : ℕ) → n < length s.forms → IsMemberForm told i (form_at s.forms n) → IsMemberForm (told ++ c ∷ []) i (form_at (s.forms ++ c.form ∷ []) n)
    more n i h m = record {
      constraint = m.constraint;
      told_at = told_more told c i m.constraint m.told_at;
      form_is = m.form_is ∙ sym (form_more s.forms c.form n h);
    }

    mentions_end : (y : ℕ) → SomeMentions y (told ++ c ∷ []) → IsKnown names y
    mentions_end y m = go (mention_last told y m)
      where
        mention_last : (l : List Constraint) (y : ℕ) → SomeMentions y (l ++ c ∷ []) → SomeMentions y l ⊎ Mentions y c.form.products
        mention_last [] y (inl h) = inr h
        mention_last [] y (inr h) = absurd h
        mention_last (d ∷ l) y (inl h) = inl (inl h)
        mention_last (d ∷ l) y (inr h) = elim (mention_last l y h) [ inl g ↦ inl (inr g) | inr g ↦ inr g ]

        go : SomeMentions y told ⊎ Mentions y c.form.products → IsKnown names y
        go (inl h) = s.known y h
        go (inr h) = knows y h

-- ---- forms over quantities
prefix_get : (names more : List Name) → IsPrefix names more → (n : ℕ) (t : Name) → slice_get names n ≡ Some t → slice_get more n ≡ Some t
prefix_get names more p n t e = subst (λ l. slice_get l n ≡ Some t) (sym p.1) (get_kept names p.0 n t e)

placed_grows : (names more : List Name) → IsPrefix names more → (ps : List Monomial) (s : List Entry) → IsPlaced names ps s → IsPlaced more ps s
placed_grows names more p [] [] h = tt
placed_grows names more p [] (m ∷ s) h = absurd h
placed_grows names more p (a ∷ ps) [] h = absurd h
placed_grows names more p (a ∷ ps) (m ∷ s) h = (prefix_get names more p m.quantity _ h.0, h.1, placed_grows names more p ps s h.2)

placed_end : (names : List Name) (a : Monomial) (m : Entry) → slice_get names m.quantity ≡ Some (Variable (record { 0 = a.variable })) → m.factor ≡ a.factor
    → (ps : List Monomial) (s : List Entry) → IsPlaced names ps s → IsPlaced names (ps ++ a ∷ []) (s ++ m ∷ [])
placed_end names a m e f [] [] h = (e, f, tt)
placed_end names a m e f [] (n ∷ s) h = absurd h
placed_end names a m e f (b ∷ ps) [] h = absurd h
placed_end names a m e f (b ∷ ps) (n ∷ s) h = (h.0, h.1, placed_end names a m e f ps s h.2)

products-end : (s : List Entry) (p : Entry) → products_of (s ++ p ∷ []) ≡ products_of s ++ product_of p ∷ []
products-end [] p = refl
products-end (q ∷ s) p = ap (λ t. product_of q ∷ t) (products-end s p)

-- one product more is placed
pub placed_more : (names more : List Name) → IsPrefix names more → (items : List Entry) (i : ℕ) (item : Entry) → i < length items → item ≡ get_or items i item
    → (s : List Entry) → IsPlaced names (products_of (take i items)) s → (n : ℕ) → slice_get more n ≡ Some (Variable (record { 0 = item.quantity }))
    → IsPlaced more (products_of (take (i + 1) items)) (s ++ record { quantity = n; factor = item.factor } ∷ [])
placed_more names more p items i item l e s h n g =
    subst (λ ps. IsPlaced more ps (s ++ record { quantity = n; factor = item.factor } ∷ []))
    (sym (ap products_of (take-next items i item l e) ∙ products-end (take i items) item))
    (placed_end more (product_of item) (record { quantity = n; factor = item.factor }) g refl (products_of (take i items)) s (placed_grows names more p (products_of (take i items)) s h))

-- it has the form's value
pub placed_value : (forms : List Linear) (names : List Name) → ((n : ℕ) (x : VarId) → slice_get names n ≡ Some (Variable x) → form_at forms n ≡ variable_form x.0)
    → (v : ℕ → ℚ) (ps : List Monomial) (s : List Entry) → IsPlaced names ps s → rows.sum_at (λ q. value_at v (form_at forms q)) s ≡ sum_at v ps
placed_value forms names named v [] [] h = refl
placed_value forms names named v [] (m ∷ s) h = absurd h
placed_value forms names named v (p ∷ ps) [] h = absurd h
placed_value forms names named v (p ∷ ps) (m ∷ s) h =
    ap₂ (λ a b. a *ℚ b +ℚ rows.sum_at (λ q. value_at v (form_at forms q)) s) h.1 (ap (value_at v) (named m.quantity _ h.0) ∙ value_at-variable_form v p.variable)
    ∙ ap (λ b. p.factor *ℚ v p.variable +ℚ b) (placed_value forms names named v ps s h.2)

-- its quantities are there
pub placed_below : (names : List Name) (ps : List Monomial) (s : List Entry) → IsPlaced names ps s → (m : Entry) → rows.Has m s → m.quantity < length names
placed_below names ps [] h m i = absurd i
placed_below names [] (n ∷ s) h m i = absurd h
placed_below names (p ∷ ps) (n ∷ s) h m (inl e) = subst (λ (k : Entry). k.quantity < length names) (sym e) (slice_get_within names n.quantity _ h.0)
placed_below names (p ∷ ps) (n ∷ s) h m (inr i) = placed_below names ps s h.2 m i

-- its variables are known
pub placed_known : (names : List Name) (ps : List Monomial) (s : List Entry) → IsPlaced names ps s → (x : ℕ) → Mentions x ps → IsKnown names x
placed_known names [] s h x i = absurd i
placed_known names (p ∷ ps) [] h x i = absurd h
placed_known names (p ∷ ps) (m ∷ s) h x (inl e) = subst (IsKnown names) (sym e) (m.quantity, h.0)
placed_known names (p ∷ ps) (m ∷ s) h x (inr i) = placed_known names ps s h.2 x i

-- ---- a form's row
module _ (told : List Constraint) (names : List Name) (q : Quantities) (s : IsStored told names q) (f : Linear) (entries : List Entry)
    (placed : IsPlaced names f.products entries) where
  pub entries_below : (m : Entry) → rows.Has m entries → m.quantity < length q.roles
  entries_below m h = subst (λ n. m.quantity < n) s.size (placed_below names f.products entries placed m h)

  pub row_keeps : (new : List Role) → AddsRow q.roles entries f.constant new → DefinesLast q.roles entries f.constant new → AreOverColumns new
      → Keeps (s.forms ++ f ∷ []) told new (q.restricted ++ false ∷ [])
  row_keeps new a defines table =
      subst (λ r. Keeps (s.forms ++ f ∷ []) told r (q.restricted ++ false ∷ [])) (sym a.last)
      (keeps_more s.forms told q.roles q.restricted s.keeps f (Basic a.row) refl (subst AreOverColumns a.last table)
      (described_row q.roles q.restricted s.forms s.keeps.table s.keeps.describes f entries f.constant a.row entries_below
      (subst (λ r. DefinesLast q.roles entries f.constant r) a.last defines)
      (λ v. ap (λ b. f.constant +ℚ b) (sym (placed_value s.forms names s.variables v f.products entries placed)))))

  -- the row is asked about
  pub row_there : (new : List Role) → AddsRow q.roles entries f.constant new → (n : ℕ) → n ≡ length q.roles → IsRow new n
  row_there new a n e = (a.row, subst (λ r. IsAt r n (Basic a.row)) (sym a.last) (subst (λ m. IsAt (q.roles ++ Basic a.row ∷ []) m (Basic a.row)) (sym e) (at_last q.roles (Basic a.row))))

  pub row_feasible : (new : List Role) (flags : List Bool) → AddsRow q.roles entries f.constant new → DefinesLast q.roles entries f.constant new → AreOverColumns new
      → flags ≡ q.restricted ++ false ∷ [] → (n : ℕ) → of_simplex.IsFeasible (is_restricted flags) (dictionary new n)
  row_feasible new flags a defines table e n =
      subst (λ g. of_simplex.IsFeasible (is_restricted g) (dictionary new n)) (sym e)
      (let k = row_keeps new a defines table in searchable new (q.restricted ++ false ∷ []) (s.forms ++ f ∷ []) n k.size k.invariant.sound.feasible)

-- the same of a form that is asked
module _ (told : List Constraint) (names : List Name) (q : Quantities) (s : IsStored told names q) (f : Linear) (new_names : List Name) (mid : Quantities) (n : ℕ)
    (a : AsksForm names q f new_names mid n) where
  pub asked_kept : Keeps ((a.stays told s).forms ++ f ∷ []) told mid.roles mid.restricted
  asked_kept =
      subst (λ g. Keeps ((a.stays told s).forms ++ f ∷ []) told mid.roles g) (sym a.flags)
      (row_keeps told new_names a.before (a.stays told s) f a.entries a.placed mid.roles a.row a.defines a.table)

  pub asked_row : IsRow mid.roles n
  asked_row = row_there told new_names a.before (a.stays told s) f a.entries a.placed mid.roles a.row n a.number

-- the inequality of this relation and form
inequality_keeps : (r : Relation) → IsInequality r → (forms : List Linear) (told : List Constraint) (n : ℕ) (f : Linear) → form_at forms n ≡ f → (roles : List Role) (flags : List Bool)
    → KeepsBoth forms told n roles flags → Keeps forms (record { relation = r; form = f } ∷ told) roles flags
inequality_keeps Eq h forms told n f e roles flags k = absurd h
inequality_keeps Gt h forms told n f e roles flags k = subst (λ g. Keeps forms (above_zero g ∷ told) roles flags) e k.strict
inequality_keeps Ge h forms told n f e roles flags k = subst (λ g. Keeps forms (at_least_zero g ∷ told) roles flags) e k.weak
inequality_keeps Ne h forms told n f e roles flags k = absurd h

-- a name in front that is not the variable
later : (names : List Name) (x : ℕ) → (IsKnown names x → ⊥) → (t : Name) → (t ≡ Variable (record { 0 = x }) → ⊥) → (n : ℕ)
    → slice_get (t ∷ names) n ≡ Some (Variable (record { 0 = x })) → ⊥
later names x h t other zero e = other (same_Some t (Variable (record { 0 = x })) e)
later names x h t other (suc n) e = h (n, e)

same_variable : (x y : VarId) → Variable x ≡ Variable y → x.0 ≡ y.0
same_variable x y e = cc

-- a variable has a quantity or none
pub known_or_not : (names : List Name) (x : ℕ) → IsKnown names x ⊎ (IsKnown names x → ⊥)
known_or_not [] x = inr (λ k. none-some _ k.1)
known_or_not (Member i ∷ names) x = elim (known_or_not names x) [ inl k ↦ inl (suc k.0, k.1) | inr n ↦ inr (λ k. later names x n (Member i) (λ e. cc) k.0 k.1) ]
known_or_not (Variable y ∷ names) x = go (nat_eq y.0 x) refl (known_or_not names x)
  where
    go : (b : Bool) → nat_eq y.0 x ≡ b → IsKnown names x ⊎ (IsKnown names x → ⊥) → IsKnown (Variable y ∷ names) x ⊎ (IsKnown (Variable y ∷ names) x → ⊥)
    go true e r = inl (0, ap (λ z. Some (Variable (record { 0 = z }))) (nat_eq-same y.0 x e))
    go false e r = elim r [
      | inl k ↦ inl (suc k.0, k.1)
      | inr n ↦ inr (λ k. later names x n (Variable y) (λ f. nat_eq-other y.0 x e (same_variable y (record { 0 = x }) f)) k.0 k.1)
    ]

-- ---- a constraint whose form is a row more is stored last
module _ (told : List Constraint) (names : List Name) (q : Quantities) (s : IsStored told names q) (c : Constraint) (entries : List Entry)
    (placed : IsPlaced names c.form.products entries) (mid : List Role) (a : AddsRow q.roles entries c.form.constant mid)
    (defines : DefinesLast q.roles entries c.form.constant mid) (table : AreOverColumns mid) (mid_flags : List Bool) (e : mid_flags ≡ q.restricted ++ false ∷ []) where
  -- what is kept before it joins
  pub row_kept : Keeps (s.forms ++ c.form ∷ []) told mid mid_flags
  row_kept = subst (λ g. Keeps (s.forms ++ c.form ∷ []) told mid g) (sym e) (row_keeps told names q s c.form entries placed mid a defines table)

  -- its form
  pub form_here : (n : ℕ) → n ≡ length q.roles → form_at (s.forms ++ c.form ∷ []) n ≡ c.form
  form_here n en = ap (form_at (s.forms ++ c.form ∷ [])) (en ∙ sym s.keeps.describes.size) ∙ form_last s.forms c.form

  pub row_flag : (z : ℕ) → is_restricted mid_flags z ≡ is_restricted q.restricted z
  row_flag z = ap (λ g. is_restricted g z) e ∙ flag_more q.restricted z

  -- no column is dropped by it
  module _ (new : Quantities) (front : Keeps (s.forms ++ c.form ∷ []) (c ∷ told) new.roles new.restricted) (same_dropped : (z : ℕ) → is_dropped new.roles z ≡ is_dropped mid z) where
    after : Keeps (s.forms ++ c.form ∷ []) (told ++ c ∷ []) new.roles new.restricted
    after = keeps_last (s.forms ++ c.form ∷ []) told c new.roles new.restricted front

    size : length new.roles ≡ length q.roles + 1
    size = sym after.describes.size ∙ length-append s.forms (c.form ∷ []) ∙ ap (λ m. m + 1) s.keeps.describes.size

    variable_there : (x : ℕ) → IsKnown names x → Place (tableau new.roles new.restricted (s.forms ++ c.form ∷ [])) (variable_form x)
    variable_there x h =
        let b : h.0 < length q.roles = subst (λ m. h.0 < m) s.size (slice_get_within names h.0 (Variable (record { 0 = x })) h.1) in
        record {
          quantity = h.0;
          made = omega (arith, b, size);
          form_is = form_more s.forms c.form h.0 (subst (λ m. h.0 < m) (sym s.keeps.describes.size) b) ∙ s.variables h.0 (record { 0 = x }) h.1;
        }

    was_dropped : (z : ℕ) → is_dropped new.roles z ≡ true → is_dropped q.roles z ≡ true
    was_dropped z r = sym (dropped_more q.roles (Basic a.row) refl z) ∙ ap (λ m. is_dropped m z) (sym a.last) ∙ sym (same_dropped z) ∙ r

    none_fixed : (x : ℕ) → NewlyFixed told (told ++ c ∷ []) x → ⊥
    none_fixed x = elim (known_or_not names x) [
      | inl h ↦ none_newly (tableau mid mid_flags (s.forms ++ c.form ∷ [])) (tableau new.roles new.restricted (s.forms ++ c.form ∷ [])) told c row_kept.invariant front.invariant x
          (λ v w d r. w d (sym (same_dropped d) ∙ r)) (variable_there x h)
      | inr h ↦ not_newly (tableau mid mid_flags (s.forms ++ c.form ∷ [])) (tableau new.roles new.restricted (s.forms ++ c.form ∷ [])) told c row_kept.invariant front.invariant x
          (is_unmentioned (λ m. elim m [ inl g ↦ h (placed_known names c.form.products entries placed x g) | inr g ↦ h (s.known x g) ]))
    ]

    pub joined_stored : ((z : ℕ) → is_restricted new.restricted z ≡ true → (is_restricted q.restricted z ≡ true) ⊎ ((z ≡ length q.roles) × IsInequality c.relation))
        → ((z : ℕ) → is_restricted q.restricted z ≡ true → is_restricted new.restricted z ≡ true)
        → (IsInequality c.relation → is_restricted new.restricted (length q.roles) ≡ true)
        → (number : ℕ) → number ≡ length told + 1 → (new_names : List Name) → new_names ≡ names ++ Member number ∷ []
        → (fixed : List VarId) → fixed ≡ [] → JoinsStored told c fixed new_names new
    joined_stored flags still own_flag number num new_names names_are fixed none = record {
      stored = subst (λ l. IsStored (told ++ c ∷ []) l new) (sym (names_are ∙ ap (λ m. names ++ Member m ∷ []) (num ∙ add-one (length told))))
          (member_by Keeps told names q new s c (λ x m. placed_known names c.form.products entries placed x m) after size flags still
          (λ z r. inr (inl (was_dropped z r))) own_flag);
      newly = subst (λ xs. AreNewlyFixed told (told ++ c ∷ []) (numbers_of xs)) (sym none) (record { once = tt; each = λ x. (λ h. absurd h, λ n. absurd (none_fixed x n)) });
    }

  -- an inequality whose form rises
  pub inequality_stored : IsInequality c.relation → (n : ℕ) → n ≡ length q.roles → (new : Quantities) → new.restricted ≡ slice_set mid_flags n true
      → Joins n mid mid_flags new.roles new.restricted → (number : ℕ) → number ≡ length told + 1 → (new_names : List Name) → new_names ≡ names ++ Member number ∷ []
      → (fixed : List VarId) → fixed ≡ [] → JoinsStored told c fixed new_names new
  inequality_stored i n en new ef joins =
      let b = joins (s.forms ++ c.form ∷ []) told row_kept in
      joined_stored new (inequality_keeps c.relation i (s.forms ++ c.form ∷ []) told n c.form (form_here n en) new.roles new.restricted b.0) b.1
      (λ z r. flags z (flag_only mid_flags n z (subst (λ g. is_restricted g z ≡ true) ef r)))
      (λ z r. subst (λ g. is_restricted g z ≡ true) (sym ef) (flag_still mid_flags n z (row_flag z ∙ r)))
      (λ r. subst (λ g. is_restricted g (length q.roles) ≡ true) (sym ef)
      (subst (λ z. is_restricted (slice_set mid_flags n true) z ≡ true) en (flag_set mid_flags n (subst (λ z. n < z) (ap (λ g. length g) (sym e)) below_flags))))
    where
      below_flags : n < length (q.restricted ++ false ∷ [])
      below_flags = let w = length-append q.restricted (false ∷ []) in let v = s.keeps.size in omega (arith, w, v, en)

      flags : (z : ℕ) → Has z (n ∷ []) ⊎ (is_restricted mid_flags z ≡ true)
          → (is_restricted q.restricted z ≡ true) ⊎ ((z ≡ length q.roles) × IsInequality c.relation)
      flags z (inl (inl h)) = inr (h ∙ en, i)
      flags z (inl (inr h)) = absurd h
      flags z (inr h) = inl (sym (row_flag z) ∙ h)

  -- a disequation whose row is something
  pub disequation_stored : c.relation ≡ Ne → (n : ℕ) → n ≡ length q.roles → IsSomething (of_forms.row_of n (role_at mid n))
      → (number : ℕ) → number ≡ length told + 1 → (new_names : List Name) → new_names ≡ names ++ Member number ∷ []
      → (fixed : List VarId) → fixed ≡ [] → JoinsStored told c fixed new_names (record { roles = mid; restricted = mid_flags })
  disequation_stored i n en h =
      joined_stored (record { roles = mid; restricted = mid_flags }) front (λ z. refl) (λ z r. inl (sym (row_flag z) ∙ r)) (λ z r. row_flag z ∙ r)
      (λ r. absurd (subst IsInequality i r))
    where
      made : n < length mid
      made = let b = sym row_kept.describes.size ∙ length-append s.forms (c.form ∷ []) ∙ ap (λ m. m + 1) s.keeps.describes.size in omega (arith, b, en)

      unequal : (r : Relation) → r ≡ Ne → r ≡ Eq → ⊥
      unequal r e f = cc

      apart : Invariant (tableau mid mid_flags (s.forms ++ c.form ∷ [])) (c ∷ told)
      apart =
          subst (λ r. Invariant (tableau mid mid_flags (s.forms ++ c.form ∷ [])) (record { relation = r; form = c.form } ∷ told)) (sym i)
          (subst (λ f. Invariant (tableau mid mid_flags (s.forms ++ c.form ∷ [])) (not_zero f ∷ told)) (form_here n en)
          (of_steps.joined_apart (tableau mid mid_flags (s.forms ++ c.form ∷ [])) told row_kept.invariant n made h))

      front : Keeps (s.forms ++ c.form ∷ []) (c ∷ told) mid mid_flags
      front = record {
        table = row_kept.table;
        size = row_kept.size;
        describes = row_kept.describes;
        invariant = apart;
        dropped = of_more.dropped_more (tableau mid mid_flags (s.forms ++ c.form ∷ [])) (tableau mid mid_flags (s.forms ++ c.form ∷ []))
            (written (s.forms ++ c.form ∷ []) told mid mid_flags row_kept) [] [] (unchanged mid mid_flags (s.forms ++ c.form ∷ [])) (λ z h. absurd h) told row_kept.dropped c
            (λ r. absurd (unequal c.relation i r));
      }

-- a member's name tells no variable's number
pub numbered_member : (names : List Name) (entries : List (VarId × ℕ)) → AreNumbered names entries → (i : ℕ) (new : List Name) → new ≡ names ++ Member i ∷ [] → AreNumbered new entries
numbered_member names entries h i new e n x g =
    elim (name_at names (Member i) n (Variable x) (subst (λ l. slice_get l n ≡ Some (Variable x)) e g)) [ inl k ↦ h n x k | inr k ↦ absurd (no_variable i x k.1) ]
  where
    no_variable : (i : ℕ) (x : VarId) → Member i ≡ Variable x → ⊥
    no_variable i x e = cc
