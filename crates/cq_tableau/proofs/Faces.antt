-- What holds where a quantity is held to zero, its greatest value.
use Rattle.std.proofs.Common.{◌≡◌, ℕ, ◌<◌, List, [], ◌∷◌, length, Bool, true, false, ◌⊎◌, inl, inr, ◌↔◌, ◌+◌, Option, None, Some, arith, refl, ap, sym, subst, ◌∙◌}
use Rattle.std.specs.Prelude.{slice_index, slice_set, MatchOption}
use Rattle.std.proofs.lemmas.List.{length-set}
use Rattle.spec_numbers.specs.Rational.{ℚ, 0ℚ, IsNotNegative}
use Rattle.spec_numbers.proofs.Sign.{nonneg_zero}
use Rattle.spec_linear.specs.declared.Relation.TheVariants.{Eq, Ge}
use Rattle.spec_linear.specs.Form.{Linear}
use Rattle.spec_linear.specs.Solution.{Constraint, Has}
use Rattle.spec_linear.specs.Weak.{at_least_zero}
use Rattle.spec_numbers.specs.Sums.{Monomial}
use Rattle.spec_simplex.specs.Tableau.{Tableau, IsWritten, IsFeasible, IsOptimal, AllIn, Changed}
use Rattle.cq_form.specs.Entries.{products_of}
use Rattle.spec_simplex.proofs.Linked.{linked_written}
use Rattle.spec_simplex.proofs.Steps.{sound_weak, one_of}
use Rattle.spec_simplex.proofs.More.{dropped_more}
use Rattle.cq_frac.specs.declared.row.Entry.{Entry}
use Rattle.cq_frac.specs.Rows as rows
use Rattle.cq_dict.specs.declared.table.Role.{Role}
use Rattle.cq_dict.specs.declared.table.Role.TheVariants.{Live, Basic}
use Rattle.cq_dict.specs.Roles.{is_live, is_dropped, is_restricted, role_at}
use Rattle.cq_dict.proofs.Roles.{at_below, role_is, role_live, dropped_at}
use Rattle.cq_tableau.specs.Forms.{row_of, form_at, tableau}
use Rattle.cq_tableau.specs.Keeps.{Keeps, Speaks}
use Rattle.cq_tableau.specs.Dropped.{quantities, DropsEach}
use Rattle.cq_tableau.specs.declared.names.Name.{Name}
use Rattle.cq_tableau.specs.Stored.{IsMemberOf}
use Rattle.cq_tableau.specs.Values.{IsNumber}
use Rattle.cq_tableau.specs.Looked.{LooksOn, SpeaksOfSome, IsFlatAt, IsStrict, IsApart, IsFallen, AllStand}
use Rattle.cq_tableau.specs.Faced.{KeepsSome, IsFace, HoldsAtZero, IsNotZero, IsZeroNow, AllApart, AllHold, HasFallen, strict_fallen, apart_fallen, IsFaced}
use Rattle.cq_tableau.proofs.Tied.{linked, optimal_of}
use Rattle.cq_tableau.proofs.Steps.{restricted, flag_only, flag_still}
use Rattle.cq_tableau.proofs.Looks.{drop_speaks, columns_zero, row_flat, flat_further, quantities-negated}

ge_not_eq : Ge ≡ Eq → ⊥
ge_not_eq e = cc

entry_of : (s : List Entry) (z : ℕ) → Has z (quantities s) → (n : Entry) × rows.Has n s × (n.quantity ≡ z)
entry_of [] z h = absurd h
entry_of (n ∷ s) z (inl e) = (n, inl refl, sym e)
entry_of (n ∷ s) z (inr h) = let r = entry_of s z h in (r.0, inr r.1, r.2)

only_restricted : (d : Tableau) (s : List Monomial) → IsOptimal d s → AllIn d.is_restricted s
only_restricted d [] o = tt
only_restricted d (m ∷ s) o = (o.0.0, only_restricted d s o.1)

all_weaker : (p r : ℕ → Bool) → ((z : ℕ) → p z ≡ true → r z ≡ true) → (s : List Monomial) → AllIn p s → AllIn r s
all_weaker p r h [] a = tt
all_weaker p r h (m ∷ s) a = (h m.variable a.0, all_weaker p r h s a.1)

-- ---- the row is held to zero
module _ (q : ℕ) (old : List Role) (flags : List Bool) (columns : List Entry) (face : IsFace old flags q columns) where
  pub face_live : (z : ℕ) → Has z (quantities columns) → is_live old z ≡ true
  face_live z h = let n = entry_of columns z h in subst (λ y. is_live old y ≡ true) n.2 (face.live n.0 n.1)

  face_restricted : (z : ℕ) → Has z (quantities columns) → is_restricted flags z ≡ true
  face_restricted z h = let n = entry_of columns z h in subst (λ y. is_restricted flags y ≡ true) n.2 (face.restricted n.0 n.1)

  pub face_there : q < length old
  face_there = at_below old q (Basic face.own) face.is_row

  same_columns : quantities columns ≡ quantities face.own.live
  same_columns = ap quantities face.entries ∙ quantities-negated face.own.live

  face_optimal : (forms : List Linear) → IsOptimal (tableau old flags forms) (products_of face.own.live)
  face_optimal forms =
      optimal_of old flags forms face.own.live (λ m h. face.positive m (subst (rows.Has m) (sym face.entries) h)) (λ m h. face.restricted m (subst (rows.Has m) (sym face.entries) h))

  module _ (forms : List Linear) (l : List Constraint) (k : Keeps forms l old flags) where
    flags_now : List Bool
    flags_now = slice_set flags q true

    pressed_feasible : IsFeasible (tableau old (slice_set flags q true) forms)
    pressed_feasible = record {
      constants = λ z h r. elim (flag_only flags q z r) [
        | inl m ↦ subst (λ y. IsNotNegative (row_of y (role_at old y)).constant) (sym (one_of q z m))
            (subst IsNotNegative (sym (ap (λ t. (row_of q t).constant) (role_is old q (Basic face.own) face.is_row) ∙ face.constant)) nonneg_zero)
        | inr t ↦ k.invariant.sound.feasible.constants z h t
      ];
      columns = λ z h r. all_weaker (is_restricted flags) (is_restricted (slice_set flags q true)) (λ y t. flag_still flags q y t) (row_of z (role_at old z)).live
          (elim (flag_only flags q z r) [
            | inl m ↦ subst (λ y. AllIn (is_restricted flags) (row_of y (role_at old y)).live) (sym (one_of q z m))
                (subst (λ t. AllIn (is_restricted flags) (row_of q t).live) (sym (role_is old q (Basic face.own) face.is_row))
                (only_restricted (tableau old flags forms) (products_of face.own.live) (face_optimal forms)))
            | inr t ↦ k.invariant.sound.feasible.columns z h t
          ]);
    }

    pressed_changed : Changed (tableau old flags forms) (tableau old (slice_set flags q true) forms) [] (q ∷ [])
    pressed_changed = restricted old flags forms q face_there k.size

    pressed_size : length (slice_set flags q true) ≡ length old
    pressed_size = length-set flags q true ∙ k.size

    pressed_written : IsWritten (tableau old (slice_set flags q true) forms)
    pressed_written = linked_written (tableau old (slice_set flags q true) forms) (linked old (slice_set flags q true) forms k.table pressed_size k.describes)

    -- it is restricted
    pressed : Speaks forms (at_least_zero (form_at forms q) ∷ l) old (slice_set flags q true)
    pressed =
        let d = tableau old flags forms in
        let e = tableau old (slice_set flags q true) forms in
        record {
          table = k.table;
          size = pressed_size;
          describes = k.describes;
          sound = sound_weak d e l k.invariant.sound q face_there pressed_changed pressed_written pressed_feasible;
          dropped = dropped_more d e k.invariant.sound.written [] (q ∷ []) pressed_changed
              (λ z h. subst (λ y. is_dropped old y ≡ false) (sym (one_of q z h)) (dropped_at old q (Basic face.own) face.is_row)) l k.dropped
              (at_least_zero (form_at forms q)) (λ r. absurd (ge_not_eq r));
        }

    module _ (new : List Role) (d : DropsEach old (quantities columns) new) where
      made_columns : (z : ℕ) → Has z (quantities columns) → z < length old
      made_columns z h = at_below old z Live (role_live old z (face_live z h))

      held_speaks : Speaks forms (at_least_zero (form_at forms q) ∷ l) new (slice_set flags q true)
      held_speaks =
          drop_speaks forms (at_least_zero (form_at forms q) ∷ l) old (slice_set flags q true) pressed (quantities columns) new d made_columns
          (λ z h v w. columns_zero forms (at_least_zero (form_at forms q) ∷ l) old (slice_set flags q true) pressed q face.own face.is_row face.constant now_optimal v w w.0 z
          (subst (Has z) same_columns h))
        where
          now_optimal : IsOptimal (tableau old (slice_set flags q true) forms) (products_of face.own.live)
          now_optimal =
              optimal_of old (slice_set flags q true) forms face.own.live (λ m h. face.positive m (subst (rows.Has m) (sym face.entries) h))
              (λ m h. flag_still flags q m.quantity (face.restricted m (subst (rows.Has m) (sym face.entries) h)))

      held_flat : IsFlatAt forms new (slice_set flags q true) q
      held_flat =
          row_flat forms (at_least_zero (form_at forms q) ∷ l) old (slice_set flags q true) pressed q face.own face.is_row face.constant new
          (subst (λ c. DropsEach old c new) same_columns d)

  pub holds_at_zero : (new : List Role) → DropsEach old (quantities columns) new → (new_flags : List Bool) → new_flags ≡ slice_set flags q true
      → HoldsAtZero q old flags new new_flags
  holds_at_zero new d new_flags e = subst (HoldsAtZero q old flags new) (sym e) (record {
    same_flags = refl;
    size = d.size;
    speaks = λ forms l k. held_speaks forms l k new d;
    flat = λ forms l k. held_flat forms l k new d;
    still = d.still;
    only = λ c h. elim (d.only c h) [ inl g ↦ inl (flag_still flags q c (face_restricted c g)) | inr g ↦ inr g ];
  })

-- what is looked at after it
pub holds_further : (q : ℕ) (old : List Role) (flags : List Bool) (mid new : List Role) (new_flags : List Bool) → HoldsAtZero q old flags mid new_flags
    → LooksOn mid new new_flags → HoldsAtZero q old flags new new_flags
holds_further q old flags mid new new_flags h x = record {
  same_flags = h.same_flags;
  size = x.size ∙ h.size;
  speaks = λ forms l k. x.speaks forms (at_least_zero (form_at forms q) ∷ l) (h.speaks forms l k);
  flat = λ forms l k. flat_further forms mid new new_flags x q (h.flat forms l k);
  still = λ c g. x.still c (h.still c g);
  only = λ c g. elim (x.only c g) [ inl r ↦ inl r | inr r ↦ h.only c r ];
}

pub some_speaks : (q : ℕ) (old : List Role) (flags : List Bool) (new : List Role) (new_flags : List Bool) → HoldsAtZero q old flags new new_flags → KeepsSome old flags
    → SpeaksOfSome new new_flags
some_speaks q old flags new new_flags h k =
    record { forms = k.forms; list = at_least_zero (form_at k.forms q) ∷ k.list; speaks = h.speaks k.forms k.list k.keeps }

-- ---- zero, or not
pub zero_now : (roles : List Role) (n : ℕ) (v : ℚ) → IsNumber roles n v → (b : Bool) → (b ≡ true ↔ (v ≡ 0ℚ)) → IsZeroNow roles n b
zero_now roles n v m true f = subst (IsNumber roles n) (f.0 refl) m
zero_now roles n v m false f = inr (v, m, λ z. let g = f.1 z in cc)

-- the disequations below a number are apart
pub one_apart : (told : List Constraint) (names : List Name) (roles : List Role) (q : ℕ) → ((z : ℕ) → z < q → IsMemberOf IsApart told names z → IsNotZero roles z)
    → (IsMemberOf IsApart told names q → IsNotZero roles q) → (z : ℕ) → z < q + 1 → IsMemberOf IsApart told names z → IsNotZero roles z
one_apart told names roles q h k z l m = elim (last z l) [ inl g ↦ h z g m | inr e ↦ subst (IsNotZero roles) (sym e) (k (subst (IsMemberOf IsApart told names) e m)) ]
  where
    last : (z : ℕ) → z < q + 1 → (z < q) ⊎ (z ≡ q)
    last z l = grind arith

-- ---- what the second look finds
module _ (q : ℕ) (old : List Role) (flags : List Bool) (mid : List Role) (mid_flags : List Bool) (h : HoldsAtZero q old flags mid mid_flags)
    (new : List Role) (new_flags : List Bool) (e : new_flags ≡ mid_flags) (x : LooksOn mid new mid_flags) where
  pub holds_after : HoldsAtZero q old flags new new_flags
  holds_after = subst (HoldsAtZero q old flags new) (sym e) (holds_further q old flags mid new mid_flags h x)

  pub strict_falls : (told : List Constraint) (names : List Name) (z : ℕ) → IsFallen IsStrict told names mid new mid_flags z → HasFallen told names old flags new new_flags z
  strict_falls told names z f =
      subst (λ g. HasFallen told names old flags new g z) (sym e)
      (strict_fallen f.member (λ forms l k. f.flat forms (at_least_zero (form_at forms q) ∷ l) (h.speaks forms l k)))

  pub disequations_faced : (told : List Constraint) (names : List Name) (o : Option ℕ) → AllStand told names mid new mid_flags
      → MatchOption o (AllApart told names new) (λ z. IsMemberOf IsApart told names z × IsNumber new z 0ℚ) → IsFaced told names q old flags new new_flags o
  disequations_faced told names None a m =
      subst (λ g. AllHold told names q old flags new g) (sym e)
      (record { stand = λ forms l k z r. a forms (at_least_zero (form_at forms q) ∷ l) (h.speaks forms l k) z r; apart = m })
  disequations_faced told names (Some z) a m = apart_fallen m.0 m.1

-- the disequations of the places below a number are apart
pub one_apart_more : (rows : List ℕ) (told : List Constraint) (names : List Name) (roles : List Role) (i : ℕ)
    → ((k : ℕ) → k < i → IsMemberOf IsApart told names (slice_index rows k) → IsNotZero roles (slice_index rows k))
    → (IsMemberOf IsApart told names (slice_index rows i) → IsNotZero roles (slice_index rows i))
    → (k : ℕ) → k < i + 1 → IsMemberOf IsApart told names (slice_index rows k) → IsNotZero roles (slice_index rows k)
one_apart_more rows told names roles i h n k l m = elim (last k l) [
  | inl g ↦ h k g m
  | inr e ↦ subst (λ y. IsNotZero roles (slice_index rows y)) (sym e) (n (subst (λ y. IsMemberOf IsApart told names (slice_index rows y)) e m))
]
  where
    last : (k : ℕ) → k < i + 1 → (k < i) ⊎ (k ≡ i)
    last k l = grind arith
