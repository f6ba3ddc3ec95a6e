-- The rows that hold a column stand on its list, also after a new role, and where all roles are written.
use Rattle.std.proofs.Common.{◌≡◌, ℕ, zero, suc, ◌<◌, List, [], ◌∷◌, ◌++◌, length, set, Some, true, arith, refl, ap, sym, subst, ◌∙◌, ◌⊎◌, inl, inr, length-append, length-take}
use Rattle.std.proofs.lemmas.List.{length-set}
use Rattle.std.proofs.lemmas.Option.{slice_get_within}
use Rattle.std.proofs.lemmas.List.Elements.{Contains-append_left, Contains-append_right, Contains-push, Contains-push_cases, Contains-append_cases}
use Rattle.std.specs.Prelude.{slice_get, take}
use Rattle.std.specs.List.{Contains}
use Rattle.spec_numbers.proofs.Places.{get_push, get_kept, get_take}
use Rattle.cq_frac.specs.Row.{Row}
use Rattle.cq_frac.specs.Numbers.{IsOver}
use Rattle.cq_frac.proofs.Shifts.{passes}
use Rattle.cq_trail.specs.StackValue.{StackValue}
use Rattle.cq_trail.specs.TrailValue.{TrailValue}
use Rattle.cq_dict.specs.declared.holders.Cell.{Cell}
use Rattle.cq_dict.specs.declared.table.Change.{Change}
use Rattle.cq_dict.specs.declared.table.Role.{Role}
use Rattle.cq_dict.specs.declared.table.Role.TheVariants.{Live, Dropped, Basic}
use Rattle.cq_dict.specs.Changes.{Changes, IsWritten}
use Rattle.cq_dict.specs.Holders.{Holds, IsListed, Grows, AreHeld, AreHeldAtMarks}
use Rattle.cq_dict.specs.Roles.{IsAt, AreOverColumns, is_live, is_dropped}
use Rattle.cq_dict.proofs.Lists.{get_set, get_set_other}
use Rattle.cq_dict.proofs.Roles.{at_one, at_end, at_below, role_live, role_dropped, equal_or_not}
use Rattle.cq_dict.proofs.Written.{at_set}

-- ---- a column that a row holds
pub held_column : (roles : List Role) (own : Row) (c : ℕ) → IsOver (is_live roles) (is_dropped roles) own → Holds own c → IsAt roles c Live ⊎ IsAt roles c Dropped
held_column roles own c o k =
    elim k.1 [
      | inl h ↦ inl (role_live roles c (subst (λ z. is_live roles z ≡ true) k.2 (passes (is_live roles) 0 own.live k.0 o.live_row h)))
      | inr h ↦ inr (role_dropped roles c (subst (λ z. is_dropped roles z ≡ true) k.2 (passes (is_dropped roles) 0 own.dropped k.0 o.dropped_row h)))
    ]

pub held_below : (roles : List Role) (own : Row) (c : ℕ) → IsOver (is_live roles) (is_dropped roles) own → Holds own c → c < length roles
held_below roles own c o k = elim (held_column roles own c o k) [ inl a ↦ at_below roles c Live a | inr a ↦ at_below roles c Dropped a ]

no_row : (roles : List Role) (c : ℕ) (own : Row) → IsAt roles c Live ⊎ IsAt roles c Dropped → IsAt roles c (Basic own) → ⊥
no_row roles c own a b = elim a [ inl k ↦ (let w = at_one roles c Live (Basic own) k b in cc) | inr k ↦ (let w = at_one roles c Dropped (Basic own) k b in cc) ]

-- ---- lists that grow, and a new quantity
pub held_grows : (roles : List Role) (h h' : TrailValue ℕ) (x x' : StackValue Cell) → AreHeld roles h.now x.now → Grows h x h' x' → AreHeld roles h'.now x'.now
held_grows roles h h' x x' a g = record { size = g.size ∙ a.size; lists = g.lists a.lists; all = λ r row c at k. g.still c r (a.all r row c at k) }

pub held_pushed : (roles : List Role) (role : Role) (heads : List ℕ) (cells : List Cell) → AreHeld roles heads cells → ((own : Row) (c : ℕ) → role ≡ Basic own → Holds own c → IsListed heads cells c (length roles)) → AreHeld (roles ++ role ∷ []) (heads ++ 0 ∷ []) cells
held_pushed roles role heads cells a n = record {
  size = omega (arith, length-append heads (0 ∷ []), length-append roles (role ∷ []), a.size);
  lists = record {
    within = λ c h e. elim (get_push heads 0 c h e) [ inl f ↦ a.lists.within c h f | inr f ↦ omega (arith, f.1) ];
    back = a.lists.back;
  };
  all = λ r row c at k.
      let l : IsListed heads cells c r = elim (at_end roles r (Basic row) role at) [
        | inl b ↦ a.all r row c b k
        | inr f ↦ subst (λ z. IsListed heads cells c z) (sym f.0) (n row c (sym f.1) k)
      ] in
      (l.0, get_kept heads (0 ∷ []) c l.0 l.1, l.2);
}

-- the columns of a row at the end stand before it
pub pushed_below : (roles : List Role) (role : Role) (own : Row) (c : ℕ) → AreOverColumns (roles ++ role ∷ []) → IsAt (roles ++ role ∷ []) (length roles) role → role ≡ Basic own → Holds own c → c < length roles
pushed_below roles role own c t a e k =
    let b : IsAt (roles ++ role ∷ []) (length roles) (Basic own) = subst (IsAt (roles ++ role ∷ []) (length roles)) e a in
    let o = t.rows (length roles) own b in
    let l = held_below (roles ++ role ∷ []) own c o k in
    elim (equal_or_not c (length roles)) [
      | inl f ↦ absurd (no_row (roles ++ role ∷ []) c own (held_column (roles ++ role ∷ []) own c o k) (subst (λ z. IsAt (roles ++ role ∷ []) z (Basic own)) (sym f) b))
      | inr n ↦ omega (arith, n, l, length-append roles (role ∷ []))
    ]

-- ---- the list of a row is emptied
pub held_cleared : (roles : List Role) (heads heads' : List ℕ) (cells : List Cell) (q : ℕ) (own : Row) → AreOverColumns roles → IsAt roles q (Basic own) → heads' ≡ set heads q 0 → AreHeld roles heads cells → AreHeld roles heads' cells
held_cleared roles heads heads' cells q own t b e a = subst (λ z. AreHeld roles z cells) (sym e) (record {
  size = length-set heads q 0 ∙ a.size;
  lists = record {
    within = λ c h g. elim (get_set heads q 0 c h g) [ inl f ↦ omega (arith, f) | inr f ↦ a.lists.within c h f ];
    back = a.lists.back;
  };
  all = λ r row c at k.
      let l = a.all r row c at k in
      let n : c ≡ q → ⊥ = λ f. no_row roles c own (held_column roles row c (t.rows r row at) k) (subst (λ z. IsAt roles z (Basic own)) (sym f) b) in
      (l.0, get_set_other heads q 0 c l.0 n l.1, l.2);
})

-- ---- roles that are written
pub held_written : (roles new : List Role) (changes : List Change) (heads : List ℕ) (cells : List Cell) → AreHeld roles heads cells → IsWritten roles changes new → ((d : Change) (own : Row) (c : ℕ) → Changes d changes → d.role ≡ Basic own → Holds own c → IsListed heads cells c d.at) → AreHeld new heads cells
held_written roles new changes heads cells a w n = record {
  size = a.size ∙ sym w.size;
  lists = a.lists;
  all = λ r row c at k.
      elim (w.each r (Basic row) at) [
        | inl h ↦ subst (λ z. IsListed heads cells c z) h.2 (n h.0 row c h.1 h.3 k)
        | inr h ↦ a.all r row c h.0 k
      ];
}

at_own : (l : List Role) (i : ℕ) (s : Role) → i < length l → IsAt (set l i s) i s
at_own [] i s h = absurd (omega arith)
at_own (x ∷ l) zero s h = refl
at_own (x ∷ l) (suc i) s h = at_own l i s (omega arith)

-- changes can be written
all_written : (old : List Role) (changes : List Change) → ((d : Change) → Changes d changes → d.at < length old) → (new : List Role) × IsWritten old changes new
all_written old [] w = (old, record { size = refl; each = λ j t a. inr (a, (λ d h e. h)) })
all_written old (d ∷ ds) w =
    let m = all_written old ds (λ e h. w e (inr h)) in
    let size = m.1.size in
    let l : d.at < length m.0 = let k = w d (inl refl) in omega (arith, k, size) in (
      set m.0 d.at d.role,
      record {
        size = length-set m.0 d.at d.role ∙ size;
        each = λ j t a.
            elim (at_set m.0 d.at d.role j t l a) [
              | inl k ↦ inl (d, inl refl, sym k.0, sym k.1)
              | inr k ↦ elim (m.1.each j t k.1) [
                | inl h ↦ inl (h.0, inr h.1, h.2, h.3)
                | inr h ↦ inr (h.0, (λ e g z. elim g [ inl y ↦ k.0 (sym z ∙ ap (λ (u : Change). u.at) y) | inr y ↦ h.1 e y z ]))
              ]
            ];
      },
    )

-- also with a certain one of them last
with_change : (old new : List Role) (changes : List Change) (d : Change) → Changes d changes → d.at < length new → IsWritten old changes new → IsWritten old changes (set new d.at d.role)
with_change old new changes d m l w = record {
  size = length-set new d.at d.role ∙ w.size;
  each = λ j t a. elim (at_set new d.at d.role j t l a) [ inl k ↦ inl (d, m, sym k.0, sym k.1) | inr k ↦ w.each j t k.1 ];
}

-- so a new row holds columns that are there
pub written_below : (old : List Role) (changes : List Change) → ((d : Change) → Changes d changes → d.at < length old) → ((new : List Role) → IsWritten old changes new → AreOverColumns new) →
    (d : Change) (own : Row) (c : ℕ) → Changes d changes → d.role ≡ Basic own → Holds own c → c < length old
written_below old changes within table d own c m e k =
    let w = all_written old changes within in
    let size = w.1.size in
    let l : d.at < length w.0 = let b = within d m in omega (arith, b, size) in
    let v = with_change old w.0 changes d m l w.1 in
    let b = held_below (set w.0 d.at d.role) own c ((table (set w.0 d.at d.role) v).rows d.at own (subst (IsAt (set w.0 d.at d.role) d.at) e (at_own w.0 d.at d.role l))) k in
    let s = v.size in
    omega (arith, b, s)

-- ---- the marks
module _ (roles : List Role) (heads : List ℕ) (cells : List Cell) (ss : List (List Role)) (hs : List (List ℕ)) (xs : List (List Cell)) (are : AreHeldAtMarks roles heads cells ss hs xs) where
  pub held_now : {roles' : List Role} {heads' : List ℕ} {cells' : List Cell} {ss' : List (List Role)} {hs' : List (List ℕ)} {xs' : List (List Cell)} → ss' ≡ ss → hs' ≡ hs → xs' ≡ xs → AreHeld roles' heads' cells' → AreHeldAtMarks roles' heads' cells' ss' hs' xs'
  held_now e f g now = rw (e, f, g) (record { now = now; heads_together = are.heads_together; cells_together = are.cells_together; marks = are.marks })

  pub held_more : AreHeldAtMarks roles heads cells (ss ++ roles ∷ []) (hs ++ heads ∷ []) (xs ++ cells ∷ [])
  held_more = record {
    now = are.now;
    heads_together = omega (arith, length-append hs (heads ∷ []), length-append ss (roles ∷ []), are.heads_together);
    cells_together = omega (arith, length-append xs (cells ∷ []), length-append ss (roles ∷ []), are.cells_together);
    marks = λ k s h x p q u. elim (get_push ss roles k s p) [
      | inl p' ↦ (
          let lt : k < length ss = slice_get_within ss k s p' in
          let q' : slice_get hs k ≡ Some h = elim (get_push hs heads k h q) [ inl w ↦ w | inr w ↦ absurd (omega (arith, w.0, are.heads_together)) ] in
          let u' : slice_get xs k ≡ Some x = elim (get_push xs cells k x u) [ inl w ↦ w | inr w ↦ absurd (omega (arith, w.0, are.cells_together)) ] in
          are.marks k s h x p' q' u')
      | inr p' ↦ (
          let q' : heads ≡ h = elim (get_push hs heads k h q) [ inl w ↦ absurd (omega (arith, p'.0, slice_get_within hs k h w, are.heads_together)) | inr w ↦ w.1 ] in
          let u' : cells ≡ x = elim (get_push xs cells k x u) [ inl w ↦ absurd (omega (arith, p'.0, slice_get_within xs k x w, are.cells_together)) | inr w ↦ w.1 ] in
          rw (← p'.1, ← q', ← u') are.now)
    ];
  }

  pub held_take : (n : ℕ) (roles' : List Role) (heads' : List ℕ) (cells' : List Cell) → AreHeld roles' heads' cells' → AreHeldAtMarks roles' heads' cells' (take n ss) (take n hs) (take n xs)
  held_take n roles' heads' cells' now = record {
    now = now;
    heads_together = simp (length-take) (omega (arith, are.heads_together));
    cells_together = simp (length-take) (omega (arith, are.cells_together));
    marks = λ k s h x p q u. are.marks k s h x (get_take n k ss s p).0 (get_take n k hs h q).0 (get_take n k xs x u).0;
  }

-- ---- the numbers that an exchange looks at
pub contains_or_not : (rows : List ℕ) (j : ℕ) → Contains rows j ⊎ (Contains rows j → ⊥)
contains_or_not [] j = inr (λ h. let k = h.1 in omega (arith, k))
contains_or_not (x ∷ rows) j =
    elim (equal_or_not x j) [
      | inl e ↦ inl (subst (Contains (x ∷ rows)) e (Contains-append_left (x ∷ []) rows x (Contains-push [] x)))
      | inr n ↦ elim (contains_or_not rows j) [
        | inl k ↦ inl (Contains-append_right (x ∷ []) rows j k)
        | inr m ↦ inr (λ h.
            elim (Contains-append_cases (x ∷ []) rows j h) [
              | inl k ↦ elim (Contains-push_cases [] x j k) [ inl w ↦ (let l = w.1 in omega (arith, l)) | inr e ↦ n e ]
              | inr k ↦ m k
            ])
      ]
    ]
