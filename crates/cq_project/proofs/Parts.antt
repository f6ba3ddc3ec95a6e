-- The lists that a store is told in a pass: the told list with some of the rows behind it.
use Rattle.std.proofs.Common.{◌≡◌, inl, inr, ℕ, zero, suc, ◌+◌, ◌<◌, List, [], ◌∷◌, ◌++◌, length, take, get_or, arith, refl, ap, sym, subst, ◌∙◌, append_assoc, append-nil}
use Rattle.std.specs.Prelude.{Option, None, Some, slice_get}
use Rattle.std.proofs.lemmas.List.{take_more}
use Rattle.std.proofs.lemmas.List.Sorted.{IsPermutation-refl, IsPermutation-trans, IsPermutation-append_comm, IsPermutation-append_right}
use Rattle.spec_numbers.specs.Rational.{ℚ}
use Rattle.spec_linear.specs.Solution.{Constraint, Solves, Solvable, Has}
use Rattle.spec_linear.proofs.Lists.{member_holds}
use Rattle.spec_linear.proofs.Denominators.{has_left, has_right}
use Rattle.spec_linear.specs.Certificate.{Refutes}
use Rattle.spec_linear.proofs.Refutation.{refuted}
use Rattle.spec_projection.specs.Irredundant.{IsSublist, empty, kept, left_out}
use Rattle.spec_projection.proofs.Members.{solves_all, has_either}
use Rattle.spec_projection.proofs.Sifted.{sublist_has}
use Rattle.cq_frac.specs.declared.Pair.{Pair}
use Rattle.cq_store.specs.declared.store.Told.{Told}
use Rattle.cq_store.specs.declared.store.Told.TheVariants.{Unsolvable}
use Rattle.cq_store.specs.StoreValue.{IfUnsolvable}
use Rattle.cq_project.specs.Sifting.{IsToldWith, RefusesSifting, SpendsSifting, telling, asking}

-- some of a list's constraints have a solution where all have one
pub solvable_part : (k l : List Constraint) → ((c : Constraint) → Has c k → Has c l) → Solvable l → Solvable k
solvable_part k l h s = (s.0, solves_all s.0 k (λ c m. member_holds s.0 l c (h c m) s.1))

-- so none of them is refused
pub not_refuted : (told : List Constraint) (copy row : Constraint) (t : Told) (cert : List (ℕ × ℚ)) (P : Type 0) → t ≡ Unsolvable cert → copy ≡ row
    → IfUnsolvable t (λ k. Refutes k (told ++ copy ∷ []) × P) → Solvable (told ++ row ∷ []) → ⊥
not_refuted told copy row t cert P is e h s =
    let r = subst (λ u. IfUnsolvable u (λ k. Refutes k (told ++ copy ∷ []) × P)) is h in
    refuted cert (told ++ copy ∷ []) r.0 s.0 (subst (λ c. Solves s.0 (told ++ c ∷ [])) (sym e) s.1)

-- ---- sublists

pub sublist_all : (l : List Constraint) → IsSublist l l
sublist_all [] = empty
sublist_all (c ∷ l) = kept (sublist_all l)

sublist_none : (l : List Constraint) → IsSublist [] l
sublist_none [] = empty
sublist_none (c ∷ l) = left_out (sublist_none l)

sublist_take : (i : ℕ) (l : List Constraint) → IsSublist (take i l) l
sublist_take zero l = sublist_none l
sublist_take (suc i) [] = empty
sublist_take (suc i) (c ∷ l) = kept (sublist_take i l)

pub sublist_both : (k f m b : List Constraint) → IsSublist k f → IsSublist m b → IsSublist (k ++ m) (f ++ b)
sublist_both _ _ m b empty t = t
sublist_both _ _ m b (kept s) t = kept (sublist_both _ _ m b s t)
sublist_both _ _ m b (left_out s) t = left_out (sublist_both _ _ m b s t)

pub sublist_front : (k f b : List Constraint) → IsSublist k f → IsSublist k (f ++ b)
sublist_front k f b s = subst (λ w. IsSublist w (f ++ b)) (append-nil k) (sublist_both k f [] b s (sublist_none b))

pub sublist_back : (f b m : List Constraint) → IsSublist m b → IsSublist m (f ++ b)
sublist_back f b m s = sublist_both [] f m b (sublist_none f) s

sublist_through : (k f l : List Constraint) → IsSublist k f → IsSublist f l → IsSublist k l
sublist_through _ _ _ s empty = s
sublist_through _ _ _ (kept s) (kept t) = kept (sublist_through _ _ _ s t)
sublist_through _ _ _ (left_out s) (kept t) = left_out (sublist_through _ _ _ s t)
sublist_through _ _ _ s (left_out t) = left_out (sublist_through _ _ _ s t)

-- ---- no row, and one

pub no_rows : (rows : List Constraint) → slice_get rows 0 ≡ None → rows ≡ []
no_rows [] e = refl
no_rows (c ∷ l) e = cc

pub only_row : (rows : List Constraint) (row : Constraint) → length rows < 2 → slice_get rows 0 ≡ Some row → rows ≡ row ∷ []
only_row [] row h e = cc
only_row (c ∷ []) row h e = let f : ◌≡◌ {A = Option Constraint} (Some c) (Some row) = e in let g : c ≡ row = cc in ap (λ d. d ∷ []) g
only_row (c ∷ d ∷ l) row h e = absurd (omega (arith, h))

-- ---- what can be told

-- some of the rows have a solution with the told list where all have one
pub solvable_with : (told part rows : List Constraint) → IsSublist part rows → Solvable (told ++ rows) → Solvable (told ++ part)
solvable_with told part rows s w = solvable_part (told ++ part) (told ++ rows) members w
  where
    members : (c : Constraint) → Has c (told ++ part) → Has c (told ++ rows)
    members c h = elim (has_either c told part h) [ inl a ↦ has_left c told rows a | inr b ↦ has_right c told rows (sublist_has part rows s c b) ]

pub solvable_first : (told rows : List Constraint) (i : ℕ) → Solvable (told ++ rows) → Solvable (told ++ take i rows)
solvable_first told rows i w = solvable_with told (take i rows) rows (sublist_take i rows) w

-- the rows in front may be told behind the others
pub solvable_turned : (told front back : List Constraint) → Solvable (told ++ (front ++ back)) → Solvable ((told ++ back) ++ front)
solvable_turned told front back w = solvable_part ((told ++ back) ++ front) (told ++ (front ++ back)) members w
  where
    members : (c : Constraint) → Has c ((told ++ back) ++ front) → Has c (told ++ (front ++ back))
    members c h = elim (has_either c (told ++ back) front h) [
      | inl a ↦ elim (has_either c told back a) [ inl b ↦ has_left c told (front ++ back) b | inr b ↦ has_right c told (front ++ back) (has_right c front back b) ]
      | inr a ↦ has_right c told (front ++ back) (has_left c front back a)
    ]

-- the first i rows and the next one
pub next_told : (told rows now : List Constraint) (i : ℕ) (row : Constraint) → i < length rows → row ≡ get_or rows i row → now ≡ told ++ take i rows
    → now ++ row ∷ [] ≡ told ++ take (i + 1) rows
next_told told rows now i row h e n =
    ap (λ l. l ++ row ∷ []) n ∙ append_assoc told (take i rows) (row ∷ [])
    ∙ ap (λ l. told ++ l) (sym (take_more rows i row h ∙ ap (λ d. take i rows ++ d ∷ []) (sym e)))

-- ---- what a store is told

pub some_told : (told rows chosen : List Constraint) → IsSublist chosen rows → IsToldWith told rows (told ++ chosen)
some_told told rows chosen s = record { chosen = chosen; sublist = s; some = chosen; order = IsPermutation-refl chosen; split = refl }

pub none_told : (told rows : List Constraint) → IsToldWith told rows told
none_told told rows = subst (IsToldWith told rows) (append-nil told) (some_told told rows [] (sublist_none rows))

pub first_told : (told rows : List Constraint) (i : ℕ) → IsToldWith told rows (told ++ take i rows)
first_told told rows i = some_told told rows (take i rows) (sublist_take i rows)

pub all_told : (told rows : List Constraint) → IsToldWith told rows (told ++ rows)
all_told told rows = some_told told rows rows (sublist_all rows)

-- of some of the rows
pub of_part : (told part rows : List Constraint) → IsSublist part rows → (l : List Constraint) → IsToldWith told part l → IsToldWith told rows l
of_part told part rows s l w = record { chosen = w.chosen; sublist = sublist_through w.chosen part rows w.sublist s; some = w.some; order = w.order; split = w.split }

-- the second half told before, and then some of the first
pub of_front : (told front back l : List Constraint) → IsToldWith (told ++ back) front l → IsToldWith told (front ++ back) l
of_front told front back l w = record {
  chosen = w.chosen ++ back;
  sublist = sublist_both w.chosen front back back w.sublist (sublist_all back);
  some = back ++ w.some;
  order = IsPermutation-trans (w.chosen ++ back) (back ++ w.chosen) (back ++ w.some) (IsPermutation-append_comm w.chosen back)
      (IsPermutation-append_right back w.chosen w.some w.order);
  split = w.split ∙ append_assoc told back w.some;
}

-- those kept of the first half told before, and then some of the second
pub of_back : (told front back first : List Constraint) → IsSublist first front → (l : List Constraint) → IsToldWith (told ++ first) back l → IsToldWith told (front ++ back) l
of_back told front back first s l w = record {
  chosen = first ++ w.chosen;
  sublist = sublist_both first front w.chosen back s w.sublist;
  some = first ++ w.some;
  order = IsPermutation-append_right first w.chosen w.some w.order;
  split = w.split ∙ append_assoc told first w.some;
}

-- ---- stops of a part are stops of the whole
module _ (told part told' rows : List Constraint) (more : (l : List Constraint) → IsToldWith told part l → IsToldWith told' rows l)
    (has : (c : Constraint) → Has c part → Has c rows) where
  pub refuses_in : (pair : Pair) → RefusesSifting told part pair → RefusesSifting told' rows pair
  refuses_in pair (telling l c w v r) = telling l c (more l w) (more (l ++ c ∷ []) v) r
  refuses_in pair (asking l c w h r) = asking l c (more l w) (has c h) r

  pub spends_in : (n : ℕ) → SpendsSifting told part n → SpendsSifting told' rows n
  spends_in n (telling l c w v r) = telling l c (more l w) (more (l ++ c ∷ []) v) r
  spends_in n (asking l c w h r) = asking l c (more l w) (has c h) r
