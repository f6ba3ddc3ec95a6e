-- The lists of the rows that hold a column, and what is on them.
use Rattle.std.proofs.Common.{◌≡◌, ℕ, zero, suc, ◌<◌, ◌≤◌, List, [], ◌∷◌, ◌++◌, length, set, Some, arith, refl, ap, sym, subst, ◌∙◌, ◌⊎◌, inl, inr, length-append}
use Rattle.std.proofs.lemmas.Option.{same_Some}
use Rattle.std.specs.Prelude.{slice_get}
use Rattle.spec_numbers.proofs.Places.{get_push, get_kept}
use Rattle.cq_trail.specs.StackValue.{StackValue}
use Rattle.cq_trail.specs.TrailValue.{TrailValue}
use Rattle.cq_dict.specs.declared.holders.Cell.{Cell}
use Rattle.cq_dict.specs.Holders.{IsOn, newest, older, IsListed, AreLists, Grows}
use Rattle.cq_dict.proofs.Roles.{equal_or_not}

-- ---- a place that is set
pub get_set : {X : Type 0} (xs : List X) (i : ℕ) (x : X) (j : ℕ) (y : X) → slice_get (set xs i x) j ≡ Some y → (y ≡ x) ⊎ (slice_get xs j ≡ Some y)
get_set [] i x j y e = inr e
get_set (z ∷ xs) zero x zero y e = inl (sym (same_Some x y e))
get_set (z ∷ xs) zero x (suc j) y e = inr e
get_set (z ∷ xs) (suc i) x zero y e = inr e
get_set (z ∷ xs) (suc i) x (suc j) y e = get_set xs i x j y e

pub get_set_own : {X : Type 0} (xs : List X) (i : ℕ) (x : X) → i < length xs → slice_get (set xs i x) i ≡ Some x
get_set_own [] i x l = absurd (omega arith)
get_set_own (z ∷ xs) zero x l = refl
get_set_own (z ∷ xs) (suc i) x l = get_set_own xs i x (omega arith)

pub get_set_other : {X : Type 0} (xs : List X) (i : ℕ) (x : X) (j : ℕ) (y : X) → (j ≡ i → ⊥) → slice_get xs j ≡ Some y → slice_get (set xs i x) j ≡ Some y
get_set_other [] i x j y n e = e
get_set_other (z ∷ xs) zero x zero y n e = absurd (n refl)
get_set_other (z ∷ xs) zero x (suc j) y n e = e
get_set_other (z ∷ xs) (suc i) x zero y n e = e
get_set_other (z ∷ xs) (suc i) x (suc j) y n e = get_set_other xs i x j y (λ f. n (ap suc f)) e

get_last : {X : Type 0} (xs : List X) (x : X) → slice_get (xs ++ x ∷ []) (length xs) ≡ Some x
get_last [] x = refl
get_last (y ∷ xs) x = get_last xs x

-- ---- what is on a list
on_more : (cells : List Cell) (x : Cell) (h r : ℕ) → IsOn cells h r → IsOn (cells ++ x ∷ []) h r
on_more cells x h r (newest k y e) = newest k y (get_kept cells (x ∷ []) k y e)
on_more cells x h r (older k y s e o) = older k y s (get_kept cells (x ∷ []) k y e) (on_more cells x y.older s o)

-- the newest cell of a list, and the others
pub record Begins (cells : List Cell) (h r : ℕ) : Type 0 where
  pub k : ℕ
  pub cell : Cell
  pub is : h ≡ suc k
  pub get : slice_get cells k ≡ Some cell
  pub on : (r ≡ cell.row) ⊎ IsOn cells cell.older r

pub begins : (cells : List Cell) (h r : ℕ) → IsOn cells h r → Begins cells h r
begins cells h r (newest k y e) = record { k = k; cell = y; is = refl; get = e; on = inl refl }
begins cells h r (older k y s e o) = record { k = k; cell = y; is = refl; get = e; on = inr o }

pub none_on : (cells : List Cell) (r : ℕ) → IsOn cells 0 r → ⊥
none_on cells r o = let b = begins cells 0 r o in omega (arith, b.is)

-- what is on a list is its newest cell's row, or on the rest of it
pub on_rest : (cells : List Cell) (h : ℕ) (cell : Cell) (k : ℕ) (r : ℕ) → h ≡ suc k → slice_get cells k ≡ Some cell → IsOn cells h r → (r ≡ cell.row) ⊎ IsOn cells cell.older r
on_rest cells h cell k r e g o =
    let b = begins cells h r o in
    let f : b.k ≡ k = omega (arith, e, b.is) in
    let s : b.cell ≡ cell = same_Some b.cell cell (sym b.get ∙ ap (slice_get cells) f ∙ g) in
    subst (λ (z : Cell). (r ≡ z.row) ⊎ IsOn cells z.older r) s b.on

-- ---- lists that grow
pub grows_same : (h : TrailValue ℕ) (x : StackValue Cell) → Grows h x h x
grows_same h x = record { size = refl; lists = λ l. l; still = λ c r k. k; heads_saved = refl; cells_saved = refl; heads_room = omega arith; cells_room = omega arith }

pub grows_on : (h h' h'' : TrailValue ℕ) (x x' x'' : StackValue Cell) → Grows h x h' x' → Grows h' x' h'' x'' → Grows h x h'' x''
grows_on h h' h'' x x' x'' a b = record {
  size = b.size ∙ a.size;
  lists = λ l. b.lists (a.lists l);
  still = λ c r k. b.still c r (a.still c r k);
  heads_saved = b.heads_saved ∙ a.heads_saved;
  cells_saved = b.cells_saved ∙ a.cells_saved;
  heads_room = omega (arith, a.heads_room, b.heads_room);
  cells_room = omega (arith, a.cells_room, b.cells_room);
}

-- a new cell, on no list yet or before the list of the column
module _ (heads : List ℕ) (cells : List Cell) (c row first : ℕ) (at : slice_get heads c ≡ Some first) (there : c < length heads) where
  count : length (cells ++ record { row = row; older = first } ∷ []) ≡ suc (length cells)
  count = let k = length-append cells (record { row = row; older = first } ∷ []) in omega (arith, k)

  pub cell_lists : AreLists heads cells → AreLists heads (cells ++ record { row = row; older = first } ∷ [])
  cell_lists l = record {
    within = λ d h e. let k = l.within d h e in omega (arith, k, count);
    back = λ k y e.
        elim (get_push cells (record { row = row; older = first }) k y e) [
          | inl f ↦ l.back k y f
          | inr f ↦ let w = l.within c first at in subst (λ (z : Cell). z.older ≤ k) f.1 (omega (arith, w, f.0))
        ];
  }

  pub cell_still : (d r : ℕ) → IsListed heads cells d r → IsListed heads (cells ++ record { row = row; older = first } ∷ []) d r
  cell_still d r k = (k.0, k.1, on_more cells (record { row = row; older = first }) k.0 r k.2)

  module _ (heads' : List ℕ) (is : heads' ≡ set heads c (length (cells ++ record { row = row; older = first } ∷ []))) where
    own_head : slice_get heads' c ≡ Some (suc (length cells))
    own_head = ap (λ l. slice_get l c) is ∙ get_set_own heads c (length (cells ++ record { row = row; older = first } ∷ [])) there ∙ ap Some count

    pub head_lists : AreLists heads cells → AreLists heads' (cells ++ record { row = row; older = first } ∷ [])
    head_lists l =
        let w = cell_lists l in
        record {
          within = λ d h e.
              elim (get_set heads c (length (cells ++ record { row = row; older = first } ∷ [])) d h (subst (λ z. slice_get z d ≡ Some h) is e)) [
                | inl f ↦ omega (arith, f)
                | inr f ↦ w.within d h f
              ];
          back = w.back;
        }

    pub head_still : (d r : ℕ) → IsListed heads cells d r → IsListed heads' (cells ++ record { row = row; older = first } ∷ []) d r
    head_still d r k =
        elim (equal_or_not d c) [
          | inl e ↦
              let f : k.0 ≡ first = same_Some k.0 first (sym k.1 ∙ ap (slice_get heads) e ∙ at) in
              let o : IsOn (cells ++ record { row = row; older = first } ∷ []) first r = subst (λ z. IsOn (cells ++ record { row = row; older = first } ∷ []) z r) f (on_more cells (record { row = row; older = first }) k.0 r k.2) in (
                suc (length cells),
                ap (slice_get heads') e ∙ own_head,
                older (length cells) (record { row = row; older = first }) r (get_last cells (record { row = row; older = first })) o,
              )
          | inr n ↦ (
            k.0,
            subst (λ z. slice_get z d ≡ Some k.0) (sym is) (get_set_other heads c (length (cells ++ record { row = row; older = first } ∷ [])) d k.0 n k.1),
            on_more cells (record { row = row; older = first }) k.0 r k.2,
          )
        ]

    pub head_own : IsListed heads' (cells ++ record { row = row; older = first } ∷ []) c row
    head_own = (suc (length cells), own_head, newest (length cells) (record { row = row; older = first }) (get_last cells (record { row = row; older = first })))
