-- Compounds that are known to have no variable some time after they were built, and what is taken back of it.
use Rattle.std.proofs.Common.{◌≡◌, ◌≢◌, ℕ, zero, suc, ◌<◌, ◌≤◌, List, [], ◌∷◌, ◌++◌, length, Some, refl, sym, ap, ◌∙◌, subst, inl, inr, get_or, set, drop, Bool, map, get_or-set_same, get_or-set_other}
use Rattle.std.specs.Prelude.{slice_get}
use Rattle.std.proofs.lemmas.Bool.{cases_eq}
use Rattle.std.proofs.lemmas.List.{map-append, drop-map, length-map}
use Rattle.std.proofs.lemmas.Option.{none-some, same_Some, slice_get_within, slice_get-get_or, get_or_from_slice_get}
use Rattle.cq_trail.specs.Log.{restore}
use Rattle.cq_trail.proofs.Restore.{Within, length-restore, restore_last}
use Rattle.spec_numbers.specs.Rational.{ℚ}
use Rattle.spec_numbers.proofs.Places.{map_same}
use Rattle.cq_term.proofs.Kept.{get_last}
use Rattle.cq_term.specs.Layout.{AreLearnt, Closes, IsKept, forgotten, open_cell, open_note, read}
use Rattle.cq_term.specs.declared.lists.Cell.{Cell}
use Rattle.cq_term.specs.declared.lists.Cell.TheVariants as cell

abbrev pub blank_cell : Cell
blank_cell = cell.Wide 0

-- ---- one cell
pub open_open : (c : Cell) → open_cell (open_cell c) ≡ open_cell c
open_open (cell.Var v) = refl
open_open (cell.Whole n) = refl
open_open (cell.Wide k) = refl
open_open (cell.Name a) = refl
open_open (cell.Compound g n f s) = refl
open_open (cell.Long g f s) = refl

open_var : (c : Cell) (v : ℕ) → open_cell c ≡ cell.Var v → c ≡ cell.Var v
open_var (cell.Var w) v e = e
open_var (cell.Whole n) v e = e
open_var (cell.Wide k) v e = e
open_var (cell.Name a) v e = e
open_var (cell.Compound g n f s) v e = cc
open_var (cell.Long g f s) v e = cc

pub closes_back : (c d : Cell) → Closes c d → open_cell d ≡ c
closes_back (cell.Var v) d h = absurd h
closes_back (cell.Whole n) d h = absurd h
closes_back (cell.Wide k) d h = absurd h
closes_back (cell.Name a) d h = absurd h
closes_back (cell.Compound g n f s) d h = ap open_cell h.1 ∙ ap (λ (b : Bool). cell.Compound b n f s) (sym h.0)
closes_back (cell.Long g f s) d h = ap open_cell h.1 ∙ ap (λ (b : Bool). cell.Long b f s) (sym h.0)

pub closes_reads : (wide : List ℚ) (args : List ℕ) (c d : Cell) → Closes c d → read wide args d ≡ read wide args c
closes_reads wide args (cell.Var v) d h = absurd h
closes_reads wide args (cell.Whole n) d h = absurd h
closes_reads wide args (cell.Wide k) d h = absurd h
closes_reads wide args (cell.Name a) d h = absurd h
closes_reads wide args (cell.Compound g n f s) d h = ap (read wide args) h.1
closes_reads wide args (cell.Long g f s) d h = ap (read wide args) h.1

pub closes_kept : (n : ℕ) (args : List ℕ) (c d : Cell) → Closes c d → IsKept n args c → IsKept n args d
closes_kept n args (cell.Var v) d h k = absurd h
closes_kept n args (cell.Whole m) d h k = absurd h
closes_kept n args (cell.Wide p) d h k = absurd h
closes_kept n args (cell.Name a) d h k = absurd h
closes_kept n args (cell.Compound g m f s) d h k = subst (IsKept n args) (sym h.1) k
closes_kept n args (cell.Long g f s) d h k = subst (IsKept n args) (sym h.1) k

pub closes_no_var : (c d : Cell) (v : ℕ) → Closes c d → c ≡ cell.Var v → ⊥
closes_no_var (cell.Var w) d v h e = h
closes_no_var (cell.Whole m) d v h e = h
closes_no_var (cell.Wide p) d v h e = h
closes_no_var (cell.Name a) d v h e = h
closes_no_var (cell.Compound g m f s) d v h e = cc
closes_no_var (cell.Long g f s) d v h e = cc

-- ---- a place that is written
pub get_other : {A : Type 0} (xs : List A) (i j : ℕ) (y : A) → j ≢ i → slice_get (set xs i y) j ≡ slice_get xs j
get_other [] i j y ne = refl
get_other (x ∷ xs) zero zero y ne = absurd (ne refl)
get_other (x ∷ xs) zero (suc j) y ne = refl
get_other (x ∷ xs) (suc i) zero y ne = refl
get_other (x ∷ xs) (suc i) (suc j) y ne = get_other xs i j y (λ e. ne (ap suc e))

pub get_written : {A : Type 0} (xs : List A) (i : ℕ) (y z : A) → slice_get (set xs i y) i ≡ Some z → z ≡ y
get_written [] i y z e = absurd (none-some z e)
get_written (x ∷ xs) zero y z e = sym (same_Some y z e)
get_written (x ∷ xs) (suc i) y z e = get_written xs i y z e

pub map_written : {A B : Type 0} (f : A → B) (xs : List A) (i : ℕ) (x y : A) → slice_get xs i ≡ Some x → f y ≡ f x → map f (set xs i y) ≡ map f xs
map_written f [] i x y e same = refl
map_written f (z ∷ xs) zero x y e same = ap (λ b. b ∷ map f xs) (same ∙ ap f (sym (same_Some z x e)))
map_written f (z ∷ xs) (suc i) x y e same = ap (λ bs. f z ∷ bs) (map_written f xs i x y e same)

-- ---- what the cells are without the flags that were learnt
pub open_written : (cells : List Cell) (i : ℕ) (d : Cell) → i < length cells → open_cell d ≡ open_cell (get_or cells i blank_cell) → (j : ℕ) → open_cell (get_or (set cells i d) j blank_cell) ≡ open_cell (get_or cells j blank_cell)
open_written cells i d lt same j = elim (cases_eq j i) [
  | inl e ↦ subst (λ (k : ℕ). open_cell (get_or (set cells i d) k blank_cell) ≡ open_cell (get_or cells k blank_cell)) (sym e) (ap open_cell (get_or-set_same cells i d blank_cell lt) ∙ same)
  | inr ne ↦ ap open_cell (get_or-set_other cells i j d blank_cell ne)
]

pub opens_same : (cells others : List Cell) (is : List ℕ) → ((k i : ℕ) → slice_get is k ≡ Some i → open_cell (get_or others i blank_cell) ≡ open_cell (get_or cells i blank_cell)) → map (open_note others) is ≡ map (open_note cells) is
opens_same cells others is same = map_same (open_note others) (open_note cells) is (λ k i e. ap (λ (c : Cell). (i, c)) (same k i e))

pub learnt_within : (cells : List Cell) (n : ℕ) (is : List ℕ) → AreLearnt n is → Within n (map (open_note cells) is)
learnt_within cells n [] are j c q = absurd (none-some c q)
learnt_within cells n (i ∷ is) are zero c q = subst (λ (k : ℕ). k < n) (ap (λ (p : ℕ × Cell). p.0) (same_Some (open_note cells i) c q)) (are 0 i refl)
learnt_within cells n (i ∷ is) are (suc j) c q = learnt_within cells n is (λ k x h. are (suc k) x h) j c q

pub learnt_drop : (n m : ℕ) (is : List ℕ) → AreLearnt n is → AreLearnt n (drop m is)
learnt_drop n zero is are = are
learnt_drop n (suc m) [] are = λ k i e. absurd (none-some i e)
learnt_drop n (suc m) (x ∷ is) are = learnt_drop n m is (λ k i e. are (suc k) i e)

pub length-forgotten : (cells : List Cell) (is : List ℕ) → length (forgotten cells is) ≡ length cells
length-forgotten cells is = length-restore (map (open_note cells) is) cells

pub open_forgotten : (cells : List Cell) (is : List ℕ) → AreLearnt (length cells) is → (j : ℕ) → open_cell (get_or (forgotten cells is) j blank_cell) ≡ open_cell (get_or cells j blank_cell)
open_forgotten cells [] are j = refl
open_forgotten cells (i ∷ is) are j =
    let rest = open_forgotten cells is (λ k x h. are (suc k) x h) in
    let lt : i < length (forgotten cells is) = rw (length-forgotten cells is) (are 0 i refl) in
    open_written (forgotten cells is) i (open_cell (get_or cells i blank_cell)) lt (open_open (get_or cells i blank_cell) ∙ sym (rest i)) j ∙ rest j

pub forgotten_var : (cells : List Cell) (is : List ℕ) → AreLearnt (length cells) is → (i v : ℕ) → slice_get (forgotten cells is) i ≡ Some (cell.Var v) → slice_get cells i ≡ Some (cell.Var v)
forgotten_var cells is are i v e =
    let lt : i < length cells = rw (length-forgotten cells is) at (slice_get_within (forgotten cells is) i (cell.Var v) e) in
    let shown : open_cell (get_or cells i blank_cell) ≡ cell.Var v = sym (open_forgotten cells is are i) ∙ ap open_cell (get_or_from_slice_get (forgotten cells is) i (cell.Var v) blank_cell e) in
    slice_get-get_or cells i blank_cell lt ∙ ap Some (open_var (get_or cells i blank_cell) v shown)

-- the newest flag taken back
pub forget_last : (cells : List Cell) (is : List ℕ) (i m : ℕ) (others : List Cell) → m ≤ length is →
    restore (map (open_note cells) (drop m (is ++ i ∷ []))) others ≡ restore (map (open_note cells) (drop m is)) (set others i (open_cell (get_or cells i blank_cell)))
forget_last cells is i m others le =
    ap (λ (l : List (ℕ × Cell)). restore l others) (sym (drop-map (open_note cells) m (is ++ i ∷ [])) ∙ ap (drop m) (map-append (open_note cells) is (i ∷ [])))
    ∙ restore_last (map (open_note cells) is) (open_note cells i) m others (rw length-map le)
    ∙ ap (λ (l : List (ℕ × Cell)). restore l (set others i (open_cell (get_or cells i blank_cell)))) (drop-map (open_note cells) m is)

pub forget_step : (cells : List Cell) (is : List ℕ) (i m : ℕ) → AreLearnt (length cells) (is ++ i ∷ []) → m ≤ length is → forgotten cells (drop m (is ++ i ∷ [])) ≡ forgotten (set cells i (open_cell (get_or cells i blank_cell))) (drop m is)
forget_step cells is i m are le =
    let lt : i < length cells = are (length is) i (get_last is i) in
    forget_last cells is i m cells le
    ∙ ap (λ (l : List (ℕ × Cell)). restore l (set cells i (open_cell (get_or cells i blank_cell))))
    (sym (opens_same cells (set cells i (open_cell (get_or cells i blank_cell))) (drop m is) (λ k j e. open_written cells i (open_cell (get_or cells i blank_cell)) lt (open_open (get_or cells i blank_cell)) j)))
