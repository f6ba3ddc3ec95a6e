-- The lists of a heap stay whole with a new cell, a new variable and a new binding.
use Rattle.std.proofs.Common.{◌≡◌, ℕ, suc, ◌+◌, ◌<◌, ◌≤◌, List, [], ◌∷◌, ◌++◌, length, Option, None, Some, refl, sym, ap, ap₂, get_or, length-set, get_or-set_same, get_or-set_other, ◌∙◌, subst, inl, inr, set, take, drop, arith, length-append, length-drop, map}
use Rattle.std.specs.Prelude.{slice_get}
use Rattle.std.proofs.lemmas.List.{set-set, set-get_or, get_or-map, get_or_push, length-map, map-append, get_or_append_left, drop-append-le, take-append-le, drop_at, take_all}
use Rattle.std.proofs.lemmas.Option.{slice_get_within, none-some, slice_get-get_or}
use Rattle.spec_numbers.specs.Rational.{ℚ, 0ℚ}
use Rattle.spec_terms.specs.Term.{Var, Occurs, apply, single}
use Rattle.spec_terms.proofs.Substitution.{occurs_from}
use Rattle.cq_term.specs.Built.{Built}
use Rattle.cq_term.specs.Built as built
use Rattle.cq_term.specs.Meaning.{Binding, HeapTerm, at, blank, raw_cell, meanings}
use Rattle.cq_term.specs.Rep.{Fits, IsHeap, target}
use Rattle.cq_term.specs.Layout.{Contents, with_var, with_bound, read, all_built, meant, homes, bindings, binding_of, note_of, variable_at, restored, AreNoted, IsKept, IsClosed, IsWhole, Leads}
use Rattle.cq_term.specs.Ground.{IsGround}
use Rattle.cq_term.specs.declared.lists.Cell.{Cell}
use Rattle.cq_term.specs.declared.lists.Cell.TheVariants as cell
use Rattle.cq_term.proofs.Meanings.{at-append, length-meanings}
use Rattle.cq_trail.specs.Log.{restore}
use Rattle.cq_trail.proofs.Restore.{Within, Has, restore-append, restore-append_right, get_or-restore_apart}
use Rattle.cq_term.proofs.Reading.{var_cell}
use Rattle.cq_term.proofs.Notes.{notes, notes_same, noted_same, noted_within, target_notes, has_at, length-homes}
use Rattle.cq_term.proofs.Kept.{var_unbound, bind_images, meanings_cell, is_heap_cell, images_cell, is_heap_var, is_heap_bound, meanings_var, images_var, bind_heap, bind_terms, at-map-subst, empty_heap}
use Rattle.spec_numbers.proofs.Places.{map_same, get_push, get_kept}

-- a heap by other names of its parts
pub heap_as : {cells cells' : List Built} {vars vars' : List ℕ} {order order' : List Binding} → cells' ≡ cells → vars' ≡ vars → order' ≡ order → IsHeap cells vars order → IsHeap cells' vars' order'
heap_as {cells = cells} {cells' = cells'} {vars = vars} {vars' = vars'} {order = order} a b c heap =
    subst (λ (l : List Binding). IsHeap cells' vars' l) (sym c) (subst (λ (l : List ℕ). IsHeap cells' l order) (sym b) (subst (λ (l : List Built). IsHeap l vars order) (sym a) heap))

-- longer lists beside the cells, by which each cell reads as before
pub record Longer (x : Contents) (wide : List ℚ) (args : List ℕ) : Type 0 where
  pub wides : length x.wide ≤ length wide
  pub arguments : length x.args ≤ length args
  pub reads : (c : Cell) → IsKept (length x.wide) x.args c → read wide args c ≡ read x.wide x.args c
  pub keeps : (c : Cell) → IsKept (length x.wide) x.args c → IsKept (length wide) args c
  pub cut_wide : (n : ℕ) → n ≤ length x.wide → take n wide ≡ take n x.wide
  pub cut_args : (n : ℕ) → n ≤ length x.args → take n args ≡ take n x.args

pub longer_same : (x : Contents) → Longer x x.wide x.args
longer_same x = record { wides = omega arith; arguments = omega arith; reads = λ c k. refl; keeps = λ c k. k; cut_wide = λ n le. refl; cut_args = λ n le. refl }

read_wide : (wide more : List ℚ) (args : List ℕ) (c : Cell) → IsKept (length wide) args c → read (wide ++ more) args c ≡ read wide args c
read_wide wide more args (cell.Var v) k = refl
read_wide wide more args (cell.Whole m) k = refl
read_wide wide more args (cell.Wide p) k = ap built.Number (get_or_append_left wide more 0ℚ p k)
read_wide wide more args (cell.Name a) k = refl
read_wide wide more args (cell.Compound g m f s) k = refl
read_wide wide more args (cell.Long g f s) k = refl

kept_wide : (wide more : List ℚ) (args : List ℕ) (c : Cell) → IsKept (length wide) args c → IsKept (length (wide ++ more)) args c
kept_wide wide more args (cell.Var v) k = tt
kept_wide wide more args (cell.Whole m) k = tt
kept_wide wide more args (cell.Wide p) k = omega (arith, k, length-append wide more)
kept_wide wide more args (cell.Name a) k = tt
kept_wide wide more args (cell.Compound g m f s) k = k
kept_wide wide more args (cell.Long g f s) k = k

read_args : (wide : List ℚ) (args more : List ℕ) (n : ℕ) (c : Cell) → IsKept n args c → read wide (args ++ more) c ≡ read wide args c
read_args wide args more n (cell.Var v) k = refl
read_args wide args more n (cell.Whole m) k = refl
read_args wide args more n (cell.Wide p) k = refl
read_args wide args more n (cell.Name a) k = refl
read_args wide args more n (cell.Compound g m f s) k =
    let rest : m ≤ length (drop s args) = rw length-drop (omega arith) in
    ap (built.Compound f) (ap (take m) (drop-append-le s args more (omega arith)) ∙ take-append-le m (drop s args) more rest)
read_args wide args more n (cell.Long g f s) k =
    let m : ℕ = get_or args s 0 in
    let rest : get_or args s 0 ≤ length (drop (s + 1) args) = rw length-drop (omega arith) in
    ap (built.Compound f) (
    ap (λ p. take p (drop (s + 1) (args ++ more))) (get_or_append_left args more 0 s (omega arith))
    ∙ ap (take m) (drop-append-le (s + 1) args more (omega arith)) ∙ take-append-le m (drop (s + 1) args) more rest)

kept_args : (args more : List ℕ) (n : ℕ) (c : Cell) → IsKept n args c → IsKept n (args ++ more) c
kept_args args more n (cell.Var v) k = tt
kept_args args more n (cell.Whole m) k = tt
kept_args args more n (cell.Wide p) k = k
kept_args args more n (cell.Name a) k = tt
kept_args args more n (cell.Compound g m f s) k = omega (arith, k, length-append args more)
kept_args args more n (cell.Long g f s) k = omega (arith, k, length-append args more, get_or_append_left args more 0 s (omega arith))

pub longer_wide : (x : Contents) (q : ℚ) → Longer x (x.wide ++ q ∷ []) x.args
longer_wide x q = record {
  wides = omega (arith, length-append x.wide (q ∷ []));
  arguments = omega arith;
  reads = λ c k. read_wide x.wide (q ∷ []) x.args c k;
  keeps = λ c k. kept_wide x.wide (q ∷ []) x.args c k;
  cut_wide = λ n le. take-append-le n x.wide (q ∷ []) le;
  cut_args = λ n le. refl;
}

pub longer_args : (x : Contents) (is : List ℕ) → Longer x x.wide (x.args ++ is)
longer_args x is = record {
  wides = omega arith;
  arguments = omega (arith, length-append x.args is);
  reads = λ c k. read_args x.wide x.args is (length x.wide) c k;
  keeps = λ c k. kept_args x.args is (length x.wide) c k;
  cut_wide = λ n le. refl;
  cut_args = λ n le. take-append-le n x.args is le;
}

pub length-built : (x : Contents) → length (all_built x) ≡ length x.cells
length-built x = length-map x.cells (read x.wide x.args)

pub length-meant : (x : Contents) → length (meant x) ≡ length x.cells
length-meant x = length-meanings (all_built x) (bindings x) ∙ length-built x

-- the arguments that a compound was just built with
pub read_new : (xs is : List ℕ) → take (length is) (drop (length xs) (xs ++ is)) ≡ is
read_new xs is = ap (take (length is)) (drop_at xs is (length xs) refl) ∙ take_all (length is) is (omega arith)

-- a number and so many arguments that a long compound was just built with
pub first_new : (xs ys : List ℕ) (y : ℕ) → get_or (xs ++ y ∷ ys) (length xs) 0 ≡ y
first_new [] ys y = refl
first_new (x ∷ xs) ys y = first_new xs ys y

rest_new : (xs ys : List ℕ) (y : ℕ) → drop (length xs + 1) (xs ++ y ∷ ys) ≡ ys
rest_new [] ys y = refl
rest_new (x ∷ xs) ys y = (let e : length (x ∷ xs) + 1 ≡ suc (length xs + 1) = omega arith in ap (λ k. drop k (x ∷ xs ++ y ∷ ys)) e ∙ rest_new xs ys y)

pub read_long : (xs is : List ℕ) → take (get_or (xs ++ length is ∷ is) (length xs) 0) (drop (length xs + 1) (xs ++ length is ∷ is)) ≡ is
read_long xs is =
    ap (λ n. take n (drop (length xs + 1) (xs ++ length is ∷ is))) (first_new xs is (length is))
    ∙ ap (take (length is)) (rest_new xs is (length is)) ∙ take_all (length is) is (omega arith)

abbrev pub with_cell : Contents → List ℚ → List ℕ → Cell → Contents
with_cell x wide args c = record { cells = x.cells ++ c ∷ []; wide = wide; args = args; vars = x.vars; order = x.order; learnt = x.learnt }

-- a term that was there, beside a new one
at_old : (x : Contents) (t : HeapTerm) (i : ℕ) → i < length x.cells → at (meant x ++ t ∷ []) i ≡ at (meant x) i
at_old x t i lt = at-append (meant x) (t ∷ []) i (omega (arith, length-meant x))

at_new : (x : Contents) (t : HeapTerm) (i : ℕ) → i ≡ length x.cells → at (meant x ++ t ∷ []) i ≡ t
at_new x t i e = get_or_push (meant x) t blank i (length-meant x ∙ sym e)

module _ (x : Contents) (whole : IsWhole x) (wide : List ℚ) (args : List ℕ) (longer : Longer x wide args) (c : Cell) where
  pub built_more : map (read wide args) (x.cells ++ c ∷ []) ≡ all_built x ++ read wide args c ∷ []
  built_more =
      map-append (read wide args) x.cells (c ∷ [])
      ∙ ap (λ (l : List Built). l ++ read wide args c ∷ []) (map_same (read wide args) (read x.wide x.args) x.cells (λ k d q. longer.reads d (whole.kept k d q)))

  kept_cells : IsKept (length wide) args c → (i : ℕ) (d : Cell) → slice_get (x.cells ++ c ∷ []) i ≡ Some d → IsKept (length wide) args d
  kept_cells kept i d h = elim (get_push x.cells c i d h) [
    | inl p ↦ longer.keeps d (whole.kept i d p)
    | inr q ↦ subst (λ (y : Cell). IsKept (length wide) args y) q.1 kept
  ]

  closed_cells : (t : HeapTerm) → (IsClosed c → IsGround t) → (i : ℕ) (d : Cell) → slice_get (x.cells ++ c ∷ []) i ≡ Some d → IsClosed d → IsGround (at (meant x ++ t ∷ []) i)
  closed_cells t closed i d h g = elim (get_push x.cells c i d h) [
    | inl p ↦ subst IsGround (sym (at_old x t i (slice_get_within x.cells i d p))) (whole.closed i d p g)
    | inr q ↦ subst IsGround (sym (at_new x t i q.0)) (closed (subst IsClosed (sym q.1) g))
  ]

  same_notes : notes (x.cells ++ c ∷ []) x.order ≡ notes x.cells x.order
  same_notes = notes_same x.cells (x.cells ++ c ∷ []) (length x.vars) x.order whole.noted (λ i v h. get_kept x.cells (c ∷ []) i (cell.Var v) h)

  noted_more : (n : ℕ) → length x.vars ≤ n → AreNoted (x.cells ++ c ∷ []) n x.order
  noted_more n le = noted_same x.cells (x.cells ++ c ∷ []) (length x.vars) n x.order whole.noted (λ i v h. get_kept x.cells (c ∷ []) i (cell.Var v) h) (λ v lt. omega arith)

  -- a cell that is no variable
  module _ (b : Built) (is : read wide args c ≡ b) (fits : Fits (length (all_built x)) (length (homes x)) b) (plain : (n : ℕ) → b ≡ built.Var n → ⊥) where
    built_cell : map (read wide args) (x.cells ++ c ∷ []) ≡ all_built x ++ b ∷ []
    built_cell = built_more ∙ ap (λ (d : Built). all_built x ++ d ∷ []) is

    homes_cell : homes (with_cell x wide args c) ≡ homes x
    homes_cell = ap (λ (ns : List (ℕ × ℕ)). restore ns x.vars) same_notes

    bindings_cell : bindings (with_cell x wide args c) ≡ bindings x
    bindings_cell = ap (map (binding_of x.vars)) same_notes

    pub meant_cell : meant (with_cell x wide args c) ≡ meant x ++ raw_cell (meant x) b ∷ []
    meant_cell = ap₂ meanings built_cell bindings_cell ∙ meanings_cell (all_built x) (homes x) (bindings x) b whole.heap fits plain

    pub images_more : map (at (meant (with_cell x wide args c))) (homes (with_cell x wide args c)) ≡ map (at (meant x)) (homes x)
    images_more =
        ap₂ (λ (l : List Built) (bs : List Binding). map (at (meanings l bs)) (homes (with_cell x wide args c))) built_cell bindings_cell
        ∙ ap (map (at (meanings (all_built x ++ b ∷ []) (bindings x)))) homes_cell
        ∙ images_cell (all_built x) (homes x) (bindings x) whole.heap b fits plain

    pub whole_cell : IsKept (length wide) args c → (IsClosed c → IsGround (raw_cell (meant x) b)) → IsWhole (with_cell x wide args c)
    whole_cell kept closed = record {
      kept = kept_cells kept;
      heap = heap_as built_cell homes_cell bindings_cell (is_heap_cell (all_built x) (homes x) (bindings x) b whole.heap fits plain);
      noted = noted_more (length x.vars) (omega arith);
      learnt = λ k i e. omega (arith, whole.learnt k i e, length-append x.cells (c ∷ []));
      closed = λ i d h g. subst (λ (l : List HeapTerm). IsGround (at l i)) (sym meant_cell) (closed_cells (raw_cell (meant x) b) closed i d h g);
    }

-- one more variable has no note
module _ (x : Contents) (whole : IsWhole x) (id : ℕ) where
  within : Within (length x.vars) (notes x.cells x.order)
  within = noted_within x.cells (length x.vars) x.order whole.noted

  homes_more : restored x.cells x.order (x.vars ++ id ∷ []) ≡ homes x ++ id ∷ []
  homes_more = restore-append_right (notes x.cells x.order) x.vars (id ∷ []) within

  bindings_more : map (binding_of (x.vars ++ id ∷ [])) (notes x.cells x.order) ≡ bindings x
  bindings_more = map_same (binding_of (x.vars ++ id ∷ [])) (binding_of x.vars) (notes x.cells x.order)
      (λ k n e. ap (λ (t : ℕ). record { variable = n.0; term = t }) (get_or_append_left x.vars (id ∷ []) 0 n.0 (within k n e)))

module _ (x : Contents) (whole : IsWhole x) where
  built_var : all_built (with_var x) ≡ all_built x ++ built.Var (length (homes x)) ∷ []
  built_var = built_more x whole x.wide x.args (longer_same x) (cell.Var (length x.vars)) ∙ ap (λ n. all_built x ++ built.Var n ∷ []) (sym (length-homes x whole))

  homes_var : homes (with_var x) ≡ homes x ++ length (all_built x) ∷ []
  homes_var =
      ap (λ (ns : List (ℕ × ℕ)). restore ns (x.vars ++ length x.cells ∷ [])) (same_notes x whole x.wide x.args (longer_same x) (cell.Var (length x.vars)))
      ∙ homes_more x whole (length x.cells) ∙ ap (λ n. homes x ++ n ∷ []) (sym (length-built x))

  bindings_var : bindings (with_var x) ≡ bindings x
  bindings_var =
      ap (map (binding_of (x.vars ++ length x.cells ∷ []))) (same_notes x whole x.wide x.args (longer_same x) (cell.Var (length x.vars)))
      ∙ bindings_more x whole (length x.cells)

  meant_home : meant (with_var x) ≡ meant x ++ Var (length (homes x)) ∷ []
  meant_home = ap₂ meanings built_var bindings_var ∙ meanings_var (all_built x) (homes x) (bindings x) whole.heap

  pub meant_var : meant (with_var x) ≡ meant x ++ Var (length x.vars) ∷ []
  meant_var = meant_home ∙ ap (λ n. meant x ++ Var n ∷ []) (length-homes x whole)

  pub images_with_var : map (at (meant (with_var x))) (homes (with_var x)) ≡ map (at (meant x)) (homes x) ++ Var (length x.vars) ∷ []
  images_with_var =
      ap₂ (λ (l : List Built) (bs : List Binding). map (at (meanings l bs)) (homes (with_var x))) built_var bindings_var
      ∙ ap (map (at (meanings (all_built x ++ built.Var (length (homes x)) ∷ []) (bindings x)))) homes_var
      ∙ images_var (all_built x) (homes x) (bindings x) whole.heap
      ∙ ap (λ n. map (at (meant x)) (homes x) ++ Var n ∷ []) (length-homes x whole)

  pub whole_var : IsWhole (with_var x)
  whole_var = record {
    kept = kept_cells x whole x.wide x.args (longer_same x) (cell.Var (length x.vars)) tt;
    heap = heap_as built_var homes_var bindings_var (is_heap_var (all_built x) (homes x) (bindings x) whole.heap);
    noted = noted_more x whole x.wide x.args (longer_same x) (cell.Var (length x.vars)) (length (x.vars ++ length x.cells ∷ [])) (omega (arith, length-append x.vars (length x.cells ∷ [])));
    learnt = λ k i e. omega (arith, whole.learnt k i e, length-append x.cells (cell.Var (length x.vars) ∷ []));
    closed = λ i d h g. subst (λ (l : List HeapTerm). IsGround (at l i)) (sym meant_var)
        (closed_cells x whole x.wide x.args (longer_same x) (cell.Var (length x.vars)) (Var (length x.vars)) (λ no. absurd no) i d h g);
  }

module _ (x : Contents) (whole : IsWhole x) (id : ℕ) where
  meant_bound : meant (with_bound id x) ≡ meant x
  meant_bound = ap (meanings (all_built x)) (bindings_more x whole id)

  pub terms_bound : meant (with_bound id x) ≡ meant x
  terms_bound = meant_bound

  pub images_bound : map (at (meant (with_bound id x))) (homes (with_bound id x)) ≡ map (at (meant x)) (homes x) ++ at (meant x) id ∷ []
  images_bound = ap₂ (λ (ts : List HeapTerm) (is : List ℕ). map (at ts) is) meant_bound (homes_more x whole id) ∙ map-append (at (meant x)) (homes x) (id ∷ [])

  pub whole_bound : id < length x.cells → IsWhole (with_bound id x)
  whole_bound live = record {
    kept = whole.kept;
    heap = heap_as refl (homes_more x whole id) (bindings_more x whole id) (is_heap_bound (all_built x) (homes x) (bindings x) id (rw (length-built x) live) whole.heap);
    noted = noted_same x.cells x.cells (length x.vars) (length (x.vars ++ id ∷ [])) x.order whole.noted (λ i v h. h) (λ v lt. omega (arith, lt, length-append x.vars (id ∷ [])));
    learnt = whole.learnt;
    closed = λ i d h g. subst (λ (l : List HeapTerm). IsGround (at l i)) (sym meant_bound) (whole.closed i d h g);
  }

-- a variable that what stands for it is noted of, and that is now bound to a term
abbrev pub with_binding : Contents → ℕ → ℕ → Contents
with_binding x v t = record { cells = x.cells; wide = x.wide; args = x.args; vars = set x.vars v t; order = x.order ++ get_or x.vars v 0 ∷ []; learnt = x.learnt }

-- an unbound variable, by its image
module _ (x : Contents) (whole : IsWhole x) (v : ℕ) (there : v < length (map (at (meant x)) (homes x))) (image : at (map (at (meant x)) (homes x)) v ≡ Var v) where
  unbound : target (bindings x) v ≡ None
  unbound = var_unbound (all_built x) (homes x) (bindings x) whole.heap v there image

  pub var_there : v < length x.vars
  var_there = omega (arith, there, length-map (homes x) (at (meant x)), length-homes x whole)

  apart_notes : Has v (notes x.cells x.order) → ⊥
  apart_notes h = elim (target_notes x.vars (notes x.cells x.order) v) [ inl p ↦ none-some (get_or x.vars v 0) (sym unbound ∙ p.1) | inr q ↦ q.0 h ]

  pub own_cell : slice_get x.cells (get_or x.vars v 0) ≡ Some (cell.Var v)
  own_cell =
      let lt : v < length (homes x) = omega (arith, there, length-map (homes x) (at (meant x))) in
      let h : at (meant x) (get_or (homes x) v 0) ≡ Var v = sym (get_or-map (at (meant x)) (homes x) v 0 blank lt) ∙ image in
      let free = whole.heap.free (get_or (homes x) v 0) v (subst (λ (t : HeapTerm). Occurs v t) (sym h) refl) in
      var_cell x (get_or x.vars v 0) v (subst (λ (i : ℕ). slice_get (all_built x) i ≡ Some (built.Var v)) (get_or-restore_apart (notes x.cells x.order) x.vars v 0 apart_notes)
      (free.own (get_or (homes x) v 0) (slice_get-get_or (homes x) v 0 lt)))

  module _ (end : ℕ) where
    notes_binding : notes x.cells (x.order ++ get_or x.vars v 0 ∷ []) ≡ notes x.cells x.order ++ (v, get_or x.vars v 0) ∷ []
    notes_binding =
        map-append (note_of x.cells) x.order (get_or x.vars v 0 ∷ [])
        ∙ ap (λ (o : Option Cell). notes x.cells x.order ++ (variable_at o, get_or x.vars v 0) ∷ []) own_cell

    homes_binding : homes (with_binding x v end) ≡ homes x
    homes_binding =
        ap (λ (ns : List (ℕ × ℕ)). restore ns (set x.vars v end)) notes_binding
        ∙ restore-append (notes x.cells x.order) ((v, get_or x.vars v 0) ∷ []) (set x.vars v end)
        ∙ ap (restore (notes x.cells x.order)) (set-set x.vars v end (get_or x.vars v 0) ∙ set-get_or x.vars v 0)

    bindings_binding : bindings (with_binding x v end) ≡ bindings x ++ record { variable = v; term = end } ∷ []
    bindings_binding =
        ap (map (binding_of (set x.vars v end))) notes_binding
        ∙ map-append (binding_of (set x.vars v end)) (notes x.cells x.order) ((v, get_or x.vars v 0) ∷ [])
        ∙ ap₂ (λ (bs : List Binding) (t : ℕ). bs ++ record { variable = v; term = t } ∷ [])
        (map_same (binding_of (set x.vars v end)) (binding_of x.vars) (notes x.cells x.order) (λ k n e. ap (λ (t : ℕ). record { variable = n.0; term = t })
        (get_or-set_other x.vars v n.0 end 0 (λ same. apart_notes (subst (λ (w : ℕ). Has w (notes x.cells x.order)) same (has_at (notes x.cells x.order) k n e))))))
        (get_or-set_same x.vars v end 0 var_there)

    -- the end of the bindings from a term in which it doesn't stand
    module _ (term : ℕ) (leads : Leads x term end) (apart : Occurs v (at (meant x) term) → ⊥) where
      pub meant_binding : meant (with_binding x v end) ≡ map (apply (single v (at (meant x) term))) (meant x)
      meant_binding = ap (meanings (all_built x)) bindings_binding ∙ bind_terms (all_built x) (homes x) (bindings x) whole.heap v there image term end leads apart

      pub images_binding : map (at (meant (with_binding x v end))) (homes (with_binding x v end)) ≡ map (apply (single v (at (meant x) term))) (map (at (meant x)) (homes x))
      images_binding = ap (map (at (meant (with_binding x v end)))) homes_binding ∙ bind_images v (at (meant x) term) (meant x) (meant (with_binding x v end)) (homes x) meant_binding

      pub whole_binding : IsWhole (with_binding x v end)
      whole_binding = record {
        kept = whole.kept;
        heap = heap_as refl homes_binding bindings_binding (bind_heap (all_built x) (homes x) (bindings x) whole.heap v there image term end leads apart);
        noted = subst (λ (n : ℕ). AreNoted x.cells n (x.order ++ get_or x.vars v 0 ∷ [])) (sym (length-set x.vars v end)) (λ k i h. elim (get_push x.order (get_or x.vars v 0) k i h) [
          | inl p ↦ whole.noted k i p
          | inr q ↦ (v, subst (λ (j : ℕ). slice_get x.cells j ≡ Some (cell.Var v)) q.1 own_cell, var_there)
        ]);
        learnt = whole.learnt;
        closed = λ i d h g w o.
            let t : HeapTerm = at (meant x) term in
            let o' : Occurs w (apply (single v t) (at (meant x) i)) = rw (meant_binding, at-map-subst v t (meant x) i) at o in
            let from = occurs_from (single v t) w (at (meant x) i) o' in
            whole.closed i d h g from.0 from.1;
      }

pub whole_new : IsWhole (record { cells = []; wide = []; args = []; vars = []; order = []; learnt = [] })
whole_new = record { kept = λ i c e. absurd (none-some c e); heap = empty_heap; noted = λ k i e. absurd (none-some i e); learnt = λ k i e. absurd (none-some i e); closed = λ i c e. absurd (none-some c e) }
