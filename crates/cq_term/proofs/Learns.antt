-- A heap after one of its compounds was found to have no variable: it means the same, now and at each mark.
use Rattle.std.proofs.Common.{◌≡◌, ℕ, ◌<◌, ◌≤◌, List, [], ◌∷◌, ◌++◌, length, Some, refl, sym, ap, ap₂, ◌∙◌, subst, inl, inr, get_or, set, take, drop, arith, Bool, true, false, map, length-set, length-append}
use Rattle.std.specs.Prelude.{slice_get, if◌then◌else◌}
use Rattle.std.proofs.lemmas.Bool.{cases_eq}
use Rattle.std.proofs.lemmas.List.{set-set, set-get_or, take-append-le}
use Rattle.std.proofs.lemmas.Option.{same_Some, slice_get_within, get_or_from_slice_get}
use Rattle.cq_trail.specs.Log.{restore}
use Rattle.cq_trail.proofs.Restore.{take-restore-set}
use Rattle.spec_numbers.proofs.Places.{get_push, map_same}
use Rattle.cq_term.specs.Meaning.{HeapTerm, at, meanings}
use Rattle.cq_term.specs.Rep.{terms_of_parts}
use Rattle.cq_term.specs.Layout.{AreLearnt, Closes, Contents, IsMarked, IsWhole, IsWithin, IsKept, Learns, all_built, bindings, binding_of, contents_at, forgotten, homes, meant, open_cell, open_note, read, terms_at, terms_of, with_closed}
use Rattle.cq_term.specs.Ground.{IsGround}
use Rattle.cq_term.specs.declared.lists.Cell.{Cell}
use Rattle.cq_term.specs.declared.lists.Cell.TheVariants as cell
use Rattle.cq_term.specs.declared.heap.Place.{Place}
use Rattle.cq_term.proofs.Cells.{heap_as}
use Rattle.cq_term.proofs.Notes.{notes, notes_same, noted_same, noted_drop}
use Rattle.cq_term.proofs.Learnt.{blank_cell, closes_back, closes_kept, closes_no_var, closes_reads, forget_last, get_other, get_written, map_written, open_open, open_written, opens_same}
use Rattle.cq_term.proofs.Marks.{same_contents}

module _ (x : Contents) (whole : IsWhole x) (i : ℕ) (c d : Cell) (here : slice_get x.cells i ≡ Some c) (closes : Closes c d) (noted : Bool) where
  vars_stay : (j v : ℕ) → slice_get x.cells j ≡ Some (cell.Var v) → slice_get (set x.cells i d) j ≡ Some (cell.Var v)
  vars_stay j v e = elim (cases_eq j i) [
    | inl same ↦ absurd (closes_no_var c d v closes (same_Some c (cell.Var v) (sym here ∙ subst (λ (k : ℕ). slice_get x.cells k ≡ Some (cell.Var v)) same e)))
    | inr ne ↦ get_other x.cells i j d ne ∙ e
  ]

  built_closed : all_built (with_closed x i d noted) ≡ all_built x
  built_closed = map_written (read x.wide x.args) x.cells i c d here (closes_reads x.wide x.args c d closes)

  notes_closed : notes (set x.cells i d) x.order ≡ notes x.cells x.order
  notes_closed = notes_same x.cells (set x.cells i d) (length x.vars) x.order whole.noted vars_stay

  homes_closed : homes (with_closed x i d noted) ≡ homes x
  homes_closed = ap (λ (ns : List (ℕ × ℕ)). restore ns x.vars) notes_closed

  bindings_closed : bindings (with_closed x i d noted) ≡ bindings x
  bindings_closed = ap (map (binding_of x.vars)) notes_closed

  meant_closed : meant (with_closed x i d noted) ≡ meant x
  meant_closed = ap₂ meanings built_closed bindings_closed

  pub terms_closed : terms_of (with_closed x i d noted) ≡ terms_of x
  terms_closed = λ k. terms_of_parts (built_closed k) (homes_closed k) (bindings_closed k)

  place : i < length x.cells
  place = slice_get_within x.cells i c here

  learnt_closed : (b : Bool) → AreLearnt (length (set x.cells i d)) (if b then x.learnt ++ i ∷ [] else x.learnt)
  learnt_closed true k j e = rw length-set (elim (get_push x.learnt i k j e) [ inl p ↦ whole.learnt k j p | inr q ↦ subst (λ (n : ℕ). n < length x.cells) q.1 place ])
  learnt_closed false k j e = rw length-set (whole.learnt k j e)

  whole_closed : IsGround (at (meant x) i) → IsWhole (with_closed x i d noted)
  whole_closed ground = record {
    kept = λ j e h. elim (cases_eq j i) [
      | inl same ↦
          let is : e ≡ d = get_written x.cells i d e (subst (λ (k : ℕ). slice_get (set x.cells i d) k ≡ Some e) same h) in
          subst (λ (y : Cell). IsKept (length x.wide) x.args y) (sym is) (closes_kept (length x.wide) x.args c d closes (whole.kept i c here))
      | inr ne ↦ whole.kept j e (sym (get_other x.cells i j d ne) ∙ h)
    ];
    heap = heap_as built_closed homes_closed bindings_closed whole.heap;
    noted = noted_same x.cells (set x.cells i d) (length x.vars) (length x.vars) x.order whole.noted vars_stay (λ v lt. lt);
    learnt = learnt_closed noted;
    closed = λ j e h g. subst (λ (l : List HeapTerm). IsGround (at l j)) (sym meant_closed) (elim (cases_eq j i) [
      | inl same ↦ subst (λ (k : ℕ). IsGround (at (meant x) k)) (sym same) ground
      | inr ne ↦ whole.closed j e (sym (get_other x.cells i j d ne) ∙ h) g
    ]);
  }

  -- the cells at a mark
  opens_closed : (is : List ℕ) → map (open_note (set x.cells i d)) is ≡ map (open_note x.cells) is
  opens_closed is =
      let old : get_or x.cells i blank_cell ≡ c = get_or_from_slice_get x.cells i c blank_cell here in
      let back : open_cell d ≡ c = closes_back c d closes in
      opens_same x.cells (set x.cells i d) is (λ k j e. open_written x.cells i d place (back ∙ sym (ap open_cell (old ∙ sym back) ∙ open_open d ∙ back)) j)

  cells_closed : (b : Bool) (p : Place) → IsWithin p x → (b ≡ false → p.cells ≤ i) →
      take p.cells (forgotten (set x.cells i d) (drop p.learnt (if b then x.learnt ++ i ∷ [] else x.learnt))) ≡ take p.cells (forgotten x.cells (drop p.learnt x.learnt))
  cells_closed true p w young =
      let old : get_or x.cells i blank_cell ≡ c = get_or_from_slice_get x.cells i c blank_cell here in
      let back : open_cell d ≡ c = closes_back c d closes in
      let stays : open_cell (get_or x.cells i blank_cell) ≡ get_or x.cells i blank_cell = ap open_cell (old ∙ sym back) ∙ open_open d ∙ back ∙ sym old in
      ap (λ (ns : List (ℕ × Cell)). take p.cells (restore ns (set x.cells i d))) (opens_closed (drop p.learnt (x.learnt ++ i ∷ [])))
      ∙ ap (take p.cells) (forget_last x.cells x.learnt i p.learnt (set x.cells i d) w.learnt
      ∙ ap (restore (map (open_note x.cells) (drop p.learnt x.learnt))) (set-set x.cells i d (open_cell (get_or x.cells i blank_cell)) ∙ ap (set x.cells i) stays ∙ set-get_or x.cells i blank_cell))
  cells_closed false p w young =
      ap (λ (ns : List (ℕ × Cell)). take p.cells (restore ns (set x.cells i d))) (opens_closed (drop p.learnt x.learnt))
      ∙ take-restore-set (map (open_note x.cells) (drop p.learnt x.learnt)) x.cells p.cells i d (young refl)

  learnt_longer : (b : Bool) → length x.learnt ≤ length (if b then x.learnt ++ i ∷ [] else x.learnt)
  learnt_longer true = omega (arith, length-append x.learnt (i ∷ []))
  learnt_longer false = omega arith

  learnt_cut : (b : Bool) (n : ℕ) → n ≤ length x.learnt → take n (if b then x.learnt ++ i ∷ [] else x.learnt) ≡ take n x.learnt
  learnt_cut true n le = take-append-le n x.learnt (i ∷ []) le
  learnt_cut false n le = refl

  module _ (marks : List Place) (is : IsMarked x marks) (young : noted ≡ false → (k : ℕ) (p : Place) → slice_get marks k ≡ Some p → p.cells ≤ i) where
    at_mark : (k : ℕ) (p : Place) → slice_get marks k ≡ Some p → contents_at (with_closed x i d noted) p ≡ contents_at x p
    at_mark k p e =
        let w = is.within k p e in
        same_contents
        (cells_closed noted p w (λ b. young b k p e))
        refl refl
        (ap (λ (ns : List (ℕ × ℕ)). take p.vars (restore ns x.vars)) (notes_same x.cells (set x.cells i d) (length x.vars) (drop p.order x.order) (noted_drop x.cells (length x.vars) p.order x.order whole.noted) vars_stay))
        refl
        (learnt_cut noted p.learnt w.learnt)

    pub marked_closed : IsGround (at (meant x) i) → IsMarked (with_closed x i d noted) marks
    marked_closed ground = record {
      now = whole_closed ground;
      within = λ k p e. (let w = is.within k p e in record { cells = rw length-set w.cells; wide = w.wide; args = w.args; vars = w.vars; order = w.order; learnt = omega (arith, w.learnt, learnt_longer noted) });
      before = λ k p e. subst IsWhole (sym (at_mark k p e)) (is.before k p e);
      sorted = is.sorted;
    }

    pub saved_closed : map (terms_at (with_closed x i d noted)) marks ≡ map (terms_at x) marks
    saved_closed = map_same (terms_at (with_closed x i d noted)) (terms_at x) marks (λ k p e. ap terms_of (at_mark k p e))

-- the heap as it was learnt of
module _ (x y : Contents) (marks : List Place) (is : IsMarked x marks) (i : ℕ) (noted : Bool) (learns : Learns x y i noted) (young : noted ≡ false → (k : ℕ) (p : Place) → slice_get marks k ≡ Some p → p.cells ≤ i) where
  pub marked_learnt : IsGround (at (meant x) i) → IsMarked y marks
  marked_learnt ground = elim learns [
    | inl same ↦ subst (λ (z : Contents). IsMarked z marks) (sym same) is
    | inr l ↦ subst (λ (z : Contents). IsMarked z marks) (sym l.4) (marked_closed x is.now i l.0 l.1 l.2 l.3 noted marks is young ground)
  ]

  pub saved_learnt : map (terms_at y) marks ≡ map (terms_at x) marks
  saved_learnt = elim learns [
    | inl same ↦ ap (λ (z : Contents). map (terms_at z) marks) same
    | inr l ↦ ap (λ (z : Contents). map (terms_at z) marks) l.4 ∙ saved_closed x is.now i l.0 l.1 l.2 l.3 noted marks is young
  ]

  pub terms_learnt : terms_of y ≡ terms_of x
  terms_learnt = elim learns [
    | inl same ↦ ap terms_of same
    | inr l ↦ ap terms_of l.4 ∙ terms_closed x is.now i l.0 l.1 l.2 l.3 noted
  ]
