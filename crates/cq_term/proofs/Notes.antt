-- Variables that were bound, by their cells: what stands for them, before and after.
use Rattle.std.proofs.Common.{◌≡◌, ◌≢◌, ℕ, zero, suc, ◌<◌, ◌≤◌, List, [], ◌∷◌, ◌++◌, length, Option, None, Some, refl, sym, ap, ◌∙◌, subst, inl, inr, ◌⊎◌, get_or, set, drop, arith, Bool, true, false, cond, map, eqb-true, eq-eqb}
use Rattle.std.specs.Prelude.{slice_get, ◌==◌}
use Rattle.std.proofs.lemmas.List.{map-append, drop-map, get_or-map, length-map}
use Rattle.std.proofs.lemmas.Bool.{false≢true}
use Rattle.std.proofs.lemmas.Option.{none-some, same_Some, MatchOption-at_some, slice_get-get_or, get_or_from_slice_get}
use Rattle.cq_trail.specs.Log.{restore}
use Rattle.cq_trail.proofs.Restore.{Within, Has, length-restore, get_or-restore_apart, restore_last}
use Rattle.spec_numbers.proofs.Places.{map_same}
use Rattle.spec_terms.specs.Term.{Var}
use Rattle.cq_term.specs.Built.{Built}
use Rattle.cq_term.specs.Built as built
use Rattle.cq_term.specs.Meaning.{at, blank}
use Rattle.cq_term.specs.Rep.{target}
use Rattle.cq_term.specs.Layout.{Contents, IsWhole, AreNoted, all_built, meant, homes, bindings, binding_of, note_of, restored, variable_at}
use Rattle.cq_term.specs.declared.lists.Cell.{Cell}
use Rattle.cq_term.specs.declared.lists.Cell.TheVariants as cell
use Rattle.cq_term.proofs.Kept.{targets}
use Rattle.cq_term.proofs.Reading.{built_at}

abbrev pub notes : List Cell → List ℕ → List (ℕ × ℕ)
notes cells order = map (note_of cells) order

pub noted_within : (cells : List Cell) (n : ℕ) (order : List ℕ) → AreNoted cells n order → Within n (notes cells order)
noted_within cells n [] are j c q = absurd (none-some c q)
noted_within cells n (i ∷ order) are zero c q =
    let s = are 0 i refl in
    let same : s.0 ≡ c.0 = sym (ap variable_at s.1) ∙ ap (λ (p : ℕ × ℕ). p.0) (same_Some (note_of cells i) c q) in
    subst (λ (v : ℕ). v < n) same s.2
noted_within cells n (i ∷ order) are (suc j) c q = noted_within cells n order (λ k x h. are (suc k) x h) j c q

-- cells that keep the variables of others keep their notes
pub notes_same : (cells others : List Cell) (n : ℕ) (order : List ℕ) → AreNoted cells n order → ((i v : ℕ) → slice_get cells i ≡ Some (cell.Var v) → slice_get others i ≡ Some (cell.Var v)) → notes others order ≡ notes cells order
notes_same cells others n order are keep = map_same (note_of others) (note_of cells) order
    (λ k i e. let s = are k i e in ap (λ (o : Option Cell). (variable_at o, i)) (keep i s.0 s.1 ∙ sym s.1))

pub noted_same : (cells others : List Cell) (n m : ℕ) (order : List ℕ) → AreNoted cells n order → ((i v : ℕ) → slice_get cells i ≡ Some (cell.Var v) → slice_get others i ≡ Some (cell.Var v)) → ((v : ℕ) → v < n → v < m) → AreNoted others m order
noted_same cells others n m order are keep more k i e = (let s = are k i e in (s.0, keep i s.0 s.1, more s.0 s.2))

pub noted_drop : (cells : List Cell) (n m : ℕ) (order : List ℕ) → AreNoted cells n order → AreNoted cells n (drop m order)
noted_drop cells n zero order are = are
noted_drop cells n (suc m) [] are = λ k i e. absurd (none-some i e)
noted_drop cells n (suc m) (x ∷ order) are = noted_drop cells n m order (λ k i e. are (suc k) i e)

-- the newest binding taken back
pub unbind_last : (cells : List Cell) (order : List ℕ) (i v m : ℕ) (vars : List ℕ) → slice_get cells i ≡ Some (cell.Var v) → m ≤ length order → restored cells (drop m (order ++ i ∷ [])) vars ≡ restored cells (drop m order) (set vars v i)
unbind_last cells order i v m vars here le =
    ap (λ (l : List (ℕ × ℕ)). restore l vars) (sym (drop-map (note_of cells) m (order ++ i ∷ [])) ∙ ap (drop m) (map-append (note_of cells) order (i ∷ [])))
    ∙ restore_last (notes cells order) (note_of cells i) m vars (rw length-map le)
    ∙ ap (λ (l : List (ℕ × ℕ)). restore l (set vars (variable_at (slice_get cells i)) i)) (drop-map (note_of cells) m order)
    ∙ ap (λ (o : Option Cell). restored cells (drop m order) (set vars (variable_at o) i)) here

-- the cell of a variable with a note
pub noted_cell : (cells : List Cell) (n : ℕ) (order : List ℕ) (v : ℕ) → AreNoted cells n order → Has v (notes cells order) → (i : ℕ) × (slice_get cells i ≡ Some (cell.Var v))
noted_cell cells n [] v are h = absurd h
noted_cell cells n (i ∷ order) v are h = elim h [
  | inl e ↦ (let s = are 0 i refl in (i, s.1 ∙ ap (λ w. Some (cell.Var w)) (sym (ap variable_at s.1) ∙ e)))
  | inr g ↦ noted_cell cells n order v (λ k x q. are (suc k) x q) g
]

pub has_at : (ns : List (ℕ × ℕ)) (k : ℕ) (n : ℕ × ℕ) → slice_get ns k ≡ Some n → Has n.0 ns
has_at [] k n e = absurd (none-some n e)
has_at (x ∷ ns) zero n e = inl (ap (λ (p : ℕ × ℕ). p.0) (same_Some x n e))
has_at (x ∷ ns) (suc k) n e = inr (has_at ns k n e)

-- a variable with a note is bound to what stands for it, and another one is not
pub target_notes : (vars : List ℕ) (ns : List (ℕ × ℕ)) (v : ℕ) →
    (Has v ns × (target (map (binding_of vars) ns) v ≡ Some (get_or vars v 0))) ⊎ ((Has v ns → ⊥) × (target (map (binding_of vars) ns) v ≡ None))
target_notes vars [] v = inr (λ h. h, refl)
target_notes vars (n ∷ ns) v = go (n.0 == v) refl (target_notes vars ns v)
  where
    go : (p : Bool) → (n.0 == v) ≡ p →
        (Has v ns × (target (map (binding_of vars) ns) v ≡ Some (get_or vars v 0))) ⊎ ((Has v ns → ⊥) × (target (map (binding_of vars) ns) v ≡ None)) →
        (Has v (n ∷ ns) × (cond p (Some (get_or vars n.0 0)) (target (map (binding_of vars) ns) v) ≡ Some (get_or vars v 0))) ⊎ ((Has v (n ∷ ns) → ⊥) × (cond p (Some (get_or vars n.0 0)) (target (map (binding_of vars) ns) v) ≡ None))
    go true e rest = (let same : n.0 ≡ v = eqb-true n.0 v e in inl (inl same, ap (λ w. Some (get_or vars w 0)) same))
    go false e rest = elim rest [
      | inl p ↦ inl (inr p.0, p.1)
      | inr q ↦ inr (λ h. elim h [ inl same ↦ (let yes : (n.0 == v) ≡ true = eq-eqb n.0 v same in absurd (false≢true (sym e ∙ yes))) | inr g ↦ q.0 g ], q.1)
    ]

module _ (x : Contents) (whole : IsWhole x) where
  pub length-homes : length (homes x) ≡ length x.vars
  length-homes = length-restore (notes x.cells x.order) x.vars

  -- a variable at a cell of its own: either it is unbound and that cell stands for it, or it is bound to another
  pub stands_for : (i v : ℕ) → slice_get x.cells i ≡ Some (cell.Var v) →
      ((target (bindings x) v ≡ None) × (get_or x.vars v 0 ≡ i)) ⊎ ((target (bindings x) v ≡ Some (get_or x.vars v 0)) × (get_or x.vars v 0 ≢ i))
  stands_for i v here =
      let built_here = built_at x i (cell.Var v) here in
      elim (target_notes x.vars (notes x.cells x.order) v) [
        | inl p ↦ inr (p.1, λ same. (let lt = whole.heap.chain v (get_or x.vars v 0) v p.1 (subst (λ (k : ℕ). slice_get (all_built x) k ≡ Some (built.Var v)) (sym same) built_here) in absurd (omega (arith, lt))))
        | inr q ↦ inl (q.1, sym (get_or-restore_apart (notes x.cells x.order) x.vars v 0 q.0) ∙ get_or_from_slice_get (homes x) v i 0 (whole.heap.single i v built_here))
      ]

  -- what stands for a variable means what the variable means
  module _ (v : ℕ) (there : v < length x.vars) where
    pub stands_live : get_or x.vars v 0 < length x.cells
    stands_live = elim (target_notes x.vars (notes x.cells x.order) v) [
      | inl p ↦ rw length-map at (targets whole.heap v (get_or x.vars v 0) p.1).0
      | inr q ↦
          let lt : v < length (homes x) = omega (arith, length-homes, there) in
          let home : get_or (homes x) v 0 < length (all_built x) = whole.heap.homes v (get_or (homes x) v 0) (slice_get-get_or (homes x) v 0 lt) in
          let same = get_or-restore_apart (notes x.cells x.order) x.vars v 0 q.0 in
          rw length-map at (subst (λ (k : ℕ). k < length (all_built x)) same home)
    ]

    pub stands_same : at (meant x) (get_or x.vars v 0) ≡ at (map (at (meant x)) (homes x)) v
    stands_same =
        let lt : v < length (homes x) = omega (arith, length-homes, there) in
        elim (target_notes x.vars (notes x.cells x.order) v) [
          | inl p ↦
              let own = noted_cell x.cells (length x.vars) x.order v whole.noted p.0 in
              let built_own = built_at x own.0 (cell.Var v) own.1 in
              let home : get_or (homes x) v 0 ≡ own.0 = get_or_from_slice_get (homes x) v own.0 0 (whole.heap.single own.0 v built_own) in
              sym (MatchOption-at_some (at (meant x) own.0 ≡ Var v) (λ w. at (meant x) own.0 ≡ at (meant x) w) (get_or x.vars v 0) p.1 (whole.heap.heads own.0 (built.Var v) built_own))
              ∙ ap (at (meant x)) (sym home) ∙ sym (get_or-map (at (meant x)) (homes x) v 0 blank lt)
          | inr q ↦ ap (at (meant x)) (sym (get_or-restore_apart (notes x.cells x.order) x.vars v 0 q.0)) ∙ sym (get_or-map (at (meant x)) (homes x) v 0 blank lt)
        ]
