-- The worlds of a begin: what follows, what joins and what becomes numeric, one after another.
use Rattle.std.proofs.Common.{◌≡◌, ℕ, List, ◌++◌, true, sym, ap₂, ◌∙◌, subst, ◌||◌}
use Rattle.std.specs.Prelude.{Contains, All, ◌==◌}
use Rattle.std.specs.List.{list_any}
use Rattle.spec_linear.specs.Solution.{Constraint}
use Rattle.spec_numbers.specs.Texts.{Text}
use Rattle.spec_terms.specs.Term.{Subst}
use Rattle.spec_terms.specs.Variables.{variables}
use Rattle.spec_branch.specs.Branch.{State, Pending}
use Rattle.cq_attr.specs.Attributes.{Attributes, is_numeric}
use Rattle.cq_frac.specs.declared.VarId.{VarId}
use Rattle.cq_term.specs.HeapValue.{Terms}
use Rattle.cq_term.specs.Meaning.{at}
use Rattle.cq_term.specs.Shown.{IsUnbound}
use Rattle.cq_term.specs.Places.{numbers_of}
use Rattle.cq_settle.specs.Contents.{Contents}
use Rattle.cq_settle.specs.Called.{IsCalled}
use Rattle.cq_settle.specs.Steps.{ClashesAt, Follows, HaveJoined, StopsAt, equations_of, numeric_ones, is_image_of}
use Rattle.cq_settle.specs.Underway.{HasStarted}
use Rattle.cq_settle.proofs.Begin.{HasBegun, underway}
use Rattle.cq_settle.proofs.Binding.{AllBound}
use Rattle.cq_settle.proofs.Gathered.{has_begun, stops_first, stops_second}

abbrev with_attrs : Attributes → ℕ → Terms → List Constraint → Contents
with_attrs a n h l = record { heap = h; attrs = a; told = l; pivots = n }

-- the world in which what waits has followed
module _ (c : Contents) (newly : List VarId) (e : Contents) (heap : e.heap ≡ c.heap) (list : e.told ≡ c.told) (follows : Follows c.heap.images (numbers_of newly) c.attrs e.attrs) where
  same_world : e ≡ with_attrs e.attrs e.pivots c.heap c.told
  same_world = ap₂ (with_attrs e.attrs e.pivots) heap list

  -- what stops among the equations, or among the rows behind them, stops among all
  pub stops_equations : (P : List Constraint → Constraint → Type 0) (rows : List Constraint) → StopsAt P e.told (equations_of e newly)
      → StopsAt P c.told (equations_of c newly ++ rows)
  stops_equations P rows h = stops_first c newly e.attrs follows P rows (subst (λ (x : Contents). StopsAt P x.told (equations_of x newly)) same_world h)

  pub stops_rows : (P : List Constraint → Constraint → Type 0) (rows mid : List Constraint) (f g : List VarId) → HaveJoined e.told (equations_of e newly) mid f g → StopsAt P mid rows
      → StopsAt P c.told (equations_of c newly ++ rows)
  stops_rows P rows mid f g j h = stops_second c newly e.attrs follows P rows mid f g (subst (λ (x : Contents). HaveJoined x.told (equations_of x newly) mid f g) same_world j) h

  module _ (told : List ℕ) (rows : List Constraint) (f d : Contents) (mid : List Constraint) (none first second third : List VarId)
      (equations : HaveJoined e.told (equations_of e newly) mid none first)
      (numeric : (v : ℕ) → is_numeric f.attrs v ≡ (is_numeric e.attrs v || is_image_of e.heap.images (numeric_ones e.attrs newly) v))
      (images : (v : ℕ) → is_image_of e.heap.images (numeric_ones e.attrs newly) v ≡ true → Contains (numbers_of first) v)
      (waiting : f.attrs.waiting ≡ e.attrs.waiting) (same_heap : f.heap ≡ e.heap)
      (joined : HaveJoined mid rows f.told first second)
      (numeric_told : (v : ℕ) → is_numeric d.attrs v ≡ (is_numeric f.attrs v || list_any (λ id. list_any (λ w. w == v) (variables (at f.heap.terms id))) told))
      (unbound : All (λ id. All (IsUnbound f.heap.images) (variables (at f.heap.terms id))) told)
      (in_told : All (λ id. All (Contains (numbers_of third)) (variables (at f.heap.terms id))) told)
      (still : (v : ℕ) → Contains (numbers_of second) v → Contains (numbers_of third) v)
      (waiting_told : d.attrs.waiting ≡ f.attrs.waiting) (heap_told : d.heap ≡ f.heap) (list_told : d.told ≡ f.told) where
    same_end : d ≡ with_attrs d.attrs d.pivots c.heap f.told
    same_end = ap₂ (with_attrs d.attrs d.pivots) (heap_told ∙ same_heap ∙ heap) list_told

    back : f.heap ≡ c.heap
    back = same_heap ∙ heap

    pub begun : HasBegun c d newly told rows (numbers_of third)
    begun = subst (λ (x : Contents). HasBegun c x newly told rows (numbers_of third)) (sym same_end)
        (has_begun c newly e.attrs follows told rows f.attrs d.attrs mid f.told none first second third
        (subst (λ (x : Contents). HaveJoined x.told (equations_of x newly) mid none first) same_world equations)
        (subst (λ (h : Terms). (v : ℕ) → is_numeric f.attrs v ≡ (is_numeric e.attrs v || is_image_of h.images (numeric_ones e.attrs newly) v)) heap numeric)
        (subst (λ (h : Terms). (v : ℕ) → is_image_of h.images (numeric_ones e.attrs newly) v ≡ true → Contains (numbers_of first) v) heap images)
        waiting joined
        (subst (λ (h : Terms). (v : ℕ) → is_numeric d.attrs v ≡ (is_numeric f.attrs v || list_any (λ id. list_any (λ w. w == v) (variables (at h.terms id))) told)) back numeric_told)
        (subst (λ (h : Terms). All (λ id. All (IsUnbound h.images) (variables (at h.terms id))) told) back unbound)
        (subst (λ (h : Terms). All (λ id. All (Contains (numbers_of third)) (variables (at h.terms id))) told) back in_told)
        still waiting_told d.pivots)

-- the world in which the fixed values are bound
pub started : (texts : List Text) (c : Contents) (newly : List VarId) (told : List ℕ) (rows : List Constraint) (st : State) (p : Pending) (u : Subst Text)
    → IsCalled texts c newly told rows st p u → All (λ (v : VarId). ClashesAt c v.0 → ⊥) newly → (d : Contents) (fixed : List VarId)
    → HasBegun c d newly told rows (numbers_of fixed) → (x : Contents) (after : List VarId) → AllBound d.attrs d.told d.heap x.heap newly after fixed
    → x.attrs ≡ d.attrs → x.told ≡ d.told → HasStarted texts c.heap.terms x told (numbers_of after) st p u
started texts c newly told rows st p u k free d fixed b x after h a l = record {
  values = h.0;
  underway = underway texts c newly told rows st p u k free d (numbers_of fixed) b x after h.0 h.1 h.2 a l;
}
