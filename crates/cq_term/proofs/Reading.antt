-- What the cell at the end of the bindings tells of a term.
use Rattle.std.proofs.Common.{◌≡◌, ℕ, zero, suc, ◌+◌, ◌<◌, ◌≤◌, List, [], ◌∷◌, length, Option, None, Some, refl, sym, ap, ◌∙◌, subst, inl, inr, get_or, take, drop, arith, length-take, length-drop, map}
use Rattle.std.specs.Prelude.{slice_get, All, Bool, ℤ, ◌⊎◌}
use Rattle.std.specs.Option.{option_map}
use Rattle.std.proofs.lemmas.Option.{slice_get-map, slice_get_read, same_Some, none-some}
use Rattle.spec_numbers.specs.Rational.{ℚ}
use Rattle.cq_term.specs.Built.{Built}
use Rattle.cq_term.specs.Built as built
use Rattle.cq_term.specs.Meaning.{at}
use Rattle.cq_term.specs.Rep.{AllBelow}
use Rattle.cq_term.specs.Shown.{view_of, arguments}
use Rattle.cq_term.specs.Layout.{Contents, read, all_built, meant, homes, bindings, IsWhole, IsClosed, Leads}
use Rattle.cq_term.specs.Ground.{IsGround}
use Rattle.cq_term.specs.declared.lists.Cell.{Cell}
use Rattle.cq_term.specs.declared.lists.Cell.TheVariants as cell
use Rattle.cq_term.specs.declared.view.View.TheVariants as view
use Rattle.cq_term.proofs.Kept.{cell_view, shows, arguments_at, no_arguments}

pub built_at : (x : Contents) (i : ℕ) (c : Cell) → slice_get x.cells i ≡ Some c → slice_get (all_built x) i ≡ Some (read x.wide x.args c)
built_at x i c e = slice_get-map (read x.wide x.args) x.cells i ∙ ap (option_map (read x.wide x.args)) e

-- a cell that was read at an index
pub cell_at : (x : Contents) (i : ℕ) (d c : Cell) → i < length x.cells → d ≡ get_or x.cells i d → d ≡ c → slice_get x.cells i ≡ Some c
cell_at x i d c lt e same = slice_get_read x.cells (length x.cells) i d refl lt e ∙ ap Some same

-- only a variable's cell was built as one
pub reads_var : (wide : List ℚ) (args : List ℕ) (c : Cell) (v : ℕ) → read wide args c ≡ built.Var v → c ≡ cell.Var v
reads_var wide args (cell.Var w) v e = (let h : w ≡ v = cc in ap cell.Var h)
reads_var wide args (cell.Whole n) v e = cc
reads_var wide args (cell.Wide k) v e = cc
reads_var wide args (cell.Name a) v e = cc
reads_var wide args (cell.Compound g n f s) v e = cc
reads_var wide args (cell.Long g f s) v e = cc

pub var_cell : (x : Contents) (i v : ℕ) → slice_get (all_built x) i ≡ Some (built.Var v) → slice_get x.cells i ≡ Some (cell.Var v)
var_cell x i v e = go (slice_get x.cells i) (sym (slice_get-map (read x.wide x.args) x.cells i) ∙ e)
  where
    go : (o : Option Cell) → option_map (read x.wide x.args) o ≡ Some (built.Var v) → o ≡ Some (cell.Var v)
    go None h = absurd (none-some (built.Var v) h)
    go (Some c) h = ap Some (reads_var x.wide x.args c v (same_Some (read x.wide x.args c) (built.Var v) h))

pub last_var : (x : Contents) (i : ℕ) (c : Cell) → slice_get x.cells i ≡ Some c → (v : ℕ) → slice_get (all_built x) i ≡ Some (built.Var v) → c ≡ cell.Var v
last_var x i c here v e = reads_var x.wide x.args c v (same_Some (read x.wide x.args c) (built.Var v) (sym (built_at x i c here) ∙ e))

-- a number or a name is closed
pub closed_kind : (d : Cell) → ((n : ℤ) × (d ≡ cell.Whole n)) ⊎ (((k : ℕ) × (d ≡ cell.Wide k)) ⊎ ((a : ℕ) × (d ≡ cell.Name a))) → IsClosed d
closed_kind d h = elim h [
  | inl p ↦ subst IsClosed (sym p.1) tt
  | inr q ↦ elim q [ inl p ↦ subst IsClosed (sym p.1) tt | inr p ↦ subst IsClosed (sym p.1) tt ]
]

length-part : (xs : List ℕ) (s n : ℕ) → s + n ≤ length xs → length (take n (drop s xs)) ≡ n
length-part xs s n le = simp (length-take, length-drop) (omega arith)

module _ (x : Contents) (whole : IsWhole x) (id end : ℕ) (leads : Leads x id end) (c : Cell) (here : slice_get x.cells end ≡ Some c) where
  pub shown : view_of (at (meant x) id) ≡ cell_view (read x.wide x.args c)
  shown = shows (all_built x) (homes x) (bindings x) whole.heap id end leads (read x.wide x.args c) (read x.wide x.args c) (built_at x end c here) refl

  pub ground_at : IsClosed c → IsGround (at (meant x) id)
  ground_at closed v o = whole.closed end c here closed v (rw leads.same o)

  pub not_compound : ((g : Bool) (n f s : ℕ) → c ≡ cell.Compound g n f s → ⊥) → ((g : Bool) (f s : ℕ) → c ≡ cell.Long g f s → ⊥) → arguments (at (meant x) id) ≡ []
  not_compound other long = no_arguments (all_built x) (homes x) (bindings x) whole.heap id end leads (read x.wide x.args c) (built_at x end c here) (λ f args e. go c other long f args e)
    where
      go : (d : Cell) → ((g : Bool) (n f s : ℕ) → d ≡ cell.Compound g n f s → ⊥) → ((g : Bool) (f s : ℕ) → d ≡ cell.Long g f s → ⊥) → (f : ℕ) (args : List ℕ) → read x.wide x.args d ≡ built.Compound f args → ⊥
      go (cell.Var v) h l f args e = cc
      go (cell.Whole n) h l f args e = cc
      go (cell.Wide k) h l f args e = cc
      go (cell.Name a) h l f args e = cc
      go (cell.Compound g n f' s) h l f args e = h g n f' s refl
      go (cell.Long g f' s) h l f args e = l g f' s refl

below_all : (n e : ℕ) (is : List ℕ) → AllBelow e is → e < n → All (λ i. i < n) is
below_all n e [] below lt k d within = absurd (omega arith)
below_all n e (i ∷ is) below lt zero d within = omega (arith, below.0)
below_all n e (i ∷ is) below lt (suc k) d within = below_all n e is below.1 lt k d (omega arith)

-- a compound, whose arguments are so many from a place on
module _ (x : Contents) (whole : IsWhole x) (id end : ℕ) (leads : Leads x id end) (c : Cell) (here : slice_get x.cells end ≡ Some c) (n f s : ℕ) (reads : read x.wide x.args c ≡ built.Compound f (take n (drop s x.args))) where
  built_here : slice_get (all_built x) end ≡ Some (built.Compound f (take n (drop s x.args)))
  built_here = built_at x end c here ∙ ap Some reads

  pub shown_compound : s + n ≤ length x.args → view_of (at (meant x) id) ≡ view.Compound f n
  shown_compound fits = shown x whole id end leads c here ∙ ap cell_view reads ∙ ap (view.Compound f) (length-part x.args s n fits)

  pub arguments_live : All (λ i. i < length (all_built x)) (take n (drop s x.args))
  arguments_live = below_all (length (all_built x)) end (take n (drop s x.args)) (whole.heap.fits end (built.Compound f (take n (drop s x.args))) built_here).1 leads.live

  pub its_arguments : arguments (at (meant x) id) ≡ map (at (meant x)) (take n (drop s x.args))
  its_arguments = arguments_at (all_built x) (homes x) (bindings x) whole.heap id end leads f (take n (drop s x.args)) built_here
