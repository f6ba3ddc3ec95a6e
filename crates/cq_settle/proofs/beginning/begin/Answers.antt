use Rattle.std.proofs.Common.{◌≡◌, ◌<◌, ◌∙◌, ◌||◌, ◌++◌, ℕ, List, Err, ap, subst, sym, true}
use Rattle.std.specs.Prelude.{All, Any, Contains}
use Rattle.std.proofs.lemmas.Bool.Decides.{when_true, when_false}
use Rattle.spec_linear.specs.Solution.{Constraint}
use Rattle.spec_terms.specs.Term.{Var}
use Rattle.cq_attr.specs.Attributes.{Attributes, is_numeric}
use Rattle.cq_frac.specs.declared.VarId.{VarId}
use Rattle.cq_store.proofs.Passed.{passed, store_spent}
use Rattle.cq_term.specs.HeapValue.{Terms}
use Rattle.cq_term.specs.Meaning.{at}
use Rattle.cq_term.specs.Places.{numbers_of}
use Rattle.cq_settle.specs.Contents.{Contents}
use Rattle.cq_settle.specs.Worlds.{now_of}
use Rattle.cq_settle.specs.Steps.{AreThere, AreBoundThere, ClashesAt, Follows, HaveJoined, StopsAt, CannotJoin, Refuses, Takes, equations_of, numeric_ones, is_image_of}
use Rattle.cq_settle.proofs.Before.{all_there, all_bound, all_older, one_clashes, numeric_there_below}
use Rattle.cq_settle.proofs.Begin.{HasBegun}
use Rattle.cq_settle.proofs.Begun.{stops_equations, stops_rows, begun, started}
use Rattle.cq_settle.proofs.Binding.{AllBound}
use Rattle.cq_settle.proofs.Start.{prunes, refused, spent}
use Rattle.cq_settle.proofs.beginning.begin.Goals as goal
use Rattle.cq_settle.proofs.beginning.begin.Goals.{Else-clashes, After-join_equations, Else-not-branch, After-deref}

-- no variable clashes
free : (c : Else-clashes) → All (λ (v : VarId). ClashesAt (now_of c.args.world.now) v.0 → ⊥) c.args.newly.now
free c = subst (λ (xs : List VarId). All (λ (v : VarId). ClashesAt (now_of c.args.world.now) v.0 → ⊥) xs) c.as_slice.ensures c.if-clashes.ensures

-- what stops among the equations stops among all
first : (c : After-join_equations) (P : List Constraint → Constraint → Type 0)
    → StopsAt P c.follow.new.world.store.told (equations_of (now_of c.follow.new.world) c.as_slice-3.result.now)
    → StopsAt P c.args.world.now.store.told (equations_of (now_of c.args.world.now) c.args.newly.now ++ c.args.rows.now)
first c P h =
    stops_equations (now_of c.args.world.now) c.args.newly.now (now_of c.follow.new.world) c.follow.ensures.heap c.follow.ensures.told
    (subst (λ (xs : List VarId). Follows c.args.world.now.heap.now.images (numbers_of xs) c.args.world.now.attrs.now c.follow.new.world.attrs.now) c.as_slice-2.ensures c.in_ok-follow.ensures.follows)
    P c.args.rows.now (subst (λ (xs : List VarId). StopsAt P c.follow.new.world.store.told (equations_of (now_of c.follow.new.world) xs)) c.as_slice-3.ensures h)

-- the equations have joined
equations : (c : Else-not-branch) → HaveJoined c.follow.new.world.store.told (equations_of (now_of c.follow.new.world) c.args.newly.now) c.join_equations.new.world.store.told
    c.new-fixed.result.items c.join_equations.new.fixed.items
equations c =
    subst (λ (xs : List VarId). HaveJoined c.follow.new.world.store.told (equations_of (now_of c.follow.new.world) xs) c.join_equations.new.world.store.told
    c.new-fixed.result.items c.join_equations.new.fixed.items) c.as_slice-3.ensures (when_true _ _ c.if-not-branch.false c.in_ok-join_equations.ensures.joined)

-- and what stops among the rows stops among all
second : (c : Else-not-branch) (P : List Constraint → Constraint → Type 0) → StopsAt P c.join_equations.new.world.store.told c.args.rows.now
    → StopsAt P c.args.world.now.store.told (equations_of (now_of c.args.world.now) c.args.newly.now ++ c.args.rows.now)
second c P h =
    stops_rows (now_of c.args.world.now) c.args.newly.now (now_of c.follow.new.world) c.follow.ensures.heap c.follow.ensures.told
    (subst (λ (xs : List VarId). Follows c.args.world.now.heap.now.images (numbers_of xs) c.args.world.now.attrs.now c.follow.new.world.attrs.now) c.as_slice-2.ensures c.in_ok-follow.ensures.follows)
    P c.args.rows.now c.join_equations.new.world.store.told c.new-fixed.result.items c.join_equations.new.fixed.items (equations c) h

-- the world once the rows have joined
abbrev joined_then : Terms → Attributes → List Constraint → ℕ → Contents
joined_then h a l n = record { heap = h; attrs = a; told = l; pivots = n }

pub clashes-requires : goal.clashes-requires
clashes-requires c =
    let k = c.requires.1 in
    subst (AreThere c.args.world.now.heap.now.images) (sym c.as_slice.ensures)
    (all_there c.requires.0 (now_of c.args.world.now) c.args.newly.now c.args.told.now c.args.rows.now k.state k.pending k.unifier k.is)

pub returns-then-clashes-clause-begun : goal.returns-then-clashes-clause-begun
returns-then-clashes-clause-begun c = λ texts st p u k.
    one_clashes texts (now_of c.args.world.now) c.args.newly.now c.args.told.now c.args.rows.now st p u k
    (subst (λ (xs : List VarId). Any (λ (v : VarId). ClashesAt (now_of c.args.world.now) v.0) xs) c.as_slice.ensures c.if-clashes.ensures)

pub follow-requires : goal.follow-requires
follow-requires c =
    let k = c.requires.1 in
    subst (AreThere c.args.world.now.heap.now.images) (sym c.as_slice-2.ensures)
    (all_there c.requires.0 (now_of c.args.world.now) c.args.newly.now c.args.told.now c.args.rows.now k.state k.pending k.unifier k.is)

pub join_equations-requires-clause-bound : goal.join_equations-requires-clause-bound
join_equations-requires-clause-bound c =
    let k = c.requires.1 in
    subst (λ (xs : List VarId). AreBoundThere c.follow.new.world.heap.now.images xs) (sym c.as_slice-3.ensures)
    (subst (λ (h : Terms). AreBoundThere h.images c.args.newly.now) (sym c.follow.ensures.heap)
    (all_bound c.requires.0 (now_of c.args.world.now) c.args.newly.now c.args.told.now c.args.rows.now k.state k.pending k.unifier k.is))

pub join_equations-requires-clause-older : goal.join_equations-requires-clause-older
join_equations-requires-clause-older c =
    let k = c.requires.1 in
    subst (λ (xs : List VarId). All (λ (v : VarId). (w : ℕ) → at c.follow.new.world.heap.now.images v.0 ≡ Var w → w < v.0) xs) (sym c.as_slice-3.ensures)
    (subst (λ (h : Terms). All (λ (v : VarId). (w : ℕ) → at h.images v.0 ≡ Var w → w < v.0) c.args.newly.now) (sym c.follow.ensures.heap)
    (all_older c.requires.0 (now_of c.args.world.now) c.args.newly.now c.args.told.now c.args.rows.now k.state k.pending k.unifier k.is))

-- all have joined
has : (c : After-deref) → HasBegun (now_of c.args.world.now) (now_of c.make_numeric.new.world) c.args.newly.now c.args.told.now c.args.rows.now (numbers_of c.make_numeric.new.fixed.items)
has c =
    let then = c.follow.new.world in
    begun (now_of c.args.world.now) c.args.newly.now (now_of then) c.follow.ensures.heap c.follow.ensures.told
    (subst (λ (xs : List VarId). Follows c.args.world.now.heap.now.images (numbers_of xs) c.args.world.now.attrs.now then.attrs.now) c.as_slice-2.ensures c.in_ok-follow.ensures.follows)
    c.args.told.now c.args.rows.now
    (joined_then c.join_equations.new.world.heap.now c.join_equations.new.world.attrs.now c.join_rows.new.store.told c.join_rows.new.store.pivots)
    (now_of c.make_numeric.new.world) c.join_equations.new.world.store.told c.new-fixed.result.items c.join_equations.new.fixed.items c.join_rows.new.fixed.items c.make_numeric.new.fixed.items
    (subst (λ (xs : List VarId). HaveJoined then.store.told (equations_of (now_of then) xs) c.join_equations.new.world.store.told c.new-fixed.result.items c.join_equations.new.fixed.items)
    c.as_slice-3.ensures (when_true _ _ c.if-not-branch.false c.in_ok-join_equations.ensures.joined))
    (subst (λ (xs : List VarId). (v : ℕ) → is_numeric c.join_equations.new.world.attrs.now v ≡ (is_numeric then.attrs.now v || is_image_of then.heap.now.images (numeric_ones then.attrs.now xs) v))
    c.as_slice-3.ensures (c.in_ok-join_equations.ensures.numeric c.if-not-branch.false))
    (subst (λ (xs : List VarId). (v : ℕ) → is_image_of then.heap.now.images (numeric_ones then.attrs.now xs) v ≡ true → Contains (numbers_of c.join_equations.new.fixed.items) v)
    c.as_slice-3.ensures (c.in_ok-join_equations.ensures.images c.if-not-branch.false))
    c.join_equations.ensures.waiting c.join_equations.ensures.heap (when_true _ _ c.if-not-branch-2.false c.in_ok-join_rows.ensures.joined)
    c.in_ok-make_numeric.ensures.numeric c.in_ok-make_numeric.ensures.unbound c.in_ok-make_numeric.ensures.told c.make_numeric.ensures.still
    c.make_numeric.ensures.waiting c.make_numeric.ensures.heap c.make_numeric.ensures.store

pub returns-in_err-join_equations-clause-overflow : goal.returns-in_err-join_equations-clause-overflow
returns-in_err-join_equations-clause-overflow c = λ pair e texts st p u k.
    refused texts (now_of c.args.world.now) c.args.newly.now c.args.told.now c.args.rows.now st p u k (free (goal.at.returns-in_err-join_equations-clause-overflow c).Else-clashes) c.store_and_numbers.ensures.fixes.0 c.store_and_numbers.ensures.fixes.1 pair
    (first (goal.at.returns-in_err-join_equations-clause-overflow c).After-join_equations (Refuses pair)
    (c.in_err-join_equations.ensures.overflow pair (ap Err (passed c.from_residual-in_err-join_equations.result c.in_err-join_equations.field-0.0 pair c.from_residual-in_err-join_equations.ensures.1 e))))

pub returns-in_err-join_equations-clause-pivots : goal.returns-in_err-join_equations-clause-pivots
returns-in_err-join_equations-clause-pivots c = λ n e.
    let o = c.in_err-join_equations.ensures.pivots n (ap Err (store_spent c.from_residual-in_err-join_equations.result c.in_err-join_equations.field-0.0 n c.from_residual-in_err-join_equations.ensures.1 e)) in (
      o.0 ∙ c.follow.ensures.marks.pivots,
      λ texts st p u k. spent texts (now_of c.args.world.now) c.args.newly.now c.args.told.now c.args.rows.now st p u k (free (goal.at.returns-in_err-join_equations-clause-pivots c).Else-clashes) c.store_and_numbers.ensures.fixes.0 c.store_and_numbers.ensures.fixes.1 n (first (goal.at.returns-in_err-join_equations-clause-pivots c).After-join_equations (Takes n) o.1),
    )

pub returns-then-not-branch-clause-begun : goal.returns-then-not-branch-clause-begun
returns-then-not-branch-clause-begun c = λ texts st p u k.
    prunes texts (now_of c.args.world.now) c.args.newly.now c.args.told.now c.args.rows.now st p u k (free (goal.at.returns-then-not-branch-clause-begun c).Else-clashes)
    (first (goal.at.returns-then-not-branch-clause-begun c).After-join_equations CannotJoin (when_false _ _ c.if-not-branch.true c.in_ok-join_equations.ensures.joined))

pub returns-in_err-join_rows-clause-overflow : goal.returns-in_err-join_rows-clause-overflow
returns-in_err-join_rows-clause-overflow c = λ pair e texts st p u k.
    refused texts (now_of c.args.world.now) c.args.newly.now c.args.told.now c.args.rows.now st p u k (free (goal.at.returns-in_err-join_rows-clause-overflow c).Else-clashes) c.store_and_numbers.ensures.fixes.0 c.store_and_numbers.ensures.fixes.1 pair
    (second (goal.at.returns-in_err-join_rows-clause-overflow c).Else-not-branch (Refuses pair)
    (c.in_err-join_rows.ensures.overflow pair (ap Err (passed c.from_residual-in_err-join_rows.result c.in_err-join_rows.field-0.0 pair c.from_residual-in_err-join_rows.ensures.1 e))))

pub returns-in_err-join_rows-clause-pivots : goal.returns-in_err-join_rows-clause-pivots
returns-in_err-join_rows-clause-pivots c = λ n e.
    let o = c.in_err-join_rows.ensures.pivots n (ap Err (store_spent c.from_residual-in_err-join_rows.result c.in_err-join_rows.field-0.0 n c.from_residual-in_err-join_rows.ensures.1 e)) in (
      o.0 ∙ c.join_equations.ensures.marks.pivots ∙ c.follow.ensures.marks.pivots,
      λ texts st p u k. spent texts (now_of c.args.world.now) c.args.newly.now c.args.told.now c.args.rows.now st p u k (free (goal.at.returns-in_err-join_rows-clause-pivots c).Else-clashes) c.store_and_numbers.ensures.fixes.0 c.store_and_numbers.ensures.fixes.1 n (second (goal.at.returns-in_err-join_rows-clause-pivots c).Else-not-branch (Takes n) o.1),
    )

pub returns-then-not-branch-2-clause-begun : goal.returns-then-not-branch-2-clause-begun
returns-then-not-branch-2-clause-begun c = λ texts st p u k.
    prunes texts (now_of c.args.world.now) c.args.newly.now c.args.told.now c.args.rows.now st p u k (free (goal.at.returns-then-not-branch-2-clause-begun c).Else-clashes)
    (second (goal.at.returns-then-not-branch-2-clause-begun c).Else-not-branch CannotJoin (when_false _ _ c.if-not-branch-2.true c.in_ok-join_rows.ensures.joined))

pub bind_fixed-requires : goal.bind_fixed-requires
bind_fixed-requires c =
    let k = c.requires.1 in
    numeric_there_below c.requires.0 (now_of c.args.world.now) c.args.newly.now c.args.told.now c.args.rows.now k.state k.pending k.unifier k.is (free (goal.at.bind_fixed-requires c).Else-clashes)
    (now_of c.make_numeric.new.world) (numbers_of c.make_numeric.new.fixed.items) (has (goal.at.bind_fixed-requires c).After-deref)

pub returns-clause-begun : goal.returns-clause-begun
returns-clause-begun c = λ texts st p u k.
    started texts (now_of c.args.world.now) c.args.newly.now c.args.told.now c.args.rows.now st p u k (free (goal.at.returns-clause-begun c).Else-clashes) (now_of c.make_numeric.new.world) c.make_numeric.new.fixed.items (has (goal.at.returns-clause-begun c).After-deref) (now_of c.bind_fixed.new.world) c.bind_fixed.new.newly
    (subst (λ (xs : List VarId). AllBound c.make_numeric.new.world.attrs.now c.make_numeric.new.world.store.told c.make_numeric.new.world.heap.now c.bind_fixed.new.world.heap.now c.args.newly.now
    c.bind_fixed.new.newly xs) c.deref.ensures.value c.in_ok-bind_fixed.ensures.bound)
    c.bind_fixed.ensures.attrs c.bind_fixed.ensures.store
