use Rattle.std.proofs.Common.{◌≡◌, ℕ, ◌<◌, ◌∙◌, length, None, Some, refl, sym, ap, get_or, slice_get, inl, inr, eq-eqb}
use Rattle.std.proofs.lemmas.List.{get_or_read}
use Rattle.std.proofs.lemmas.Bool.{false≢true, eqb-true}
use Rattle.cq_term.specs.Built as built
use Rattle.cq_term.specs.Rep.{target}
use Rattle.cq_term.specs.Layout.{Contents, IsWhole, contents, all_built, homes, bindings}
use Rattle.cq_term.specs.declared.lists.Cell.TheVariants as cell
use Rattle.cq_term.proofs.Kept.{follow_same, follow_less, at_none, targets}
use Rattle.cq_term.proofs.Cells.{length-built}
use Rattle.cq_term.proofs.Notes.{length-homes, stands_for}
use Rattle.cq_term.proofs.Reading.{built_at, cell_at, last_var}
use Rattle.cq_term.proofs.lists.Lists.resolve.Goals as goal

bound_to : (x : Contents) (whole : IsWhole x) (i v next : ℕ) → slice_get x.cells i ≡ Some (cell.Var v) → next ≡ get_or x.vars v 0 → (next ≡ i → ⊥) → target (bindings x) v ≡ Some next
bound_to x whole i v next here is other = elim (stands_for x whole i v here) [
  | inl p ↦ absurd (other (is ∙ p.1))
  | inr q ↦ q.0 ∙ ap Some (sym is)
]

not_bound : (x : Contents) (whole : IsWhole x) (i v next : ℕ) → slice_get x.cells i ≡ Some (cell.Var v) → next ≡ get_or x.vars v 0 → next ≡ i → target (bindings x) v ≡ None
not_bound x whole i v next here is same = elim (stands_for x whole i v here) [
  | inl p ↦ p.0
  | inr q ↦ absurd (q.1 (sym is ∙ same))
]

pub index-requires-in-Var : goal.index-requires-in-Var
index-requires-in-Var c =
    let x = contents c.args.self.now in
    let lt : c.loop-variable.end < length c.args.self.now.cells.items = rw (← length-built x) c.loop-variable.invariant.live in
    let e = rw c.index.ensures at c.index-in-loop-variable.ensures in
    let here = cell_at x c.loop-variable.end c.index-in-loop-variable.result.now (cell.Var c.in-Var.variable) lt e c.in-Var.is in
    let var = built_at x c.loop-variable.end (cell.Var c.in-Var.variable) here in
    rw c.args.self.now.vars.ok.0 (rw (← length-homes x c.requires.whole) (c.requires.whole.heap.fits c.loop-variable.end (built.Var c.in-Var.variable) var))

pub loop-variable-smaller : goal.loop-variable-smaller
loop-variable-smaller c =
    let x = contents c.args.self.now in
    let end = c.loop-variable.end in
    let v = c.in-Var.variable in
    let next = c.index-in-Var.result.now in
    let lt : c.loop-variable.end < length c.args.self.now.cells.items = rw (← length-built x) c.loop-variable.invariant.live in
    let e = rw c.index.ensures at c.index-in-loop-variable.ensures in
    let here = cell_at x end c.index-in-loop-variable.result.now (cell.Var v) lt e c.in-Var.is in
    let var = built_at x end (cell.Var v) here in
    let there : c.in-Var.variable < length c.args.self.now.vars.items = rw (← length-homes x c.requires.whole) (c.requires.whole.heap.fits end (built.Var v) var) in
    let read = get_or_read c.args.self.now.vars.items v next there c.index-in-Var.ensures 0 in
    let bind = bound_to x c.requires.whole end v next here read (λ same. false≢true (sym c.if-eq.false ∙ c.eq.ensures ∙ eq-eqb next end same)) in
    follow_less (all_built x) (homes x) (bindings x) c.requires.whole.heap end v next var bind

pub loop-variable-preserved : goal.loop-variable-preserved
loop-variable-preserved c =
    let x = contents c.args.self.now in
    let end = c.loop-variable.end in
    let v = c.in-Var.variable in
    let next = c.index-in-Var.result.now in
    let lt : c.loop-variable.end < length c.args.self.now.cells.items = rw (← length-built x) c.loop-variable.invariant.live in
    let e = rw c.index.ensures at c.index-in-loop-variable.ensures in
    let here = cell_at x end c.index-in-loop-variable.result.now (cell.Var v) lt e c.in-Var.is in
    let var = built_at x end (cell.Var v) here in
    let there : c.in-Var.variable < length c.args.self.now.vars.items = rw (← length-homes x c.requires.whole) (c.requires.whole.heap.fits end (built.Var v) var) in
    let read = get_or_read c.args.self.now.vars.items v next there c.index-in-Var.ensures 0 in
    let bind = bound_to x c.requires.whole end v next here read (λ same. false≢true (sym c.if-eq.false ∙ c.eq.ensures ∙ eq-eqb next end same)) in
    record {
      live = (targets c.requires.whole.heap v next bind).0;
      same = follow_same (all_built x) (homes x) (bindings x) c.requires.whole.heap end v next var bind ∙ c.loop-variable.invariant.same;
    }

pub returns-then-eq : goal.returns-then-eq
returns-then-eq c =
    let x = contents c.args.self.now in
    let end = c.loop-variable.end in
    let v = c.in-Var.variable in
    let next = c.index-in-Var.result.now in
    let lt : c.loop-variable.end < length c.args.self.now.cells.items = rw (← length-built x) c.loop-variable.invariant.live in
    let e = rw c.index.ensures at c.index-in-loop-variable.ensures in
    let here = cell_at x end c.index-in-loop-variable.result.now (cell.Var v) lt e c.in-Var.is in
    let var = built_at x end (cell.Var v) here in
    let there : c.in-Var.variable < length c.args.self.now.vars.items = rw (← length-homes x c.requires.whole) (c.requires.whole.heap.fits end (built.Var v) var) in
    let read = get_or_read c.args.self.now.vars.items v next there c.index-in-Var.ensures 0 in
    let last = not_bound x c.requires.whole end v next here read (eqb-true next end (sym c.eq.ensures ∙ c.if-eq.true)) in
    record {
      live = c.loop-variable.invariant.live;
      same = c.loop-variable.invariant.same;
      last = λ n h. at_none (all_built x) (bindings x) end v n var last h;
    }

pub returns-in_default : goal.returns-in_default
returns-in_default c =
    let x = contents c.args.self.now in
    let lt : c.loop-variable.end < length c.args.self.now.cells.items = rw (← length-built x) c.loop-variable.invariant.live in
    let e = rw c.index.ensures at c.index-in-loop-variable.ensures in
    let here = cell_at x c.loop-variable.end c.index-in-loop-variable.result.now c.index-in-loop-variable.result.now lt e refl in
    record {
      live = c.loop-variable.invariant.live;
      same = c.loop-variable.invariant.same;
      last = λ n h. absurd (c.in_default.not-Var n (last_var x c.loop-variable.end c.index-in-loop-variable.result.now here n h));
    }
