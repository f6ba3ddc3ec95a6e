use Rattle.std.proofs.Common.{ℕ, ◌<◌, ◌≤◌, ◌∙◌, ap, sym, subst, Some, arith, length, drop, take, length-append, length-set, ◌∷◌, []}
use Rattle.std.proofs.lemmas.List.{take-append-le}
use Rattle.std.proofs.lemmas.Option.{slice_get_within, slice_get-get_or, get_or_from_slice_get}
use Rattle.spec_numbers.proofs.Places.{get_kept}
use Rattle.cq_term.specs.Layout.{AreNoted, restored}
use Rattle.cq_term.specs.declared.lists.Cell.TheVariants as cell
use Rattle.cq_term.proofs.Kept.{get_last}
use Rattle.cq_term.proofs.Notes.{unbind_last}
use Rattle.cq_term.proofs.lists.unbind.Goals as goal

pub loop-order-preserved-in-Var : goal.loop-order-preserved-in-Var
loop-order-preserved-in-Var c =
    let i = c.in-Some.ensures.items in
    let front = c.pop.new.self.items in
    let own = c.in-Some.own in
    let cells = c.args.cells.now in
    let vars = c.loop-order.vars.items in
    let v = c.in-Var.variable in
    let lt : c.args.from < length c.loop-order.order.items = omega (arith, c.loop-order-test.true, c.len.ensures, c.loop-order.order.ok.0) in
    let le : c.args.from ≤ length front = omega (arith, rw i at lt, length-append front (own ∷ [])) in
    let noted = rw i at c.loop-order.invariant.noted in
    let s = noted (length front) own (get_last front own) in
    let here = slice_get-get_or cells own _ (slice_get_within cells own (cell.Var s.0) s.1) ∙ ap Some (rw c.index.ensures at c.in-Var.is) in
    record {
      vars = sym (unbind_last cells front own v c.args.from vars here le) ∙ ap (λ l. restored cells (drop c.args.from l) vars) (sym i) ∙ c.loop-order.invariant.vars;
      front = sym (take-append-le c.args.from front (own ∷ []) le) ∙ ap (take c.args.from) (sym i) ∙ c.loop-order.invariant.front;
      enough = le;
      noted = subst (λ (n : ℕ). AreNoted cells n front) (sym (length-set vars v own)) (λ k x q. noted k x (get_kept front (own ∷ []) k x q));
    }

pub loop-order-preserved-in_default-cells : goal.loop-order-preserved-in_default-cells
loop-order-preserved-in_default-cells c =
    let front = c.pop.new.self.items in
    let own = c.in-Some.own in
    let noted = rw c.in-Some.ensures.items at c.loop-order.invariant.noted in
    let s = noted (length front) own (get_last front own) in
    absurd ((rw c.index.ensures at c.in_default-cells.not-Var) s.0 (get_or_from_slice_get c.args.cells.now own (cell.Var s.0) _ s.1))
