use Rattle.std.proofs.Common.{◌≡◌, ◌<◌, ◌≤◌, ◌∙◌, ap, sym, get_or, arith, length, drop, take, set, length-append, length-set, ◌∷◌, []}
use Rattle.std.proofs.lemmas.List.{take-append-le, get_or_read}
use Rattle.cq_term.specs.Layout.{forgotten, open_cell}
use Rattle.cq_term.proofs.Kept.{get_last}
use Rattle.cq_term.proofs.Learnt.{blank_cell, forget_step}
use Rattle.cq_term.proofs.lists.unlearn.Goals as goal
use Rattle.spec_numbers.proofs.Places.{get_kept}

pub loop-learnt-preserved-in-Some : goal.loop-learnt-preserved-in-Some
loop-learnt-preserved-in-Some c =
    let i = c.in-Some.ensures.items in
    let front = c.pop.new.self.items in
    let id = c.in-Some.id in
    let cells = c.loop-learnt.cells.items in
    let lt : c.args.from < length c.loop-learnt.learnt.items = omega (arith, c.len.ensures, c.loop-learnt.learnt.ok.0) in
    let le : c.args.from ≤ length front = omega (arith, rw i at lt, length-append front (id ∷ [])) in
    let there = rw i at c.loop-learnt.invariant.there in
    let within : id < length cells = there (length front) id (get_last front id) in
    let opens : c.opened.result ≡ open_cell (get_or cells id blank_cell) = c.opened.ensures ∙ ap open_cell (get_or_read cells id c.index-in-Some.result.now within (rw c.index.ensures at c.index-in-Some.ensures) blank_cell) in
    record {
      cells = rw c.index-in-Some-2.ensures (ap (λ d. forgotten (set cells id d) (drop c.args.from front)) opens ∙ sym (forget_step cells front id c.args.from there le) ∙ ap (λ l. forgotten cells (drop c.args.from l)) (sym i) ∙ c.loop-learnt.invariant.cells);
      front = sym (take-append-le c.args.from front (id ∷ []) le) ∙ ap (take c.args.from) (sym i) ∙ c.loop-learnt.invariant.front;
      enough = le;
      there = rw length-set (λ k x q. there k x (get_kept front (id ∷ []) k x q));
    }
