use Rattle.std.proofs.Common.{◌<◌, ◌≤◌, arith, sym, ap, ◌∙◌, length, take, length-append, ◌∷◌, []}
use Rattle.std.proofs.lemmas.List.{take-append-le}
use Rattle.cq_attr.proofs.Linked.{linked_pop, pop_within}
use Rattle.cq_attr.proofs.notes.unlink.Goals as goal

pub index_mut-requires : goal.index_mut-requires
index_mut-requires g c =
    let within = pop_within c.loop-notes.newest.items c.pop.new.self.items c.in-Some.note (rw c.in-Some.ensures.items at c.loop-notes.invariant.linked) in
    omega (arith, within, c.loop-notes.newest.ok.0)

pub loop-notes-preserved-in-Some : goal.loop-notes-preserved-in-Some
loop-notes-preserved-in-Some g c =
    let i = c.in-Some.ensures.items in
    let rest = c.pop.new.self.items in
    let n = c.in-Some.note in
    let lt : c.args.from < length c.loop-notes.notes.items = omega (arith, c.len.ensures, c.loop-notes-test.true, c.loop-notes.notes.ok.0) in
    let le : c.args.from ≤ length rest = omega (arith, rw i at lt, length-append rest (n ∷ [])) in
    record {
      linked = linked_pop c.loop-notes.newest.items rest n (rw i at c.loop-notes.invariant.linked);
      enough = le;
      front = sym (take-append-le c.args.from rest (n ∷ []) le) ∙ ap (take c.args.from) (sym i) ∙ c.loop-notes.invariant.front;
    }
