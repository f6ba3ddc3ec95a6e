use Rattle.std.proofs.Common.{◌∷◌, [], ap, length, map, arith, length-append}
use Rattle.std.proofs.lemmas.List.{length-map}
use Rattle.cq_term.specs.Layout.{contents, homes, meant}
use Rattle.cq_term.specs.Meaning.{at}
use Rattle.cq_term.proofs.Cells.{length-meant, terms_bound, images_bound}
use Rattle.cq_term.proofs.Notes.{length-homes}
use Rattle.cq_term.proofs.Marks.{marked_bound, saved_bound}
use Rattle.cq_term.proofs.heap.Heap.new_bound_var.Goals as goal

pub invariant_of-self-2 : goal.invariant_of-self-2
invariant_of-self-2 c = rw c.in_ok-push.ensures.items
    (marked_bound (contents c.self.inside.lists) c.self.inside.marks.items c.self.invariant c.args.term (rw (← length-meant (contents c.self.inside.lists)) (rw (← c.self.view_is) at c.requires)))

pub returns-clause-few : goal.returns-clause-few
returns-clause-few c =
    let vars = c.push.new.self in
    let x = contents c.self.inside.lists in
    rw c.in_ok-push.ensures.items (omega (
      arith,
      ap length (images_bound x c.self.invariant.now c.args.term),
      length-append (map (at (meant x)) (homes x)) (at (meant x) c.args.term ∷ []),
      length-map (homes x) (at (meant x)),
      length-homes x c.self.invariant.now,
      ap length c.in_ok-push.ensures.items,
      length-append c.self.inside.lists.vars.items (c.args.term ∷ []),
      vars.ok.0,
      vars.ok.1,
      vars.small,
    ))

pub returns-clause-terms : goal.returns-clause-terms
returns-clause-terms c = rw (← c.self.view_is, c.in_ok-push.ensures.items) (terms_bound (contents c.self.inside.lists) c.self.invariant.now c.args.term)

pub returns-clause-images : goal.returns-clause-images
returns-clause-images c = rw (← c.self.view_is, c.in_ok-push.ensures.items) (images_bound (contents c.self.inside.lists) c.self.invariant.now c.args.term)

pub returns-clause-saved : goal.returns-clause-saved
returns-clause-saved c = rw (← c.self.view_is, c.in_ok-push.ensures.items) (saved_bound (contents c.self.inside.lists) c.self.inside.marks.items c.self.invariant c.args.term)
