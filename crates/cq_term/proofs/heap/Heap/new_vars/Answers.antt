use Rattle.std.proofs.Common.{◌∙◌, ℕ, ap, sym, subst, map, arith}
use Rattle.std.specs.Prelude.{Ok, Err, OnErr}
use Rattle.std.specs.declared.result.Result.{Result}
use Rattle.std.specs.declared.alloc.AllocError.{AllocError}
use Rattle.std.proofs.lemmas.List.{length-map}
use Rattle.cq_term.specs.Meaning.{at}
use Rattle.cq_term.specs.Layout.{Contents, IsMarked, contents, homes, meant, terms_of, terms_at}
use Rattle.cq_trail.proofs.Restore.{length-restore}
use Rattle.cq_term.proofs.Notes.{notes}
use Rattle.cq_term.proofs.Variables.{known_vars, marked_then, saved_then, terms_then, images_then}
use Rattle.cq_term.proofs.heap.Heap.new_vars.Goals as goal

on_err : (r : Result ℕ AllocError) (P : Type 0) → P → OnErr r P
on_err (Ok n) P p = tt
on_err (Err e) P p = p

pub invariant_of-self : goal.invariant_of-self
invariant_of-self c = subst (λ (x : Contents). IsMarked x c.self.inside.marks.items) (sym c.in_err-first.ensures.err) c.self.invariant

pub returns-in_err-first-clause-err : goal.returns-in_err-first-clause-err
returns-in_err-first-clause-err c = rw (← c.self.view_is) (on_err c.from_residual.result _ (ap terms_of c.in_err-first.ensures.err))

pub returns-in_err-first-clause-saved : goal.returns-in_err-first-clause-saved
returns-in_err-first-clause-saved c = rw (← c.self.view_is) (ap (λ (x : Contents). map (terms_at x) c.self.inside.marks.items) c.in_err-first.ensures.err)

pub invariant_of-self-2 : goal.invariant_of-self-2
invariant_of-self-2 c = marked_then (contents c.self.inside.lists) c.self.inside.marks.items c.self.invariant (contents c.add_vars.new.self) c.args.count c.in_ok-first.ensures.ok

pub returns-clause-first : goal.returns-clause-first
returns-clause-first c = rw (← c.self.view_is) (c.in_ok-first.ensures.first ∙ known_vars (contents c.self.inside.lists) c.self.inside.marks.items c.self.invariant)

pub returns-clause-few : goal.returns-clause-few
returns-clause-few c =
    let vars = c.add_vars.new.self.vars in
    omega (arith, length-map (homes (contents c.add_vars.new.self)) (at (meant (contents c.add_vars.new.self))), length-restore (notes c.add_vars.new.self.cells.items c.add_vars.new.self.order.items) vars.items, vars.ok.0, vars.ok.1, vars.small)

pub returns-clause-terms : goal.returns-clause-terms
returns-clause-terms c = rw (← c.self.view_is) (terms_then (contents c.self.inside.lists) c.self.inside.marks.items c.self.invariant (contents c.add_vars.new.self) c.args.count c.in_ok-first.ensures.ok)

pub returns-clause-images : goal.returns-clause-images
returns-clause-images c = rw (← c.self.view_is) (images_then (contents c.self.inside.lists) c.self.inside.marks.items c.self.invariant (contents c.add_vars.new.self) c.args.count c.in_ok-first.ensures.ok)

pub returns-clause-saved : goal.returns-clause-saved
returns-clause-saved c = rw (← c.self.view_is) (saved_then (contents c.self.inside.lists) c.self.inside.marks.items c.self.invariant (contents c.add_vars.new.self) c.args.count c.in_ok-first.ensures.ok)
