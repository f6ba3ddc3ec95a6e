use Rattle.std.proofs.Common.{◌-◌, subst, sym, vec_capacity, vec_len}
use Rattle.cq_term.specs.Layout.{contents, meant}
use Rattle.cq_term.specs.Meaning.{at}
use Rattle.cq_term.specs.Ground.{IsGround}
use Rattle.cq_term.proofs.Cells.{length-built, length-meant}
use Rattle.cq_term.proofs.Learns.{marked_learnt, saved_learnt, terms_learnt}
use Rattle.cq_term.proofs.heap.Heap.learn.Goals as goal

pub resolve-end-requires-clause-live : goal.resolve-end-requires-clause-live
resolve-end-requires-clause-live c = rw (← length-meant (contents c.self.inside.lists)) (rw (← c.self.view_is) at c.requires.live)

pub is_marked-is_noted-requires : goal.is_marked-is_noted-requires
is_marked-is_noted-requires c = rw c.deref.ensures.value c.self.invariant.sorted

pub learn-requires : goal.learn-requires
learn-requires c = rw (← length-built (contents c.self.inside.lists)) c.resolve-end.ensures.live

pub invariant_of-self : goal.invariant_of-self
invariant_of-self c =
    let x = contents c.self.inside.lists in
    let here : IsGround (at (meant x) c.resolve-end.result) = subst IsGround (sym c.resolve-end.ensures.same) (rw (← c.self.view_is) at c.requires.ground) in
    marked_learnt x (contents c.learn.new.self) c.self.inside.marks.items c.self.invariant c.resolve-end.result c.is_marked-is_noted.result c.learn.ensures (rw c.deref.ensures.value at c.is_marked-is_noted.ensures) here

pub returns : goal.returns
returns c =
    let x = contents c.self.inside.lists in
    let young = rw c.deref.ensures.value at c.is_marked-is_noted.ensures in
    let marks = c.self.inside.marks.items in
    let terms = terms_learnt x (contents c.learn.new.self) marks c.self.invariant c.resolve-end.result c.is_marked-is_noted.result c.learn.ensures young in
    let saved = saved_learnt x (contents c.learn.new.self) marks c.self.invariant c.resolve-end.result c.is_marked-is_noted.result c.learn.ensures young in
    rw (← c.self.view_is) (λ i. record { now = terms i; saved = saved i; room = vec_capacity c.self.inside.marks - vec_len c.self.inside.marks })
