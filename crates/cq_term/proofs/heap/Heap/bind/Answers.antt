use Rattle.std.proofs.Common.{◌≡◌, get_or}
use Rattle.std.proofs.lemmas.List.{get_or_read}
use Rattle.cq_term.specs.Layout.{contents}
use Rattle.cq_term.proofs.Cells.{length-meant, var_there, meant_binding, images_binding}
use Rattle.cq_term.proofs.Marks.{marked_binding, saved_binding}
use Rattle.cq_term.proofs.heap.Heap.bind.Goals as goal

pub resolve-term-requires-clause-live : goal.resolve-term-requires-clause-live
resolve-term-requires-clause-live c = rw (← length-meant (contents c.self.inside.lists)) (rw (← c.self.view_is) at c.requires.live)

pub index-requires : goal.index-requires
index-requires c = rw c.self.inside.lists.vars.ok.0 (var_there (contents c.self.inside.lists) c.self.invariant.now c.args.variable.0 (rw (← c.self.view_is) at c.requires.unbound.0) (rw (← c.self.view_is) at c.requires.unbound.1))

pub index_mut-requires : goal.index_mut-requires
index_mut-requires c = rw c.self.inside.lists.vars.ok.0 (var_there (contents c.self.inside.lists) c.self.invariant.now c.args.variable.0 (rw (← c.self.view_is) at c.requires.unbound.0) (rw (← c.self.view_is) at c.requires.unbound.1))

pub invariant_of-self-2 : goal.invariant_of-self-2
invariant_of-self-2 c =
    let vars = c.self.inside.lists.vars.items in
    let there = var_there (contents c.self.inside.lists) c.self.invariant.now c.args.variable.0 (rw (← c.self.view_is) at c.requires.unbound.0) (rw (← c.self.view_is) at c.requires.unbound.1) in
    let is : c.index.result.now ≡ get_or vars c.args.variable.0 0 = get_or_read vars c.args.variable.0 c.index.result.now there c.index.ensures 0 in
    rw (c.in_ok-push.ensures.items, is)
    (marked_binding (contents c.self.inside.lists) c.self.inside.marks.items c.self.invariant c.args.variable.0 (rw (← c.self.view_is) at c.requires.unbound.0) (rw (← c.self.view_is) at c.requires.unbound.1) c.args.term c.resolve-term.result c.resolve-term.ensures (rw (← c.self.view_is) at c.requires.apart))

pub returns-clause-terms : goal.returns-clause-terms
returns-clause-terms c =
    let vars = c.self.inside.lists.vars.items in
    let there = var_there (contents c.self.inside.lists) c.self.invariant.now c.args.variable.0 (rw (← c.self.view_is) at c.requires.unbound.0) (rw (← c.self.view_is) at c.requires.unbound.1) in
    let is : c.index.result.now ≡ get_or vars c.args.variable.0 0 = get_or_read vars c.args.variable.0 c.index.result.now there c.index.ensures 0 in
    rw (← c.self.view_is, c.in_ok-push.ensures.items, is)
    (meant_binding (contents c.self.inside.lists) c.self.invariant.now c.args.variable.0 (rw (← c.self.view_is) at c.requires.unbound.0) (rw (← c.self.view_is) at c.requires.unbound.1) c.resolve-term.result c.args.term c.resolve-term.ensures (rw (← c.self.view_is) at c.requires.apart))

pub returns-clause-images : goal.returns-clause-images
returns-clause-images c =
    let vars = c.self.inside.lists.vars.items in
    let there = var_there (contents c.self.inside.lists) c.self.invariant.now c.args.variable.0 (rw (← c.self.view_is) at c.requires.unbound.0) (rw (← c.self.view_is) at c.requires.unbound.1) in
    let is : c.index.result.now ≡ get_or vars c.args.variable.0 0 = get_or_read vars c.args.variable.0 c.index.result.now there c.index.ensures 0 in
    rw (← c.self.view_is, c.in_ok-push.ensures.items, is)
    (images_binding (contents c.self.inside.lists) c.self.invariant.now c.args.variable.0 (rw (← c.self.view_is) at c.requires.unbound.0) (rw (← c.self.view_is) at c.requires.unbound.1) c.resolve-term.result c.args.term c.resolve-term.ensures (rw (← c.self.view_is) at c.requires.apart))

pub returns-clause-saved : goal.returns-clause-saved
returns-clause-saved c =
    let vars = c.self.inside.lists.vars.items in
    let there = var_there (contents c.self.inside.lists) c.self.invariant.now c.args.variable.0 (rw (← c.self.view_is) at c.requires.unbound.0) (rw (← c.self.view_is) at c.requires.unbound.1) in
    let is : c.index.result.now ≡ get_or vars c.args.variable.0 0 = get_or_read vars c.args.variable.0 c.index.result.now there c.index.ensures 0 in
    rw (← c.self.view_is, c.in_ok-push.ensures.items, is)
    (saved_binding (contents c.self.inside.lists) c.self.inside.marks.items c.self.invariant c.args.variable.0 (rw (← c.self.view_is) at c.requires.unbound.0) (rw (← c.self.view_is) at c.requires.unbound.1) c.args.term c.resolve-term.result c.resolve-term.ensures (rw (← c.self.view_is) at c.requires.apart))
