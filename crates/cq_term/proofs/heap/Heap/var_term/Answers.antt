use Rattle.std.proofs.Common.{◌≡◌, ◌<◌, length, get_or, sym, subst, map}
use Rattle.std.proofs.lemmas.List.{length-map, get_or_read}
use Rattle.cq_term.specs.Layout.{contents, homes, meant}
use Rattle.cq_term.specs.Meaning.{at}
use Rattle.cq_term.proofs.Cells.{length-meant}
use Rattle.cq_term.proofs.Notes.{length-homes, stands_live, stands_same}
use Rattle.cq_term.proofs.heap.Heap.var_term.Goals as goal

pub index-requires : goal.index-requires
index-requires c = rw c.self.inside.lists.vars.ok.0 (rw (length-map, length-homes (contents c.self.inside.lists) c.self.invariant.now) at (rw (← c.self.view_is) at c.requires))

pub returns-clause-live : goal.returns-clause-live
returns-clause-live c =
    let x = contents c.self.inside.lists in
    let w : c.args.variable.0 < length c.self.inside.lists.vars.items = rw (length-map, length-homes x c.self.invariant.now) at (rw (← c.self.view_is) at c.requires) in
    let is : c.index.result.now ≡ get_or c.self.inside.lists.vars.items c.args.variable.0 0 = get_or_read c.self.inside.lists.vars.items c.args.variable.0 c.index.result.now w c.index.ensures 0 in
    rw (← c.self.view_is, length-meant x) (subst (λ k. k < length c.self.inside.lists.cells.items) (sym is) (stands_live x c.self.invariant.now c.args.variable.0 w))

pub returns-clause-term : goal.returns-clause-term
returns-clause-term c =
    let x = contents c.self.inside.lists in
    let w : c.args.variable.0 < length c.self.inside.lists.vars.items = rw (length-map, length-homes x c.self.invariant.now) at (rw (← c.self.view_is) at c.requires) in
    let is : c.index.result.now ≡ get_or c.self.inside.lists.vars.items c.args.variable.0 0 = get_or_read c.self.inside.lists.vars.items c.args.variable.0 c.index.result.now w c.index.ensures 0 in
    rw (← c.self.view_is) (subst (λ k. at (meant x) k ≡ at (map (at (meant x)) (homes x)) c.args.variable.0) (sym is) (stands_same x c.self.invariant.now c.args.variable.0 w))
