use Rattle.std.proofs.Common.{List, map, ap, sym, ◌∙◌}
use Rattle.std.proofs.lemmas.Option.{slice_get-map}
use Rattle.std.specs.List.{zip, take-map}
use Rattle.std.specs.Option.{option_map}
use Rattle.spec_linear.specs.Solution.{Constraint}
use Rattle.cq_trail.specs.Counting.{counted}
use Rattle.cq_dict.specs.DictValue.{quantities_of}
use Rattle.cq_dict.specs.Roles.{Quantities}
use Rattle.cq_tableau.specs.declared.names.Name.{Name}
use Rattle.cq_store.specs.StoreValue.{kept}
use Rattle.cq_store.proofs.Holding.{held_given_back}
use Rattle.cq_store.proofs.store.StoreUndo.undo.Goals as goal

pub invariant_of-self : goal.invariant_of-self
invariant_of-self c = held_given_back _ _ _ c.self.invariant c.args.m.number _ c.undo.ensures.saved _ c.undo.ensures.now

pub returns-clause-now : goal.returns-clause-now
returns-clause-now c =
    let now : List Constraint × (List Name × Quantities) = (c.self.inside.held.inner.first.now, (c.self.inside.held.inner.second.first.now, quantities_of c.self.inside.held.inner.second.second)) in
    let own = zip c.self.inside.held.inner.first.saved (zip c.self.inside.held.inner.second.first.saved c.self.inside.held.inner.second.second.saved) in
    let all = counted own c.self.inside.held.marks now in
    let list = slice_get-map (λ (h : List Constraint × (List Name × Quantities)). h.0) all c.args.m.number
    ∙ ap (option_map (λ (h : List Constraint × (List Name × Quantities)). h.0)) c.undo.ensures.now in
    rw (← c.self.view_is)
    (slice_get-map (kept c.self.inside.pivots) (map (λ (h : List Constraint × (List Name × Quantities)). h.0) all) c.args.m.number
    ∙ ap (option_map (kept c.self.inside.pivots)) list)

pub returns-clause-saved : goal.returns-clause-saved
returns-clause-saved c =
    let now : List Constraint × (List Name × Quantities) = (c.self.inside.held.inner.first.now, (c.self.inside.held.inner.second.first.now, quantities_of c.self.inside.held.inner.second.second)) in
    let own = zip c.self.inside.held.inner.first.saved (zip c.self.inside.held.inner.second.first.saved c.self.inside.held.inner.second.second.saved) in
    let all = counted own c.self.inside.held.marks now in
    let lists = ap (map (λ (h : List Constraint × (List Name × Quantities)). h.0)) c.undo.ensures.saved
    ∙ sym (take-map (λ (h : List Constraint × (List Name × Quantities)). h.0) c.args.m.number all) in
    rw (← c.self.view_is)
    (ap (map (kept c.self.inside.pivots)) lists
    ∙ sym (take-map (kept c.self.inside.pivots) c.args.m.number (map (λ (h : List Constraint × (List Name × Quantities)). h.0) all)))
