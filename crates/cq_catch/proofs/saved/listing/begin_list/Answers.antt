use Rattle.std.proofs.Common.{[], ℕ, List, length, ap, ◌∙◌}
use Rattle.spec_numbers.proofs.Prefixes.{prefix_both}
use Rattle.spec_branch.specs.Branch.{State, Pending}
use Rattle.spec_search.specs.Replies.{with_new}
use Rattle.spec_syntax.specs.Trees.{list_tree}
use Rattle.cq_branch.specs.Begun.{GoesOn, OfWork, Prunes}
use Rattle.cq_settle.specs.Settled.{MayRefuse, MayTake}
use Rattle.cq_term.specs.Trees.{trees}
use Rattle.cq_settle.specs.Worlds.{now_of}
use Rattle.spec_engine.specs.Trying.{variables_of}
use Rattle.cq_branch.specs.Stored.{stored_trees}
use Rattle.cq_branch.specs.Worlds.{value, with_heap}
use Rattle.cq_choices.proofs.Named.{branch_named}
use Rattle.cq_catch.specs.Listing.{ListGoes, OfList}
use Rattle.cq_catch.proofs.Known.{all_counted}
use Rattle.cq_catch.proofs.Listed.{pair_of, ready_now, of_list, list_goes}
use Rattle.cq_catch.proofs.Settled.{goes_ok, pruned_ok, untold_goes, untold_work}
use Rattle.cq_catch.proofs.saved.listing.begin_list.Goals as goal

pub list_of-requires-clause-names : goal.list_of-requires-clause-names
list_of-requires-clause-names c = c.restored.ensures.names (length c.args.atoms.now) c.requires.copies c.requires.branch.1.ready.stands.names

pub begin-requires-clause-ready : goal.begin-requires-clause-ready
begin-requires-clause-ready c =
    let texts = c.args.atoms.now in
    let more = c.list_of.new.atoms in
    let old = now_of c.args.world.now in
    let g = c.list_of.ensures.grows in
    let h = c.list_of.new.heap.now in
    let mid = with_heap h old in
    let counted = all_counted texts more g.longer c.args.copies.now c.requires.copies in
    let e = c.in_ok-elements.ensures in
    let terms = prefix_both old.heap.terms c.restored.new.heap.now.terms h.terms e.terms g.terms in
    let images = g.images ∙ e.images more counted in
    let names = g.names (c.restored.ensures.names (length texts) c.requires.copies c.requires.branch.1.ready.stands.names) in
    let built = c.in_ok-all.ensures.built ∙ ap (λ (ids : List ℕ). list_tree (trees more c.restored.new.heap.now.terms ids)) c.deref.ensures.value ∙ ap list_tree (e.placed more counted) in
    let st = c.requires.branch.0 in
    let b = branch_named texts more g.longer old st c.names_are_of_terms.ensures.now c.requires.branch.1 in
    (with_new (variables_of (stored_trees more c.args.copies.now)) st, ready_now more old c.args.copies.now h c.args.third c.in_ok-all.all built terms images names st b.ready)

pub returns-clause-goes : goal.returns-clause-goes
returns-clause-goes c =
    let texts = c.args.atoms.now in
    let more = c.list_of.new.atoms in
    let old = now_of c.args.world.now in
    let g = c.list_of.ensures.grows in
    let h = c.list_of.new.heap.now in
    let mid = with_heap h old in
    let counted = all_counted texts more g.longer c.args.copies.now c.requires.copies in
    let e = c.in_ok-elements.ensures in
    let terms = prefix_both old.heap.terms c.restored.new.heap.now.terms h.terms e.terms g.terms in
    let images = g.images ∙ e.images more counted in
    let names = g.names (c.restored.ensures.names (length texts) c.requires.copies c.requires.branch.1.ready.stands.names) in
    let built = c.in_ok-all.ensures.built ∙ ap (λ (ids : List ℕ). list_tree (trees more c.restored.new.heap.now.terms ids)) c.deref.ensures.value ∙ ap list_tree (e.placed more counted) in
    let pairs = pair_of more old c.args.copies.now h c.args.third c.in_ok-all.all built terms images names in
    let new = value c.begin.new.world c.begin.new.lists.now in
    let told = c.new-told.result.items in
    goes_ok c.begin.result (GoesOn more (mid, c.args.lists.now.now) new pairs told c.args.rest) (ListGoes more (old, c.args.lists.now.now) new c.args.third c.args.copies.now c.args.rest)
    (λ k w. list_goes more old c.args.copies.now h c.args.third c.in_ok-all.all built terms images names c.args.lists.now.now c.args.rest k new
    (untold_goes more (mid, c.args.lists.now.now) new pairs told [] c.args.rest k c.new-told.ensures.items w))
    c.begin.ensures.goes

pub returns-clause-pruned : goal.returns-clause-pruned
returns-clause-pruned c =
    let texts = c.args.atoms.now in
    let more = c.list_of.new.atoms in
    let old = now_of c.args.world.now in
    let g = c.list_of.ensures.grows in
    let h = c.list_of.new.heap.now in
    let mid = with_heap h old in
    let counted = all_counted texts more g.longer c.args.copies.now c.requires.copies in
    let e = c.in_ok-elements.ensures in
    let terms = prefix_both old.heap.terms c.restored.new.heap.now.terms h.terms e.terms g.terms in
    let images = g.images ∙ e.images more counted in
    let names = g.names (c.restored.ensures.names (length texts) c.requires.copies c.requires.branch.1.ready.stands.names) in
    let built = c.in_ok-all.ensures.built ∙ ap (λ (ids : List ℕ). list_tree (trees more c.restored.new.heap.now.terms ids)) c.deref.ensures.value ∙ ap list_tree (e.placed more counted) in
    let pairs = pair_of more old c.args.copies.now h c.args.third c.in_ok-all.all built terms images names in
    let told = c.new-told.result.items in
    pruned_ok c.begin.result (OfWork more mid pairs told Prunes) (OfList more old c.args.third c.args.copies.now Prunes)
    (λ w. of_list more old c.args.copies.now h c.args.third c.in_ok-all.all built terms images names Prunes (untold_work more mid pairs told [] Prunes c.new-told.ensures.items w))
    c.begin.ensures.pruned

pub returns-clause-overflow : goal.returns-clause-overflow
returns-clause-overflow c = λ pair r.
    let texts = c.args.atoms.now in
    let more = c.list_of.new.atoms in
    let old = now_of c.args.world.now in
    let g = c.list_of.ensures.grows in
    let h = c.list_of.new.heap.now in
    let mid = with_heap h old in
    let counted = all_counted texts more g.longer c.args.copies.now c.requires.copies in
    let e = c.in_ok-elements.ensures in
    let terms = prefix_both old.heap.terms c.restored.new.heap.now.terms h.terms e.terms g.terms in
    let images = g.images ∙ e.images more counted in
    let names = g.names (c.restored.ensures.names (length texts) c.requires.copies c.requires.branch.1.ready.stands.names) in
    let built = c.in_ok-all.ensures.built ∙ ap (λ (ids : List ℕ). list_tree (trees more c.restored.new.heap.now.terms ids)) c.deref.ensures.value ∙ ap list_tree (e.placed more counted) in
    let pairs = pair_of more old c.args.copies.now h c.args.third c.in_ok-all.all built terms images names in
    let P : State → Pending → Type 0 = λ st p. MayRefuse st p pair in
    of_list more old c.args.copies.now h c.args.third c.in_ok-all.all built terms images names P (untold_work more mid pairs c.new-told.result.items [] P c.new-told.ensures.items (c.begin.ensures.overflow pair r))

pub returns-clause-pivots : goal.returns-clause-pivots
returns-clause-pivots c = λ n r.
    let texts = c.args.atoms.now in
    let more = c.list_of.new.atoms in
    let old = now_of c.args.world.now in
    let g = c.list_of.ensures.grows in
    let h = c.list_of.new.heap.now in
    let mid = with_heap h old in
    let counted = all_counted texts more g.longer c.args.copies.now c.requires.copies in
    let e = c.in_ok-elements.ensures in
    let terms = prefix_both old.heap.terms c.restored.new.heap.now.terms h.terms e.terms g.terms in
    let images = g.images ∙ e.images more counted in
    let names = g.names (c.restored.ensures.names (length texts) c.requires.copies c.requires.branch.1.ready.stands.names) in
    let built = c.in_ok-all.ensures.built ∙ ap (λ (ids : List ℕ). list_tree (trees more c.restored.new.heap.now.terms ids)) c.deref.ensures.value ∙ ap list_tree (e.placed more counted) in
    let pairs = pair_of more old c.args.copies.now h c.args.third c.in_ok-all.all built terms images names in
    let P : State → Pending → Type 0 = λ st p. MayTake st p n in
    let due = c.begin.ensures.pivots n r in
    (due.0, of_list more old c.args.copies.now h c.args.third c.in_ok-all.all built terms images names P (untold_work more mid pairs c.new-told.result.items [] P c.new-told.ensures.items due.1))
