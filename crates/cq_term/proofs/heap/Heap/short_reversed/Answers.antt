use Rattle.std.proofs.Common.{◌∙◌}
use Rattle.cq_term.specs.Layout.{contents}
use Rattle.cq_term.proofs.Cells.{length-meant}
use Rattle.cq_term.proofs.Reversed.{adds_reversed}
use Rattle.cq_term.proofs.heap.Heap.short_reversed.Goals as goal

pub invariant_of-self-2 : goal.invariant_of-self-2
invariant_of-self-2 c = rw (c.push_reserved.ensures.items, c.push_reversed.ensures, c.in_ok-reserve.ensures.items, c.in_ok-reserve-2.ensures.items, c.len-start.ensures, c.self.inside.lists.args.ok.0) (adds_reversed (contents c.self.inside.lists) c.self.inside.marks.items c.self.invariant c.args.ground c.args.name c.args.count c.args.args.now c.requires.count c.requires.some (rw (← c.self.view_is) at c.requires.live) (rw (← c.self.view_is) at c.requires.ground)).marked

pub returns-clause-id : goal.returns-clause-id
returns-clause-id c = rw (← c.self.view_is, length-meant (contents c.self.inside.lists)) (c.new.ensures ∙ c.len-id.ensures ∙ c.self.inside.lists.cells.ok.0)

pub returns-clause-terms : goal.returns-clause-terms
returns-clause-terms c = rw (← c.self.view_is, c.push_reserved.ensures.items, c.push_reversed.ensures, c.in_ok-reserve.ensures.items, c.in_ok-reserve-2.ensures.items, c.len-start.ensures, c.self.inside.lists.args.ok.0) (adds_reversed (contents c.self.inside.lists) c.self.inside.marks.items c.self.invariant c.args.ground c.args.name c.args.count c.args.args.now c.requires.count c.requires.some (rw (← c.self.view_is) at c.requires.live) (rw (← c.self.view_is) at c.requires.ground)).terms

pub returns-clause-images : goal.returns-clause-images
returns-clause-images c = rw (← c.self.view_is, c.push_reserved.ensures.items, c.push_reversed.ensures, c.in_ok-reserve.ensures.items, c.in_ok-reserve-2.ensures.items, c.len-start.ensures, c.self.inside.lists.args.ok.0) (adds_reversed (contents c.self.inside.lists) c.self.inside.marks.items c.self.invariant c.args.ground c.args.name c.args.count c.args.args.now c.requires.count c.requires.some (rw (← c.self.view_is) at c.requires.live) (rw (← c.self.view_is) at c.requires.ground)).images

pub returns-clause-saved : goal.returns-clause-saved
returns-clause-saved c = rw (← c.self.view_is, c.push_reserved.ensures.items, c.push_reversed.ensures, c.in_ok-reserve.ensures.items, c.in_ok-reserve-2.ensures.items, c.len-start.ensures, c.self.inside.lists.args.ok.0) (adds_reversed (contents c.self.inside.lists) c.self.inside.marks.items c.self.invariant c.args.ground c.args.name c.args.count c.args.args.now c.requires.count c.requires.some (rw (← c.self.view_is) at c.requires.live) (rw (← c.self.view_is) at c.requires.ground)).saved
