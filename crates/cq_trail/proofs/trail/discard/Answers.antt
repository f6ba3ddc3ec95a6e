use Rattle.std.proofs.Common.{arith, sym, ap, ◌∙◌, length-set}
use Rattle.cq_trail.proofs.Stamps.{give_stamp, entries_front}
use Rattle.cq_trail.specs.Log.{restore, old_stamps}
use Rattle.cq_trail.proofs.trail.discard.Goals as goal

pub loop-entry-preserved : goal.loop-entry-preserved
loop-entry-preserved g c =
    let log = c.pop.new.self.items in
    let e = c.in-Some.entry in
    record {
      stamps = sym (give_stamp log e 0 c.loop-entry.stamps.items (omega arith)) ∙ ap (λ l. restore (old_stamps l) c.loop-entry.stamps.items) (sym c.in-Some.ensures.items) ∙ c.loop-entry.invariant.stamps;
      within = rw length-set (entries_front _ log e (rw c.in-Some.ensures.items at c.loop-entry.invariant.within));
    }
