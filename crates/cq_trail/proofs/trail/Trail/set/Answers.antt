use Rattle.std.proofs.Common.{◌<◌, refl, length, arith}
use Rattle.cq_trail.proofs.Kept.{is_trail_save, saved_write, saved_save, saves_once}
use Rattle.cq_trail.proofs.trail.Trail.set.Goals as goal

pub returns-then-needs_no_saving-clause-saved : goal.returns-then-needs_no_saving-clause-saved
returns-then-needs_no_saving-clause-saved g c = rw (← c.self.view_is) (saved_write c.self.inside.items.items c.self.inside.stamps.items c.self.inside.log.items c.self.inside.marks.items c.args.at c.args.value c.self.invariant (rw (c.deref.ensures.value, c.deref-2.ensures.value) at c.if-needs_no_saving.ensures.yes))

pub invariant_of-self-2 : goal.invariant_of-self-2
invariant_of-self-2 g c =
    let l : c.args.at < length c.self.inside.items.items = rw (← c.self.view_is) at c.requires in
    rw (c.push.ensures.items, c.unwrap.ensures, c.in_ok-reserve.ensures.items)
    (is_trail_save c.self.inside.items.items c.self.inside.stamps.items c.self.inside.log.items c.self.inside.marks.items c.args.at c.replace-old.new.dest (record { at = c.args.at; old = c.replace-old.result; stamp = c.replace-stamp.result }) c.replace-stamp.new.dest
    c.self.invariant refl (rw (c.replace-stamp.ensures.value) c.index_mut-3.ensures.value) l (omega (arith, c.replace-stamp.ensures.after, c.len.ensures, c.in_ok-reserve.ensures.len, c.self.inside.log.ok.0)))

pub returns-clause-saved : goal.returns-clause-saved
returns-clause-saved g c =
    rw (← c.self.view_is, c.push.ensures.items, c.unwrap.ensures, c.in_ok-reserve.ensures.items)
    (saved_save c.self.inside.items.items c.self.inside.stamps.items c.self.inside.log.items c.self.inside.marks.items c.args.at c.replace-old.new.dest (record { at = c.args.at; old = c.replace-old.result; stamp = c.replace-stamp.result }) c.self.invariant refl (rw (c.replace-old.ensures.value) c.index_mut-2.ensures.value))

pub returns-clause-once : goal.returns-clause-once
returns-clause-once g c =
    rw (← c.self.view_is, c.push.ensures.items, c.unwrap.ensures, c.in_ok-reserve.ensures.items)
    (saves_once c.self.inside.items.items c.self.inside.stamps.items c.self.inside.log.items c.self.inside.marks.items c.args.at (record { at = c.args.at; old = c.replace-old.result; stamp = c.replace-stamp.result }) c.self.invariant refl (rw (c.deref.ensures.value, c.deref-2.ensures.value) at c.if-needs_no_saving.ensures.no))
