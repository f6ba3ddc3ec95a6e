use Rattle.std.proofs.Common.{◌≤◌, length, arith, subst, sym}
use Rattle.cq_dict.proofs.Written.{Writing, writing_start, next_within, writing_more}
use Rattle.cq_dict.proofs.table.write.Goals as goal

pub loop-at-init : goal.loop-at-init
loop-at-init c = record {
  writing = subst (Writing c.args.roles.now.now c.args.changes.items c.args.changes.items) (sym c.reserve_saves.ensures.now) (writing_start c.args.roles.now.now c.args.changes.items c.requires);
  prepared = omega (arith, c.in_ok-reserve_saves.ensures.ok, c.len.ensures);
  saved = c.reserve_saves.ensures.saved;
  room = c.reserve_saves.ensures.room;
}

pub set-requires : goal.set-requires
set-requires c = next_within c.args.roles.now.now c.args.changes.items _ c.loop-at.roles.now c.loop-at.invariant.writing c.in-Some.field-0 _ c.in-Some.ensures.items

pub loop-at-preserved : goal.loop-at-preserved
loop-at-preserved c =
    let set = rw c.unwrap.ensures at c.set.ensures.ok in
    let n : length c.loop-at.changes.items ≤ c.loop-at.roles.saves = c.loop-at.invariant.prepared in
    record {
      writing = writing_more c.args.roles.now.now c.args.changes.items _ c.loop-at.roles.now c.loop-at.invariant.writing c.in-Some.field-0 _ _ c.in-Some.ensures.items set;
      prepared = omega (arith, n, c.set.ensures.saves, c.in-Some.ensures.len);
      saved = cc;
      room = omega (arith, c.loop-at.invariant.room, c.set.ensures.room);
    }
