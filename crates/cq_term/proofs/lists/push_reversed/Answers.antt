use Rattle.std.proofs.Common.{◌-◌, arith}
use Rattle.cq_term.proofs.Reversed.{reversed_more}
use Rattle.cq_term.proofs.lists.push_reversed.Goals as goal

pub loop-i-preserved : goal.loop-i-preserved
loop-i-preserved c = record {
  items = reversed_more c.args.ids.now c.args.list.now.items c.loop-i.list.items c.push_reserved.new.self.items c.loop-i.i (c.loop-i.i - 1) c.index-ids-i.result (omega arith) c.loop-i.auto.i c.index-ids-i.is c.loop-i.invariant.items c.push_reserved.ensures.items;
  room = omega (arith, c.loop-i.invariant.room, c.push_reserved.ensures.len, c.push_reserved.ensures.capacity);
}
