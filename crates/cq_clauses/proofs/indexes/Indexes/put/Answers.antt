use Rattle.std.proofs.Common.{None, [], ◌∷◌, length, ap, arith, length-append, length-set}
use Rattle.cq_clauses.proofs.Grown.{put_further, put_written}
use Rattle.cq_clauses.proofs.indexes.Indexes.put.Goals as goal

pub returns : goal.returns
returns c = record {
  within = λ bound all here. rw length-set (c.loop-self.invariant.within bound all here);
  kept = put_written c.args.self.now.list.items c.loop-self.self.list.items c.args.procedure c.args.index c.loop-self.invariant.kept;
}

pub loop-self-preserved : goal.loop-self-preserved
loop-self-preserved c = record {
  within = λ bound all here. omega (arith, ap length c.in_ok-push.ensures.items, length-append c.loop-self.self.list.items (None ∷ []), here, c.loop-self-test.true, c.len.ensures, c.loop-self.self.list.ok.0);
  kept = put_further c.args.self.now.list.items c.loop-self.self.list.items c.push.new.self.items c.in_ok-push.ensures.items c.loop-self.invariant.kept;
}
