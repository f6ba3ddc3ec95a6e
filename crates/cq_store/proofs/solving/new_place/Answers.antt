use Rattle.std.proofs.Common.{refl}
use Rattle.cq_frac.proofs.Steps.{has_at}
use Rattle.cq_store.proofs.solving.new_place.Goals as goal

pub returns-then-m-known : goal.returns-then-m-known
returns-then-m-known c = record {
  entry = c.m-item.result;
  has = has_at c.args.places.now c.loop-m.m-index c.m-item.result c.loop-m-test.true c.m-item.is;
  quantity = refl;
  behind = c.if-m-known.true;
}
