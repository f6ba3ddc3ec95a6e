use Rattle.spec_simplex.proofs.More.{still_dropped, dropped_more, own_dropped}
use Rattle.spec_simplex.proofs.tableau.equations_stay_dropped.Goals as goal

pub returns : goal.returns
returns c = record {
  stay = λ d e p q l b r a k. still_dropped d e b p q r a l k;
  grow = λ d e p q l c b r a k o. dropped_more d e b p q r a l k c o;
  own = own_dropped;
}
