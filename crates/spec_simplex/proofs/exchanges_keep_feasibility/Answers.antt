use Rattle.spec_simplex.specs.Dictionary.{Satisfies}
use Rattle.spec_simplex.proofs.Solutions.{writes, alike_itself}
use Rattle.spec_simplex.proofs.Exchanges.{feasible_after, value_grows}
use Rattle.spec_simplex.proofs.exchanges_keep_feasibility.Goals as goal

pub returns : goal.returns
returns c = record {
  feasible = λ size restricted d e c r wd we a f due ex. feasible_after size (Satisfies size d) restricted d e c r (writes size d d wd (alike_itself size d)) (writes size d e we a) f due ex;
  value = λ size restricted d e c r wd we a f due ex. record { gap = value_grows size (Satisfies size d) restricted d e c r (writes size d d wd (alike_itself size d)) (writes size d e we a) f due ex };
}
