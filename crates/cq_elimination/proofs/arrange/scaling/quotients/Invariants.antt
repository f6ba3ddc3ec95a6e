use Rattle.std.proofs.Common.{◌≡◌, take, map}
use Rattle.cq_elimination.specs.Lines.{monomials_of}
use Rattle.cq_elimination.specs.Arranging.{over_lead}
use Rattle.cq_elimination.proofs.arrange.scaling.quotients.Given as goal

abbrev pub invariant-products : goal.invariant-products
invariant-products l = monomials_of l.quotients.items ≡ map (over_lead l.divisor) (monomials_of (take l.x-index l.products))
