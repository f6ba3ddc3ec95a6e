use Rattle.std.proofs.Common.{refl, sym, ap, subst}
use Rattle.spec_numbers.proofs.Prefixes.{prefix_same}
use Rattle.cq_engine.specs.Raised.{IsNumbered, raised_by}
use Rattle.cq_engine.proofs.events.raiser.predicate_by.Goals as goal

pub returns-in-Named-clause-predicate : goal.returns-in-Named-clause-predicate
returns-in-Named-clause-predicate c = ap (raised_by c.args.atoms.now) (sym c.in-Named.is)

pub returns-in-Named-clause-known : goal.returns-in-Named-clause-known
returns-in-Named-clause-known c = subst (IsNumbered c.args.atoms.now) c.in-Named.is c.requires

pub returns-in-Named-clause-longer : goal.returns-in-Named-clause-longer
returns-in-Named-clause-longer c = prefix_same c.args.atoms.now c.args.atoms.now refl
