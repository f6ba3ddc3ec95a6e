use Rattle.std.proofs.Common.{ap}
use Rattle.spec_numbers.specs.Texts.{Text}
use Rattle.spec_numbers.proofs.Prefixes.{prefix_same}
use Rattle.spec_builtins.specs.Built.{indicator}
use Rattle.cq_built.proofs.Growing.{longer_by_text}
use Rattle.cq_term.proofs.Named.{text_is}
use Rattle.cq_machine.proofs.Machines.{named_there}
use Rattle.cq_engine.proofs.events.raiser.named.Goals as goal

pub returns-clause-predicate : goal.returns-clause-predicate
returns-clause-predicate c = ap (λ (t : Text). indicator t c.args.arity) (text_is c.intern.new.self c.in_ok-name.name c.args.text.now c.in_ok-name.ensures.number)

pub returns-clause-known : goal.returns-clause-known
returns-clause-known c = named_there c.intern.new.self c.in_ok-name.name c.args.text.now c.in_ok-name.ensures.number

pub returns-clause-longer : goal.returns-clause-longer
returns-clause-longer c = longer_by_text c.args.atoms.now c.intern.new.self c.args.text.now c.in_ok-name.ensures.texts

pub returns-in_err-name-clause-longer : goal.returns-in_err-name-clause-longer
returns-in_err-name-clause-longer c = prefix_same c.args.atoms.now c.intern.new.self c.in_err-name.ensures.err
