use Rattle.std.proofs.lemmas.Option.{slice_get_within}
use Rattle.spec_numbers.proofs.Prefixes.{prefix_same}
use Rattle.cq_built.proofs.Growing.{longer_by_text}
use Rattle.cq_choices.proofs.trying.some_name.Goals as goal

pub returns-clause-known : goal.returns-clause-known
returns-clause-known c = slice_get_within c.intern.new.self c.in_ok-name.name c.args.text.now c.in_ok-name.ensures.number

pub returns-clause-longer : goal.returns-clause-longer
returns-clause-longer c = longer_by_text c.args.atoms.now c.intern.new.self c.args.text.now c.in_ok-name.ensures.texts

pub returns-in_err-name-clause-longer : goal.returns-in_err-name-clause-longer
returns-in_err-name-clause-longer c = prefix_same c.args.atoms.now c.intern.new.self c.in_err-name.ensures.err
