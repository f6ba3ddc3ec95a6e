use Rattle.std.proofs.Common.{refl}
use Rattle.spec_search.specs.Builtins.{Write}
use Rattle.cq_term.specs.Texts.{text_of}
use Rattle.cq_term.specs.Meaning.{at}
use Rattle.cq_machine.specs.Machines.{terms}
use Rattle.cq_execute.proofs.Table.{so_many}
use Rattle.cq_execute.proofs.Passed.{text_done, nothing_done}
use Rattle.cq_execute.proofs.printing.write.Goals as goal

pub write-requires-clause-one : goal.write-requires-clause-one
write-requires-clause-one c = so_many (text_of c.args.m.now.atoms) (at (terms c.args.m.now) c.args.goal) (Write c.args.style) 1 c.requires.calls (λ n. refl)

pub returns-in-Ok : goal.returns-in-Ok
returns-in-Ok c =
    text_done c.args.m.now c.args.goal c.args.height c.args.rest (Write c.args.style) c.requires.calls _ refl c.requires.at.sound c.requires.at.there
    (λ p behind g at. c.in-Ok.ensures.row c.args.height c.args.rest p behind g at)

pub returns-in-Err : goal.returns-in-Err
returns-in-Err c = nothing_done c.args.m.now c.args.goal c.args.height c.args.rest c.requires.at.sound
