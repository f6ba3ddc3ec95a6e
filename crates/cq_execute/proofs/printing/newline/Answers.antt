use Rattle.std.proofs.Common.{refl}
use Rattle.spec_builtins.specs.Terms.{arguments}
use Rattle.spec_search.specs.Builtins.{Newline}
use Rattle.cq_execute.proofs.Passed.{text_done, nothing_done}
use Rattle.cq_execute.proofs.printing.newline.Goals as goal

pub returns-in-Ok : goal.returns-in-Ok
returns-in-Ok c =
    text_done c.args.m.now c.args.goal c.args.height c.args.rest Newline c.requires.calls _ refl c.requires.at.sound c.requires.at.there
    (λ p behind g at. c.in-Ok.ensures.row p (arguments g))

pub returns-in-Err : goal.returns-in-Err
returns-in-Err c = nothing_done c.args.m.now c.args.goal c.args.height c.args.rest c.requires.at.sound
