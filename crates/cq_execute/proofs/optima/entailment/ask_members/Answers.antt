use Rattle.std.proofs.Common.{refl, ap}
use Rattle.std.specs.List.{zip}
use Rattle.cq_settle.specs.Contents.{Contents}
use Rattle.cq_execute.proofs.Kept.{unchanged_sound}
use Rattle.cq_execute.proofs.optima.entailment.ask_members.Goals as goal

pub returns-clause-unchanged : goal.returns-clause-unchanged
returns-clause-unchanged c =
    let m = c.args.m.now in
    record {
      program = record { atoms = refl; names = refl; ops = refl; clauses = refl; budget = ap (λ (w : Contents). w.pivots) c.entailed.ensures.unchanged };
      lists = refl;
      choices = refl;
      saved = ap (λ l. zip l m.world.second.saved) c.entailed.ensures.saved;
      now = ap (λ (w : Contents). (w, m.world.second.now)) c.entailed.ensures.unchanged;
    }

pub returns-clause-sound : goal.returns-clause-sound
returns-clause-sound c = unchanged_sound c.args.m.now _ c.requires.sound (returns-clause-unchanged c)
