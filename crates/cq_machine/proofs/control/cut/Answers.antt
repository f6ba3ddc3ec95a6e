use Rattle.std.proofs.Common.{sym, subst}
use Rattle.cq_term.specs.Trees.{KnowsTerms}
use Rattle.cq_machine.specs.Machines.{saved}
use Rattle.cq_machine.proofs.Kept.{older_open}
use Rattle.cq_machine.proofs.control.cut.Goals as goal

pub returns-clause-sound : goal.returns-clause-sound
returns-clause-sound c =
    let m = c.args.m.now in
    record {
      known = c.requires.sound.known;
      different = c.requires.sound.different;
      names = subst (λ w. KnowsTerms m.atoms w.heap.terms) (sym c.cut.ensures.world) c.requires.sound.names;
      program = c.requires.sound.program;
      operators_named = c.requires.sound.operators_named;
      marked = c.cut.ensures.marked;
      untried = older_open m.atoms m.clauses (saved m) _ m.choices _ c.requires.sound.untried c.cut.ensures.older;
    }
