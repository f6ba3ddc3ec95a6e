use Rattle.std.proofs.Common.{refl, sym, ap, subst}
use Rattle.std.specs.List.{zip}
use Rattle.cq_branch.specs.Worlds.{Grown}
use Rattle.cq_branch.proofs.Grown.{grown}
use Rattle.cq_machine.specs.Machines.{now}
use Rattle.cq_machine.proofs.Built.{lists_same, stands_on}
use Rattle.cq_machine.proofs.building.build.Goals as goal

pub returns-clause-more : goal.returns-clause-more
returns-clause-more c =
    let m = c.args.m.now in
    let lists = m.world.second.now in
    let g = c.over.ensures.grows m.atoms c.requires.name in
    record {
      program = record { atoms = refl; names = refl; ops = refl; clauses = refl; budget = ap (λ w. w.pivots) c.over.ensures.rest };
      lists = refl;
      choices = refl;
      saved = ap (λ l. zip l m.world.second.saved) c.over.ensures.saved;
      grown = subst (λ w. Grown m.atoms (now m) (w, lists)) (sym c.over.ensures.rest)
          (grown m.atoms (now m).0 c.over.new.world.heap.now g.terms g.images (g.names c.requires.sound.names) lists lists (lists_same lists));
    }

pub returns-clause-stands : goal.returns-clause-stands
returns-clause-stands c = stands_on c.args.m.now _ (returns-clause-more c)
