use Rattle.std.proofs.Common.{List, refl, ap}
use Rattle.std.specs.Prelude.{map}
use Rattle.std.specs.List.{zip}
use Rattle.spec_numbers.proofs.Prefixes.{prefix_same}
use Rattle.spec_terms.specs.Term.{Number}
use Rattle.cq_built.proofs.Growing.{grows_term}
use Rattle.cq_store.specs.StoreValue.{kept}
use Rattle.cq_term.specs.HeapValue.{Terms}
use Rattle.cq_settle.specs.Contents.{contents_of}
use Rattle.cq_branch.proofs.Grown.{grown}
use Rattle.cq_machine.specs.Machines.{now}
use Rattle.cq_machine.proofs.Built.{lists_same}
use Rattle.cq_execute.proofs.optima.telling.build_number.Goals as goal

pub returns-clause-more : goal.returns-clause-more
returns-clause-more c =
    let m = c.args.m.now in
    let w = m.world.first in
    let lists = m.world.second.now in
    let h = c.number.new.self in
    let g = grows_term m.atoms m.atoms w.heap h (Number c.args.value) (prefix_same m.atoms m.atoms refl) c.in_ok-id.ensures.terms c.in_ok-id.ensures.images (λ known. tt) c.number.ensures.saved c.number.ensures.room in
    record {
      program = record { atoms = refl; names = refl; ops = refl; clauses = refl; budget = refl };
      lists = refl;
      choices = refl;
      saved = ap (λ (s : List Terms). zip (map contents_of (zip s (zip w.attrs.saved (map (kept w.store.pivots) w.store.saved)))) m.world.second.saved) c.number.ensures.saved;
      grown = grown m.atoms (now m).0 h.now g.terms g.images (g.names c.requires.sound.names) lists lists (lists_same lists);
    }
