use Rattle.std.proofs.Common.{◌-◌, map, refl, sym, ap, ◌∙◌, subst}
use Rattle.std.specs.List.{AllByRecursion}
use Rattle.spec_numbers.proofs.Prefixes.{prefix_same}
use Rattle.cq_settle.specs.Contents.{Contents}
use Rattle.spec_engine.specs.Cells.{Value}
use Rattle.cq_branch.specs.declared.alternatives.Alternatives.{Alternatives}
use Rattle.cq_branch.specs.Choices.{CanBeTried}
use Rattle.cq_branch.specs.Worlds.{left_at}
use Rattle.cq_control.specs.Open.{open_choices}
use Rattle.cq_machine.specs.Machines.{saved}
use Rattle.cq_engine.proofs.Engines.{last-none}
use Rattle.cq_engine.proofs.front.halt.Goals as goal

pub returns-clause-none_left : goal.returns-clause-none_left
returns-clause-none_left c =
    let m = c.args.m.now in
    ap (map (left_at m.atoms m.clauses)) (c.cut.ensures.open ∙ last-none (open_choices (saved m) m.choices))

pub returns-clause-kept : goal.returns-clause-kept
returns-clause-kept c =
    let m = c.args.m.now in
    record {
      known = c.requires.known;
      different = c.requires.different;
      program = c.requires.program;
      operators_named = c.requires.operators_named;
      marked = c.cut.ensures.marked;
      untried = subst (AllByRecursion (λ (x : Value Contents × Alternatives). CanBeTried m.atoms m.clauses x.0.0.heap.terms x.1))
          (sym (c.cut.ensures.open ∙ last-none (open_choices (saved m) m.choices))) tt;
    }

pub returns-clause-program : goal.returns-clause-program
returns-clause-program c =
    let m = c.args.m.now in
    record { atoms = prefix_same m.atoms m.atoms refl; names = refl; ops = refl; clauses = refl; database = refl }
