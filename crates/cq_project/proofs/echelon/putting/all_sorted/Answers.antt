use Rattle.std.proofs.Common.{◌<◌, List, [], length, arith, sym, subst}
use Rattle.spec_projection.proofs.Members.{has_image}
use Rattle.spec_projection.proofs.Filled.{each}
use Rattle.cq_equations.specs.Rows.{equations_of, solved_of}
use Rattle.cq_project.specs.declared.echelon.putting.Row.{Row}
use Rattle.cq_project.specs.Putting.{IsProper, all_solved_by, AreAlike, no_equation}
use Rattle.cq_project.proofs.Products.{has_here, alike_more}
use Rattle.cq_project.proofs.echelon.putting.all_sorted.Goals as goal

pub equations-init : goal.equations-init
equations-init c = subst (λ (w : List Row). AreAlike (all_solved_by w) []) (sym c.new-rows.ensures.items) no_equation

pub sorted-requires : goal.sorted-requires
sorted-requires c =
    let within : c.equations.equation-index < length c.args.equations.now = omega arith in
    record {
      proper = each IsProper (equations_of c.args.equations.now) c.requires.proper (solved_of c.equation-item.result)
          (has_image solved_of c.equation-item.result c.args.equations.now
          (has_here c.args.equations.now c.equations.equation-index c.equation-item.result within c.equation-item.is));
    }

pub equations-preserved : goal.equations-preserved
equations-preserved c =
    let within : c.equations.equation-index < length c.args.equations.now = omega arith in
    alike_more c.equations.rows.items c.in_ok-row.row c.args.equations.now c.equations.equation-index c.equation-item.result c.equations.invariant within c.equation-item.is
    c.in_ok-row.ensures.variable c.in_ok-row.ensures.value c.push.new.self.items c.in_ok-push.ensures.items
