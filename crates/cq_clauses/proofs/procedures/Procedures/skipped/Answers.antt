use Rattle.std.proofs.Common.{min, sym, subst, arith}
use Rattle.cq_clauses.specs.Windows.{IsWindow}
use Rattle.cq_clauses.proofs.Kept.{part_in, part_opened, part_rest}
use Rattle.cq_clauses.proofs.Listed.{window_skipped}
use Rattle.cq_clauses.proofs.procedures.Procedures.skipped.Goals as goal

pub index-requires : goal.index-requires
index-requires c =
    let l = part_in c.self.inside.procedures.items c.args.self.now c.args.snapshot c.in-Some.part c.self.view_is c.requires c.in-Some.is in
    omega (arith, l, c.self.inside.procedures.ok.0)

pub skipped-window-requires : goal.skipped-window-requires
skipped-window-requires c = part_opened c.self.inside.procedures.items c.args.self.now c.args.snapshot c.in-Some.part c.self.view_is c.requires c.in-Some.is c.index.result.now c.index.ensures

pub returns-clause-taken : goal.returns-clause-taken
returns-clause-taken c =
    let w = c.in-Some.part.window in
    let l = c.index.result.now.clauses in
    let opened = part_opened c.self.inside.procedures.items c.args.self.now c.args.snapshot c.in-Some.part c.self.view_is c.requires c.in-Some.is c.index.result.now c.index.ensures in
    part_rest c.self.inside.procedures.items c.args.self.now c.args.snapshot c.in-Some.part c.self.view_is c.requires c.in-Some.is c.index.result.now c.index.ensures
    c.skipped-window.result (subst (λ v. IsWindow v l) (sym c.skipped-window.ensures) (window_skipped (min c.args.count w.count) w l (omega arith) opened))
