use Rattle.std.proofs.Common.{refl, arith}
use Rattle.cq_clauses.proofs.Kept.{part_in, part_opened, part_read}
use Rattle.cq_clauses.proofs.procedures.Procedures.start.Goals as goal

pub index-requires : goal.index-requires
index-requires c =
    let l = part_in c.self.inside.procedures.items c.args.self.now c.args.snapshot.now c.in-Some.part c.self.view_is c.requires c.in-Some.is in
    omega (arith, l, c.self.inside.procedures.ok.0)

pub start-place-requires : goal.start-place-requires
start-place-requires c = part_opened c.self.inside.procedures.items c.args.self.now c.args.snapshot.now c.in-Some.part c.self.view_is c.requires c.in-Some.is c.index.result.now c.index.ensures

pub returns : goal.returns
returns c =
    let opened = part_opened c.self.inside.procedures.items c.args.self.now c.args.snapshot.now c.in-Some.part c.self.view_is c.requires c.in-Some.is c.index.result.now c.index.ensures in
    record {
      part = c.in-Some.part;
      is = c.in-Some.is;
      number = refl;
      procedure = c.index.result.now;
      stands = part_read c.self.inside.procedures.items c.args.self.now c.args.snapshot.now c.in-Some.part c.self.view_is c.requires c.in-Some.is c.index.result.now c.index.ensures;
      start = c.start-place.ensures;
      within = omega (arith, opened.within, c.start-place.ensures);
    }
