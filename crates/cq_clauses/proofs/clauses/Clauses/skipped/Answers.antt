use Rattle.std.proofs.Common.{map, arith}
use Rattle.std.proofs.lemmas.List.{length-map}
use Rattle.cq_clauses.specs.declared.clauses.Stored.{Stored}
use Rattle.cq_clauses.specs.Lists.{Entry}
use Rattle.cq_clauses.specs.Selected.{key_at, keys_in}
use Rattle.cq_clauses.proofs.Skipping.{matching_behind, fewer_behind}
use Rattle.cq_clauses.proofs.clauses.Clauses.skipped.Goals as goal

pub next-next-requires : goal.next-next-requires
next-next-requires g c =
    let key = key_at g.C.Keyed.key_of (map (λ (x : Stored g.row.C.Denot). x.content) c.self.inside.stored.items) in
    let at = c.in-Some.ensures in
    let entries = at.procedure.clauses.entries in
    let is = c.self.invariant.by_key.indexed c.in-Some.procedure c.in-Some-get.index.now at.procedure c.in-Some-get.ensures at.stands in
    (keys_in key at.procedure.clauses, (is, omega (arith, at.within, length-map entries (λ (e : Entry). key e.clause))))

pub returns-in-Some-get-clause-fewer : goal.returns-in-Some-get-clause-fewer
returns-in-Some-get-clause-fewer g c =
    let key = key_at g.C.Keyed.key_of (map (λ (x : Stored g.row.C.Denot). x.content) c.self.inside.stored.items) in
    let at = c.in-Some.ensures in
    let is = c.self.invariant.by_key.indexed c.in-Some.procedure c.in-Some-get.index.now at.procedure c.in-Some-get.ensures at.stands in
    let none = c.next-next.ensures.none (keys_in key at.procedure.clauses) is in
    rw (← c.self.view_is, c.skipped.ensures.is) (fewer_behind key c.args.key.now c.args.snapshot c.self.inside.procedures c.in-Some.procedure c.in-Some.place c.next-next.result at none)

pub returns-in-Some-get-clause-same : goal.returns-in-Some-get-clause-same
returns-in-Some-get-clause-same g c =
    let key = key_at g.C.Keyed.key_of (map (λ (x : Stored g.row.C.Denot). x.content) c.self.inside.stored.items) in
    let at = c.in-Some.ensures in
    let is = c.self.invariant.by_key.indexed c.in-Some.procedure c.in-Some-get.index.now at.procedure c.in-Some-get.ensures at.stands in
    let none = c.next-next.ensures.none (keys_in key at.procedure.clauses) is in
    rw (← c.self.view_is, c.skipped.ensures.is) (matching_behind key c.args.key.now c.args.snapshot c.self.inside.procedures c.in-Some.procedure c.in-Some.place c.next-next.result at none)
