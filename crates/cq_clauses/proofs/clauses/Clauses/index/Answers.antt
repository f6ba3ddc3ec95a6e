use Rattle.std.proofs.Common.{◌≡◌, Some, sym, subst}
use Rattle.std.specs.Prelude.{slice_get}
use Rattle.std.proofs.lemmas.Option.{slice_get_within}
use Rattle.cq_clauses.specs.declared.procedures.Procedure.{Procedure}
use Rattle.cq_clauses.specs.ClausesValue.{ClausesValue}
use Rattle.cq_clauses.specs.Indexes.{IsIndex}
use Rattle.cq_clauses.specs.Selected.{key_at, keys_in}
use Rattle.cq_clauses.proofs.Indexing.{indexes_put}
use Rattle.cq_clauses.proofs.clauses.Clauses.index.Goals as goal

pub invariant_of-self : goal.invariant_of-self
invariant_of-self g c =
    let made = subst (λ (v : ClausesValue g.row.C.Denot). (p : Procedure) → slice_get v.procedures c.in-Some.procedure ≡ Some p → IsIndex c.in-Ok.index (keys_in (key_at g.C.Keyed.key_of v.contents) p.clauses))
    (sym c.self.view_is) c.in-Ok.ensures in
    record {
      store = c.self.invariant.store;
      by_key = indexes_put _ c.self.inside.indexes.list.items c.self.inside.procedures c.self.invariant.by_key c.put.new.self.list.items c.in-Some.procedure c.in-Ok.index (slice_get_within c.self.inside.procedures c.in-Some.procedure c.in-Some.ensures.procedure c.in-Some.ensures.stands) c.put.ensures made;
    }
