use Rattle.std.proofs.Common.{map, sym, ◌∙◌}
use Rattle.std.proofs.lemmas.List.{length-map}
use Rattle.cq_clauses.specs.ClausesValue.{ClausesValue}
use Rattle.cq_clauses.specs.declared.clauses.Stored.{Stored}
use Rattle.cq_clauses.proofs.Walking.{left_known}
use Rattle.cq_clauses.proofs.clauses.Clauses.walks_are_known.Goals as goal

pub returns : goal.returns
returns g c =
    let place_of = λ (x : Stored g.row.C.Denot). x.place in
    let content_of = λ (x : Stored g.row.C.Denot). x.content in
    let items = c.self.inside.stored.items in
    let v : ClausesValue g.row.C.Denot = record { contents = map content_of items; procedures = c.self.inside.procedures } in
    rw (← c.self.view_is)
    (left_known g.C.Keyed.key_of v (map place_of items) (length-map items place_of ∙ sym (length-map items content_of)) c.self.invariant.store)
