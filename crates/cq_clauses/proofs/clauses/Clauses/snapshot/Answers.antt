use Rattle.std.proofs.Common.{◌≡◌, ◌<◌, length, map, sym, ◌∙◌, subst}
use Rattle.std.specs.Prelude.{All}
use Rattle.std.proofs.lemmas.List.{length-map}
use Rattle.cq_clauses.specs.declared.clauses.Stored.{Stored}
use Rattle.cq_clauses.specs.Snapshots.{seen}
use Rattle.cq_clauses.proofs.Removed.{all_known}
use Rattle.cq_clauses.proofs.clauses.Clauses.snapshot.Goals as goal

pub returns-clause-known : goal.returns-clause-known
returns-clause-known g c =
    let place_of = λ (x : Stored g.row.C.Denot). x.place in
    let content_of = λ (x : Stored g.row.C.Denot). x.content in
    let items = c.self.inside.stored.items in
    let same : length (map place_of items) ≡ length (map content_of items) = length-map items place_of ∙ sym (length-map items content_of) in
    rw (← c.self.view_is)
    (subst (λ count. All (λ n. n < count) (seen c.snapshot.result c.self.inside.procedures)) same
    (all_known (map place_of items) c.self.inside.procedures c.snapshot.result c.self.invariant.store c.snapshot.ensures.taken))
