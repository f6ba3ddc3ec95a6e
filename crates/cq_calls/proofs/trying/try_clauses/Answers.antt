use Rattle.std.proofs.Common.{◌∷◌, sym, ap, ◌∙◌}
use Rattle.cq_clauses.specs.declared.walk.Walk.{Walk}
use Rattle.cq_branch.specs.declared.alternatives.Alternatives.{Alternatives}
use Rattle.cq_branch.specs.declared.alternatives.Alternatives.TheVariants.{Clauses}
use Rattle.cq_calls.proofs.trying.try_clauses.Goals as goal

pub come_back-requires-clause-newest : goal.come_back-requires-clause-newest
come_back-requires-clause-newest c =
    let older = c.in-Some.ensures.some in (
      older.0,
      older.1 ∙ ap (λ (x : Alternatives). x ∷ older.0) (c.in-Clauses.is ∙ ap (λ (w : Walk). Clauses c.in-Clauses.called w c.in-Clauses.behind) (sym c.walk-walk.ensures)),
    )
