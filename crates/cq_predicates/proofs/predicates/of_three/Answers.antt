use Rattle.std.proofs.Common.{Bor, ℕ, List, refl}
use Rattle.cq_predicates.specs.declared.predicates.Predicate.{Predicate}
use Rattle.cq_predicates.proofs.PredicatesLemmas.{found}
use Rattle.cq_predicates.proofs.predicates.of_three.Goals as goal

pub returns : goal.returns
returns c =
    found (Bor (List ℕ) × Predicate) (λ row. row.0.now) (λ row. row.1) 3 c.args.name.now _ _ c.among.ensures
    (refl, (refl, (refl, tt))) refl
