-- Why a query stops where a goal's reply makes one child.
use Rattle.std.proofs.Common.{◌≡◌, ℕ, sym, ◌∙◌, subst}
use Rattle.spec_simplex.specs.Chains.{IsBlandChain}
use Rattle.spec_syntax.specs.Trees.{Tree}
use Rattle.spec_search.specs.Replies.{Place, Reply}
use Rattle.spec_search.specs.Rows.{reply_of}
use Rattle.spec_search.specs.Steps as steps
use Rattle.cq_store.specs.declared.store.StoreFault.{StoreFault}
use Rattle.cq_store.specs.declared.store.StoreFault.TheVariants.{Overflow, Pivots, NoMemory}
use Rattle.cq_relations.specs.Faults.{IsStopped}
use Rattle.cq_execute.specs.Stops.{IsStop, settles, overflow, pivots, no_memory}

-- the reply makes one child, and a stop is due while that is settled
pub stop_of_row : (budget : ℕ) (f : StoreFault) (p : Place) (g : Tree) (r : Reply) → reply_of p g ≡ r → IsStopped budget f p r → IsStop budget p g f
stop_of_row budget (Overflow pair) p g r e x = overflow (settles (steps.makes (e ∙ x.row)) x.holds.of_settling) x.holds.due
stop_of_row budget (Pivots n) p g r e x =
    let one = x.1 in
    subst (λ (i : ℕ). IsStop budget p g (Pivots i)) (sym x.0)
    (pivots (settles (steps.makes (e ∙ one.row)) one.holds.of_settling) (subst (λ (i : ℕ). IsBlandChain one.holds.moment i) x.0 one.holds.chain))
stop_of_row budget NoMemory p g r e x = no_memory
