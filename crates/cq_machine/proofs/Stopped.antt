-- Why a query stops while the one child of a row is settled.
use Rattle.std.proofs.Common.{◌≡◌, ℕ, [], ◌∷◌, refl}
use Rattle.spec_branch.specs.Branch.{Pending}
use Rattle.spec_search.specs.Replies.{Place, Reply, child, makes}
use Rattle.cq_frac.specs.declared.Pair.{Pair}
use Rattle.cq_store.specs.declared.store.StoreFault.{StoreFault}
use Rattle.cq_store.specs.declared.store.StoreFault.TheVariants as store
use Rattle.cq_settle.specs.Settled.{MayRefuse, MayTake}
use Rattle.cq_relations.specs.Faults.{IsStopped}

-- a reply that makes one child is why that is not settled
pub stopped_by : (n : ℕ) (f : StoreFault) (p : Place) (reply : Reply) (work : Pending) → reply ≡ makes p (child p.rest p.state work ∷ [])
    → ((pair : Pair) → f ≡ store.Overflow pair → MayRefuse p.state work pair) → ((k : ℕ) → f ≡ store.Pivots k → (k ≡ n) × MayTake p.state work k) → IsStopped n f p reply
stopped_by n (store.Overflow pair) p reply work row refuses takes = record { work = work; row = row; holds = refuses pair refl }
stopped_by n (store.Pivots k) p reply work row refuses takes = (let t = takes k refl in (t.0, record { work = work; row = row; holds = t.1 }))
stopped_by n store.NoMemory p reply work row refuses takes = tt
