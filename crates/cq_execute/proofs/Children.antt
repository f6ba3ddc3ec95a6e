-- What a goal's step is that makes one child, and what comes of that.
use Rattle.std.proofs.Common.{◌≡◌, ℕ, List, [], ◌∷◌, None, Some, refl, subst, inr}
use Rattle.std.specs.Prelude.{Ok, Err, IfOk, IfErr, OnErr}
use Rattle.std.specs.declared.result.Result.{Result}
use Rattle.spec_syntax.specs.Trees.{Tree}
use Rattle.spec_branch.specs.Branch.{Branch, Pending}
use Rattle.spec_search.specs.Replies.{Place, Reply, child}
use Rattle.spec_search.specs.Rows.{reply_of}
use Rattle.spec_search.specs.Steps.{Steps, children}
use Rattle.cq_frac.specs.declared.Pair.{Pair}
use Rattle.cq_store.specs.declared.store.StoreFault.{StoreFault}
use Rattle.cq_store.specs.declared.store.StoreFault.TheVariants as fault
use Rattle.cq_machine.specs.declared.machine.Machine.{Machine}
use Rattle.cq_machine.specs.declared.step.Step.{Step}
use Rattle.cq_machine.specs.declared.step.Step.TheVariants.{Goes, Back, Raises, Throws, Refuses}
use Rattle.cq_machine.specs.Machines.{HasBuilt, StillStands}
use Rattle.cq_machine.specs.Stepping.{IsSelectedAt}
use Rattle.cq_machine.proofs.Built.{stands_on, stands_then}
use Rattle.cq_execute.specs.Asked.{Takes, TakesStep, IsStoppedAt, StopsStep}
use Rattle.cq_execute.specs.Found.{IsChildStep, StopsChild}
use Rattle.cq_execute.specs.Machines.{IsUnchanged, AtPlaces}
use Rattle.cq_execute.proofs.Kept.{unchanged_built, placed_on}
use Rattle.cq_execute.proofs.OptimaAsked.{steps_on}

module _ (p : Place) (g : Tree) (work : Pending) (h : Steps p g (children p (child p.rest p.state work ∷ []))) where
  pub child_takes : (m : Machine) (behind : List Branch) (s : Step) → IsChildStep m p behind work s → Takes m s p behind g
  child_takes m behind (Goes k) l = steps_on m (Some k) p behind g (child p.rest p.state work ∷ []) l h
  child_takes m behind Back l = steps_on m None p behind g (child p.rest p.state work ∷ []) l h
  child_takes m behind (Raises e) l = absurd l
  child_takes m behind (Throws id) l = absurd l
  child_takes m behind (Refuses pair) l = absurd l

  pub child_stops : (n : ℕ) (f : StoreFault) → StopsChild n p work f → IsStoppedAt n f p g
  child_stops n (fault.Overflow pair) k = inr (record { work = work; step = h; holds = k })
  child_stops n (fault.Pivots x) k = (k.0, inr (record { work = work; step = h; holds = k.1 }))
  child_stops n fault.NoMemory k = tt

-- the same work
pub child_as : (m : Machine) (p : Place) (behind : List Branch) (s : Step) (a b : Pending) → a ≡ b → IsChildStep m p behind a s → IsChildStep m p behind b s
child_as m p behind s a b e h = subst (λ (w : Pending). IsChildStep m p behind w s) e h

pub stops_as : (n : ℕ) (p : Place) (f : StoreFault) (a b : Pending) → a ≡ b → StopsChild n p a f → StopsChild n p b f
stops_as n p f a b e h = subst (λ (w : Pending). StopsChild n p w f) e h

-- a fault while a child is settled
pub fault_stops : (n : ℕ) (p : Place) (work : Pending) (f : StoreFault)
    → ((pair : Pair) → f ≡ fault.Overflow pair → StopsChild n p work (fault.Overflow pair))
    → ((k : ℕ) → f ≡ fault.Pivots k → StopsChild n p work (fault.Pivots k)) → StopsChild n p work f
fault_stops n p work (fault.Overflow pair) refuses takes = refuses pair refl
fault_stops n p work (fault.Pivots k) refuses takes = takes k refl
fault_stops n p work fault.NoMemory refuses takes = tt

-- ---- where terms were built before

module _ (old mid new : Machine) (b : HasBuilt old mid) (rest : ℕ) (work then_ : Pending) (e : work ≡ then_) where
  pub row_on : (r : Result Step StoreFault) → IfOk r (λ s. AtPlaces mid rest (λ p behind. IsChildStep new p behind work s))
      → IfOk r (λ s. AtPlaces old rest (λ p behind. IsChildStep new p behind then_ s))
  row_on (Ok s) h = λ p behind pl. child_as new p behind s work then_ e (h p behind (placed_on old mid rest p behind b pl))
  row_on (Err f) h = tt

  pub stop_on : (r : Result Step StoreFault) → IfErr r (λ f. AtPlaces mid rest (λ p behind. StopsChild mid.world.first.store.pivots p work f))
      → IfErr r (λ f. AtPlaces old rest (λ p behind. StopsChild old.world.first.store.pivots p then_ f))
  stop_on (Ok s) h = tt
  stop_on (Err f) h = λ p behind pl.
      stops_as old.world.first.store.pivots p f work then_ e
      (subst (λ (n : ℕ). StopsChild n p work f) b.program.budget (h p behind (placed_on old mid rest p behind b pl)))

pub err_on : (old mid new : Machine) → HasBuilt old mid → (r : Result Step StoreFault) → OnErr r (StillStands mid new) → OnErr r (StillStands old new)
err_on old mid new b (Ok s) h = tt
err_on old mid new b (Err f) h = stands_then old mid new (stands_on old mid b) h

-- ---- where a goal was asked about before

module _ (old mid new : Machine) (u : IsUnchanged old mid) (goal rest : ℕ) (row : Place → Tree → Reply) (work : Pending)
    (step : (height : ℕ) (p : Place) (behind : List Branch) (g : Tree) → IsSelectedAt old goal height rest p behind g → reply_of p g ≡ row p g
    → Steps p g (children p (child p.rest p.state work ∷ []))) where
  pub value_takes : (r : Result Step StoreFault) → IfOk r (λ s. AtPlaces mid rest (λ p behind. IsChildStep new p behind work s)) → IfOk r (TakesStep old new goal rest row)
  value_takes (Ok s) h = λ height p behind g sel e.
      child_takes p g work (step height p behind g sel e) new behind s (h p behind (placed_on old mid rest p behind (unchanged_built old mid u) (sel.selected.place, sel.selected.waiting)))
  value_takes (Err f) h = tt

  pub value_stops : (r : Result Step StoreFault) → IfErr r (λ f. AtPlaces mid rest (λ p behind. StopsChild mid.world.first.store.pivots p work f)) → IfErr r (StopsStep old goal rest row)
  value_stops (Ok s) h = tt
  value_stops (Err f) h = λ height p behind g sel e.
      child_stops p g work (step height p behind g sel e) old.world.first.store.pivots f
      (subst (λ (n : ℕ). StopsChild n p work f) u.program.budget (h p behind (placed_on old mid rest p behind (unchanged_built old mid u) (sel.selected.place, sel.selected.waiting))))
