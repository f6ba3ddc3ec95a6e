-- What a machine comes to as it goes on, by what its parts come to.
use Rattle.std.proofs.Common.{◌≡◌, ℕ, Option, None, Some, sym, subst}
use Rattle.std.specs.Prelude.{Ok, Err, IfOk, IfErr, OnErr}
use Rattle.std.specs.declared.result.Result.{Result}
use Rattle.spec_syntax.specs.Operators.{Ops}
use Rattle.spec_search.specs.Database.{Database}
use Rattle.cq_store.specs.declared.store.StoreFault.{StoreFault}
use Rattle.cq_catch.specs.Matching as over
use Rattle.cq_catch.specs.Matching.{FaultStops}
use Rattle.cq_catch.specs.Finding.{FoundIs}
use Rattle.cq_catch.specs.declared.find.Found.{Found}
use Rattle.cq_catch.specs.declared.find.Found.TheVariants as found
use Rattle.cq_resolve.specs.Database.{as_database}
use Rattle.cq_catch.specs.Taking.{Escapes}
use Rattle.cq_branch.specs.Worlds.{IsBranch, term_in}
use Rattle.cq_write.specs.Meaning.{operators}
use Rattle.spec_engine.specs.Coming.{Comes}
use Rattle.spec_engine.specs.Standing.{engine}
use Rattle.cq_machine.specs.declared.machine.Machine.{Machine}
use Rattle.cq_machine.specs.Machines.{holds, now}
use Rattle.cq_engine.specs.Seeking.{IsKept, IsGoing, GoesTo, AllStop, FindsOn, held_on}
use Rattle.cq_engine.proofs.Engines.{sound_where, going_on, names_known, holds_none}

pub going_over : (m : Machine) (start : Option ℕ) → IsGoing m start → over.IsGoing m.clauses (held_on m) start
going_over m start w = (operators m.atoms m.ops, w.0, w.1, w.2)

module _ (old new : Machine) (start : Option ℕ) (same : operators new.atoms new.ops ≡ operators old.atoms old.ops) where
  pub goes_over : (current : Option ℕ) → over.Reaches old.clauses (held_on old) start new.clauses (held_on new) current → GoesTo old start new current
  goes_over current f = λ steps n s j.
      subst (λ (o : Ops). Comes (IsBranch new.atoms) (term_in new.atoms) steps (engine (as_database new.atoms o new.clauses) n (holds new) (now new) current) s) (sym same)
      (f steps (operators old.atoms old.ops) n s j)

  stops_over : (fault : StoreFault) → over.AllStop old.clauses (held_on old) start new.clauses (held_on new) old.world.first.store.pivots fault → AllStop old start new fault
  stops_over fault f = λ n s j.
      subst (λ (o : Ops). FaultStops old.world.first.store.pivots fault (as_database new.atoms o new.clauses) s) (sym same) (f (operators old.atoms old.ops) n s j)

  pub found_over : IsKept new → IsGoing old start → (f : Found) → FoundIs old.clauses (held_on old) start new.clauses (held_on new) f → FindsOn old start new f
  found_over kept w (found.Front k) h =
      let goes = goes_over (Some k) h.0 in
      (goes, h.1, sound_where new kept (names_known new k (going_on old new start (Some k) goes w)))
  found_over kept w (found.Escaped ball) h = (
    λ budgets n s j.
        subst (λ (o : Ops). Escapes budgets new.clauses (held_on new) ball (as_database new.atoms o new.clauses) n s) (sym same) (h.0 budgets (operators old.atoms old.ops) n s j),
    h.1,
    holds_none new h.2,
  )
  found_over kept w found.Over h = (goes_over None h.0, holds_none new h.1)

  pub all_found : IsKept new → IsGoing old start → (r : Result Found StoreFault) → IfOk r (FoundIs old.clauses (held_on old) start new.clauses (held_on new)) → IfOk r (FindsOn old start new)
  all_found kept w (Ok f) h = found_over kept w f h
  all_found kept w (Err fault) h = tt

  pub err_over : (r : Result Found StoreFault) → OnErr r (over.Reaches old.clauses (held_on old) start new.clauses (held_on new) None) → OnErr r (GoesTo old start new None)
  err_over (Ok f) h = tt
  err_over (Err fault) h = goes_over None h

  pub all_stop : (r : Result Found StoreFault) → IfErr r (over.AllStop old.clauses (held_on old) start new.clauses (held_on new) old.world.first.store.pivots)
      → IfErr r (AllStop old start new)
  all_stop (Ok f) h = tt
  all_stop (Err fault) h = stops_over fault h
