-- The row of a goal that asks the linear constraints, for the goal that calls it.
use Rattle.std.proofs.Common.{◌≡◌, ◌⊎◌, ℕ, List, [], None, Some, sym, ◌∙◌, subst, inl, inr}
use Rattle.std.specs.Prelude.{Ok, Err, IfOk, IfErr, OnErr}
use Rattle.std.specs.declared.result.Result.{Result}
use Rattle.spec_simplex.specs.Chains.{IsBlandChain}
use Rattle.spec_syntax.specs.Trees.{Tree}
use Rattle.spec_builtins.specs.Built.{indicator_of}
use Rattle.spec_branch.specs.Branch.{Branch}
use Rattle.spec_search.specs.Builtins.{Builtin, builtin_of}
use Rattle.spec_search.specs.Replies.{Place}
use Rattle.spec_search.specs.Rows.{reply_of}
use Rattle.spec_transcript.specs.Questions.{IsQuestionMoment}
use Rattle.cq_store.specs.declared.store.StoreFault.{StoreFault}
use Rattle.cq_store.specs.declared.store.StoreFault.TheVariants.{Overflow, Pivots, NoMemory}
use Rattle.cq_term.specs.Trees.{tree}
use Rattle.cq_machine.specs.declared.machine.Machine.{Machine}
use Rattle.cq_machine.specs.declared.step.Step.{Step}
use Rattle.cq_machine.specs.declared.step.Step.TheVariants.{Goes, Back, Raises, Throws, Refuses}
use Rattle.cq_machine.specs.Machines.{terms, database_of, IsSound, HasSameProgram, StillStands}
use Rattle.cq_machine.specs.Stepping.{row_of, CanGo, OnRaises}
use Rattle.cq_questions.specs.Stops.{TakesIn}
use Rattle.cq_settle.specs.Settled.{MayTake}
use Rattle.cq_execute.specs.Asked.{Takes, TakesStep, StepsToOne, IsStoppedAt, StopsStep}
use Rattle.cq_execute.specs.Executions.{Reaches}
use Rattle.cq_execute.specs.Rows.{IsRowDone}
use Rattle.cq_execute.specs.Stops.{IsStop, asks, settles, overflow, pivots, no_memory}
use Rattle.cq_execute.proofs.Reached.{continues}
use Rattle.cq_execute.proofs.Done.{same_database, keeps_program, reply_at}

-- ---- steps

taken : (m : Machine) (p : Place) (behind : List Branch) (g : Tree) → p.database ≡ database_of m → (s : Step) → Takes m s p behind g → Reaches m s [] p behind g
taken m p behind g d (Goes k) x = continues m p behind g d (Some k) x.reply x.leads x.step
taken m p behind g d Back x = continues m p behind g d None x.reply x.leads x.step
taken m p behind g d (Raises e) x = record { step = x; database = d }
taken m p behind g d (Throws id) x = absurd x
taken m p behind g d (Refuses pair) x = absurd x

-- ---- stops

stop_of_step : (budget : ℕ) (f : StoreFault) (p : Place) (g : Tree) → IsStoppedAt budget f p g → IsStop budget p g f
stop_of_step budget (Overflow pair) p g (inl x) = overflow (asks x.is) x.due
stop_of_step budget (Overflow pair) p g (inr x) = overflow (settles x.step x.holds.of_settling) x.holds.due
stop_of_step budget (Pivots n) p g x = subst (λ (i : ℕ). IsStop budget p g (Pivots i)) (sym x.0) (by_chain x.1)
  where
    by_chain : TakesIn (IsQuestionMoment p.state (reply_of p g)) n ⊎ StepsToOne p g (λ st work. MayTake st work n) → IsStop budget p g (Pivots budget)
    by_chain (inl y) = pivots (asks y.is) (subst (λ (i : ℕ). IsBlandChain y.moment i) x.0 y.chain)
    by_chain (inr y) = pivots (settles y.step y.holds.of_settling) (subst (λ (i : ℕ). IsBlandChain y.holds.moment i) x.0 y.holds.chain)
stop_of_step budget NoMemory p g x = no_memory

-- ---- rows

module _ (old new : Machine) (id height rest : ℕ) (b : Builtin) (calls : builtin_of (indicator_of (tree old.atoms (terms old) id)) ≡ Some b) where
  pub ask_done : (r : Result Step StoreFault) → IfOk r (TakesStep old new id rest (row_of b)) → IfErr r (StopsStep old id rest (row_of b)) → IfOk r (CanGo new)
      → IfOk r (λ s. OnRaises s (StillStands old new)) → IsSound new → HasSameProgram old new → OnErr r (StillStands old new) → IsRowDone old new id height rest r
  ask_done (Ok s) row stop goes raises sound same err = record {
    row = λ p behind g at.
        taken new p behind g (at.database ∙ sym (same_database old new same)) s (row height p behind g at (reply_at old new id height rest b calls p behind g at));
    stop = tt;
    goes = goes;
    raises = raises;
    sound = sound;
    program = keeps_program old new same;
    err = tt;
    err_database = tt;
  }
  ask_done (Err f) row stop goes raises sound same err = record {
    row = tt;
    stop = λ p behind g at.
        stop_of_step old.world.first.store.pivots f p g (stop height p behind g at (reply_at old new id height rest b calls p behind g at));
    goes = tt;
    raises = tt;
    sound = sound;
    program = keeps_program old new same;
    err = err;
    err_database = same_database old new same;
  }
