-- A row that was done, with a small result.
use Rattle.std.proofs.Common.{◌≡◌, ℕ, List, refl, sym, ap, ◌∙◌, subst}
use Rattle.std.specs.Prelude.{Ok, Err, IfOk, ⊤}
use Rattle.std.specs.declared.alloc.AllocError.{AllocError}
use Rattle.std.specs.declared.result.Result.{Result}
use Rattle.spec_syntax.specs.Trees.{Tree}
use Rattle.spec_branch.specs.Branch.{Branch}
use Rattle.spec_search.specs.Builtins.{Builtin}
use Rattle.spec_search.specs.Replies as reply
use Rattle.spec_search.specs.Replies.{Place}
use Rattle.spec_search.specs.Rows.{reply_of}
use Rattle.spec_search.specs.Steps.{raises}
use Rattle.cq_frac.specs.declared.Pair.{Pair}
use Rattle.cq_store.specs.declared.store.StoreFault.{StoreFault}
use Rattle.cq_store.specs.declared.store.StoreFault.TheVariants.{Overflow, Pivots, NoMemory}
use Rattle.cq_machine.specs.declared.machine.Machine.{Machine}
use Rattle.cq_machine.specs.declared.step.Step.{Step}
use Rattle.cq_machine.specs.declared.step.Step.TheVariants.{Goes, Back, Raises, Throws, Refuses}
use Rattle.cq_machine.specs.Machines.{terms, now, IsSound, StillStands}
use Rattle.cq_machine.specs.Stepping.{row_of, IsSelectedAt, LeadsTo, CanGo, OnRaises}
use Rattle.cq_machine.specs.Refusals.{OnRefuses}
use Rattle.cq_machine.specs.Stops.{IsSelectedFrom}
use Rattle.cq_execute.specs.declared.small.Went.{Went}
use Rattle.cq_execute.specs.declared.small.Went.TheVariants as went
use Rattle.cq_execute.specs.Executions.{Reaches, KeepsWalks, HasSameDatabase}
use Rattle.cq_execute.specs.Rows.{IsCallOf, IsRowDone, as_step, as_stop}
use Rattle.cq_execute.specs.Stops.{IsStop}
use Rattle.cq_calls.specs.declared.calling.Called.{Called}
use Rattle.cq_calls.specs.declared.calling.Called.TheVariants as found
use Rattle.cq_predicates.specs.declared.table.builtins.Builtin as table
use Rattle.cq_term.specs.Trees.{tree}
use Rattle.cq_term.specs.declared.names.Pred.{Pred}
use Rattle.cq_branch.proofs.Added.{reads_tree}
use Rattle.cq_execute.proofs.Done.{keeps_program, same_machine}
use Rattle.cq_execute.specs.Small.{IsRefused, ball, refuses, overflow, pivots, IsOther, IsUnmoved, IsSmall, IsSmallDone, as_went}

-- a row that refuses no numbers
pub none_refused : {E : Type 0} (old new : Machine) (id height rest : ℕ) (b : Builtin) → IsSelectedFrom old id height rest
    → ((p : Place) (g : Tree) (pair : Pair) → row_of b p g ≡ reply.Overflows pair → ⊥) → (r : Result Step E)
    → IfOk r (LeadsTo old new id height rest (row_of b)) → IfOk r (λ s. OnRefuses s (StillStands old new))
none_refused old new id height rest b at never (Ok (Goes k)) row = tt
none_refused old new id height rest b at never (Ok Back) row = tt
none_refused old new id height rest b at never (Ok (Raises e)) row = tt
none_refused old new id height rest b at never (Ok (Throws t)) row = tt
none_refused old new id height rest b at never (Ok (Refuses pair)) row = absurd (never at.0 at.2 pair (row at.0 at.1 at.2 at.3))
none_refused old new id height rest b at never (Err e) row = tt

-- a machine that has not changed stands for what it stands for
pub still_refused : {E : Type 0} (m : Machine) (r : Result Step E) → IfOk r (λ s. OnRefuses s (StillStands m m))
still_refused m (Ok (Goes k)) = tt
still_refused m (Ok Back) = tt
still_refused m (Ok (Raises e)) = tt
still_refused m (Ok (Throws id)) = tt
still_refused m (Ok (Refuses pair)) = λ db n current s j. j
still_refused m (Err e) = tt

-- the same of its result as the fault of a query
pub refused_too : {E : Type 0} (P : Step → Type 0) (r : Result Step E) → IfOk r P → IfOk (as_stop r) P
refused_too P (Ok s) h = h
refused_too P (Err e) h = tt

module _ (old new : Machine) (id height rest : ℕ) (at : IsSelectedFrom old id height rest) where
  -- where the row was done with a step
  step_done : (s : Step) → IsRowDone old new id height rest (Ok s) → OnRefuses s (StillStands old new) → IsSmallDone old new id height rest (Ok (as_went s))
  step_done (Goes k) d f = record { row = λ p behind g i. d.row p behind g i; goes = d.goes; alone = tt; sound = d.sound; program = d.program; err = tt }
  step_done Back d f = record { row = λ p behind g i. d.row p behind g i; goes = tt; alone = tt; sound = d.sound; program = d.program; err = tt }
  step_done (Raises e) d f = record {
    row = λ p behind g i. ball (d.row p behind g i).step;
    goes = tt;
    alone = record { stands = d.raises; database = sym (d.row at.0 at.1 at.2 at.3).database ∙ at.3.database };
    sound = d.sound;
    program = d.program;
    err = tt;
  }
  step_done (Throws t) d f = record {
    row = λ p behind g i. ball (d.row p behind g i).step;
    goes = tt;
    alone = record { stands = d.raises; database = sym (d.row at.0 at.1 at.2 at.3).database ∙ at.3.database };
    sound = d.sound;
    program = d.program;
    err = tt;
  }
  step_done (Refuses pair) d f = record {
    row = λ p behind g i. refuses (d.row p behind g i).is;
    goes = tt;
    alone = record { stands = f; database = sym (d.row at.0 at.1 at.2 at.3).database ∙ at.3.database };
    sound = d.sound;
    program = d.program;
    err = tt;
  }

  stopped : (f : StoreFault) → IsRowDone old new id height rest (Err f) → IsUnmoved old new
  stopped f d = record { stands = d.err; database = d.err_database }

  refused : (f : StoreFault) → IsRowDone old new id height rest (Err f)
      → ((p : Place) (g : Tree) → IsStop old.world.first.store.pivots p g f → IsRefused old.world.first.store.pivots p g)
      → IsSmallDone old new id height rest (Ok went.Refused)
  refused f d why = record { row = λ p behind g i. why p g (d.stop p behind g i); goes = tt; alone = stopped f d; sound = d.sound; program = d.program; err = tt }

  pub small_done : (q : Result Step StoreFault) (r : Result Went AllocError) → IsRowDone old new id height rest q → IfOk q (λ s. OnRefuses s (StillStands old new))
      → IsSmall q r → IsSmallDone old new id height rest r
  small_done (Ok s) (Ok w) d f i = subst (λ (v : Went). IsSmallDone old new id height rest (Ok v)) (sym i) (step_done s d f)
  small_done (Ok s) (Err e) d f i = absurd i
  small_done (Err (Overflow pair)) (Ok w) d f i = subst (λ (v : Went). IsSmallDone old new id height rest (Ok v)) (sym i) (refused (Overflow pair) d (λ p g s. overflow s))
  small_done (Err (Overflow pair)) (Err e) d f i = absurd i
  small_done (Err (Pivots n)) (Ok w) d f i = subst (λ (v : Went). IsSmallDone old new id height rest (Ok v)) (sym i) (refused (Pivots n) d (λ p g s. pivots s))
  small_done (Err (Pivots n)) (Err e) d f i = absurd i
  small_done (Err NoMemory) (Ok w) d f i = absurd i
  small_done (Err NoMemory) (Err e) d f i = record { row = tt; goes = tt; alone = tt; sound = d.sound; program = d.program; err = stopped NoMemory d }

-- where the predicate that it calls has another row
pub another_row : (m : Machine) (id height rest : ℕ) (b : table.Builtin) → IsSound m → IsCallOf m id b → IsOther b
    → IsSmallDone m m id height rest (Ok (went.Row b))
another_row m id height rest b sound calls other = record {
  row = λ p behind g i. other;
  goes = tt;
  alone = (refl, calls);
  sound = sound;
  program = keeps_program m m (same_machine m);
  err = tt;
}

-- where it calls nothing, which is an error
pub called_nothing : (m : Machine) (id height rest : ℕ) → IsSound m → (e : Tree) → ((p : Place) → reply_of p (tree m.atoms (terms m) id) ≡ reply.Raises e)
    → IsSmallDone m m id height rest (Ok went.Refused)
called_nothing m id height rest sound e error = record {
  row = λ p behind g i. ball (raises (ap (reply_of p) (sym (reads_tree m.atoms (now m).0 p.state id g i.reads)) ∙ error p));
  goes = tt;
  alone = record { stands = λ db n current s j. j; database = refl };
  sound = sound;
  program = keeps_program m m (same_machine m);
  err = tt;
}

-- a call of a user predicate refuses no numbers
pub call_refuses : {E : Type 0} (P : Type 0) (pred : Pred) (r : Result Called E) → IfOk (as_stop (as_step pred r)) (λ s. OnRefuses s P)
call_refuses P pred (Ok (found.Goes k)) = tt
call_refuses P pred (Ok found.Back) = tt
call_refuses P pred (Ok found.Unknown) = tt
call_refuses P pred (Err e) = tt
