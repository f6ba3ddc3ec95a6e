-- The row of a goal that changes the clauses, for the goal that calls it.
use Rattle.std.proofs.Common.{◌≡◌, ℕ, List, [], Some, refl, sym, ap, ◌∙◌}
use Rattle.std.specs.Prelude.{Ok, Err, IfOk, OnErr}
use Rattle.std.specs.declared.result.Result.{Result}
use Rattle.spec_syntax.specs.Trees.{Tree}
use Rattle.spec_builtins.specs.Built.{indicator_of}
use Rattle.spec_branch.specs.Branch.{Branch}
use Rattle.spec_search.specs.Builtins.{Builtin, builtin_of}
use Rattle.spec_search.specs.Replies.{Place, made, onward}
use Rattle.spec_search.specs.Rows.{reply_of}
use Rattle.spec_search.specs.Steps as steps
use Rattle.cq_built.specs.Errors.{error_tree}
use Rattle.cq_term.specs.Trees.{tree}
use Rattle.cq_machine.specs.declared.machine.Machine.{Machine}
use Rattle.cq_machine.specs.declared.step.Step.{Step}
use Rattle.cq_machine.specs.declared.step.Step.TheVariants.{Goes, Back, Raises, Throws, Refuses}
use Rattle.cq_machine.specs.Machines.{terms, database_of, IsSound, StillStands}
use Rattle.cq_machine.specs.Stepping.{row_of, IsSelectedAt, CanGo, OnRaises}
use Rattle.cq_execute.specs.Changing.{IsChange, ChangesTo, KeepsAllButClauses}
use Rattle.cq_execute.specs.Executions.{KeepsWalks, Reaches}
use Rattle.cq_execute.specs.Rows.{IsRowDone, as_stop}
use Rattle.cq_execute.specs.Stops.{no_memory}
use Rattle.cq_execute.proofs.Reached.{raised}
use Rattle.cq_execute.proofs.Done.{reply_at}

-- walks go on to show the same
walks_go_on : (old new : Machine) → KeepsAllButClauses old new → KeepsWalks old new
walks_go_on old new k = record { atoms = k.atoms; names = k.names; showing = k.showing; budget = k.budget }

on_raises : (s : Step) (P Q : Type 0) → (P → Q) → OnRaises s P → OnRaises s Q
on_raises (Goes k) P Q f h = tt
on_raises Back P Q f h = tt
on_raises (Raises e) P Q f h = f h
on_raises (Throws id) P Q f h = f h
on_raises (Refuses pair) P Q f h = tt

module _ (old new : Machine) (id height rest : ℕ) (b : Builtin) (calls : builtin_of (indicator_of (tree old.atoms (terms old) id)) ≡ Some b) where
  module _ (p : Place) (behind : List Branch) (g : Tree) (at : IsSelectedAt old id height rest p behind g) where
    reply : reply_of p g ≡ row_of b p g
    reply = reply_at old new id height rest b calls p behind g at

    changed : (s : Step) → OnRaises s (database_of new ≡ database_of old) → IsChange new s p behind (row_of b p g) → Reaches new s [] p behind g
    changed (Goes k) same c = record {
      made = record (made p (onward p)) { database = database_of new };
      step = steps.makes (reply ∙ c.row);
      database = refl;
      output = refl;
      comes = c.comes;
    }
    changed Back same c = absurd c
    changed (Raises e) same c = raised new p behind g (at.database ∙ sym same) (error_tree new.atoms (terms new) e) (reply ∙ c)
    changed (Throws id) same c = absurd c
    changed (Refuses pair) same c = absurd c

  pub change_done : {E : Type 0} (r : Result Step E) → IfOk r (ChangesTo old new id rest (row_of b)) → IfOk r (CanGo new)
      → IfOk r (λ s. OnRaises s (new ≡ old)) → StillStands old new → IsSound new → KeepsAllButClauses old new
      → OnErr r (database_of new ≡ database_of old) → IsRowDone old new id height rest (as_stop r)
  change_done (Ok s) row goes raises stands sound keeps same = record {
    row = λ p behind g at. changed p behind g at s (on_raises s (new ≡ old) (database_of new ≡ database_of old) (ap database_of) raises) (row height p behind g at);
    stop = tt;
    goes = goes;
    raises = on_raises s (new ≡ old) (StillStands old new) (λ e. stands) raises;
    sound = sound;
    program = walks_go_on old new keeps;
    err = tt;
    err_database = tt;
  }
  change_done (Err e) row goes raises stands sound keeps same = record {
    row = tt;
    stop = λ p behind g at. no_memory;
    goes = tt;
    raises = tt;
    sound = sound;
    program = walks_go_on old new keeps;
    err = stands;
    err_database = same;
  }
