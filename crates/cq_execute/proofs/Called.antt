-- A term that is called, and a goal of a user predicate.
use Rattle.std.proofs.Common.{◌≡◌, ℕ, List, true, None, sym, ◌∙◌, subst}
use Rattle.std.specs.Prelude.{Ok, Err, IfOk, OnErr}
use Rattle.std.specs.declared.result.Result.{Result}
use Rattle.spec_syntax.specs.Trees.{Tree}
use Rattle.spec_builtins.specs.Built.{indicator_of}
use Rattle.spec_builtins.specs.Kinds.{is_callable}
use Rattle.spec_branch.specs.Branch.{Branch}
use Rattle.spec_search.specs.Builtins.{builtin_of}
use Rattle.spec_search.specs.Control.{user_row}
use Rattle.spec_search.specs.Replies.{Place}
use Rattle.spec_search.specs.Rows.{reply_of}
use Rattle.cq_term.specs.Trees.{tree}
use Rattle.cq_term.specs.declared.names.Pred.{Pred}
use Rattle.cq_branch.proofs.Added.{reads_tree}
use Rattle.cq_machine.specs.declared.machine.Machine.{Machine}
use Rattle.cq_machine.specs.Machines.{terms, now, IsSound, HasSameProgram, StillStands}
use Rattle.cq_machine.specs.Stepping.{IsSelectedAt, CanGo, OnRaises}
use Rattle.cq_calls.specs.declared.calling.Called.{Called}
use Rattle.cq_machine.specs.Calls.{Calls, step_of}
use Rattle.cq_execute.specs.Rows.{IsCallDone, IsRowDone, as_step, as_stop}
use Rattle.cq_execute.specs.Stops.{no_memory}
use Rattle.cq_execute.proofs.Done.{same_database, keeps_program}
use Rattle.cq_execute.proofs.Reached.{user_replies, reach_call}

module _ (old new : Machine) (id height rest : ℕ) (callable : is_callable (tree old.atoms (terms old) id) ≡ true)
    (none : builtin_of (indicator_of (tree old.atoms (terms old) id)) ≡ None) where
  user_at : (p : Place) (behind : List Branch) (g : Tree) → IsSelectedAt old id height rest p behind g → reply_of p g ≡ user_row p (indicator_of g)
  user_at p behind g s =
      let same = reads_tree old.atoms (now old).0 p.state id g s.reads in
      user_replies p g (subst (λ (t : Tree). is_callable t ≡ true) same callable) (subst (λ (t : Tree). builtin_of (indicator_of t) ≡ None) same none)

  -- the clauses of its procedure, or the error that there is none
  pub call_done : {E : Type 0} (pred : Pred) (r : Result Called E) → IfOk r (λ c. Calls old new id rest (step_of pred c)) → IfOk r (λ c. CanGo new (step_of pred c))
      → IfOk r (λ c. OnRaises (step_of pred c) (StillStands old new)) → IsSound new
      → HasSameProgram old new → OnErr r (StillStands old new) → IsCallDone old new id height rest pred (as_stop r)
  call_done pred (Ok c) row goes raises sound same err = record {
    row = λ p behind g at. reach_call new p behind g (at.database ∙ sym (same_database old new same)) (step_of pred c) (user_at p behind g at) (row height p behind g at);
    stop = tt;
    goes = goes;
    raises = raises;
    sound = sound;
    program = keeps_program old new same;
    err = tt;
    err_database = tt;
  }
  call_done pred (Err e) row goes raises sound same err = record {
    row = tt;
    stop = λ p behind g at. no_memory;
    goes = tt;
    raises = tt;
    sound = sound;
    program = keeps_program old new same;
    err = err;
    err_database = same_database old new same;
  }

-- the same of the step that it is
pub as_row : {E : Type 0} (old new : Machine) (id height rest : ℕ) (pred : Pred) (r : Result Called E) → IsCallDone old new id height rest pred (as_stop r)
    → IsRowDone old new id height rest (as_stop (as_step pred r))
as_row old new id height rest pred (Ok c) d = record {
  row = d.row;
  stop = d.stop;
  goes = d.goes;
  raises = d.raises;
  sound = d.sound;
  program = d.program;
  err = d.err;
  err_database = d.err_database;
}
as_row old new id height rest pred (Err e) d = record {
  row = d.row;
  stop = d.stop;
  goes = d.goes;
  raises = d.raises;
  sound = d.sound;
  program = d.program;
  err = d.err;
  err_database = d.err_database;
}
