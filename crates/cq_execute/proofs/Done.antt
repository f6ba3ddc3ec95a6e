-- A row that was done, for the goal that calls its built-in predicate.
use Rattle.std.proofs.Common.{◌≡◌, ◌<◌, ℕ, List, [], length, drop, Some, refl, sym, ◌∙◌, subst}
use Rattle.std.specs.Prelude.{Ok, Err, IfOk, IfErr, OnErr}
use Rattle.std.specs.declared.result.Result.{Result}
use Rattle.spec_numbers.proofs.Prefixes.{prefix_same}
use Rattle.spec_terms.specs.Term.{Var, Number, Name, Compound}
use Rattle.spec_syntax.specs.Trees.{Tree}
use Rattle.spec_builtins.specs.Built.{indicator_of}
use Rattle.spec_builtins.specs.Terms.{arguments}
use Rattle.spec_branch.specs.Branch.{Branch}
use Rattle.spec_search.specs.Builtins.{Builtin, builtin_of}
use Rattle.spec_search.specs.Builtins as builtin
use Rattle.spec_search.specs.Constraints.{freeze_row}
use Rattle.spec_search.specs.Control.{call_row}
use Rattle.spec_search.specs.Replies as reply
use Rattle.spec_search.specs.Replies.{Place, Reply}
use Rattle.spec_search.specs.Rows.{nth, reply_of}
use Rattle.cq_term.specs.Texts.{text_of}
use Rattle.cq_store.specs.declared.store.StoreFault.{StoreFault}
use Rattle.cq_resolve.specs.Database.{as_database}
use Rattle.cq_term.specs.Meaning as meaning
use Rattle.cq_term.specs.Shown as shown
use Rattle.cq_term.specs.Trees.{tree}
use Rattle.cq_write.specs.Meaning.{operators}
use Rattle.cq_branch.proofs.Added.{reads_tree}
use Rattle.cq_catch.specs.Revised.{KeepsShowing}
use Rattle.cq_machine.specs.declared.machine.Machine.{Machine}
use Rattle.cq_machine.specs.declared.step.Step.{Step}
use Rattle.cq_machine.specs.declared.step.Step.TheVariants.{Goes, Back, Raises, Throws, Refuses}
use Rattle.cq_machine.specs.Machines.{terms, now, IsSound, HasSameProgram, StillStands}
use Rattle.cq_machine.specs.Stepping.{row_of, IsStep, IsSelectedAt, IsSelectedSomewhere, LeadsTo, CanGo, OnRaises}
use Rattle.cq_machine.specs.Stops.{IsSelectedFrom, StopsAt}
use Rattle.cq_execute.specs.declared.executed.Executed.{Executed}
use Rattle.cq_execute.specs.Executions.{KeepsClauses, KeepsWalks, HasSameDatabase}
use Rattle.cq_execute.specs.Rows.{IsAtGoal, IsRowDone, IsDone, IsQuiet, as_stop}
use Rattle.cq_execute.specs.Stops.{IsStop}
use Rattle.cq_execute.proofs.Table.{none_behind}
use Rattle.cq_execute.proofs.Reached.{replies, reach, quietly}
use Rattle.cq_execute.proofs.Stopped.{stop_of_row}

-- ---- the program

pub same_database : (old new : Machine) → HasSameProgram old new → HasSameDatabase old new
same_database old new e = λ i. as_database (e.atoms i) (operators (e.atoms i) (e.ops i)) (e.clauses i)

-- the same clauses are shown by walks as before
pub keeps_walks : (old new : Machine) → KeepsClauses old new → KeepsWalks old new
keeps_walks old new k = record {
  atoms = k.atoms;
  names = k.names;
  showing = subst (KeepsShowing old.clauses) (sym k.clauses) (record { begun = λ w i. i; same = λ texts w i. refl });
  budget = k.budget;
}

pub keeps_program : (old new : Machine) → HasSameProgram old new → KeepsWalks old new
keeps_program old new e =
    keeps_walks old new (record { atoms = prefix_same old.atoms new.atoms e.atoms; names = e.names; clauses = e.clauses; budget = e.budget })

pub same_machine : (m : Machine) → HasSameProgram m m
same_machine m = record { atoms = refl; names = refl; ops = refl; clauses = refl; budget = refl }

-- a machine stands for what it stands for
pub still_raised : {E : Type 0} (m : Machine) (r : Result Step E) → IfOk r (λ s. OnRaises s (StillStands m m))
still_raised m (Ok (Goes k)) = tt
still_raised m (Ok Back) = tt
still_raised m (Ok (Raises e)) = λ db n current s j. j
still_raised m (Ok (Throws id)) = λ db n current s j. j
still_raised m (Ok (Refuses pair)) = tt
still_raised m (Err e) = tt

pub still_stands : {E : Type 0} (m : Machine) (r : Result Step E) → OnErr r (StillStands m m)
still_stands m (Ok s) = tt
still_stands m (Err e) = λ db n current s j. j

-- ---- a selected goal

pub at_goal : (m : Machine) (id height rest : ℕ) → IsSound m → (s : IsSelectedFrom m id height rest) → id < length (terms m) → IsAtGoal m id height rest
at_goal m id height rest sound s live = record { sound = sound; selected = s; live = live; there = s.3.selected.place.continuation.there }

-- ---- results

pub somewhere : (m : Machine) (id height rest : ℕ) → IsSelectedFrom m id height rest → IsSelectedSomewhere m id rest
somewhere m id height rest s = (height, s.0, s.1, s.2, s.3)

module _ (old new : Machine) (id height rest : ℕ) where
  -- the same with no output
  pub quiet_done : (q : Result Step StoreFault) (x : Result Executed StoreFault) → IsRowDone old new id height rest q → IsQuiet q x → IsDone old new id height rest x
  quiet_done (Ok s) (Ok x) d i = record {
    row = λ p behind g at. quietly new x s p behind g i.0 i.1 (d.row p behind g at);
    stop = tt;
    goes = subst (CanGo new) (sym i.0) d.goes;
    raises = subst (λ (t : Step). OnRaises t (StillStands old new)) (sym i.0) d.raises;
    sound = d.sound;
    program = d.program;
    err = tt;
    err_database = tt;
  }
  quiet_done (Ok s) (Err f) d i = absurd i
  quiet_done (Err e) (Ok x) d i = absurd i
  quiet_done (Err e) (Err f) d i = record {
    row = tt;
    stop = λ p behind g at. subst (λ (h : StoreFault). IsStop old.world.first.store.pivots p g h) (sym i) (d.stop p behind g at);
    goes = tt;
    raises = tt;
    sound = d.sound;
    program = d.program;
    err = d.err;
    err_database = d.err_database;
  }

  module _ (b : Builtin) (calls : builtin_of (indicator_of (tree old.atoms (terms old) id)) ≡ Some b) where
    pub reply_at : (p : Place) (behind : List Branch) (g : Tree) → IsSelectedAt old id height rest p behind g → reply_of p g ≡ row_of b p g
    reply_at p behind g s = replies p g b (subst (λ (t : Tree). builtin_of (indicator_of t) ≡ Some b) (reads_tree old.atoms (now old).0 p.state id g s.reads) calls)

    -- what holds at each height holds at this one
    pub rows_at : {E : Type 0} (r : Result Step E) → IfOk r (λ s. (h : ℕ) → LeadsTo old new id h rest (row_of b) s) → IfOk r (LeadsTo old new id height rest (row_of b))
    rows_at (Ok s) f = f height
    rows_at (Err e) f = tt

    pub stops_at : (r : Result Step StoreFault) → IfErr r (λ f. (h : ℕ) → StopsAt old id h rest (row_of b) f) → IfErr r (StopsAt old id height rest (row_of b))
    stops_at (Ok s) f = tt
    stops_at (Err e) f = f height

    -- ---- errors

    raises_none : IsSelectedFrom old id height rest → ((p : Place) (g e : Tree) → row_of b p g ≡ reply.Raises e → ⊥)
        → ((p : Place) (g t : Tree) → row_of b p g ≡ reply.Throws t → ⊥) → (s : Step) → LeadsTo old new id height rest (row_of b) s
        → OnRaises s (StillStands old new)
    raises_none at never none (Goes k) row = tt
    raises_none at never none Back row = tt
    raises_none at never none (Raises e) row = absurd (never at.0 at.2 _ (row at.0 at.1 at.2 at.3))
    raises_none at never none (Throws id) row = absurd (none at.0 at.2 _ (row at.0 at.1 at.2 at.3).is)
    raises_none at never none (Refuses pair) row = tt

    -- a row that raises no error, and throws nothing
    pub none_raised : {E : Type 0} → IsSelectedFrom old id height rest → ((p : Place) (g e : Tree) → row_of b p g ≡ reply.Raises e → ⊥)
        → ((p : Place) (g t : Tree) → row_of b p g ≡ reply.Throws t → ⊥) → (r : Result Step E)
        → IfOk r (LeadsTo old new id height rest (row_of b)) → IfOk r (λ s. OnRaises s (StillStands old new))
    none_raised at never none (Ok s) row = raises_none at never none s row
    none_raised at never none (Err e) row = tt

    -- ---- rows

    -- whose query may stop
    pub stop_done : (r : Result Step StoreFault) → IfOk r (LeadsTo old new id height rest (row_of b)) → IfErr r (StopsAt old id height rest (row_of b)) → IfOk r (CanGo new)
        → IfOk r (λ s. OnRaises s (StillStands old new)) → IsSound new → HasSameProgram old new → OnErr r (StillStands old new) → IsRowDone old new id height rest r
    stop_done (Ok s) row stop goes raises sound same err = record {
      row = λ p behind g at. reach new p behind g (at.database ∙ sym (same_database old new same)) s (row_of b p g) (reply_at p behind g at) (row p behind g at);
      stop = tt;
      goes = goes;
      raises = raises;
      sound = sound;
      program = keeps_program old new same;
      err = tt;
      err_database = tt;
    }
    stop_done (Err f) row stop goes raises sound same err = record {
      row = tt;
      stop = λ p behind g at. stop_of_row old.world.first.store.pivots f p g (row_of b p g) (reply_at p behind g at) (stop p behind g at);
      goes = tt;
      raises = tt;
      sound = sound;
      program = keeps_program old new same;
      err = err;
      err_database = same_database old new same;
    }

    -- that only wants memory
    pub row_done : {E : Type 0} (r : Result Step E) → IfOk r (LeadsTo old new id height rest (row_of b)) → IfOk r (CanGo new)
        → IfOk r (λ s. OnRaises s (StillStands old new)) → IsSound new → HasSameProgram old new → OnErr r (StillStands old new) → IsRowDone old new id height rest (as_stop r)
    row_done (Ok s) row goes raises sound same err = stop_done (Ok s) row tt goes raises sound same tt
    row_done (Err e) row goes raises sound same err = stop_done (as_stop (Err e)) tt (λ p behind g at. tt) tt tt sound same err

-- ---- some rows

by_first : (p : Place) (x g e : Tree) → freeze_row p x g ≡ reply.Raises e → ⊥
by_first p (Var v) g e h = cc
by_first p (Number q) g e h = cc
by_first p (Name a) g e h = cc
by_first p (Compound f ts) g e h = cc

-- freeze raises no error
pub freeze_none : (p : Place) (g e : Tree) → row_of builtin.Freeze p g ≡ reply.Raises e → ⊥
freeze_none p g e h = by_first p _ _ e h

thrown_first : (p : Place) (x g t : Tree) → freeze_row p x g ≡ reply.Throws t → ⊥
thrown_first p (Var v) g t h = cc
thrown_first p (Number q) g t h = cc
thrown_first p (Name a) g t h = cc
thrown_first p (Compound f ts) g t h = cc

-- and throws nothing
pub freeze_throws : (p : Place) (g t : Tree) → row_of builtin.Freeze p g ≡ reply.Throws t → ⊥
freeze_throws p g t h = thrown_first p _ _ t h

-- call of one argument is that of it alone
pub call_alone : {E : Type 0} (old new : Machine) (id height rest : ℕ) (r : Result Step E) → length (shown.arguments (meaning.at (terms old) id)) ≡ 1
    → IfOk r (λ s. (p : Place) (behind : List Branch) (g : Tree) → IsSelectedAt old id height rest p behind g → IsStep new s p behind (call_row p (nth (arguments g) 0) []))
    → IfOk r (LeadsTo old new id height rest (row_of builtin.Call))
call_alone old new id height rest (Err e) one row = tt
call_alone old new id height rest (Ok s) one row = λ p behind g at.
    let none : drop 1 (arguments g) ≡ [] =
    subst (λ (t : Tree). drop 1 (arguments t) ≡ []) (reads_tree old.atoms (now old).0 p.state id g at.reads) (none_behind (text_of old.atoms) (meaning.at (terms old) id) one) in
    subst (λ (ts : List Tree). IsStep new s p behind (call_row p (nth (arguments g) 0) ts)) (sym none) (row p behind g at)
