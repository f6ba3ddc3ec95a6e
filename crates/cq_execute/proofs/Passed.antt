-- Goals that go on behind themselves, with output or other operators.
use Rattle.std.proofs.Common.{◌≡◌, ◌<◌, ℕ, List, [], ◌++◌, length, Some, refl, sym, ap, ◌∙◌, subst}
use Rattle.std.specs.Prelude.{Ok, Err}
use Rattle.spec_numbers.proofs.Prefixes.{prefix_same}
use Rattle.spec_numbers.specs.Texts.{Text}
use Rattle.spec_syntax.specs.Trees.{Tree}
use Rattle.spec_builtins.specs.Built.{indicator_of}
use Rattle.spec_branch.specs.Branch.{Branch}
use Rattle.spec_search.specs.Builtins.{Builtin, builtin_of}
use Rattle.spec_search.specs.Builtins as builtin
use Rattle.spec_search.specs.Replies as reply
use Rattle.spec_search.specs.Replies.{Place, Made, Makes, made, onward, outputs, changes}
use Rattle.spec_search.specs.Rows.{reply_of}
use Rattle.spec_search.specs.Steps as steps
use Rattle.spec_search.specs.Turns.{older}
use Rattle.cq_built.specs.Errors.{error_tree, HasCulprit}
use Rattle.cq_built.specs.declared.errors.BuiltinError.{BuiltinError}
use Rattle.cq_store.specs.declared.store.StoreFault.TheVariants.{NoMemory}
use Rattle.cq_term.specs.Trees.{tree}
use Rattle.cq_branch.specs.Worlds.{IsBranch, term_in, Selected}
use Rattle.cq_branch.proofs.Branches.{branches_rest}
use Rattle.cq_branch.proofs.Control.{goes_on_with}
use Rattle.cq_choices.proofs.Leading.{same_made}
use Rattle.cq_machine.specs.declared.machine.Machine.{Machine}
use Rattle.cq_machine.specs.declared.step.Step.{Step}
use Rattle.cq_machine.specs.declared.step.Step.TheVariants.{Goes, Raises}
use Rattle.cq_machine.specs.Machines.{terms, now, holds, database_of, IsSound, StillStands}
use Rattle.cq_machine.specs.Stepping.{row_of, IsSelectedAt, CanGo, OnRaises}
use Rattle.cq_execute.specs.declared.executed.Executed.{Executed}
use Rattle.cq_execute.specs.Executions.{Continues, Reaches}
use Rattle.cq_execute.specs.Rows.{IsDone}
use Rattle.cq_execute.specs.Stops.{no_memory}
use Rattle.cq_execute.proofs.Reached.{quietly, raised}
use Rattle.cq_execute.proofs.Done.{same_machine, keeps_walks, keeps_program, reply_at}

-- the goal has done its part, with this output and the machine's program
passes : (m : Machine) (height rest : ℕ) (p : Place) (behind : List Branch) (g : Tree) (text : Text) → Selected m.atoms (holds m) (now m) height rest p behind
    → reply_of p g ≡ Makes (record (made p (onward p)) { database = database_of m; output = text }) → Continues m (Some rest) text p behind g
passes m height rest p behind g text s e =
    let q : Place = record p { database = database_of m } in
    let l = goes_on_with (IsBranch m.atoms) (term_in m.atoms) (branches_rest m.atoms) (holds m) (now m) rest q behind p.rest s.place.continuation s.waiting in
    let same : ◌≡◌ {A = Made} (made q (onward q)) l.made = same_made (made q (onward q)) l.made l.row in
    record {
      made = record (made p (onward p)) { database = database_of m; output = text };
      step = steps.makes e;
      database = refl;
      output = refl;
      comes = λ steps t d b. l.comes steps t d (b ∙ ap (λ (x : Made). x.children ++ older x.keeps behind) same);
    }

-- ---- output

pub text_done : (m : Machine) (id height rest : ℕ) (b : Builtin) → builtin_of (indicator_of (tree m.atoms (terms m) id)) ≡ Some b → (x : Executed) → x.step ≡ Goes rest
    → IsSound m → rest < length m.world.second.now
    → ((p : Place) (behind : List Branch) (g : Tree) → IsSelectedAt m id height rest p behind g → row_of b p g ≡ outputs p x.output.items)
    → IsDone m m id height rest (Ok x)
text_done m id height rest b calls x e sound there row = record {
  row = λ p behind g at.
      let text = x.output.items in
      let is : reply_of p g ≡ Makes (record (made p (onward p)) { database = database_of m; output = text }) =
      reply_at m m id height rest b calls p behind g at ∙ row p behind g at ∙ (λ i. Makes (record (made p (onward p)) { database = at.database i; output = text })) in
      subst (λ (s : Step). Reaches m s text p behind g) (sym e) (passes m height rest p behind g text at.selected is);
  stop = tt;
  goes = subst (CanGo m) (sym e) there;
  raises = subst (λ (s : Step). OnRaises s (StillStands m m)) (sym e) tt;
  sound = sound;
  program = keeps_program m m (same_machine m);
  err = tt;
  err_database = tt;
}

-- nothing was done for want of memory
pub nothing_done : (m : Machine) (id height rest : ℕ) → IsSound m → IsDone m m id height rest (Err NoMemory)
nothing_done m id height rest sound = record {
  row = tt;
  stop = λ p behind g at. no_memory;
  goes = tt;
  raises = tt;
  sound = sound;
  program = keeps_program m m (same_machine m);
  err = λ db n current s j. j;
  err_database = refl;
}

-- ---- operators

-- A machine of which the operators may be other ones.
module _ (old new : Machine) (world : new.world ≡ old.world) (choices : new.choices ≡ old.choices) (atoms : new.atoms ≡ old.atoms) (names : new.names ≡ old.names)
    (clauses : new.clauses ≡ old.clauses) where
  -- it is the same but for them
  pub all_but_operators : new ≡ record old { ops = new.ops }
  all_but_operators = λ i. record { world = world i; choices = choices i; atoms = atoms i; names = names i; ops = new.ops; clauses = clauses i }

  pub all_of_it : new.ops ≡ old.ops → new ≡ old
  all_of_it ops = λ i. record { world = world i; choices = choices i; atoms = atoms i; names = names i; ops = ops i; clauses = clauses i }

-- other operators were set
pub set_done : (old new : Machine) (id height rest : ℕ) → builtin_of (indicator_of (tree old.atoms (terms old) id)) ≡ Some builtin.Op → new ≡ record old { ops = new.ops }
    → (x : Executed) → x.step ≡ Goes rest → x.output.items ≡ [] → IsSound new → rest < length old.world.second.now
    → ((p : Place) (behind : List Branch) (g : Tree) → IsSelectedAt old id height rest p behind g → row_of builtin.Op p g ≡ changes p (database_of new))
    → IsDone old new id height rest (Ok x)
set_done old new id height rest calls is x e quiet sound there row =
    let low : Machine = record old { ops = new.ops } in
    subst (λ (m : Machine). IsDone old m id height rest (Ok x)) (sym is) (record {
      row = λ p behind g at.
          let reply : reply_of p g ≡ changes p (database_of low) =
          reply_at old low id height rest builtin.Op calls p behind g at ∙ subst (λ (m : Machine). row_of builtin.Op p g ≡ changes p (database_of m)) is (row p behind g at) in
          quietly low x (Goes rest) p behind g e quiet (passes low height rest p behind g [] at.selected reply);
      stop = tt;
      goes = subst (CanGo low) (sym e) there;
      raises = subst (λ (s : Step). OnRaises s (StillStands old low)) (sym e) tt;
      sound = subst IsSound is sound;
      program = keeps_walks old low (record { atoms = prefix_same old.atoms old.atoms refl; names = refl; clauses = refl; budget = refl });
      err = tt;
      err_database = tt;
    })

-- ---- errors

-- the goal raises an error, and nothing was done
pub raise_done : (m : Machine) (id height rest : ℕ) (x : Executed) (e : BuiltinError) → x.step ≡ Raises e → IsSound m → HasCulprit m.atoms (terms m) e
    → ((p : Place) (behind : List Branch) (g : Tree) → IsSelectedAt m id height rest p behind g → reply_of p g ≡ reply.Raises (error_tree m.atoms (terms m) e))
    → IsDone m m id height rest (Ok x)
raise_done m id height rest x e is sound culprit row = record {
  row = λ p behind g at. subst (λ (s : Step). Reaches m s x.output.items p behind g) (sym is) (raised m p behind g at.database (error_tree m.atoms (terms m) e) (row p behind g at));
  stop = tt;
  goes = subst (CanGo m) (sym is) culprit;
  raises = subst (λ (s : Step). OnRaises s (StillStands m m)) (sym is) (λ db n current s j. j);
  sound = sound;
  program = keeps_program m m (same_machine m);
  err = tt;
  err_database = tt;
}

-- the same of a machine that is said to be equal
pub still_done : (old new : Machine) (id height rest : ℕ) (x : Executed) (e : BuiltinError) → new ≡ old → x.step ≡ Raises e → IsSound old → HasCulprit old.atoms (terms old) e
    → ((p : Place) (behind : List Branch) (g : Tree) → IsSelectedAt old id height rest p behind g → reply_of p g ≡ reply.Raises (error_tree old.atoms (terms old) e))
    → IsDone old new id height rest (Ok x)
still_done old new id height rest x e same is sound culprit row =
    subst (λ (m : Machine). IsDone old m id height rest (Ok x)) (sym same) (raise_done old id height rest x e is sound culprit row)

pub nothing_still_done : (old new : Machine) (id height rest : ℕ) → new ≡ old → IsSound old → IsDone old new id height rest (Err NoMemory)
nothing_still_done old new id height rest same sound = subst (λ (m : Machine). IsDone old m id height rest (Err NoMemory)) (sym same) (nothing_done old id height rest sound)
