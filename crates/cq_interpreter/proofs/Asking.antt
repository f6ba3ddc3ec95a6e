-- An engine without a query whose heap and names have grown.
use Rattle.std.proofs.Common.{◌≡◌, ◌∙◌, ℕ, List, [], Result, Ok, Err, OnOk, sym, subst}
use Rattle.std.specs.declared.alloc.AllocError.{AllocError}
use Rattle.std.specs.Prelude.{reverse}
use Rattle.std.specs.List.{AllByRecursion}
use Rattle.spec_numbers.specs.Texts.{Text}
use Rattle.cq_term.specs.Texts.{AreDifferent}
use Rattle.cq_control.specs.Open.{AreMarked}
use Rattle.cq_ops.specs.Tables.{AreNamed}
use Rattle.cq_resolve.specs.Database.{IsProgram}
use Rattle.cq_settle.specs.Contents.{Contents}
use Rattle.spec_engine.specs.Cells.{Value}
use Rattle.cq_branch.specs.Choices.{CanBeTried}
use Rattle.cq_branch.specs.Worlds.{KnowsNothing}
use Rattle.cq_branch.specs.declared.alternatives.Alternatives.{Alternatives}
use Rattle.cq_machine.specs.Machines.{AreNames, IsSound, now, saved}
use Rattle.cq_machine.specs.declared.machine.Machine.{Machine}
use Rattle.cq_engine.specs.Seeking.{IsKept}
use Rattle.cq_engine.proofs.Engines.{zip_none}
use Rattle.cq_engine.specs.declared.events.engine.Engine.{Engine}
use Rattle.cq_engine.specs.Events.{IsIdle}

-- with as many marks, and the same choices, of which there are none
pub kept_on : (old new : Machine) → IsSound old → old.choices ≡ [] → AreNames new.atoms new.names → AreDifferent new.atoms → IsProgram new.atoms new.clauses
    → AreNamed new.atoms new.ops → saved new ≡ saved old → new.choices ≡ old.choices → IsKept new
kept_on old new s none known different program named marks_same choices_same = record {
  known = known;
  different = different;
  program = program;
  operators_named = named;
  marked = subst (λ (l : List (Value Contents)). AreMarked l new.choices) (sym marks_same)
      (subst (λ (cs : List Alternatives). AreMarked (saved old) cs) (sym choices_same) s.marked);
  untried = subst (AllByRecursion (λ (c : Value Contents × Alternatives). CanBeTried new.atoms new.clauses c.0.0.heap.terms c.1))
      (sym (zip_none (reverse (saved new)) new.choices (choices_same ∙ none))) tt;
}

pub idle_on : (old new : Engine) → IsIdle old → IsKept new.machine → KnowsNothing new.machine.atoms (now new.machine).0 → new.machine.choices ≡ old.machine.choices
    → new.machine.world.second.now ≡ old.machine.world.second.now → IsIdle new
idle_on old new idle kept nothing choices_same lists_same = record {
  sound = record {
    known = kept.known;
    different = kept.different;
    names = nothing.names;
    program = kept.program;
    operators_named = kept.operators_named;
    marked = kept.marked;
    untried = kept.untried;
  };
  nothing = nothing;
  lists = lists_same ∙ idle.lists;
  choices = choices_same ∙ idle.choices;
}

-- what holds anyway
pub always : (r : Result ℕ AllocError) (P : Type 0) → P → OnOk r P
always (Ok x) P h = h
always (Err e) P h = tt
