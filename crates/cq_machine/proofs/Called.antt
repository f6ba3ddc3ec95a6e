-- A goal that calls a user predicate.
use Rattle.std.proofs.Common.{ℕ, List, ◌++◌, map, Some, refl, ap, ◌∙◌}
use Rattle.spec_syntax.specs.Trees.{Tree}
use Rattle.spec_builtins.specs.Built.{indicator_of}
use Rattle.spec_branch.specs.Branch.{Branch}
use Rattle.spec_numbers.specs.Texts.{Text}
use Rattle.spec_search.specs.Control.{clause_child}
use Rattle.spec_search.specs.Replies.{Place}
use Rattle.spec_search.specs.Search.{Search}
use Rattle.cq_goals.specs.Clauses.{IsOf}
use Rattle.cq_term.specs.Trees.{KnowsTerms, tree}
use Rattle.cq_term.specs.declared.names.Pred.{Pred}
use Rattle.cq_write.specs.Meaning.{operators}
use Rattle.cq_settle.specs.Contents.{Contents}
use Rattle.spec_engine.specs.Cells.{Stack, Value}
use Rattle.cq_branch.proofs.Added.{reads_tree}
use Rattle.cq_calls.specs.Calling.{CallBecomes, IsCalledAt}
use Rattle.cq_machine.specs.declared.machine.Machine.{Machine}
use Rattle.cq_machine.specs.Machines.{terms, now, holds, IsSound}
use Rattle.cq_machine.specs.Stepping.{IsSelectedAt}

pub called_at : (m : Machine) (pred : Pred) (id height rest : ℕ) (p : Place) (behind : List Branch) (g : Tree) → IsSound m → IsOf m.atoms pred (tree m.atoms (terms m) id)
    → IsSelectedAt m id height rest p behind g → IsCalledAt m.atoms m.clauses (holds m) (now m) pred id rest p behind g
called_at m pred id height rest p behind g sound o s = record {
  different = sound.different;
  program = sound.program;
  operators = operators m.atoms m.ops;
  database = s.database;
  place = (s.selected.place, s.selected.waiting);
  reads = s.reads;
  name = o.known;
  indicator = o.indicator ∙ ap indicator_of (reads_tree m.atoms (now m).0 p.state id g s.reads);
}

-- where it goes on with a clause, the names of the terms are known
pub names_called : (texts : List Text) (choices : Stack Contents) (now : Value Contents) (k : ℕ) (p : Place) (behind : List Branch) (g : Tree)
    → CallBecomes texts choices now (Some k) p behind g → KnowsTerms texts now.0.heap.terms
names_called texts choices now k p behind g b =
    let s : Search = record { database = p.database; branches = map (clause_child p g) b.some ++ behind; selected = 0 } in
    (b.comes 0 s refl refl).stands.current.3.state.ready.stands.names
