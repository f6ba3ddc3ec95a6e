-- A file's clause that is added, or refused.
use Rattle.std.specs.Prelude.{◌≡◌, ℕ, ◌<◌, List, length, Option, None, Some}
use Rattle.spec_numbers.specs.Prefixes.{IsPrefix}
use Rattle.spec_numbers.specs.Texts.{Text}
use Rattle.spec_syntax.specs.Trees.{Tree}
use Rattle.spec_builtins.specs.Clauses.{head_body}
use Rattle.spec_search.specs.Changes.{consult_error, consulted}
use Rattle.spec_search.specs.Database.{Database}
use Rattle.spec_transcript.specs.Session.{refusal_ball}
use Rattle.cq_term.specs.Meaning.{HeapTerm}
use Rattle.cq_term.specs.Trees.{tree}
use Rattle.cq_clauses.specs.declared.list.End.TheVariants.{Last}
use Rattle.cq_clauses.specs.declared.procedures.Kind.TheVariants.{Static}
use Rattle.cq_resolve.specs.Database.{Program}
use Rattle.cq_catch.specs.Revised.{AddsStored}
use Rattle.cq_branch.specs.Worlds.{KnowsNothing}
use Rattle.cq_machine.specs.Machines.{database_of, now, terms}
use Rattle.cq_machine.specs.declared.machine.Machine.{Machine}

-- ---- over a heap

-- the clause is refused, and the term of the ball is on the heap
pub record IsRefused (texts : List Text) (ts : List HeapTerm) (ball : ℕ) (clause : Tree) : Type 0 where
  pub error : Tree
  pub refused : consult_error clause ≡ Some error
  pub live : ball < length ts
  pub is_ball : tree texts ts ball ≡ refusal_ball error

-- what a clause came to: it is lawful and was added, or it is refused
abbrev pub CameTo : List Text → List HeapTerm → Tree → Program → Program → Option ℕ → Type 0
CameTo texts ts clause old new None = (consult_error clause ≡ None) × AddsStored Last Static texts (head_body clause) old new
CameTo texts ts clause old new (Some ball) = IsRefused texts ts ball clause × (new ≡ old)

-- the same of the databases
abbrev pub IsConsulted : List Text → List HeapTerm → Tree → Database → Database → Option ℕ → Type 0
IsConsulted texts ts clause old new None = (consult_error clause ≡ None) × (new ≡ consulted clause old)
IsConsulted texts ts clause old new (Some ball) = IsRefused texts ts ball clause × (new ≡ old)

-- ---- in a machine

-- the clause was added as a file's, or it is refused
abbrev pub Consults : Machine → ℕ → Machine → Option ℕ → Type 0
Consults old id new r = IsConsulted new.atoms (terms new) (tree old.atoms (terms old) id) (database_of old) (database_of new) r

-- names and terms may have been added, and all but the clauses is as it was
pub record KeepsRest (old new : Machine) : Type 0 where
  pub atoms : IsPrefix old.atoms new.atoms
  pub terms : IsPrefix (terms old) (terms new)
  pub images : new.world.first.heap.now.images ≡ old.world.first.heap.now.images
  pub nothing : KnowsNothing old.atoms (now old).0 → KnowsNothing new.atoms (now new).0
  pub lists : new.world.second ≡ old.world.second
  pub choices : new.choices ≡ old.choices
  pub pivots : new.world.first.store.pivots ≡ old.world.first.store.pivots
