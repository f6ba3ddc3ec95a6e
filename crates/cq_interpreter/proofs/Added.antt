-- What the clauses of a program and its machine are where a file's clause was added or refused.
use Rattle.std.proofs.Common.{◌≡◌, ℕ, List, [], ◌∷◌, Option, Some, None, Result, Ok, Err, sym, subst}
use Rattle.std.specs.Prelude.{IfOk, OnErr, reverse}
use Rattle.std.specs.List.{AllByRecursion, zip}
use Rattle.std.specs.declared.alloc.AllocError.{AllocError}
use Rattle.spec_numbers.specs.Texts.{Text}
use Rattle.spec_syntax.specs.Trees.{Tree}
use Rattle.spec_builtins.specs.Clauses.{head_body}
use Rattle.spec_search.specs.Changes.{consulted}
use Rattle.spec_search.specs.Database.{Database}
use Rattle.cq_term.specs.Meaning.{HeapTerm}
use Rattle.cq_resolve.specs.Database.{Program, IsProgram}
use Rattle.cq_settle.specs.Contents.{Contents}
use Rattle.spec_engine.specs.Cells.{Value}
use Rattle.cq_branch.specs.Choices.{AreOpen, CanBeTried}
use Rattle.cq_branch.specs.declared.alternatives.Alternatives.{Alternatives}
use Rattle.cq_clauses.specs.declared.list.End.TheVariants.{Last}
use Rattle.cq_clauses.specs.declared.procedures.Kind.TheVariants.{Static}
use Rattle.cq_catch.specs.Revised.{AddsStored}
use Rattle.cq_interpreter.specs.Consulted.{CameTo, IsConsulted}

-- a program stays one
module _ (texts : List Text) (ts : List HeapTerm) (clause : Tree) (old new : Program) (was : IsProgram texts old) (added : AddsStored Last Static texts (head_body clause) old new → IsProgram texts new) where
  pub still_program : (r : Result (Option ℕ) AllocError) → IfOk r (CameTo texts ts clause old new) → OnErr r (new ≡ old) → IsProgram texts new
  still_program (Ok None) h e = added h.1
  still_program (Ok (Some ball)) h e = subst (IsProgram texts) (sym h.1) was
  still_program (Err fault) h e = subst (IsProgram texts) (sym e) was

-- what is so of the clauses is so of the database
module _ (old new : Program) (db after : Database) (same : new ≡ old → after ≡ db) where
  pub consults : (texts : List Text) (ts : List HeapTerm) (clause : Tree) → (AddsStored Last Static texts (head_body clause) old new → after ≡ consulted clause db)
      → (r : Option ℕ) → CameTo texts ts clause old new r → IsConsulted texts ts clause db after r
  consults texts ts clause added None h = (h.0, added h.1)
  consults texts ts clause added (Some ball) h = (h.0, same h.1)

  pub same_on_err : (r : Result (Option ℕ) AllocError) → OnErr r (new ≡ old) → OnErr r (after ≡ db)
  same_on_err (Ok x) e = tt
  same_on_err (Err fault) e = same e

-- no choice leaves anything to try
pub none_open : (texts : List Text) (v : Program) (saved : List (Value Contents)) (choices : List Alternatives) → choices ≡ [] → AreOpen texts v saved choices
none_open texts v saved choices e = subst (AreOpen texts v saved) (sym e) (empty (reverse saved))
  where
    empty : (xs : List (Value Contents)) → AllByRecursion (λ (c : Value Contents × Alternatives). CanBeTried texts v c.0.0.heap.terms c.1) (zip xs [])
    empty [] = tt
    empty (x ∷ xs) = tt
