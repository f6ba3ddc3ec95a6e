-- A program as goals and files change it.
use Rattle.std.specs.Prelude.{◌≡◌, ◌<◌, List, map, length, All}
use Rattle.std.specs.declared.option.Option.{Option}
use Rattle.spec_numbers.specs.Texts.{Text}
use Rattle.spec_syntax.specs.Operators.{Ops}
use Rattle.spec_builtins.specs.Clauses.{HeadBody, stored}
use Rattle.spec_search.specs.Database.{Clause, all_declared}
use Rattle.cq_term.specs.Texts.{AreDifferent}
use Rattle.cq_term.specs.Meaning.{HeapTerm}
use Rattle.cq_term.specs.Trees.{tree}
use Rattle.cq_term.specs.declared.names.Pred.{Pred}
use Rattle.cq_resolve.specs.StoredValue.{ClauseValue}
use Rattle.cq_clauses.specs.ClausesValue.{Adds}
use Rattle.cq_clauses.specs.Walks.{IsWalk, left}
use Rattle.cq_clauses.specs.declared.key.Key.{Key}
use Rattle.cq_clauses.specs.declared.list.End.{End}
use Rattle.cq_clauses.specs.declared.procedures.Kind.{Kind}
use Rattle.cq_clauses.specs.declared.walk.Walk.{Walk}
use Rattle.cq_goals.specs.Clauses.{IsOf, body_tree}
use Rattle.cq_goals.specs.declared.declarations.clauses.ClauseParts.{ClauseParts}
use Rattle.cq_resolve.specs.Database.{Program, IsProgram, IsCounted, as_parts, as_clause, as_database, as_indicator}
use Rattle.cq_resolve.specs.Keys.{key_of}

-- the key by which calls look for a clause
abbrev pub clause_key : ClauseValue → Option Key
clause_key c = key_of c.head

-- the clauses that a walk has left, as the definitions have them
abbrev pub shown : List Text → Walk → Program → List Clause
shown texts w v = map (as_clause texts v.contents) (left clause_key w v)

-- each walk that was begun goes on, and shows the same clauses
pub record KeepsShowing (old new : Program) : Type 0 where
  pub begun : (w : Walk) → IsWalk w old → IsWalk w new
  pub same : (texts : List Text) (w : Walk) → IsWalk w old → shown texts w new ≡ shown texts w old

-- ---- clauses that are added

-- the head and the body as the definitions have them
abbrev pub head_body_of : List Text → List HeapTerm → ClauseParts → HeadBody
head_body_of texts ts p = record { head = tree texts ts p.head; body = body_tree texts ts p.body }

-- a clause of this head and this body was put at an end of those of its predicate, as it is stored
pub record AddsStored (end : End) (kind : Kind) (texts : List Text) (parts : HeadBody) (old new : Program) : Type 0 where
  pub pred : Pred
  pub clause : ClauseValue
  pub of_head : IsOf texts pred parts.head
  pub counted : IsCounted (length texts) clause
  pub holds : as_parts texts clause ≡ stored parts
  pub adds : Adds end kind pred clause old new

-- ---- procedures that are made dynamic

-- the procedures of these predicates were made dynamic
pub record HasDeclared (preds : List Pred) (old new : Program) : Type 0 where
  pub database : (texts : List Text) (ops : Ops) → AreDifferent texts → IsProgram texts old → All (λ p. p.name < length texts) preds
      → as_database texts ops new ≡ all_declared (map (as_indicator texts) preds) (as_database texts ops old)
  pub program : (texts : List Text) → IsProgram texts old → All (λ p. p.name < length texts) preds → IsProgram texts new
