-- A goal that asks for clauses of a predicate.
use Rattle.std.specs.Prelude.{◌≡◌, ◌<◌, ℕ, List, length, Bool, map, Some}
use Rattle.spec_numbers.specs.Texts.{Text}
use Rattle.spec_syntax.specs.Operators.{Ops}
use Rattle.spec_builtins.specs.Built.{indicator_of}
use Rattle.spec_builtins.specs.Clauses.{HeadBody, rule}
use Rattle.spec_branch.specs.Branch.{Branch}
use Rattle.spec_search.specs.Changes.{clause_match, clauses_for}
use Rattle.spec_search.specs.Replies.{Place, Reply, makes}
use Rattle.cq_term.specs.Texts.{AreDifferent}
use Rattle.cq_resolve.specs.Database.{Program, IsProgram, as_database, as_indicator}
use Rattle.cq_term.specs.declared.names.Pred.{Pred}
use Rattle.cq_settle.specs.Contents.{Contents}
use Rattle.spec_engine.specs.Cells.{Value, Stack}
use Rattle.spec_engine.specs.Standing.{removed_by}
use Rattle.cq_branch.specs.Worlds.{term_in, Placed}

-- At the place the goal asks for clauses of the predicate that are this one, of which the number is the term H:-B. The place's
-- database is that of the clauses, by names with these texts.
pub record IsAskedAt (texts : List Text) (v : Program) (choices : Stack Contents) (now : Value Contents) (pred : Pred) (id rest : ℕ)
    (p : Place) (behind : List Branch) (asked : HeadBody) : Type 0 where
  pub different : AreDifferent texts
  pub program : IsProgram texts v
  pub operators : Ops
  pub database : p.database ≡ as_database texts operators v
  pub place : Placed texts choices now rest p behind
  pub reads : term_in texts now.0 id ≡ Some (rule asked)
  pub name : pred.name < length texts
  pub indicator : as_indicator texts pred ≡ indicator_of asked.head

-- a child for each clause of the predicate
abbrev pub answers : Place → Bool → HeadBody → Reply
answers p removes asked = makes p (map (clause_match p (removed_by removes) asked) (clauses_for p asked.head))
