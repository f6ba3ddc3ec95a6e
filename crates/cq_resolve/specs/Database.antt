-- The clauses of a program as the database that the definitions of the search change and read.
use Rattle.std.specs.Prelude.{◌≡◌, ℕ, ◌<◌, List, map, length, slice_index_or, All}
use Rattle.spec_numbers.specs.Texts.{Text}
use Rattle.spec_terms.specs.Term.{named}
use Rattle.spec_terms.specs.Variables.{variables, counted_from}
use Rattle.spec_syntax.specs.Operators.{Ops}
use Rattle.spec_builtins.specs.Built.{Indicator, indicator}
use Rattle.spec_builtins.specs.Clauses.{HeadBody}
use Rattle.spec_search.specs.Database as search
use Rattle.cq_term.specs.Texts.{text_of}
use Rattle.cq_term.specs.declared.names.Pred.{Pred}
use Rattle.cq_term.specs.Meaning.{blank}
use Rattle.cq_resolve.specs.StoredValue.{ClauseValue, both, HaveNamesBelow}
use Rattle.cq_clauses.specs.ClausesValue.{ClausesValue}
use Rattle.cq_clauses.specs.Database.{ProcedureNow, database}
use Rattle.cq_clauses.specs.declared.list.End.{End}
use Rattle.cq_clauses.specs.declared.list.End.TheVariants as end
use Rattle.cq_clauses.specs.declared.procedures.Kind.{Kind}
use Rattle.cq_clauses.specs.declared.procedures.Kind.TheVariants as kind

-- what each clause holds, by its number, and the procedures
abbrev pub Program : Type 0
Program = ClausesValue ClauseValue

-- ---- as the definitions have it: names are texts

abbrev pub as_kind : Kind → search.Kind
as_kind kind.Static = search.Static
as_kind kind.Dynamic = search.Dynamic

abbrev pub as_end : End → search.End
as_end end.First = search.First
as_end end.Last = search.Last

abbrev pub as_indicator : List Text → Pred → Indicator
as_indicator texts pred = indicator (text_of texts pred.name) pred.arity

abbrev pub as_parts : List Text → ClauseValue → HeadBody
as_parts texts c = record { head = named (text_of texts) c.head; body = named (text_of texts) c.body }

-- what a clause holds by its number; blank stands past the end
abbrev pub content_at : List ClauseValue → ℕ → ClauseValue
content_at contents n = slice_index_or contents n (record { head = blank; body = blank; variables = 0 })

abbrev pub as_clause : List Text → List ClauseValue → ℕ → search.Clause
as_clause texts contents n = record { number = n; parts = as_parts texts (content_at contents n) }

abbrev pub as_procedure : List Text → List ClauseValue → ProcedureNow → search.Procedure
as_procedure texts contents p = record {
  indicator = as_indicator texts p.pred;
  kind = as_kind p.kind;
  clauses = map (as_clause texts contents) p.clauses;
}

-- the operators are kept elsewhere
abbrev pub as_database : List Text → Ops → Program → search.Database
as_database texts ops v = record {
  procedures = map (as_procedure texts v.contents) (database v.procedures);
  operators = ops;
  next_clause = length v.contents;
}

-- ---- what a program keeps

-- its names are among the first so many, and its variables are numbered by first occurrence
pub record IsCounted (names : ℕ) (c : ClauseValue) : Type 0 where
  pub below : HaveNamesBelow names c
  pub numbered : variables (both c.head c.body) ≡ counted_from 0 c.variables

-- the predicate's name is among the first so many, and the clauses are among those that were added
pub record IsKnown (names clauses : ℕ) (p : ProcedureNow) : Type 0 where
  pub name : p.pred.name < names
  pub numbers : All (λ n. n < clauses) p.clauses

pub record IsProgram (texts : List Text) (v : Program) : Type 0 where
  pub contents : All (IsCounted (length texts)) v.contents
  pub procedures : All (IsKnown (length texts) (length v.contents)) (database v.procedures)
