-- How far the query of `gen` came.
use Rattle.std.specs.Prelude.{ℕ, List, [], ◌∷◌, Bool, codes}
use Rattle.spec_numbers.specs.Texts.{Text}
use Rattle.spec_syntax.specs.TextTokens.{VariableName}
use Rattle.spec_search.specs.Search.{Search}
use Rattle.spec_command.specs.Outcome.{GenFrom, gen_budgets}

-- V is the variable n, and no other has a name
abbrev pub gen_names : ℕ → List VariableName
gen_names n = record { name = codes "V"; number = n } ∷ []

-- A search has come to one for which an interpreter stands, by so many answers, of which the last shows V as this text: what is
-- written from there on is what the search writes.
pub record HasCounted (n : ℕ) (Stands : Search → Type 0) (k : ℕ) (text : Text) (s : Search) : Type 0 where
  pub reached : Search
  pub stands : Stands reached
  pub from : (line : Text) (stopped : Bool) → GenFrom gen_budgets n line stopped k text reached → GenFrom gen_budgets n line stopped 0 [] s
