-- The row of discontiguous(P), by its declaration.
use Rattle.std.proofs.Common.{◌≡◌, List, Option, None, Some, sym, ap, ap₂, ◌∙◌}
use Rattle.spec_syntax.specs.Trees.{Tree}
use Rattle.spec_builtins.specs.Built.{Indicator}
use Rattle.spec_builtins.specs.Errors.{or_error}
use Rattle.spec_builtins.specs.Clauses.{declarations, declaration_error}
use Rattle.spec_search.specs.Builtins.{is_built_in}
use Rattle.spec_search.specs.Changes.{discontiguous_row}
use Rattle.spec_search.specs.Replies.{Place, Raises, goes_on, unless_error}
use Rattle.cq_goals.specs.Declarations.{own_error, built_in_error}

-- the errors of a declaration are looked for in turn
abbrev pub IsInTurn : Tree → Type 0
IsInTurn t = declaration_error is_built_in t ≡ or_error (own_error t) (built_in_error is_built_in (declarations t))

-- the row by the error of its declaration
row_by : (p : Place) (t : Tree) (o : Option Tree) → declaration_error is_built_in t ≡ o → discontiguous_row p t ≡ unless_error o (goes_on p p.rest)
row_by p t o e = ap (λ (x : Option Tree). unless_error x (goes_on p p.rest)) e

-- by the term's own error
pub row_own : (p : Place) (t : Tree) (e : Tree) → IsInTurn t → own_error t ≡ Some e → discontiguous_row p t ≡ Raises e
row_own p t e turn own = row_by p t (Some e) (turn ∙ ap (λ (o : Option Tree). or_error o (built_in_error is_built_in (declarations t))) own)

-- by what is found among its predicates
pub row_of_all : (p : Place) (t : Tree) (is : List Indicator) (o : Option Tree) → IsInTurn t → own_error t ≡ None → is ≡ declarations t → built_in_error is_built_in is ≡ o
    → discontiguous_row p t ≡ unless_error o (goes_on p p.rest)
row_of_all p t is o turn own are found =
    row_by p t o (turn ∙ ap₂ (λ (x : Option Tree) (l : List Indicator). or_error x (built_in_error is_built_in l)) own (sym are) ∙ found)
