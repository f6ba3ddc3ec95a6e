-- The errors of goals that read clauses.
use Rattle.std.specs.Prelude.{[], ◌∷◌, Option}
use Rattle.spec_syntax.specs.Trees.{Tree}
use Rattle.spec_builtins.specs.Built.{indicator_of}
use Rattle.spec_builtins.specs.Clauses.{first_error, error_if, clause_goal_error, not_readable}
use Rattle.spec_search.specs.Changes.{is_private}
use Rattle.spec_search.specs.Database.{Database}

-- the error of clause(H,B)
abbrev pub reading_error : Database → Tree → Tree → Option Tree
reading_error db h b =
    let i = indicator_of h in
    first_error (clause_goal_error h b ∷ error_if (is_private db i) (not_readable i) ∷ [])
