-- The variables that an answer is wanted of, in their order.
use Rattle.std.specs.Prelude.{ℕ, List, ◌++◌, map, filter, fold, not}
use Rattle.spec_terms.specs.Variables.{variables_after}
use Rattle.spec_syntax.specs.TextTokens.{VariableName}
use Rattle.spec_syntax.specs.Trees.{Tree}
use Rattle.spec_builtins.specs.Built.{compound2}
use Rattle.spec_branch.specs.Branch.{State, Asleep, Frozen, read}
use Rattle.spec_branch.specs.Settling.{is_bound}
use Rattle.spec_answers.specs.Lines.{is_hidden}

-- the term that is printed for what sleeps
abbrev pub asleep_term : Asleep → Tree
asleep_term (Frozen x g) = compound2 "freeze" x g

-- a variable whose name begins with `_` is no query variable
abbrev pub query_variables : List VariableName → List VariableName
query_variables names = filter (λ n. not (is_hidden n.name)) names

-- the query variables that are bound
abbrev pub bound_queries : List VariableName → State → List VariableName
bound_queries names st = filter (λ n. is_bound st.bindings n.number) (query_variables names)

-- the query variables that are not bound
abbrev pub free_queries : List VariableName → State → List VariableName
free_queries names st = filter (λ n. not (is_bound st.bindings n.number)) (query_variables names)

-- the terms of the bindings' lines, the delayed constraints and the suspended goals, as they read
abbrev pub shown_terms : List VariableName → State → List Tree
shown_terms names st = map (λ n. st.bindings n.number) (bound_queries names st) ++ map (read st) st.delayed
    ++ map (λ s. read st (asleep_term s.asleep)) st.sleepers

-- the unbound query variables, then the others of those terms by first occurrence
abbrev pub wanted : List VariableName → State → List ℕ
wanted names st = fold variables_after (map (λ n. n.number) (free_queries names st)) (shown_terms names st)
