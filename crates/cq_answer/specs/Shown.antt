-- What a heap shows at an answer: query variables, their terms, and what waits.
use Rattle.std.specs.Prelude.{ℕ, ◌<◌, ◌&&◌, Bool, not, List, [], ◌∷◌, ◌++◌, map, filter, length, ⊤}
use Rattle.spec_numbers.specs.Texts.{Text}
use Rattle.spec_terms.specs.Term.{Subst}
use Rattle.spec_terms.specs.VariableName.{VariableName}
use Rattle.spec_syntax.specs.Trees.{Tree}
use Rattle.spec_builtins.specs.Built.{compound2}
use Rattle.spec_branch.specs.Settling.{is_bound}
use Rattle.spec_answers.specs.Lines.{is_hidden}
use Rattle.spec_answers.specs.Targets.{query_variables}
use Rattle.cq_term.specs.HeapValue.{Terms}
use Rattle.cq_term.specs.Trees.{tree}
use Rattle.cq_attr.specs.Attributes.{Attributes}
use Rattle.cq_attr.specs.declared.susp.Susp.{Susp}
use Rattle.cq_attr.specs.declared.susp.Susp.TheVariants as susp

-- ---- query variables, by what the variables are

abbrev pub shows_bound : Subst Text → VariableName → Bool
shows_bound s n = not (is_hidden n.name) && is_bound s n.number

abbrev pub shows_free : Subst Text → VariableName → Bool
shows_free s n = not (is_hidden n.name) && not (is_bound s n.number)

abbrev pub bound_in : Subst Text → List VariableName → List VariableName
bound_in s names = filter (λ n. is_bound s n.number) (query_variables names)

abbrev pub free_in : Subst Text → List VariableName → List VariableName
free_in s names = filter (λ n. not (is_bound s n.number)) (query_variables names)

-- ---- terms

-- what the bound query variables are
abbrev pub bound_trees : Subst Text → List VariableName → List Tree
bound_trees s names = map (λ n. s n.number) (bound_in s names)

-- what waits, in the order of suspension
abbrev pub all_waiting : Attributes → List Susp
all_waiting a = map (λ k. k.susp) a.waiting

-- the constraints that wait to become linear
abbrev pub constraint_trees : List Text → Terms → List Susp → List Tree
constraint_trees texts h [] = []
constraint_trees texts h (susp.Delayed id ∷ ks) = tree texts h.terms id ∷ constraint_trees texts h ks
constraint_trees texts h (susp.Goal v id ∷ ks) = constraint_trees texts h ks

-- the goals that sleep, each as freeze(X,G)
abbrev pub goal_trees : List Text → Terms → List Susp → List Tree
goal_trees texts h [] = []
goal_trees texts h (susp.Delayed id ∷ ks) = goal_trees texts h ks
goal_trees texts h (susp.Goal v id ∷ ks) = compound2 "freeze" (tree texts h.images v.0) (tree texts h.terms id) ∷ goal_trees texts h ks

-- the terms that an answer shows
abbrev pub shown_trees : List Text → Terms → List VariableName → List Susp → List Tree
shown_trees texts h names ks = bound_trees (tree texts h.images) names ++ constraint_trees texts h ks ++ goal_trees texts h ks

-- ---- what waits stands in the heap

abbrev pub IsLive : Terms → Susp → Type 0
IsLive h (susp.Delayed id) = id < length h.terms
IsLive h (susp.Goal v id) = (v.0 < length h.images) × (id < length h.terms)

abbrev pub AreLive : Terms → List Susp → Type 0
AreLive h [] = ⊤
AreLive h (k ∷ ks) = IsLive h k × AreLive h ks
