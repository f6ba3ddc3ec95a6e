-- Solutions in groups, as bagof and setof give them (ISO/IEC 13211-1, 8.10.2 and 8.10.3), over copies that carry constraints: which
-- variables of a goal are free, what is copied of each solution, and which copies are of one group.
use Rattle.std.specs.Prelude.{ℕ, zero, suc, List, [], ◌∷◌, ◌++◌, length, map, filter, fold, Bool, true, false, if◌then◌else◌, not, ◌&&◌, ◌==◌, bytes_eq, codes}
use Rattle.std.specs.List.{list_any}
use Rattle.std.specs.declared.cmp.Ordering.{Ordering}
use Rattle.std.specs.declared.cmp.Ordering.TheVariants.{Less, Equal, Greater}
use Rattle.spec_terms.specs.Term.{Var, Compound, one, more, with_arguments}
use Rattle.spec_terms.specs.Variables.{variables, variables_after, renamed_from}
use Rattle.spec_terms.specs.Order.{compare_terms}
use Rattle.spec_syntax.specs.Trees.{Tree}
use Rattle.spec_builtins.specs.Built.{compound2}
use Rattle.spec_branch.specs.Branch.{Copied}

-- ---- the goal, and its free variables

-- without `V^` from the left, as far as the goal is so
abbrev pub without_carets : Tree → Tree
without_carets (Compound f (more v (one g))) = if bytes_eq f (codes "^") then without_carets g else Compound f (more v (one g))
without_carets t = t

-- the terms V that are taken off
abbrev pub caret_terms : Tree → List Tree
caret_terms (Compound f (more v (one g))) = if bytes_eq f (codes "^") then v ∷ caret_terms g else []
caret_terms t = []

-- the variable is one of these
abbrev pub is_among : List ℕ → ℕ → Bool
is_among vs v = list_any (λ w. w == v) vs

-- the variables of the goal that stand neither in the template nor in a V, by first occurrence
abbrev pub free_variables : Tree → Tree → List ℕ
free_variables t g = filter (λ v. not (is_among (fold variables_after (variables t) (caret_terms g)) v)) (variables (without_carets g))

-- they as one term, `v(..)`, and `v` where there is none
abbrev pub witness : List ℕ → Tree
witness vs = with_arguments (codes "v") (map Var vs)

-- what is copied of each solution: the free variables and the template
abbrev pub collected_term : Tree → Tree → Tree
collected_term t g = compound2 "-" (witness (free_variables t g)) t

-- the two parts of what was copied
abbrev pub free_part : Tree → Tree
free_part (Compound f (more a (one b))) = a
free_part t = t

-- the template as it was copied, behind the free variables
abbrev pub template_part : Tree → Tree
template_part (Compound f (more a (one b))) = b
template_part t = t

-- ---- groups

-- the terms are identical: neither comes first in the order of terms
abbrev pub is_same : Tree → Tree → Bool
is_same a b = elim (compare_terms a b) [ Less ↦ false | Equal ↦ true | Greater ↦ false ]

-- A numeric variable stands in the free part: its value is not known, so the copy is a group by itself.
abbrev pub is_apart : Copied → Bool
is_apart c = list_any (is_among c.numeric) (variables (free_part c.term))

-- neither is apart, and the free parts are variants: they are one term once their variables are numbered
abbrev pub are_together : Copied → Copied → Bool
are_together c d = not (is_apart c) && not (is_apart d) && is_same (renamed_from 0 (free_part c.term)) (renamed_from 0 (free_part d.term))

-- the first copy with all later ones that go together with it, and the groups of the others
pub data Groups : List Copied → List (List Copied) → Type 0 where
  none : Groups [] []
  first : {c : Copied} {cs : List Copied} {gs : List (List Copied)} → Groups (filter (λ d. not (are_together c d)) cs) gs
      → Groups (c ∷ cs) ((c ∷ filter (are_together c) cs) ∷ gs)

-- the groups, where there are so many at most
abbrev pub groups_within : ℕ → List Copied → List (List Copied)
groups_within zero cs = []
groups_within (suc n) [] = []
groups_within (suc n) (c ∷ cs) = (c ∷ filter (are_together c) cs) ∷ groups_within n (filter (λ d. not (are_together c d)) cs)

-- no more groups than copies
abbrev pub groups : List Copied → List (List Copied)
groups cs = groups_within (length cs) cs
