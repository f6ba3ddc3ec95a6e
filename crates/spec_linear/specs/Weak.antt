-- The weak list of a list: its equations, and its inequalities, strict ones as weak ones. Its solutions, and how far forms
-- reach on them, say whether the list itself has a solution.
use Rattle.std.specs.Prelude.{List, [], ◌∷◌}
use Rattle.spec_linear.specs.declared.Relation.{Relation}
use Rattle.spec_linear.specs.declared.Relation.TheVariants.{Eq, Gt, Ge, Ne}
use Rattle.spec_linear.specs.Form.{Linear}
use Rattle.spec_linear.specs.Solution.{Constraint}

-- f > 0
abbrev pub above_zero : Linear → Constraint
above_zero f = record { relation = Gt; form = f }

-- f >= 0
abbrev pub at_least_zero : Linear → Constraint
at_least_zero f = record { relation = Ge; form = f }

-- f =\= 0
abbrev pub not_zero : Linear → Constraint
not_zero f = record { relation = Ne; form = f }

-- the constraint of this relation and form, weakly, in front of others
abbrev pub with_weak : Relation → Linear → List Constraint → List Constraint
with_weak Eq f l = record { relation = Eq; form = f } ∷ l
with_weak Gt f l = at_least_zero f ∷ l
with_weak Ge f l = at_least_zero f ∷ l
with_weak Ne f l = l

-- strict constraints as weak ones, and no disequations
abbrev pub weak : List Constraint → List Constraint
weak [] = []
weak (c ∷ l) = with_weak c.relation c.form (weak l)
