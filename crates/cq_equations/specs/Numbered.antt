-- The variables of a table with their numbers.
use Rattle.std.specs.Prelude.{◌≡◌, ℕ, ◌+◌, List, [], ◌∷◌}
use Rattle.std.specs.List.{AllByRecursion}
use Rattle.cq_frac.specs.declared.row.Entry.{Entry}
use Rattle.cq_frac.specs.declared.VarId.{VarId}
use Rattle.cq_dict.specs.Roles.{Quantities}
use Rattle.cq_equations.specs.declared.table.Name.{Name}
use Rattle.cq_equations.specs.declared.table.Name.TheVariants.{Variable, Member}
use Rattle.cq_equations.specs.Contents.{Named, AreNamed, IsNamed}
use Rattle.cq_equations.specs.Marked.{AreMarked}

-- the variables, each with its number, where the first quantity's is n
abbrev pub numbers_from : ℕ → List Name → List (VarId × ℕ)
numbers_from n [] = []
numbers_from n (Variable x ∷ names) = (x, n) ∷ numbers_from (n + 1) names
numbers_from n (Member ∷ names) = numbers_from (n + 1) names

-- each entry is of a variable's quantity
abbrev pub AreOfVariables : List Name → List Entry → Type 0
AreOfVariables names s = AllByRecursion (λ m. (x : VarId) × IsNamed names m.quantity x) s

-- the entries tell each variable's number, now and at each mark
pub record IsNumbered (t : Named) (entries : List (VarId × ℕ)) (saved : List Quantities) : Type 0 where
  pub named : AreNamed t
  pub entries_are : entries ≡ numbers_from 0 t.names
  pub marks : AreMarked t.names saved
