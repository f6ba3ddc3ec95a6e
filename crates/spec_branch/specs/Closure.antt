-- Waiting terms become linear, in any order, until none can (Holzbaur 1995).
use Rattle.std.specs.Prelude.{◌≡◌, List, [], ◌∷◌, ◌++◌, Some}
use Rattle.spec_linear.specs.Solution.{Constraint, Solvable}
use Rattle.spec_numbers.specs.Texts.{Text}
use Rattle.spec_terms.specs.Term.{Subst, apply}
use Rattle.spec_syntax.specs.Trees.{Tree}
use Rattle.spec_branch.specs.Relations.{Lin, row_of, IsLin}

-- over a solvable list one waiting term is linear or false: it leaves, and its constraint joins
pub record IsMove (s : Subst Text) (l : List Constraint) (w : List Tree) (l' : List Constraint) (w' : List Tree) : Type 0 where
  pub before : List Tree
  pub term : Tree
  pub after : List Tree
  pub among : w ≡ before ++ term ∷ after
  pub solvable : Solvable l
  pub result : Lin Constraint
  pub is_lin : IsLin l (apply s term) result
  pub row : Constraint
  pub row_is : row_of result ≡ Some row
  pub joins : l' ≡ l ++ row ∷ []
  pub leaves : w' ≡ before ++ after

-- moves one after another
pub data Moves (s : Subst Text) : List Constraint → List Tree → List Constraint → List Tree → Type 0 where
  no_move : {l : List Constraint} {w : List Tree} → Moves s l w l w
  move : {l l' l'' : List Constraint} {w w' w'' : List Tree} → IsMove s l w l' w' → Moves s l' w' l'' w''
      → Moves s l w l'' w''

-- what moves reach where no move is possible
pub record IsClosure (s : Subst Text) (l : List Constraint) (w : List Tree) (l' : List Constraint) (w' : List Tree) : Type 0 where
  pub moves : Moves s l w l' w'
  pub closed : (m : List Constraint) (x : List Tree) → IsMove s l' w' m x → ⊥
