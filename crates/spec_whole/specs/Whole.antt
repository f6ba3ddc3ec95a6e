-- How far a form falls on the solutions that are whole on some variables, and the search for it by bounds (Land and Doig 1960).
use Rattle.std.specs.Prelude.{◌≡◌, ℕ, suc, List, [], ◌∷◌, ◌++◌, map, Option, Some, None, ℤ, ⊤}
use Rattle.std.specs.List.{AllByRecursion}
use Rattle.spec_numbers.specs.Rational.{ℚ, 1ℚ, int_ℚ, ◌+ℚ◌, ◌-ℚ◌, ◌<ℚ◌, ◌≤ℚ◌}
use Rattle.spec_linear.specs.declared.Relation.TheVariants.{Ge}
use Rattle.spec_linear.specs.Form.{Linear, value_at, constant_form, variable_form, difference_form}
use Rattle.spec_linear.specs.Solution.{Constraint, Point, number, Solves, Solvable, Unsolvable, Fixed, Satisfies, Has, equal_to}
use Rattle.spec_linear.specs.Weak.{weak}
use Rattle.spec_linear.specs.Extremes.{IsInfimum}

-- ---- whole solutions

-- the rational is a whole number
pub record IsWhole (q : ℚ) : Type 0 where
  pub whole : ℤ
  pub is : q ≡ int_ℚ whole

-- each of the variables has a whole number there
abbrev pub IsWholeOn : List ℕ → Point → Type 0
IsWholeOn xs p = AllByRecursion (λ x. IsWhole (number p x)) xs

-- no solution that is whole on the variables gives the form less than q, and one gives less than any number above q
pub record IsWholeInfimum (l : List Constraint) (xs : List ℕ) (f : Linear) (q : ℚ) : Type 0 where
  pub bound : (p : Point) → Solves p l → IsWholeOn xs p → q ≤ℚ value_at (number p) f
  pub greatest : (r : ℚ) → q <ℚ r → (p : Point) × Solves p l × IsWholeOn xs p × (value_at (number p) f <ℚ r)

-- no solution is whole on these variables
abbrev pub HasNoWhole : List Constraint → List ℕ → Type 0
HasNoWhole l xs = (p : Point) → Solves p l → IsWholeOn xs p → ⊥

-- ---- bounds

-- x =< q
abbrev pub at_most : ℕ → ℚ → Constraint
at_most x q = record { relation = Ge; form = difference_form (constant_form q) (variable_form x) }

-- x >= q
abbrev pub at_least : ℕ → ℚ → Constraint
at_least x q = record { relation = Ge; form = difference_form (variable_form x) (constant_form q) }

-- the greatest whole number that isn't above q
pub record IsFloor (q : ℚ) (n : ℤ) : Type 0 where
  pub below : int_ℚ n ≤ℚ q
  pub next_above : q <ℚ int_ℚ n +ℚ 1ℚ

-- by which a node is split at a variable that has the value q in an optimum: around a whole number three ways, else two
pub data Splits (x : ℕ) (q : ℚ) : List Constraint → Type 0 where
  around : IsWhole q → Splits x q (equal_to x q ∷ at_most x (q -ℚ 1ℚ) ∷ at_least x (q +ℚ 1ℚ) ∷ [])
  between : {n : ℤ} → (IsWhole q → ⊥) → IsFloor q n → Splits x q (at_most x (int_ℚ n) ∷ at_least x (int_ℚ n +ℚ 1ℚ) ∷ [])

-- ---- optima

-- among the solutions of the list without disequations and with strict inequalities as weak ones, one where the form is least gives the variables
-- these values
pub record IsCorner (l : List Constraint) (f : Linear) (a : ℕ → ℚ) : Type 0 where
  pub solves : Satisfies a (weak l)
  pub least : (b : ℕ → ℚ) → Satisfies b (weak l) → value_at a f ≤ℚ value_at b f

-- ---- the search

-- how many nodes were opened, the least infimum of a leaf, and the nodes that are left, the next one first
pub record Standing : Type 0 where
  pub opened : ℕ
  pub best : Option ℚ
  pub nodes : List (List Constraint)

-- below the best leaf
abbrev pub IsBelow : Option ℚ → ℚ → Type 0
IsBelow None q = ⊤
IsBelow (Some b) q = q <ℚ b

-- the list is solvable, and its infimum, which is q, is below the best leaf
pub record IsOpened (l : List Constraint) (f : Linear) (best : Option ℚ) (q : ℚ) : Type 0 where
  pub solvable : Solvable l
  pub infimum : IsInfimum l f q
  pub below : IsBelow best q

-- each variable is fixed at a whole number
abbrev pub AreWhole : List Constraint → List ℕ → Type 0
AreWhole l xs = AllByRecursion (λ x. (q : ℚ) × Fixed l x q × IsWhole q) xs

-- some variable is fixed at another number
abbrev pub SomeBroken : List Constraint → List ℕ → Type 0
SomeBroken l xs = (x : ℕ) × (q : ℚ) × Has x xs × Fixed l x q × (IsWhole q → ⊥)

-- the variable is the first that isn't fixed, and each that is is a whole number
pub record IsFirstFree (l : List Constraint) (xs : List ℕ) (x : ℕ) : Type 0 where
  pub before : List ℕ
  pub after : List ℕ
  pub among : xs ≡ before ++ x ∷ after
  pub fixed : AllByRecursion (λ y. (q : ℚ) × Fixed l y q) before
  pub free : (q : ℚ) → Fixed l x q → ⊥
  pub whole : (y : ℕ) (q : ℚ) → Has y xs → Fixed l y q → IsWhole q

module _ (xs : List ℕ) (f : Linear) where
  -- what becomes of the next node
  pub data Looks : Standing → Standing → Type 0 where
    -- it has no solution
    empty : {s : Standing} {l : List Constraint} {ls : List (List Constraint)} → s.nodes ≡ l ∷ ls → Unsolvable l
        → Looks s (record s { nodes = ls })
    -- its infimum is not below the best leaf
    no_better : {s : Standing} {l : List Constraint} {ls : List (List Constraint)} {b q : ℚ} → s.nodes ≡ l ∷ ls → Solvable l → IsInfimum l f q
        → s.best ≡ Some b → b ≤ℚ q → Looks s (record s { nodes = ls })
    leaf : {s : Standing} {l : List Constraint} {ls : List (List Constraint)} {q : ℚ} → s.nodes ≡ l ∷ ls → IsOpened l f s.best q → AreWhole l xs
        → Looks s (record { opened = suc s.opened; best = Some q; nodes = ls })
    broken : {s : Standing} {l : List Constraint} {ls : List (List Constraint)} {q : ℚ} → s.nodes ≡ l ∷ ls → IsOpened l f s.best q → SomeBroken l xs
        → Looks s (record s { opened = suc s.opened; nodes = ls })
    splits : {s : Standing} {l : List Constraint} {ls : List (List Constraint)} {q : ℚ} {x : ℕ} {a : ℕ → ℚ} {bounds : List Constraint}
        → s.nodes ≡ l ∷ ls → IsOpened l f s.best q → IsFirstFree l xs x → IsCorner l f a → Splits x (a x) bounds
        → Looks s (record s { opened = suc s.opened; nodes = map (λ c. l ++ c ∷ []) bounds ++ ls })

  pub data Searches : Standing → Standing → Type 0 where
    here : {s : Standing} → Searches s s
    on : {r s t : Standing} → Searches r s → Looks s t → Searches r t

-- before the first node
abbrev pub begun : List Constraint → Standing
begun l = record { opened = 0; best = None; nodes = l ∷ [] }

-- the list is a node of the search
pub record IsNode (l : List Constraint) (xs : List ℕ) (f : Linear) (m : List Constraint) : Type 0 where
  pub at : Standing
  pub reached : Searches xs f (begun l) at
  pub among : Has m at.nodes

-- in such a search n nodes are opened, and another is to be opened
pub record AreNodesDue (l : List Constraint) (xs : List ℕ) (f : Linear) (n : ℕ) : Type 0 where
  pub at : Standing
  pub reached : Searches xs f (begun l) at
  pub opened : at.opened ≡ n
  pub next : List Constraint
  pub others : List (List Constraint)
  pub nodes : at.nodes ≡ next ∷ others
  pub infimum : ℚ
  pub is_opened : IsOpened next f at.best infimum

-- no node is left
abbrev pub HasSearched : List Constraint → List ℕ → Linear → Option ℚ → Type 0
HasSearched l xs f best = (n : ℕ) × Searches xs f (begun l) (record { opened = n; best = best; nodes = [] })
