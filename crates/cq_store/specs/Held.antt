-- What a store holds, now and at its marks: the told list, and names and quantities.
use Rattle.std.specs.Prelude.{◌≡◌, ℕ, ◌≤◌, List, slice_get, Some}
use Rattle.spec_linear.specs.Solution.{Constraint}
use Rattle.spec_numbers.specs.Prefixes.{IsPrefix}
use Rattle.cq_frac.specs.declared.VarId.{VarId}
use Rattle.cq_dict.specs.Roles.{Quantities}
use Rattle.cq_tableau.specs.declared.names.Name.{Name}
use Rattle.cq_tableau.specs.Stored.{IsStored}
use Rattle.cq_tableau.specs.Numbered.{AreNumbered}

-- what is held at one time is stored
abbrev pub AreStored : List Constraint × (List Name × Quantities) → Type 0
AreStored h = IsStored h.0 h.1.0 h.1.1

-- it is so now and at each mark, the names at a mark are the first ones of later marks and of now, and they are looked up
pub record IsHeld (now : List Constraint × (List Name × Quantities)) (saved : List (List Constraint × (List Name × Quantities)))
    (entries : List (VarId × ℕ)) : Type 0 where
  pub stored : AreStored now
  pub numbered : AreNumbered now.1.0 entries
  pub marks : (k : ℕ) (h : List Constraint × (List Name × Quantities)) → slice_get saved k ≡ Some h → AreStored h
  pub grows : (k : ℕ) (h : List Constraint × (List Name × Quantities)) → slice_get saved k ≡ Some h → IsPrefix h.1.0 now.1.0
  pub sorted : (j k : ℕ) (g h : List Constraint × (List Name × Quantities)) → slice_get saved j ≡ Some g → slice_get saved k ≡ Some h → j ≤ k
      → IsPrefix g.1.0 h.1.0
