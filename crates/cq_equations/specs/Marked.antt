-- A table as its callers see it, and its names at the marks.
use Rattle.std.specs.Prelude.{◌≡◌, ℕ, ◌≤◌, List, length, take, slice_get, Some}
use Rattle.cq_dict.specs.Roles.{Quantities}
use Rattle.cq_equations.specs.declared.table.Name.{Name}
use Rattle.cq_equations.specs.Contents.{Named, AreNamed}

-- the quantities now and at the live marks, the oldest first, and how many marks find their memory set aside
pub record TableValue : Type 0 where
  pub now : Named
  pub saved : List Named
  pub room : ℕ

-- quantities that were there before, with their names: no name changes
abbrev pub named_at : List Name → Quantities → Named
named_at names q = record { names = take (length q.roles) names; roles = q.roles }

-- at each mark the quantities had names, and a later mark has no fewer of them
pub record AreMarked (names : List Name) (saved : List Quantities) : Type 0 where
  pub named : (k : ℕ) (q : Quantities) → slice_get saved k ≡ Some q → AreNamed (named_at names q)
  pub sorted : (j k : ℕ) (p q : Quantities) → slice_get saved j ≡ Some p → slice_get saved k ≡ Some q → j ≤ k → length p.roles ≤ length q.roles
