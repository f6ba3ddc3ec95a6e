-- The tableau that the quantities of a dictionary make with their forms over the variables.
use Rattle.std.specs.Prelude.{◌≡◌, ℕ, ◌<◌, List, [], length, map, slice_index_or, Bool}
use Rattle.spec_numbers.specs.Rational.{ℚ, 0ℚ}
use Rattle.spec_linear.specs.Form.{Linear, value_at, constant_form}
use Rattle.spec_simplex.specs.Tableau.{Row, Tableau, unit_of}
use Rattle.cq_form.specs.Entries.{products_of}
use Rattle.cq_frac.specs.declared.row.Entry.{Entry}
use Rattle.cq_dict.specs.declared.table.Role.{Role}
use Rattle.cq_dict.specs.declared.table.Role.TheVariants.{Live, Dropped, Basic}
use Rattle.cq_dict.specs.Roles.{IsMet, is_live, is_dropped, is_restricted, role_at}

-- the row of quantity q: a column's is the column itself
abbrev pub row_of : ℕ → Role → Row
row_of q Live = record { constant = 0ℚ; live = unit_of q; dropped = [] }
row_of q Dropped = record { constant = 0ℚ; live = []; dropped = unit_of q }
row_of q (Basic r) = record { constant = r.constant; live = products_of r.live; dropped = products_of r.dropped }

-- the form of quantity q; 0 past the end
abbrev pub form_at : List Linear → ℕ → Linear
form_at forms q = slice_index_or forms q (constant_form 0ℚ)

abbrev pub tableau : List Role → List Bool → List Linear → Tableau
tableau roles flags forms = record {
  count = length roles;
  form = form_at forms;
  is_restricted = is_restricted flags;
  is_live = is_live roles;
  is_dropped = is_dropped roles;
  row = λ q. row_of q (role_at roles q);
}

-- numbers meet the rows just where the forms give them at some assignment of the variables
pub record Describes (roles : List Role) (forms : List Linear) : Type 0 where
  pub size : length forms ≡ length roles
  pub agrees : (v : ℕ → ℚ) → IsMet (λ q. value_at v (form_at forms q)) roles
  pub defines : (x : ℕ → ℚ) → IsMet x roles → (v : ℕ → ℚ) × ((q : ℕ) → q < length roles → value_at v (form_at forms q) ≡ x q)

-- multipliers of columns as entries of a certificate, by the numbers of the columns' members
abbrev pub certified : (ℕ → ℕ) → List Entry → List (ℕ × ℚ)
certified number s = map (λ m. (number m.quantity, m.factor)) s
