-- A form that is asked of a store: it is a row behind the quantities that have names.
use Rattle.std.specs.Prelude.{◌≡◌, ℕ, List, [], ◌∷◌, ◌++◌, length, false}
use Rattle.spec_linear.specs.Form.{Linear, IsForm}
use Rattle.cq_frac.specs.declared.Pair.{Pair}
use Rattle.cq_frac.specs.declared.row.Entry.{Entry}
use Rattle.cq_dict.specs.Roles.{Quantities, AreOverColumns}
use Rattle.cq_dict.specs.Dict.{AddsRow, DefinesLast, RefusesForm}
use Rattle.cq_tableau.specs.declared.names.Name.{Name}
use Rattle.cq_tableau.specs.Stored.{StaysStored, IsPlaced}

-- new variables have got columns, and then the form is the row of number n
pub record AsksForm (names : List Name) (q : Quantities) (f : Linear) (new_names : List Name) (new : Quantities) (n : ℕ) : Type 0 where
  pub entries : List Entry
  pub before : Quantities
  pub stays : StaysStored names q new_names before
  pub placed : IsPlaced new_names f.products entries
  pub row : AddsRow before.roles entries f.constant new.roles
  pub defines : DefinesLast before.roles entries f.constant new.roles
  pub table : AreOverColumns new.roles
  pub flags : new.restricted ≡ before.restricted ++ false ∷ []
  pub number : n ≡ length before.roles

-- an operation of adding the form refuses the pair
pub record RefusesAsking (names : List Name) (q : Quantities) (f : Linear) (pair : Pair) : Type 0 where
  pub entries : List Entry
  pub new_names : List Name
  pub before : Quantities
  pub stays : StaysStored names q new_names before
  pub placed : IsPlaced new_names f.products entries
  pub ordered : IsForm f
  pub refused : RefusesForm before.roles entries f.constant pair
