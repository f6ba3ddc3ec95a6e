-- The entry that is written of a list and a certificate.
use Rattle.std.specs.Prelude.{ℕ, suc, List, [], ◌∷◌, ◌++◌, map, Bool, if◌then◌else◌, ◌==◌}
use Rattle.std.specs.List.{list_any, position_or_len}
use Rattle.spec_numbers.specs.Rational.{ℚ}
use Rattle.spec_numbers.specs.Sums.{Monomial}
use Rattle.spec_linear.specs.Form.{with_product}
use Rattle.spec_linear.specs.Solution.{Constraint}
use Rattle.spec_linear.specs.Certificate.{member}
use Rattle.spec_log.specs.Log.{Run, Runs, one, two, Entry}
use Rattle.spec_log.specs.Verdicts.{is_disequation_in}

-- ---- variables by first occurrence, those of a member by age

-- one more variable, unless it is there
abbrev pub with_variable : List ℕ → ℕ → List ℕ
with_variable vs x = if list_any (λ w. w == x) vs then vs else vs ++ x ∷ []

-- and those of products
abbrev pub with_products : List ℕ → List Monomial → List ℕ
with_products vs [] = vs
with_products vs (m ∷ s) = with_products (with_variable vs m.variable) s

-- and those of the members of a list
abbrev pub with_members : List ℕ → List Constraint → List ℕ
with_members vs [] = vs
with_members vs (c ∷ cs) = with_members (with_products vs c.form.products) cs

-- a variable's number, from 1
abbrev pub number_of : List ℕ → ℕ → ℕ
number_of vs x = suc (position_or_len (λ w. w == x) vs)

-- ascending by number
abbrev pub numbered_products : List ℕ → List Monomial → List Monomial
numbered_products vs [] = []
numbered_products vs (m ∷ s) = with_product (record { variable = number_of vs m.variable; factor = m.factor }) (numbered_products vs s)

-- a member with the numbers for its variables
abbrev pub numbered : List ℕ → Constraint → Constraint
numbered vs c = record c { form = record { products = numbered_products vs c.form.products; constant = c.form.constant } }

-- the members of a list with the numbers that their variables have in it
abbrev pub numbered_list : List Constraint → List Constraint
numbered_list l = map (numbered (with_members [] l)) l

-- ---- the runs of a certificate

-- up to the next entry of a number
abbrev pub up_to : ℕ → Run → Run
up_to n [] = []
up_to n (e ∷ r) = if e.0 == n then [] else e ∷ up_to n r

-- from the next entry of a number on
abbrev pub from_there : ℕ → Run → Run
from_there n [] = []
from_there n (e ∷ r) = if e.0 == n then e ∷ r else from_there n r

-- two, where it begins with a disequation
abbrev pub runs_of : List Constraint → Run → Runs
runs_of l [] = one []
runs_of l (e ∷ r) = if is_disequation_in (member l e.0) then two (e ∷ up_to e.0 r) (from_there e.0 r) else one (e ∷ r)

-- the list with its variables numbered, and the runs of the certificate
abbrev pub entry_of : List Constraint → Run → Entry
entry_of l cert = record { list = numbered_list l; runs = runs_of l cert }
