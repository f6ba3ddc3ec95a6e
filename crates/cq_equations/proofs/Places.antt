-- What is read at a place of a row, and of a list of names.
use Rattle.std.proofs.Common.{◌≡◌, ℕ, zero, suc, ◌+◌, ◌<◌, List, [], ◌∷◌, length, get_or, None, Some, arith, refl, ap, slice_get}
use Rattle.spec_linear.specs.Solution.{Has}
use Rattle.cq_frac.specs.declared.VarId.{VarId}
use Rattle.cq_frac.specs.declared.row.Entry.{Entry}
use Rattle.cq_frac.specs.Rows.{IsRowFrom}
use Rattle.cq_frac.specs.Row.{Row}
use Rattle.cq_dict.specs.declared.table.Role.TheVariants.{Live, Dropped, Basic}
use Rattle.cq_dict.specs.Roles.{IsAt, is_live}
use Rattle.cq_equations.specs.declared.table.Name.{Name}
use Rattle.cq_equations.specs.declared.table.Name.TheVariants.{Variable}
use Rattle.cq_equations.specs.Contents.{Named, AreNamed, IsNamed, variables_of, variable_in, products_of, solved_in, form_of_role, place_of_variable}
use Rattle.cq_equations.specs.Numbered.{AreOfVariables}
use Rattle.std.specs.Option.{option_and_then}
use Rattle.cq_equations.proofs.Names.{get_none, at_get, place_absent}

pub named_read : (names : List Name) (n : ℕ) (x : VarId) (d : Name) → IsNamed names n x → get_or names n d ≡ Variable x
named_read [] n x d h = let e = h.get in cc
named_read (y ∷ names) zero x d h = let e = h.get in cc
named_read (y ∷ names) (suc n) x d h = named_read names n x d (record { get = h.get })

pub named_below : (names : List Name) (n : ℕ) (x : VarId) → IsNamed names n x → n < length names
named_below [] n x h = let e = h.get in cc
named_below (y ∷ names) zero x h = omega arith
named_below (y ∷ names) (suc n) x h = omega (arith, named_below names n x (record { get = h.get }))

pub variable_at : (names : List Name) (s : List Entry) (i : ℕ) (d : Entry) → AreOfVariables names s → i < length s → (x : VarId) × IsNamed names (get_or s i d).quantity x
variable_at names [] i d a h = absurd (omega arith)
variable_at names (m ∷ s) zero d a h = a.0
variable_at names (m ∷ s) (suc i) d a h = variable_at names s i d a.1 (omega arith)

pub product_at : (names : List Name) (s : List Entry) (i : ℕ) (d : Entry) (x : VarId) → i < length s → IsNamed names (get_or s i d).quantity x →
    slice_get (products_of names s) i ≡ Some (record { variable = x.0; factor = (get_or s i d).factor })
product_at names [] i d x h n = absurd (omega arith)
product_at names (m ∷ s) zero d x h n = ap (λ o. Some (record { variable = variable_in o; factor = m.factor })) n.get
product_at names (m ∷ s) (suc i) d x h n = product_at names s i d x (omega arith) n

pub length-products_of : (names : List Name) (s : List Entry) → length (products_of names s) ≡ length s
length-products_of names [] = refl
length-products_of names (m ∷ s) = omega (arith, length-products_of names s)

-- the live entries of a row are of variables
pub are_of_variables : (t : Named) → AreNamed t → (lo : ℕ) (s : List Entry) → IsRowFrom (is_live t.roles) lo s → AreOfVariables t.names s
are_of_variables t a lo [] r = tt
are_of_variables t a lo (m ∷ s) r = (a.columns m.quantity r.1, are_of_variables t a (m.quantity + 1) s r.3)

-- ---- what is not solved for

pub unknown_unsolved : (t : Named) → AreNamed t → (x : ℕ) → (Has x (variables_of t.names) → ⊥) → solved_in t x ≡ None
unknown_unsolved t a x n = ap (option_and_then (form_of_role t.names)) (get_none t.roles (place_of_variable t.names x) (omega (arith, place_absent t.names x n, a.size)))

pub live_unsolved : (t : Named) (x : ℕ) → IsAt t.roles (place_of_variable t.names x) Live → solved_in t x ≡ None
live_unsolved t x h = ap (option_and_then (form_of_role t.names)) (at_get t.roles (place_of_variable t.names x) Live h)

pub dropped_unsolved : (t : Named) (x : ℕ) → IsAt t.roles (place_of_variable t.names x) Dropped → solved_in t x ≡ None
dropped_unsolved t x h = ap (option_and_then (form_of_role t.names)) (at_get t.roles (place_of_variable t.names x) Dropped h)

pub row_solved : (t : Named) (x : ℕ) (r : Row) → IsAt t.roles (place_of_variable t.names x) (Basic r) → solved_in t x ≡ Some (record { products = products_of t.names r.live; constant = r.constant })
row_solved t x r h = ap (option_and_then (form_of_role t.names)) (at_get t.roles (place_of_variable t.names x) (Basic r) h)
