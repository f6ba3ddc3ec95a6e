-- Kinds of terms, and terms as lists.
use Rattle.std.specs.Prelude.{ℕ, List, [], ◌∷◌, Bool, true, false, not, ◌||◌, if◌then◌else◌, bytes_eq, codes, ℤ, pos, negsuc}
use Rattle.spec_numbers.specs.Texts.{Text}
use Rattle.spec_terms.specs.Operations.{is_whole}
use Rattle.spec_terms.specs.Term.{Var, Number, Name, Compound, one, more}
use Rattle.spec_syntax.specs.Writing.{is_negative}
use Rattle.spec_syntax.specs.Trees.{Tree}
use Rattle.spec_builtins.specs.Built.{is_atom}

-- a variable
abbrev pub is_variable : Tree → Bool
is_variable (Var v) = true
is_variable t = false

-- an atom
abbrev pub is_name : Tree → Bool
is_name (Name a) = true
is_name t = false

-- a number
abbrev pub is_number : Tree → Bool
is_number (Number q) = true
is_number t = false

-- a whole number
abbrev pub is_integer : Tree → Bool
is_integer (Number q) = is_whole q
is_integer t = false

-- a compound
abbrev pub is_compound : Tree → Bool
is_compound (Compound f ts) = true
is_compound t = false

-- an atom or a compound
abbrev pub is_callable : Tree → Bool
is_callable t = is_name t || is_compound t

-- neither a variable nor of this kind
abbrev pub is_other : (Tree → Bool) → Tree → Bool
is_other kind t = not (is_variable t || kind t)

-- a number below zero
abbrev pub is_below_zero : Tree → Bool
is_below_zero (Number q) = is_negative q
is_below_zero t = false

-- the number, and 0 for a negative one
abbrev pub natural_or_zero : ℤ → ℕ
natural_or_zero (pos n) = n
natural_or_zero (negsuc n) = 0

-- the natural number that a term is, or 0
abbrev pub natural_of : Tree → ℕ
natural_of (Number q) = natural_or_zero q.numerator
natural_of t = 0

-- the text of an atom
abbrev pub name_text : Tree → Text
name_text (Name a) = a
name_text t = []

-- ---- lists

-- the elements of a list's cells, and what stands behind the last cell
pub record Parts : Type 0 where
  pub elements : List Tree
  pub tail : Tree

-- a term that is no cell
abbrev pub no_cell : Tree → Parts
no_cell t = record { elements = []; tail = t }

-- the parts of a compound of two arguments, from those of its second one
abbrev pub cell_parts : Text → Tree → Tree → Parts → Parts
cell_parts f whole head rest =
    if bytes_eq f (codes ".") then record rest { elements = head ∷ rest.elements } else no_cell whole

-- the elements of a list, and what stands at its end
abbrev pub parts : Tree → Parts
parts (Compound f (more head (one t))) = cell_parts f (Compound f (more head (one t))) head (parts t)
parts t = no_cell t

-- a list, which ends in []
abbrev pub is_list : Tree → Bool
is_list t = is_atom "[]" (parts t).tail

-- a list that ends in a variable
abbrev pub is_partial : Tree → Bool
is_partial t = is_variable (parts t).tail
