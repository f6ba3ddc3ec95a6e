-- What the grammar makes of tokens.
use Rattle.std.specs.Prelude.{ℕ, List, [], ◌∷◌, codes, chars, map, pos}
use Rattle.spec_numbers.specs.Rational.{int_ℚ}
use Rattle.spec_numbers.specs.Texts.{Text}
use Rattle.spec_terms.specs.Term.{Term, Number, Name, Compound, one, more}

-- a term whose names are texts
abbrev pub Tree : Type 0
Tree = Term Text

-- a natural number as a term
abbrev pub natural : ℕ → Tree
natural n = Number (int_ℚ (pos n))

-- a name with one argument
abbrev pub unary : Text → Tree → Tree
unary f a = Compound f (one a)

-- a name with two arguments
abbrev pub binary : Text → Tree → Tree → Tree
binary f a b = Compound f (more a (one b))

-- the empty list
abbrev pub nil : Tree
nil = Name (codes "[]")

-- the list with this first element and these others
abbrev pub cell : Tree → Tree → Tree
cell head tail = binary (codes ".") head tail

-- the list of these elements
abbrev pub list_tree : List Tree → Tree
list_tree [] = nil
list_tree (t ∷ ts) = cell t (list_tree ts)

-- the list of the codes of a text's characters
abbrev pub code_list : Text → Tree
code_list text = list_tree (map natural (chars text))
