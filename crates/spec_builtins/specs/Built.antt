-- Terms that are built by name: atoms, compounds, whole numbers and indicators.
use Prim.Native.String.{String}
use Rattle.std.specs.Prelude.{ℕ, Bool, false, ◌&&◌, ◌==◌, codes, bytes_eq}
use Rattle.spec_numbers.specs.Texts.{Text}
use Rattle.spec_terms.specs.Term.{Name, Compound, one, more, count}
use Rattle.spec_syntax.specs.Trees.{Tree, unary, binary}
pub use Rattle.spec_syntax.specs.Trees.{natural}

-- an atom by its text
abbrev pub atom : String → Tree
atom s = Name (codes s)

-- compounds of one, two and three arguments
abbrev pub compound1 : String → Tree → Tree
compound1 s a = unary (codes s) a

-- a compound of two arguments
abbrev pub compound2 : String → Tree → Tree → Tree
compound2 s a b = binary (codes s) a b

-- a compound of three arguments
abbrev pub compound3 : String → Tree → Tree → Tree → Tree
compound3 s a b c = Compound (codes s) (more a (more b (one c)))

-- the term is this atom
abbrev pub is_atom : String → Tree → Bool
is_atom s (Name a) = bytes_eq a (codes s)
is_atom s t = false

-- ---- indicators

-- a name and how many arguments it has
pub record Indicator : Type 0 where
  pub name : Text
  pub arity : ℕ

-- a name with a number of arguments
abbrev pub indicator : Text → ℕ → Indicator
indicator f n = record { name = f; arity = n }

-- the name and the number are the same
abbrev pub same_indicator : Indicator → Indicator → Bool
same_indicator i j = bytes_eq i.name j.name && (i.arity == j.arity)

-- the term name/arity
abbrev pub indicator_term : Indicator → Tree
indicator_term i = compound2 "/" (Name i.name) (natural i.arity)

-- the indicator of an atom or a compound, or another
abbrev pub indicator_or : Indicator → Tree → Indicator
indicator_or other (Name a) = indicator a 0
indicator_or other (Compound f ts) = indicator f (count ts)
indicator_or other t = other

-- the indicator of a goal or a head
abbrev pub indicator_of : Tree → Indicator
indicator_of t = indicator_or (indicator (codes "") 0) t
