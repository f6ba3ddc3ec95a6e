-- The predicates on terms and texts: by which name and with how many arguments each is called.
use Rattle.std.specs.Prelude.{ℕ, Option, Some, None, option_and_then}
use Rattle.spec_builtins.specs.Built.{Indicator}
use Rattle.spec_builtins.specs.Alternatives.{Comparison}
use Rattle.spec_builtins.specs.Terms.{TypeTest}
use Rattle.spec_builtins.specs.Texts.{ElementKind}
use Rattle.spec_search.specs.Builtins.{Builtin, builtin_of}
use Rattle.spec_search.specs.Builtins as builtin

-- the built-in predicates on terms and texts, which give alternatives and change no database
pub data Predicate : Type 0 where
  Order : Comparison → Predicate
  Test : TypeTest → Predicate
  AtomList : ElementKind → Predicate
  Functor Arg Univ CopyTerm AtomLength CharCode NumberCodes AtomConcat SubAtom : Predicate

-- the predicate on terms or texts that a built-in predicate is, if it is one
abbrev pub predicate_of : Builtin → Option Predicate
predicate_of (builtin.Order c) = Some (Order c)
predicate_of (builtin.Test k) = Some (Test k)
predicate_of (builtin.AtomList k) = Some (AtomList k)
predicate_of builtin.Functor = Some Functor
predicate_of builtin.Arg = Some Arg
predicate_of builtin.Univ = Some Univ
predicate_of builtin.CopyTerm = Some CopyTerm
predicate_of builtin.AtomLength = Some AtomLength
predicate_of builtin.CharCode = Some CharCode
predicate_of builtin.NumberCodes = Some NumberCodes
predicate_of builtin.AtomConcat = Some AtomConcat
predicate_of builtin.SubAtom = Some SubAtom
predicate_of b = None

-- the predicate that the table of the built-in predicates has at this name and number of arguments, if it has one there
abbrev pub predicate_named : Indicator → Option Predicate
predicate_named i = option_and_then predicate_of (builtin_of i)

-- how many arguments it has
abbrev pub arity : Predicate → ℕ
arity (Order c) = 2
arity (Test k) = 1
arity (AtomList k) = 2
arity Functor = 3
arity Arg = 3
arity Univ = 2
arity CopyTerm = 2
arity AtomLength = 2
arity CharCode = 2
arity NumberCodes = 2
arity AtomConcat = 3
arity SubAtom = 5
