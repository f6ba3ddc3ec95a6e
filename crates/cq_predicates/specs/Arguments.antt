-- What arguments of predicates on texts may be, and what they ask for.
use Rattle.std.specs.Prelude.{◌≡◌, ℕ, ◌<◌, ◌^◌, List, Vec, true, not, Option, Some, None}
use Rattle.std.specs.declared.alloc.Global.{Global}
use Rattle.spec_numbers.specs.Texts.{Text}
use Rattle.spec_terms.specs.Term.{Name}
use Rattle.spec_syntax.specs.Trees.{Tree, natural}
use Rattle.spec_builtins.specs.Kinds.{is_variable, is_name, is_integer, is_other, is_below_zero}
use Rattle.spec_builtins.specs.Errors.{instantiation, type_error, domain_error}
use Rattle.spec_builtins.specs.Alternatives.{Solutions, Faults, ◌≐◌, faults_if}
use Rattle.spec_builtins.specs.Texts.{may_match, name_of}
use Rattle.cq_term.specs.Meaning.{HeapTerm, at}
use Rattle.cq_term.specs.Trees.{tree}
use Rattle.cq_built.specs.Errors.{error_tree, HasCulprit}
use Rattle.cq_built.specs.declared.errors.BuiltinError.{BuiltinError}
use Rattle.cq_predicates.specs.declared.text.sought.Wanted.{Wanted}
use Rattle.cq_predicates.specs.declared.text.sought.Sought.{Sought}
use Rattle.cq_predicates.specs.declared.text.ways.PartArgs.{PartArgs}
use Rattle.cq_predicates.specs.declared.text.ways.SplitArgs.{SplitArgs}
use Rattle.cq_predicates.specs.Places.{admits, admits_text}

-- ---- errors

-- whatever the names are, and whatever would follow, these tests give the error
abbrev pub IsRefused : List HeapTerm → (List Text → Solutions → Solutions) → BuiltinError → Type 0
IsRefused ts tests e = (texts : List Text) (rest : Solutions) → (tests texts rest ≡ Faults (error_tree texts ts e)) × HasCulprit texts ts e

-- whatever the names are, and whatever would follow, these tests let it follow
abbrev pub AreLetPass : (List Text → Solutions → Solutions) → Type 0
AreLetPass tests = (texts : List Text) (rest : Solutions) → tests texts rest ≡ rest

-- it has to be an atom
abbrev pub atom_tests : List HeapTerm → ℕ → List Text → Solutions → Solutions
atom_tests ts id texts rest =
    faults_if (is_variable (tree texts ts id)) instantiation (
    faults_if (not (is_name (tree texts ts id))) (type_error "atom" (tree texts ts id)) rest)

-- it has to be an atom, where it is bound
abbrev pub other_atom_tests : List HeapTerm → ℕ → List Text → Solutions → Solutions
other_atom_tests ts id texts rest = faults_if (is_other is_name (tree texts ts id)) (type_error "atom" (tree texts ts id)) rest

-- it has to be a whole number, where it is bound
abbrev pub other_integer_tests : List HeapTerm → ℕ → List Text → Solutions → Solutions
other_integer_tests ts id texts rest = faults_if (is_other is_integer (tree texts ts id)) (type_error "integer" (tree texts ts id)) rest

-- how many characters stand before, in and after a part
abbrev pub counts_tests : List HeapTerm → PartArgs → List Text → Solutions → Solutions
counts_tests ts a texts rest =
    other_integer_tests ts a.before texts (other_integer_tests ts a.len texts (other_integer_tests ts a.after texts rest))

-- a text and the arguments of its part
abbrev pub part_tests : List HeapTerm → ℕ → PartArgs → List Text → Solutions → Solutions
part_tests ts id a texts rest = atom_tests ts id texts (other_atom_tests ts a.part texts (counts_tests ts a texts rest))

-- two texts and the one that they make
abbrev pub three_atom_tests : List HeapTerm → SplitArgs → ℕ → List Text → Solutions → Solutions
three_atom_tests ts a whole texts rest = other_atom_tests ts a.first texts (other_atom_tests ts a.last texts (other_atom_tests ts whole texts rest))

-- an atom and its length
abbrev pub length_tests : List HeapTerm → ℕ → ℕ → List Text → Solutions → Solutions
length_tests ts text len texts rest =
    atom_tests ts text texts (other_integer_tests ts len texts (
    faults_if (is_below_zero (tree texts ts len)) (domain_error "not_less_than_zero" (tree texts ts len)) rest))

-- a variable, or the atom of this name
abbrev pub IsAtomOr : List HeapTerm → ℕ → Option ℕ → Type 0
IsAtomOr ts id None = (texts : List Text) → is_variable (tree texts ts id) ≡ true
IsAtomOr ts id (Some name) = at ts id ≡ Name name

-- ---- what is asked for

-- the argument asks this of a count
pub record IsAsked (t : Tree) (w : Wanted) : Type 0 where
  pub same : (k : ℕ) → k < 2 ^ 64 → may_match (t ≐ natural k) ≡ admits w k

-- the argument asks this of a text
pub record IsAskedText (t : Tree) (w : Option (Vec ℕ Global)) : Type 0 where
  pub same : (cs : List ℕ) → may_match (t ≐ name_of cs) ≡ admits_text w cs

-- the arguments ask this of a part
pub record ArePartsAsked (texts : List Text) (ts : List HeapTerm) (a : PartArgs) (s : Sought) : Type 0 where
  pub before : IsAsked (tree texts ts a.before) s.before
  pub len : IsAsked (tree texts ts a.len) s.len
  pub after : IsAsked (tree texts ts a.after) s.after
  pub part : IsAskedText (tree texts ts a.part) s.part
