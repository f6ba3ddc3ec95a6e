-- Elements of lists of characters and codes, as terms of a heap and as what they stand for.
use Rattle.std.specs.Prelude.{◌≡◌, ℕ, List, [], ◌∷◌, map, encode_utf8_all, true, false, Option, Some, None, String, string_bytes, ⊤}
use Rattle.std.specs.List.{list_all}
use Rattle.std.specs.declared.alloc.Global.{Global}
use Rattle.spec_numbers.specs.Texts.{Text}
use Rattle.spec_syntax.specs.Trees.{Tree}
use Rattle.spec_builtins.specs.Kinds.{natural_of, is_integer, is_other}
use Rattle.spec_builtins.specs.Errors.{type_error, representation_error}
use Rattle.spec_builtins.specs.Alternatives.{Solutions, Faults, faults_if}
use Rattle.spec_builtins.specs.Texts as definition
use Rattle.spec_builtins.specs.Texts.{is_character, is_code, code_of, element_error, elements_error}
use Rattle.cq_term.specs.Meaning.{HeapTerm}
use Rattle.cq_term.specs.Trees.{tree}
use Rattle.cq_built.specs.Errors.{error_tree}
use Rattle.cq_built.specs.declared.errors.BuiltinError.{BuiltinError}
use Rattle.cq_built.specs.declared.errors.BuiltinFault.{BuiltinFault}
use Rattle.cq_built.specs.declared.errors.BuiltinFault.TheVariants as fault
use Rattle.cq_predicates.specs.declared.codes.elements.ElementKind.{ElementKind}
use Rattle.cq_predicates.specs.declared.codes.elements.ElementKind.TheVariants as kind

-- the only character, of one
abbrev pub only_of : List ℕ → Option ℕ
only_of [] = None
only_of (c ∷ []) = Some c
only_of (c ∷ d ∷ cs) = None

abbrev pub kind_of : ElementKind → definition.ElementKind
kind_of kind.Characters = definition.Characters
kind_of kind.Codes = definition.Codes

-- the term is the code of this character
pub record IsCodeOf (t : Tree) (c : ℕ) : Type 0 where
  pub code : is_code t ≡ true
  pub natural : natural_of t ≡ c

-- the term is the atom of this character
pub record IsCharacterOf (t : Tree) (c : ℕ) : Type 0 where
  pub character : is_character t ≡ true
  pub code : code_of t ≡ c

-- the element is right, and stands for this character
pub record StandsFor (k : definition.ElementKind) (t : Tree) (c : ℕ) : Type 0 where
  pub right : element_error k t ≡ None
  pub character : code_of t ≡ c

-- the element has this error
abbrev pub IsWrong : ElementKind → List Text → List HeapTerm → ℕ → BuiltinError → Type 0
IsWrong k texts ts id e = element_error (kind_of k) (tree texts ts id) ≡ Some (error_tree texts ts e)

-- the elements are right, and make this text
pub record Make (k : definition.ElementKind) (ts : List Tree) (text : Text) : Type 0 where
  pub right : elements_error k ts ≡ None
  pub made : text ≡ encode_utf8_all (map code_of ts)

-- the term has to be a code, where it is bound
abbrev pub code_tests : Tree → Solutions → Solutions
code_tests t rest = faults_if (is_other is_integer t) (type_error "integer" t) (faults_if (is_other is_code t) (representation_error "character_code") rest)

-- whatever would follow, the tests of a code give this error
abbrev pub IsRefused : List HeapTerm → ℕ → BuiltinError → Type 0
IsRefused ts id e = (texts : List Text) (rest : Solutions) → code_tests (tree texts ts id) rest ≡ Faults (error_tree texts ts e)

-- they let it follow
abbrev pub IsLetPass : List HeapTerm → ℕ → Type 0
IsLetPass ts id = (texts : List Text) (rest : Solutions) → code_tests (tree texts ts id) rest ≡ rest

-- the error that was found is this fault; want of memory says nothing of it
abbrev pub IsFound : List Text → List HeapTerm → Option Tree → BuiltinFault → Type 0
IsFound texts ts e (fault.Error f) = e ≡ Some (error_tree texts ts f)
IsFound texts ts e fault.NoMemory = ⊤

-- the text that codes make; none where one is no code
abbrev pub IsMadeOf : List Tree → Option (String Global) → Type 0
IsMadeOf ts None = list_all is_code ts ≡ false
IsMadeOf ts (Some s) = (list_all is_code ts ≡ true) × (string_bytes s ≡ encode_utf8_all (map natural_of ts))
