-- What conversions of atoms and numbers give, by the terms of a heap.
use Rattle.std.specs.Prelude.{◌≡◌, ℕ, List, [], ◌∷◌, map, encode_utf8_all, Bool, true, false, ◌&&◌, Option, Some, None, String, string_bytes}
use Rattle.std.specs.List.{list_all}
use Rattle.std.specs.declared.alloc.Global.{Global}
use Rattle.spec_numbers.specs.Texts.{Text}
use Rattle.spec_builtins.specs.Alternatives.{Solutions, ◌≐◌, one_way, faults_if}
use Rattle.spec_terms.specs.Term.{Var, Name}
use Rattle.spec_terms.specs.Unifier.{Equation}
use Rattle.spec_syntax.specs.Trees.{Tree, list_tree}
use Rattle.spec_builtins.specs.Kinds.{is_variable, is_list, parts, natural_of}
use Rattle.spec_builtins.specs.Errors.{instantiation}
use Rattle.spec_builtins.specs.Texts as definition
use Rattle.spec_builtins.specs.Texts.{is_code, element_of, atom_list_row, char_code_row, number_codes_row, codes_of_number}
use Rattle.cq_term.specs.Meaning.{HeapTerm}
use Rattle.cq_term.specs.Trees.{tree}
use Rattle.cq_term.specs.declared.walk.pairs.Pair.{Pair}
use Rattle.cq_built.specs.Offered.{equation_of}
use Rattle.cq_built.specs.Errors.{Explains}
use Rattle.cq_built.specs.declared.errors.BuiltinFault.{BuiltinFault}
use Rattle.cq_predicates.specs.declared.codes.conversions.Conversion.{Conversion}
use Rattle.cq_predicates.specs.declared.codes.conversions.Conversion.TheVariants as conversion
use Rattle.cq_predicates.specs.declared.codes.elements.ElementKind.{ElementKind}
use Rattle.cq_predicates.specs.declared.codes.elements.ElementKind.TheVariants as kind
use Rattle.cq_predicates.specs.Elements.{kind_of}

-- the pair is the only way
abbrev pub IsOffered : Solutions → List Text → List HeapTerm → Pair → Type 0
IsOffered s texts ts p = s ≡ one_way (equation_of texts ts p ∷ [])

-- the pair is of these two
abbrev pub IsPairOf : Equation Text → List Text → List HeapTerm → Pair → Type 0
IsPairOf e texts ts p = equation_of texts ts p ≡ e

abbrev pub atom_list_of : ElementKind → List Text → List HeapTerm → ℕ → ℕ → Solutions
atom_list_of k texts ts text list = atom_list_row (kind_of k) (tree texts ts text) (tree texts ts list)

-- a list is to be that of characters or of their codes
abbrev pub spelled_of : ElementKind → List Text → List HeapTerm → ℕ → List ℕ → Equation Text
spelled_of k texts ts list cs = tree texts ts list ≐ list_tree (map (element_of (kind_of k)) cs)

-- a list is to be that of codes
abbrev pub coded_of : List Text → List HeapTerm → ℕ → List ℕ → Equation Text
coded_of texts ts list cs = spelled_of kind.Codes texts ts list cs

-- a list makes the atom of this text, where that is unbound
abbrev pub MakesAtom : ElementKind → List Text → List HeapTerm → ℕ → Text → Type 0
MakesAtom k texts ts list text = (v : ℕ) → atom_list_row (kind_of k) (Var v) (tree texts ts list) ≡ one_way ((Var v ≐ Name text) ∷ [])

-- why it makes none
abbrev pub MakesNone : ElementKind → List Text → List HeapTerm → ℕ → BuiltinFault → Type 0
MakesNone k texts ts list f = (v : ℕ) → Explains texts ts (atom_list_row (kind_of k) (Var v) (tree texts ts list)) f

abbrev pub char_code_of : List Text → List HeapTerm → ℕ → ℕ → Solutions
char_code_of texts ts character code = char_code_row (tree texts ts character) (tree texts ts code)

abbrev pub number_codes_of : List Text → List HeapTerm → ℕ → ℕ → Solutions
number_codes_of texts ts number list = number_codes_row (tree texts ts number) (tree texts ts list)

-- what it gives where the second term is no list of codes
abbrev pub told_codes_of : List Text → List HeapTerm → ℕ → ℕ → Solutions
told_codes_of texts ts number list = faults_if (is_variable (tree texts ts number)) instantiation (codes_of_number (tree texts ts number) (tree texts ts list))

-- the term is a list of codes
abbrev pub is_code_list : Tree → Bool
is_code_list l = is_list l && list_all is_code (parts l).elements

-- the text of a list of codes, which the term is; none where it is something else
abbrev pub Reads : Tree → Option (String Global) → Type 0
Reads l None = is_code_list l ≡ false
Reads l (Some s) = (is_code_list l ≡ true) × (string_bytes s ≡ encode_utf8_all (map natural_of (parts l).elements))

-- what a conversion gives of a value and its characters or codes
abbrev pub conversion_of : Conversion → List Text → List HeapTerm → ℕ → ℕ → Solutions
conversion_of conversion.AtomChars texts ts value spelled = atom_list_row definition.Characters (tree texts ts value) (tree texts ts spelled)
conversion_of conversion.AtomCodes texts ts value spelled = atom_list_row definition.Codes (tree texts ts value) (tree texts ts spelled)
conversion_of conversion.CharCode texts ts value spelled = char_code_of texts ts value spelled
conversion_of conversion.NumberCodes texts ts value spelled = number_codes_of texts ts value spelled
