-- Codes and characters as elements of lists.
use Rattle.std.proofs.Common.{◌≡◌, ℕ, List, ◌++◌, map, Bool, true, false, cond, not, ◌||◌, Option, Some, None, encode_utf8_all, refl, sym, ◌∙◌}
use Rattle.std.specs.List.{list_all}
use Rattle.spec_numbers.specs.Texts.{Text}
use Rattle.spec_terms.specs.Term.{Var, Number, Name, Compound}
use Rattle.spec_syntax.specs.Trees.{Tree}
use Rattle.spec_builtins.specs.Kinds.{is_variable, is_integer, natural_of}
use Rattle.spec_builtins.specs.Errors.{type_error, representation_error}
use Rattle.spec_builtins.specs.Alternatives.{Solutions, faults_if}
use Rattle.spec_builtins.specs.Texts.{is_code, code_of, Codes, ElementKind, elements_error}
use Rattle.cq_predicates.specs.Elements.{StandsFor, code_tests}

-- ---- codes

pub code_natural : (t : Tree) → is_code t ≡ true → code_of t ≡ natural_of t
code_natural (Var v) e = refl
code_natural (Number q) e = refl
code_natural (Name a) e = cc
code_natural (Compound f ts) e = refl

abbrev tested : Tree → Bool → Bool → Option Tree
tested t i c = cond (not i) (Some (type_error "integer" t)) (cond c None (Some (representation_error "character_code")))

-- ---- lists of elements
-- what is left of the elements, behind those that were looked at
pub record Left (k : ElementKind) (all rest : List Tree) (text : Text) : Type 0 where
  pub error : elements_error k rest ≡ elements_error k all
  pub made : text ++ encode_utf8_all (map code_of rest) ≡ encode_utf8_all (map code_of all)

-- what is left of codes
pub record LeftCodes (all rest : List Tree) (text : Text) : Type 0 where
  pub codes : list_all is_code rest ≡ list_all is_code all
  pub made : text ++ encode_utf8_all (map natural_of rest) ≡ encode_utf8_all (map natural_of all)

-- ---- a term that has to be a code

abbrev coded : Tree → Solutions → Bool → Bool → Bool → Solutions
coded t rest v i c = faults_if (not (v || i)) (type_error "integer" t) (faults_if (not (v || c)) (representation_error "character_code") rest)

pub code_passes : (t : Tree) (c : ℕ) (rest : Solutions) → is_variable t ≡ false → StandsFor Codes t c → code_tests t rest ≡ rest
code_passes t c rest v h = go (is_integer t) (is_code t) refl refl h.right
  where
    go : (i d : Bool) → is_integer t ≡ i → is_code t ≡ d → tested t i d ≡ None → code_tests t rest ≡ rest
    go true true e f g = λ j. coded t rest (v j) (e j) (f j)
    go true false e f g = cc
    go false d e f g = cc

pub code_known : (t : Tree) (c : ℕ) → StandsFor Codes t c → natural_of t ≡ c
code_known t c h = sym (code_natural t (go (is_integer t) (is_code t) refl h.right)) ∙ h.character
  where
    go : (i d : Bool) → is_code t ≡ d → tested t i d ≡ None → is_code t ≡ true
    go true true f g = f
    go true false f g = cc
    go false d f g = cc
