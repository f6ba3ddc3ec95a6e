-- The list of an atom's characters or codes is one of which the atom is made again.
use Rattle.std.proofs.Common.{◌≡◌, ℕ, List, [], ◌∷◌, ◌++◌, map, length, Bool, true, false, cond, not, ◌||◌, ◌&&◌, ◌==◌, nat_lt, nat_le, chars, encode_utf8_all, IsUtf8, Some, None, Option, refl, sym, ap, ap₂, ◌∙◌}
use Rattle.std.specs.List.{list_any}
use Rattle.std.proofs.lemmas.Str.{chars-encodes, encodes-append, encodes-chars, scalars-chars}
use lib.Utf8.{scalar, scalars}
use Rattle.spec_numbers.specs.Texts.{Text}
use Rattle.spec_numbers.proofs.Tests.{both_are}
use Rattle.spec_terms.specs.Term.{Var, Name}
use Rattle.spec_syntax.specs.Trees.{Tree, list_tree}
use Rattle.spec_builtins.specs.Built.{is_atom, natural}
use Rattle.spec_builtins.specs.Kinds.{is_variable, is_integer, natural_of, Parts}
use Rattle.spec_builtins.specs.Errors.{instantiation, type_error, representation_error, or_error}
use Rattle.spec_builtins.specs.Alternatives.{◌≐◌, one_way, faults_if}
use Rattle.spec_builtins.specs.Texts.{name_of, is_character, is_scalar, is_code, code_of, ElementKind, Characters, Codes, element_of, element_error, elements_error, from_elements, atom_list_row, char_code_row, atom_concat_row, first_or_zero}
use Rattle.spec_builtins.proofs.Rebuilt.{by_whole, parts-list_tree}

-- ---- characters and codes

scalar_same : (c : ℕ) → scalar c ≡ is_scalar c
scalar_same c = go (nat_lt c 0xD800)
  where
    go : (b : Bool) → cond b true (nat_le 0xE000 c && nat_lt c 0x110000) ≡ (b || (nat_le 0xE000 c && nat_lt c 0x110000))
    go true = refl
    go false = refl

one_character : (c : ℕ) → scalar c ≡ true → chars (encode_utf8_all (c ∷ [])) ≡ c ∷ []
one_character c h = chars-encodes (c ∷ []) (ap (λ (b : Bool). b && true) h)

is_one_character : (c : ℕ) → scalar c ≡ true → is_character (name_of (c ∷ [])) ≡ true
is_one_character c h = ap (λ (cs : List ℕ). length cs == 1) (one_character c h)

pub is_one_code : (c : ℕ) → scalar c ≡ true → is_code (natural c) ≡ true
is_one_code c h = by_whole (λ (t : Tree). is_code t ≡ true) c (sym (scalar_same c) ∙ h)

whole_natural : (n : ℕ) → is_integer (natural n) ≡ true
whole_natural n = by_whole (λ (t : Tree). is_integer t ≡ true) n refl

pub natural_back : (n : ℕ) → natural_of (natural n) ≡ n
natural_back n = by_whole (λ (t : Tree). natural_of t ≡ n) n refl

-- ---- elements

code_back : (k : ElementKind) (c : ℕ) → scalar c ≡ true → code_of (element_of k c) ≡ c
code_back Characters c h = ap first_or_zero (one_character c h)
code_back Codes c h = natural_back c

no_error : (k : ElementKind) (c : ℕ) → scalar c ≡ true → element_error k (element_of k c) ≡ None
no_error Characters c h = ap (λ (b : Bool). cond b None (Some (type_error "character" (name_of (c ∷ []))))) (is_one_character c h)
no_error Codes c h =
    ap₂ (λ (x y : Bool). cond (not x) (Some (type_error "integer" (natural c))) (cond y None (Some (representation_error "character_code")))) (whole_natural c) (is_one_code c h)

bound_element : (k : ElementKind) (c : ℕ) → is_variable (element_of k c) ≡ false
bound_element Characters c = refl
bound_element Codes c = refl

codes_back : (k : ElementKind) (cs : List ℕ) → scalars cs ≡ true → map code_of (map (element_of k) cs) ≡ cs
codes_back k [] h = refl
codes_back k (c ∷ cs) h =
    let p = both_are (scalar c) (scalars cs) h in
    ap₂ (λ (n : ℕ) (ns : List ℕ). n ∷ ns) (code_back k c p.0) (codes_back k cs p.1)

no_errors : (k : ElementKind) (cs : List ℕ) → scalars cs ≡ true → elements_error k (map (element_of k) cs) ≡ None
no_errors k [] h = refl
no_errors k (c ∷ cs) h =
    let p = both_are (scalar c) (scalars cs) h in
    ap₂ (λ (o e : Option Tree). or_error o e) (no_error k c p.0) (no_errors k cs p.1)

all_bound : (k : ElementKind) (cs : List ℕ) → list_any is_variable (map (element_of k) cs) ≡ false
all_bound k [] = refl
all_bound k (c ∷ cs) = ap₂ (λ (a b : Bool). a || b) (bound_element k c) (all_bound k cs)

pub atom_back : (k : ElementKind) (a : Text) (x : ℕ) → IsUtf8 a
    → atom_list_row k (Var x) (list_tree (map (element_of k) (chars a))) ≡ one_way ((Var x ≐ Name a) ∷ [])
atom_back k a x h =
    let fits : scalars (chars a) ≡ true = scalars-chars a h in
    let es = map (element_of k) (chars a) in
    let l : Tree = list_tree es in
    ap (λ (p : Parts). faults_if (is_variable p.tail || list_any is_variable p.elements) instantiation (faults_if (not (is_atom "[]" p.tail)) (type_error "list" l) (from_elements (Var x) (elements_error k p.elements) p.elements))) (parts-list_tree es)
    ∙ ap (λ (b : Bool). faults_if b instantiation (from_elements (Var x) (elements_error k es) es)) (all_bound k (chars a))
    ∙ ap (λ (o : Option Tree). from_elements (Var x) o es) (no_errors k (chars a) fits)
    ∙ ap (λ (cs : List ℕ). one_way ((Var x ≐ name_of cs) ∷ [])) (codes_back k (chars a) fits)
    ∙ ap (λ (t : Text). one_way ((Var x ≐ Name t) ∷ [])) (encodes-chars a h)

-- ---- char_code

pub character_of : (c x : ℕ) → is_scalar c ≡ true → char_code_row (Var x) (natural c) ≡ one_way ((Var x ≐ name_of (c ∷ [])) ∷ [])
character_of c x h =
    by_whole (λ (t : Tree). char_code_row (Var x) t ≡ one_way ((Var x ≐ name_of (c ∷ [])) ∷ [])) c (
    ap (λ (b : Bool). faults_if (not b) (representation_error "character_code") (one_way ((Var x ≐ name_of (c ∷ [])) ∷ []))) h)

pub code_of_character : (c x : ℕ) → is_scalar c ≡ true
    → char_code_row (name_of (c ∷ [])) (Var x) ≡ one_way ((Var x ≐ natural c) ∷ [])
code_of_character c x h =
    ap₂ (λ (b : Bool) (n : ℕ). faults_if (not b) (type_error "character" (name_of (c ∷ []))) (one_way ((Var x ≐ natural n) ∷ []))) (is_one_character c (scalar_same c ∙ h)) (ap first_or_zero (one_character c (scalar_same c ∙ h)))

-- ---- two texts joined

pub texts_joined : (d e : Text) (x : ℕ) → IsUtf8 d → IsUtf8 e
    → atom_concat_row (Name d) (Name e) (Var x) ≡ one_way ((Var x ≐ Name (d ++ e)) ∷ [])
texts_joined d e x h k =
    ap (λ (t : Text). one_way ((Var x ≐ Name t) ∷ [])) (encodes-append (chars d) (chars e) ∙ ap₂ (λ (s t : Text). s ++ t) (encodes-chars d h) (encodes-chars e k))
