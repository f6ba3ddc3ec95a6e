-- The predicates on the characters of atoms and on the codes of numbers.
use Rattle.std.specs.Prelude.{ℕ, ◌+◌, ◌-◌, List, [], ◌∷◌, ◌++◌, Bool, false, if◌then◌else◌, not, ◌&&◌, ◌||◌, ◌==◌, nat_lt, nat_le, map, length, take, drop, filter, chars, encode_utf8_all, flat_map, Option, Some, None, option_map, Result, Ok, Err}
use Rattle.std.specs.List.{list_any, list_all, prefix_len}
use Rattle.spec_numbers.specs.Rational.{ℚ, neg_ℚ}
use Rattle.spec_terms.specs.Operations.{is_whole}
use Rattle.spec_syntax.specs.declared.grammar.LexFault.{LexFault}
use Rattle.spec_syntax.specs.Characters.{is_layout, begins_with}
use Rattle.spec_syntax.specs.GrammarTokens as lexical
use Rattle.spec_syntax.specs.GrammarTokens.{token_at}
use Rattle.spec_numbers.specs.Texts.{Text}
use Rattle.spec_text.specs.Numbers.{number_text}
use Rattle.spec_terms.specs.Term.{Number, Name}
use Rattle.spec_terms.specs.Variables.{counted_from}
use Rattle.spec_terms.specs.Unifier.{Equation}
use Rattle.spec_syntax.specs.Writing.{is_negative}
use Rattle.spec_syntax.specs.Trees.{Tree, list_tree}
use Rattle.spec_builtins.specs.Built.{atom, compound1, natural}
use Rattle.spec_builtins.specs.Kinds.{is_variable, is_name, is_integer, is_other, is_below_zero, natural_of, natural_or_zero, parts, is_list, is_partial}
use Rattle.spec_builtins.specs.Errors.{instantiation, type_error, domain_error, representation_error, or_error}
use Rattle.spec_builtins.specs.Alternatives.{Solutions, Faults, Offers, ◌≐◌, one_way, without_new, faults_if, same_term}

-- ---- characters and their codes

-- the characters of an atom, of other terms none
abbrev pub characters : Tree → List ℕ
characters (Name a) = chars a
characters t = []

-- the atom of these characters
abbrev pub name_of : List ℕ → Tree
name_of cs = Name (encode_utf8_all cs)

-- an atom of one character
abbrev pub is_character : Tree → Bool
is_character (Name a) = length (chars a) == 1
is_character t = false

-- a Unicode scalar value
abbrev pub is_scalar : ℕ → Bool
is_scalar n = nat_lt n 0xD800 || (nat_le 0xE000 n && nat_lt n 0x110000)

-- a whole number that is a character's code
abbrev pub is_code : Tree → Bool
is_code (Number q) = is_whole q && not (is_negative q) && is_scalar (natural_or_zero q.numerator)
is_code t = false

-- the first number, or 0 where there is none
abbrev pub first_or_zero : List ℕ → ℕ
first_or_zero [] = 0
first_or_zero (c ∷ cs) = c

-- the code that a character or a code stands for
abbrev pub code_of : Tree → ℕ
code_of (Name a) = first_or_zero (chars a)
code_of t = natural_of t

-- ---- atom_length(A,N)

-- atom_length(A, N): how many characters the atom has
abbrev pub atom_length_row : Tree → Tree → Solutions
atom_length_row a n =
    faults_if (is_variable a) instantiation (
    faults_if (not (is_name a)) (type_error "atom" a) (
    faults_if (is_other is_integer n) (type_error "integer" n) (
    faults_if (is_below_zero n) (domain_error "not_less_than_zero" n) (
    one_way ((n ≐ natural (length (characters a))) ∷ [])))))

-- ---- atom_chars(A,L) and atom_codes(A,L)

-- what the elements of an atom's list are
pub data ElementKind : Type 0 where
  Characters Codes : ElementKind

-- a character as an atom of one, or as its code
abbrev pub element_of : ElementKind → ℕ → Tree
element_of Characters c = name_of (c ∷ [])
element_of Codes c = natural c

-- the error of an element, if there is one
abbrev pub element_error : ElementKind → Tree → Option Tree
element_error Characters t = if is_character t then None else Some (type_error "character" t)
element_error Codes t =
    if not (is_integer t) then Some (type_error "integer" t)
    else if is_code t then None
    else Some (representation_error "character_code")

-- the error of the first wrong element
abbrev pub elements_error : ElementKind → List Tree → Option Tree
elements_error k [] = None
elements_error k (t ∷ ts) = or_error (element_error k t) (elements_error k ts)

-- the atom of these elements, or the error of one
abbrev pub from_elements : Tree → Option Tree → List Tree → Solutions
from_elements a (Some e) ts = Faults e
from_elements a None ts = one_way ((a ≐ name_of (map code_of ts)) ∷ [])

-- atom_chars(A, L) and atom_codes(A, L): the atom, or what the list spells
abbrev pub atom_list_row : ElementKind → Tree → Tree → Solutions
atom_list_row k a l =
    if is_name a then one_way ((l ≐ list_tree (map (element_of k) (characters a))) ∷ []) else
    faults_if (not (is_variable a)) (type_error "atom" a) (
    faults_if (is_partial l || list_any is_variable (parts l).elements) instantiation (
    faults_if (not (is_list l)) (type_error "list" l) (from_elements a (elements_error k (parts l).elements) (parts l).elements)))

-- ---- char_code(C,N)

-- char_code(C, N): the character, or that of the code
abbrev pub char_code_row : Tree → Tree → Solutions
char_code_row c n =
    faults_if (is_variable c && is_variable n) instantiation (
    faults_if (is_other is_character c) (type_error "character" c) (
    faults_if (is_other is_integer n) (type_error "integer" n) (
    faults_if (is_other is_code n) (representation_error "character_code") (
    if is_variable c then one_way ((c ≐ name_of (natural_of n ∷ [])) ∷ [])
    else one_way ((n ≐ natural (code_of c)) ∷ [])))))

-- ---- number_codes(N,L)

-- the number of a token that takes the whole text
abbrev pub whole_number : Text → Result lexical.Token LexFault → Option ℚ
whole_number text (Err f) = None
whole_number text (Ok t) = if t.span.end == length text then t.number else None

-- the number that a text is with a sign, or without one
abbrev pub signed_number : Text → Option ℚ
signed_number text =
    if begins_with 45 text then option_map neg_ℚ (whole_number (drop 1 text) (token_at (drop 1 text) 0))
    else whole_number text (token_at text 0)

-- the number that a text is: layout or none, a sign or none, a numeral, and nothing more
abbrev pub number_in : Text → Option ℚ
number_in text = signed_number (drop (prefix_len is_layout text) text)

-- N is the number that was read, if one was
abbrev pub number_read : Tree → Option ℚ → Solutions
number_read n None = Faults (compound1 "syntax_error" (atom "illegal_number"))
number_read n (Some q) = one_way ((n ≐ Number q) ∷ [])

-- the codes of a number's text
abbrev pub codes_of_number : Tree → Tree → Solutions
codes_of_number (Number q) l = one_way ((l ≐ list_tree (map natural (number_text q))) ∷ [])
codes_of_number n l = Faults (type_error "number" n)

-- a list of codes is read, whatever N is
abbrev pub number_codes_row : Tree → Tree → Solutions
number_codes_row n l =
    if is_list l && list_all is_code (parts l).elements
    then number_read n (number_in (encode_utf8_all (map natural_of (parts l).elements)))
    else faults_if (is_variable n) instantiation (codes_of_number n l)

-- ---- atom_concat(A,B,C) and sub_atom(A,B,L,R,S)

-- the argument on the left is unbound, or the same as what stands on the right
abbrev pub may_match : Equation Text → Bool
may_match e = is_variable e.left || same_term e.left e.right

-- the alternatives that no bound argument excludes
abbrev pub matching : List (List (Equation Text)) → Solutions
matching ess = Offers (map without_new (filter (λ es. list_all may_match es) ess))

-- the characters split behind the first n
abbrev pub split_at : Tree → Tree → List ℕ → ℕ → List (Equation Text)
split_at a b cs n = (a ≐ name_of (take n cs)) ∷ (b ≐ name_of (drop n cs)) ∷ []

-- atom_concat(A, B, C): the two joined, or each way to cut C in two
abbrev pub atom_concat_row : Tree → Tree → Tree → Solutions
atom_concat_row a b c =
    faults_if (is_other is_name a) (type_error "atom" a) (
    faults_if (is_other is_name b) (type_error "atom" b) (
    faults_if (is_other is_name c) (type_error "atom" c) (
    faults_if (is_variable c && (is_variable a || is_variable b)) instantiation (
    if is_variable c then one_way ((c ≐ name_of (characters a ++ characters b)) ∷ [])
    else matching (map (split_at a b (characters c)) (counted_from 0 (length (characters c) + 1)))))))

-- so many characters behind the first `before`: how many stand before, in and after the part, and the part
abbrev pub part_at : Tree → Tree → Tree → Tree → List ℕ → ℕ → ℕ → List (Equation Text)
part_at b l r s cs before len =
    (b ≐ natural before) ∷ (l ≐ natural len) ∷ (r ≐ natural (length cs - before - len))
    ∷ (s ≐ name_of (take len (drop before cs))) ∷ []

-- the parts by their place, then by their length
abbrev pub parts_at : Tree → Tree → Tree → Tree → List ℕ → List (List (Equation Text))
parts_at b l r s cs =
    flat_map (λ before. map (part_at b l r s cs before) (counted_from 0 (length cs - before + 1)))
    (counted_from 0 (length cs + 1))

-- sub_atom(A, B, L, R, S): each part S of A, with B characters before it, L in it and R behind it
abbrev pub sub_atom_row : Tree → Tree → Tree → Tree → Tree → Solutions
sub_atom_row a b l r s =
    faults_if (is_variable a) instantiation (
    faults_if (not (is_name a)) (type_error "atom" a) (
    faults_if (is_other is_name s) (type_error "atom" s) (
    faults_if (is_other is_integer b) (type_error "integer" b) (
    faults_if (is_other is_integer l) (type_error "integer" l) (
    faults_if (is_other is_integer r) (type_error "integer" r) (
    matching (parts_at b l r s (characters a))))))))
