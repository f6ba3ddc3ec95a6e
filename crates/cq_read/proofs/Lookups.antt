-- What variables are with one more name.
use Rattle.std.proofs.Common.{◌≡◌, ◌∷◌, ◌++◌, ℕ, suc, List, [], Bool, true, false, Some, None, String, refl, ap, sym, subst, ◌∙◌, ◌+◌, not, codes, bytes_eq, arith}
use Rattle.std.specs.Prelude.{if◌then◌else◌}
use Rattle.std.specs.String.{string_bytes, string_eq}
use Rattle.indexmap.specs.IndexMap.{insert_entry}
use Rattle.spec_syntax.specs.TextTokens.{VariableName, Variables, number_of, known, next_number, with_name, with_variable}
use Rattle.cq_term.specs.Meaning.{HeapTerm}
use Rattle.cq_term.specs.Shown.{IsUnbound}
use Rattle.cq_read.specs.NamesWords.{names_of}
use Rattle.cq_read.proofs.NamesLookups.{inserts, is_not, with_names}
use Rattle.cq_read.specs.Names.{variables, AreUnbound}

-- a name that is not bare is known by the names
pub known_named : (vs : Variables) (name : List ℕ) → false ≡ bytes_eq name (codes "_") → known vs name ≡ number_of vs.names name
known_named vs name e = ap (λ b. if b then None else number_of vs.names name) (sym e)

-- what the variables are with a new one
new_variable : (vs : Variables) (name : List ℕ) → known vs name ≡ None → with_variable vs name ≡ record { names = with_name vs name; count = suc vs.count }
new_variable vs name e = rw (e, with_variable) refl

pub next_known : (vs : Variables) (name : List ℕ) (n : ℕ) → known vs name ≡ Some n → (next_number vs name ≡ n) × (with_variable vs name ≡ vs)
next_known vs name n e = (rw e refl, rw (e, with_variable) refl)

-- with a new name the names gain it
pub adds_named : {A : Type 0} (es fs : List (String A × ℕ)) (count : ℕ) (k : String A) (name : List ℕ) → true ≡ not (bytes_eq name (codes "_")) → string_bytes k ≡ name →
    known (with_names count (names_of es)) name ≡ None → fs ≡ insert_entry string_eq es k count → with_names (count + 1) (names_of fs) ≡ with_variable (with_names count (names_of es)) name
adds_named es fs count k name named is_name new inserted =
    let before = with_names count (names_of es) in
    let is_named = is_not (bytes_eq name (codes "_")) named in
    let absent = ap (number_of (names_of es)) is_name ∙ sym (known_named before name is_named) ∙ new in
    let one : count + 1 ≡ suc count = omega arith in
    ap (λ n. with_names n (names_of fs)) one
    ∙ ap (with_names (suc count))
    (ap names_of inserted ∙ inserts es k count absent ∙ ap (λ (text : List ℕ). names_of es ++ record { name = text; number = count } ∷ []) is_name
    ∙ ap (λ b. if b then names_of es else names_of es ++ record { name = name; number = count } ∷ []) is_named)
    ∙ sym (new_variable before name new)

-- the number of a name is that of an unbound variable
number_unbound : (images : List HeapTerm) (names : List VariableName) (name : List ℕ) (n : ℕ) → AreUnbound images names → number_of names name ≡ Some n → IsUnbound images n
number_unbound images [] name n all e = cc
number_unbound images (v ∷ names) name n all e = by (bytes_eq name v.name) e (λ g. number_unbound images names name n all.1 g)
  where
    by : (b : Bool) → (if b then Some v.number else number_of names name) ≡ Some n → (number_of names name ≡ Some n → IsUnbound images n) → IsUnbound images n
    by true e later = let same : v.number ≡ n = cc in subst (IsUnbound images) same all.0
    by false e later = later e

pub known_unbound : (images : List HeapTerm) (names : List VariableName) (name : List ℕ) (n : ℕ) → AreUnbound images names → known (variables names images) name ≡ Some n → IsUnbound images n
known_unbound images names name n all e = by (bytes_eq name (codes "_")) e
  where
    by : (b : Bool) → (if b then None else number_of names name) ≡ Some n → IsUnbound images n
    by true e = cc
    by false e = number_unbound images names name n all e

-- the names with a new one behind them
pub added_names : {A : Type 0} (es fs : List (String A × ℕ)) (count : ℕ) (k : String A) (name : List ℕ) → true ≡ not (bytes_eq name (codes "_")) → string_bytes k ≡ name →
    known (with_names count (names_of es)) name ≡ None → fs ≡ insert_entry string_eq es k count → names_of fs ≡ names_of es ++ record { name = string_bytes k; number = count } ∷ []
added_names es fs count k name named is_name new inserted =
    let absent = ap (number_of (names_of es)) is_name ∙ sym (known_named (with_names count (names_of es)) name (is_not (bytes_eq name (codes "_")) named)) ∙ new in
    ap names_of inserted ∙ inserts es k count absent
