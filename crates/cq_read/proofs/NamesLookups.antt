-- A map from names to numbers looks a name up as the list of names does, and a new name goes last.
use Rattle.std.proofs.Common.{◌≡◌, ◌∷◌, ◌++◌, ℕ, List, [], Bool, true, false, cond, Some, None, String, refl, ap, sym, not, bytes_eq}
use Rattle.std.specs.String.{string_bytes, string_eq}
use Rattle.std.specs.Map.{lookup}
use Rattle.indexmap.specs.IndexMap.{insert_entry}
use Rattle.spec_terms.specs.VariableName.{VariableName, Variables, number_of}
use Rattle.cq_read.specs.NamesWords.{names_of}

pub looks_up : {A : Type 0} (es : List (String A × ℕ)) (name : List ℕ) → lookup (λ k. bytes_eq name (string_bytes k)) es ≡ number_of (names_of es) name
looks_up [] name = refl
looks_up (e ∷ es) name = ap (cond (bytes_eq name (string_bytes e.0)) (Some e.1)) (looks_up es name)

pub inserts : {A : Type 0} (es : List (String A × ℕ)) (k : String A) (v : ℕ) → number_of (names_of es) (string_bytes k) ≡ None →
    names_of (insert_entry string_eq es k v) ≡ names_of es ++ record { name = string_bytes k; number = v } ∷ []
inserts [] k v new = refl
inserts {A} (e ∷ es) k v new = go (bytes_eq (string_bytes k) (string_bytes e.0)) (inserts es k v) new
  where
    first : VariableName
    first = record { name = string_bytes e.0; number = e.1 }

    added : VariableName
    added = record { name = string_bytes k; number = v }

    go : (b : Bool) → (number_of (names_of es) (string_bytes k) ≡ None → names_of (insert_entry string_eq es k v) ≡ names_of es ++ added ∷ []) →
        cond b (Some e.1) (number_of (names_of es) (string_bytes k)) ≡ None → names_of (cond b ((e.0, v) ∷ es) (e ∷ insert_entry string_eq es k v)) ≡ first ∷ names_of es ++ added ∷ []
    go true rest new = let absent : Some e.1 ≡ None = new in cc
    go false rest new = ap (λ names. first ∷ names) (rest new)

pub is_not : (b : Bool) → true ≡ not b → false ≡ b
is_not true e = sym e
is_not false e = refl

abbrev pub with_names : ℕ → List VariableName → Variables
with_names count names = record { names = names; count = count }
