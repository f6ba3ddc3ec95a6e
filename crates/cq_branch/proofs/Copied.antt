-- A term of a heap that is copied to be kept apart from it.
use Rattle.std.proofs.Common.{◌≡◌, ◌<◌, ℕ, List, length, refl, ap, ◌∙◌, sym}
use Rattle.spec_numbers.specs.Texts.{Text}
use Rattle.spec_terms.specs.Variables.{variables, renamed_from, counted_from}
use Rattle.spec_terms.proofs.Listed.{variables-renamed_from}
use Rattle.spec_terms.proofs.RenamedVariables.{renamed_named}
use Rattle.spec_branch.specs.Branch.{plain_copy}
use Rattle.cq_term.specs.Texts.{text_of}
use Rattle.cq_resolve.specs.StoredValue.{StoredValue}
use Rattle.cq_term.specs.Meaning.{HeapTerm, at, blank}
use Rattle.cq_term.specs.Names.{HasNamesBelow}
use Rattle.cq_term.specs.Trees.{tree, KnowsTerms}
use Rattle.spec_engine.specs.Standing.{IsStoredAs}
use Rattle.cq_branch.specs.Stored.{IsCountedTerm, stored_tree}

-- it is stored as its copy without constraints
pub copy_stored : (texts : List Text) (ts : List HeapTerm) (id : ℕ) (copy : StoredValue) → copy.term ≡ renamed_from 0 (at ts id)
    → IsStoredAs (plain_copy (tree texts ts id)) (stored_tree texts copy)
copy_stored texts ts id copy renamed = record {
  plain = refl;
  renamed = ap (λ (u : HeapTerm). stored_tree texts (record { term = u; variables = 0 })) renamed ∙ renamed_named (text_of texts) 0 (at ts id);
}

copy_numbered : (names : ℕ) (t : HeapTerm) (copy : StoredValue) → copy.term ≡ renamed_from 0 t → copy.variables ≡ length (variables t) → HasNamesBelow names copy.term
    → IsCountedTerm names copy
copy_numbered names t copy renamed count below =
    record { below = below; numbered = ap variables renamed ∙ variables-renamed_from 0 t ∙ ap (counted_from 0) (sym count) }

-- its names have texts, and its variables are numbered
pub copy_counted : (texts : List Text) (ts : List HeapTerm) (id : ℕ) (copy : StoredValue) → KnowsTerms texts ts → id < length ts → copy.term ≡ renamed_from 0 (at ts id)
    → copy.variables ≡ length (variables (at ts id)) → ((n : ℕ) → HasNamesBelow n (at ts id) → HasNamesBelow n copy.term) → IsCountedTerm (length texts) copy
copy_counted texts ts id copy known live renamed count names = copy_numbered (length texts) (at ts id) copy renamed count (names (length texts) (known id blank live))
