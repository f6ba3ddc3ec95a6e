-- Terms where names are added.
use Rattle.std.proofs.Common.{◌≡◌, ◌<◌, ℕ, List, [], ◌∷◌, length, refl, ap₂}
use Rattle.std.specs.Prelude.{All}
use Rattle.std.proofs.lemmas.List.Elements.{All-head, All-tail, All-weaker}
use Rattle.spec_numbers.specs.Prefixes.{IsPrefix}
use Rattle.spec_numbers.proofs.Prefixes.{prefix_length}
use Rattle.spec_numbers.specs.Texts.{Text}
use Rattle.spec_syntax.specs.Trees.{Tree}
use Rattle.cq_resolve.specs.StoredValue.{StoredValue}
use Rattle.cq_term.specs.Meaning.{HeapTerm}
use Rattle.cq_term.specs.Trees.{trees, KnowsTerms}
use Rattle.cq_term.proofs.Known.{names_more}
use Rattle.cq_branch.specs.Stored.{IsCountedTerm}
use Rattle.cq_choices.proofs.Named.{tree_named}

module _ (texts more : List Text) (longer : IsPrefix texts more) where
  pub trees_named : (ts : List HeapTerm) → KnowsTerms texts ts → (ids : List ℕ) → All (λ (i : ℕ). i < length ts) ids → trees more ts ids ≡ trees texts ts ids
  trees_named ts known [] live = refl
  trees_named ts known (id ∷ ids) live =
      ap₂ (λ (t : Tree) (us : List Tree). t ∷ us) (tree_named texts more longer ts known id (All-head (λ (i : ℕ). i < length ts) id ids live))
      (trees_named ts known ids (All-tail (λ (i : ℕ). i < length ts) id ids live))

  counted_more : (s : StoredValue) → IsCountedTerm (length texts) s → IsCountedTerm (length more) s
  counted_more s c = record { below = names_more (length texts) (length more) (prefix_length texts more longer) s.term c.below; numbered = c.numbered }

  pub all_counted : (copies : List StoredValue) → All (IsCountedTerm (length texts)) copies → All (IsCountedTerm (length more)) copies
  all_counted copies all = All-weaker (IsCountedTerm (length texts)) (IsCountedTerm (length more)) counted_more copies all
