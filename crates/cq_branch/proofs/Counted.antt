-- What choices leave can still be tried where names are added.
use Rattle.std.proofs.Common.{◌≤◌, ℕ, List, [], ◌∷◌, length}
use Rattle.std.specs.List.{AllByRecursion}
use Rattle.std.proofs.lemmas.List.Elements.{All-weaker}
use Rattle.spec_numbers.specs.Prefixes.{IsPrefix}
use Rattle.spec_numbers.proofs.Prefixes.{prefix_length}
use Rattle.spec_numbers.specs.Texts.{Text}
use Rattle.cq_resolve.specs.Database.{Program}
use Rattle.cq_resolve.specs.StoredValue.{StoredValue}
use Rattle.cq_term.specs.Meaning.{HeapTerm}
use Rattle.cq_term.proofs.Known.{names_more}
use Rattle.cq_settle.specs.Contents.{Contents}
use Rattle.spec_engine.specs.Cells.{Value}
use Rattle.cq_branch.specs.Choices.{CanBeTried}
use Rattle.cq_branch.specs.Stored.{IsCountedTerm}
use Rattle.cq_branch.specs.declared.alternatives.Alternatives.{Alternatives}
use Rattle.cq_branch.specs.declared.alternatives.Alternatives.TheVariants as alternatives

counted_more : (m n : ℕ) → m ≤ n → (s : StoredValue) → IsCountedTerm m s → IsCountedTerm n s
counted_more m n le s c = record { below = names_more m n le s.term c.below; numbered = c.numbered }

module _ (texts more : List Text) (longer : IsPrefix texts more) (v : Program) where
  stored_more : (s : StoredValue) → IsCountedTerm (length texts) s → IsCountedTerm (length more) s
  stored_more = counted_more (length texts) (length more) (prefix_length texts more longer)

  tried_more : (ts : List HeapTerm) (a : Alternatives) → CanBeTried texts v ts a → CanBeTried more v ts a
  tried_more ts (alternatives.One k) can = can
  tried_more ts (alternatives.Clauses t walk k) can = can
  tried_more ts (alternatives.Ways s k) can = can
  tried_more ts alternatives.Barrier can = can
  tried_more ts (alternatives.Catches k) can = can
  tried_more ts (alternatives.Caught ball c r k) can = stored_more ball can
  tried_more ts (alternatives.Gathers t copies k) can = All-weaker (IsCountedTerm (length texts)) (IsCountedTerm (length more)) stored_more copies can
  tried_more ts (alternatives.Matches t walk removes k) can = can

  pub open_more : (xs : List (Value Contents × Alternatives)) → AllByRecursion (λ (c : Value Contents × Alternatives). CanBeTried texts v c.0.0.heap.terms c.1) xs
      → AllByRecursion (λ (c : Value Contents × Alternatives). CanBeTried more v c.0.0.heap.terms c.1) xs
  open_more [] can = can
  open_more (c ∷ xs) can = (tried_more c.0.0.heap.terms c.1 can.0, open_more xs can.1)
