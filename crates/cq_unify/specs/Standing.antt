-- How two terms stand in the standard order, as far as their heads say.
use Rattle.std.specs.Prelude.{◌≡◌, ◌≢◌, ℕ, List}
use Rattle.std.specs.declared.cmp.Ordering.{Ordering}
use Rattle.std.specs.declared.cmp.Ordering.TheVariants.{Equal}
use Rattle.spec_terms.specs.Term.{named}
use Rattle.spec_numbers.specs.Texts.{Text}
use Rattle.spec_terms.specs.Order.{compare_terms, compare_texts}
use Rattle.cq_term.specs.Texts.{text_of}
use Rattle.cq_term.specs.Meaning.{HeapTerm}
use Rattle.cq_term.specs.Shown.{view_of}
use Rattle.cq_term.specs.declared.view.View.TheVariants as view
use Rattle.cq_unify.specs.declared.order.order.Standing.{Standing}
use Rattle.cq_unify.specs.declared.order.order.Standing.TheVariants as standing

-- the order of two terms whose names have these texts
abbrev pub order_of : List Text → HeapTerm → HeapTerm → Ordering
order_of texts t u = compare_terms (named (text_of texts) t) (named (text_of texts) u)

-- both are compounds with so many arguments, and no text tells their names apart
pub record AreAlikeCompounds (texts : List Text) (t u : HeapTerm) (n : ℕ) : Type 0 where
  pub left_name : ℕ
  pub right_name : ℕ
  pub left : view_of t ≡ view.Compound left_name n
  pub right : view_of u ≡ view.Compound right_name n
  pub names : compare_texts (text_of texts left_name) (text_of texts right_name) ≡ Equal

-- what the heads say of the order of two terms
abbrev pub Stands : List Text → HeapTerm → HeapTerm → Standing → Type 0
Stands texts t u standing.Same = order_of texts t u ≡ Equal
Stands texts t u (standing.Apart o) = (order_of texts t u ≡ o) × (o ≢ Equal)
Stands texts t u (standing.Arguments n) = AreAlikeCompounds texts t u n

-- an order tells how two terms stand
abbrev pub Tells : Ordering → Standing → Type 0
Tells order standing.Same = order ≡ Equal
Tells order (standing.Apart o) = (order ≡ o) × (o ≢ Equal)
Tells order (standing.Arguments n) = ⊥

-- the counts of arguments and then the names tell how two compounds stand
abbrev pub TellsCompounds : Ordering → ℕ → Standing → Type 0
TellsCompounds order count standing.Same = ⊥
TellsCompounds order count (standing.Apart o) = (order ≡ o) × (o ≢ Equal)
TellsCompounds order count (standing.Arguments n) = (order ≡ Equal) × (n ≡ count)
