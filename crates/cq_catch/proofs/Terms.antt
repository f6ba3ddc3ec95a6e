-- A term that reads as a rule.
use Rattle.std.proofs.Common.{◌≡◌, ℕ}
use Rattle.spec_numbers.specs.Texts.{Text}
use Rattle.spec_terms.specs.Term.{Var, Number, Name, Compound, named}
use Rattle.spec_builtins.specs.Clauses.{HeadBody, rule}
use Rattle.cq_term.specs.Meaning.{HeapTerm}
use Rattle.cq_term.specs.Shown.{view_of}
use Rattle.cq_term.specs.declared.view.View.{View}
use Rattle.cq_term.specs.declared.view.View.TheVariants as view

-- ---- a term that reads as H:-B

-- it shows a compound
pub shows_compound : (f : ℕ → Text) (t : HeapTerm) (c : HeadBody) → named f t ≡ rule c → (name : ℕ) × (n : ℕ) × (view_of t ≡ view.Compound name n)
shows_compound f (Var v) c e = cc
shows_compound f (Number q) c e = cc
shows_compound f (Name a) c e = cc
shows_compound f (Compound a ts) c e = (a, _, (λ i. view_of (Compound a ts)))
