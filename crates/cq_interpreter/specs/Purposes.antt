-- What a clause on a heap is for.
use Rattle.std.specs.Prelude.{◌≡◌, ℕ, ◌<◌, List, length, Bool, true, false}
use Rattle.spec_terms.specs.Term.{Compound, one}
use Rattle.spec_numbers.specs.Texts.{Text}
use Rattle.spec_transcript.specs.Purposes as purposes
use Rattle.cq_term.specs.Meaning.{HeapTerm, at}
use Rattle.cq_term.specs.Trees.{tree}
use Rattle.spec_transcript.specs.declared.Source.{Source}
use Rattle.cq_interpreter.specs.declared.consult.purposes.Unary.{Unary}
use Rattle.cq_interpreter.specs.declared.consult.purposes.Purpose.{Purpose}
use Rattle.cq_interpreter.specs.declared.consult.purposes.Purpose.TheVariants as purpose

abbrev pub as_purpose : List Text → List HeapTerm → Purpose → purposes.Purpose
as_purpose texts ts (purpose.Directive id) = purposes.Directive (tree texts ts id)
as_purpose texts ts (purpose.Initialization id) = purposes.Initialization (tree texts ts id)
as_purpose texts ts (purpose.Query id) = purposes.Query (tree texts ts id)
as_purpose texts ts (purpose.Fact id) = purposes.Fact (tree texts ts id)

-- the term of a purpose
abbrev pub term_of : Purpose → ℕ
term_of (purpose.Directive id) = id
term_of (purpose.Initialization id) = id
term_of (purpose.Query id) = id
term_of (purpose.Fact id) = id

-- the clause is for this, and its term is there
pub record IsPurpose (texts : List Text) (ts : List HeapTerm) (s : Source) (id : ℕ) (p : Purpose) : Type 0 where
  pub is : as_purpose texts ts p ≡ purposes.purpose s (tree texts ts id)
  pub live : term_of p < length ts

-- ---- a name over one argument

abbrev pub is_unary : HeapTerm → Bool
is_unary (Compound f (one t)) = true
is_unary t = false

pub record IsUnary (ts : List HeapTerm) (id : ℕ) (u : Unary) : Type 0 where
  pub live : u.argument < length ts
  pub term : at ts id ≡ Compound u.name (one (at ts u.argument))
