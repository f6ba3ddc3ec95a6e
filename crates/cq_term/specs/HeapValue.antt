-- A heap as its callers see it.
use Rattle.std.specs.Prelude.{ℕ, List}
use Rattle.std.specs.Coded.{Coded, code_by, coded×, coded_list, coded_ℕ}
use Rattle.std.proofs.Common.{refl}
use Rattle.spec_terms.specs.Code.{coded_term}
use Rattle.cq_term.specs.Meaning.{HeapTerm}

-- what each id means, and what each variable means, which is itself where it is unbound; both read through bindings
pub record Terms : Type 0 where
  pub terms : List HeapTerm
  pub images : List HeapTerm

-- the terms now and at the live marks, the oldest first, and how many marks find their memory set aside
pub record HeapValue : Type 0 where
  pub now : Terms
  pub saved : List Terms
  pub room : ℕ

abbrev pub terms_code : Coded Terms
terms_code = code_by (List HeapTerm × List HeapTerm) (coded× (coded_list (coded_term coded_ℕ)) (coded_list (coded_term coded_ℕ))) (λ e. (e.terms, e.images)) (λ p. record { terms = p.0; images = p.1 }) (λ _. refl)

abbrev pub heap_code : Coded HeapValue
heap_code = code_by (Terms × (List Terms × ℕ)) (coded× terms_code (coded× (coded_list terms_code) coded_ℕ)) (λ e. (e.now, (e.saved, e.room))) (λ p. record { now = p.0; saved = p.1.0; room = p.1.1 }) (λ _. refl)
