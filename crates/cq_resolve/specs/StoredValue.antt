-- A stored term and a stored clause as their callers see them.
use Rattle.std.specs.Prelude.{ℕ, [], ◌∷◌}
use Rattle.std.specs.Coded.{Coded, code_by, coded×, coded_ℕ}
use Rattle.std.proofs.Common.{refl}
use Rattle.spec_terms.specs.Code.{coded_term}
use Rattle.spec_terms.specs.Term.{with_arguments}
use Rattle.cq_term.specs.Meaning.{HeapTerm}
use Rattle.cq_term.specs.Names.{HasNamesBelow}

-- a term over variables 0, 1 and so on, and how many variables it has
pub record StoredValue : Type 0 where
  pub term : HeapTerm
  pub variables : ℕ

-- the head and the body over variables 0, 1 and so on, and how many variables these have
pub record ClauseValue : Type 0 where
  pub head : HeapTerm
  pub body : HeapTerm
  pub variables : ℕ

-- the two as the arguments of one term
abbrev pub both : HeapTerm → HeapTerm → HeapTerm
both head body = with_arguments 0 (head ∷ body ∷ [])

-- each name that stands in the clause is among the first so many
pub record HaveNamesBelow (n : ℕ) (c : ClauseValue) : Type 0 where
  pub head : HasNamesBelow n c.head
  pub body : HasNamesBelow n c.body

abbrev pub stored_code : Coded StoredValue
stored_code = code_by (HeapTerm × ℕ) (coded× (coded_term coded_ℕ) coded_ℕ) (λ s. (s.term, s.variables))
    (λ p. record { term = p.0; variables = p.1 }) (λ _. refl)

abbrev pub clause_code : Coded ClauseValue
clause_code = code_by (HeapTerm × (HeapTerm × ℕ)) (coded× (coded_term coded_ℕ) (coded× (coded_term coded_ℕ) coded_ℕ)) (λ c. (c.head, (c.body, c.variables)))
    (λ p. record { head = p.0; body = p.1.0; variables = p.1.1 }) (λ _. refl)
