-- A term without variables.
use Rattle.std.proofs.Common.{◌≡◌, ℕ, List, refl, ap, ◌∙◌, inl, inr}
use Rattle.spec_terms.specs.Term.{Terms, Var, Number, Name, Compound, one, more, OccursIn}
use Rattle.spec_terms.specs.Variables.{variables_after, variables_in}
use Rattle.cq_term.specs.Meaning.{HeapTerm}
use Rattle.cq_term.specs.Ground.{IsGround}

-- it adds none to a list of variables
mutual
  pub after_ground : (vs : List ℕ) (t : HeapTerm) → IsGround t → variables_after vs t ≡ vs
  after_ground vs (Var v) ground = absurd (ground v refl)
  after_ground vs (Number q) ground = refl
  after_ground vs (Name a) ground = refl
  after_ground vs (Compound f ts) ground = in_ground vs ts ground

  in_ground : (vs : List ℕ) (ts : Terms ℕ) → ((v : ℕ) → OccursIn v ts → ⊥) → variables_in vs ts ≡ vs
  in_ground vs (one t) ground = after_ground vs t ground
  in_ground vs (more t ts) ground = ap (λ ws. variables_in ws ts) (after_ground vs t (λ v o. ground v (inl o))) ∙ in_ground vs ts (λ v o. ground v (inr o))
