-- The operations of a term are the same with fixed values bound.
use Rattle.std.proofs.Common.{◌≡◌, ℕ, List, [], ◌++◌, Option, None, Some, refl, sym, ap, ap₂, ◌∙◌}
use Rattle.spec_numbers.specs.Rational.{ℚ}
use Rattle.spec_simplex.specs.Overflow.{Operands}
use Rattle.cq_frac.specs.declared.Operation.TheVariants.{Difference}
use Rattle.spec_terms.specs.Term.{Var, Number, Name, Compound, one, more, Occurs, apply}
use Rattle.spec_terms.proofs.Substitution.{apply_agree}
use Rattle.spec_syntax.specs.Trees.{Tree}
use Rattle.spec_branch.specs.Expressions.{binary_name}
use Rattle.spec_branch.specs.Settling.{value_or_variable}
use Rattle.spec_branch.specs.Alike.{no_values}
use Rattle.spec_transcript.specs.Operands.{both, binary_operands, expression_operands, relation_operands}
use Rattle.cq_settle.specs.Underway.{valued}
use Rattle.cq_settle.proofs.Bound.{form_same}

variable_none : (o : Option ℚ) (x : ℕ) → expression_operands no_values (value_or_variable o x) ≡ []
variable_none None x = refl
variable_none (Some q) x = refl

pub expression_same : (fixed : ℕ → Option ℚ) (t : Tree) → expression_operands no_values (apply (valued fixed) t) ≡ expression_operands fixed t
expression_same fixed (Var x) = variable_none (fixed x) x
expression_same fixed (Number q) = refl
expression_same fixed (Name a) = refl
expression_same fixed (Compound f (one a)) = expression_same fixed a
expression_same fixed (Compound f (more a (one b))) =
    ap₂ (λ (x y : List Operands). x ++ y) (ap₂ (λ (x y : List Operands). x ++ y) (expression_same fixed a) (expression_same fixed b))
    (ap₂ (λ x y. binary_operands (binary_name f) x y) (form_same fixed a) (form_same fixed b))
expression_same fixed (Compound f (more a (more b ts))) = refl

variable_relation : (o : Option ℚ) (x : ℕ) → relation_operands no_values (value_or_variable o x) ≡ []
variable_relation None x = refl
variable_relation (Some q) x = refl

pub relation_same : (fixed : ℕ → Option ℚ) (t : Tree) → relation_operands no_values (apply (valued fixed) t) ≡ relation_operands fixed t
relation_same fixed (Var x) = variable_relation (fixed x) x
relation_same fixed (Number q) = refl
relation_same fixed (Name a) = refl
relation_same fixed (Compound f (one a)) = refl
relation_same fixed (Compound f (more a (one b))) =
    ap₂ (λ (x y : List Operands). x ++ y)
    (ap₂ (λ (x y : List Operands). x ++ y) (ap₂ (λ (x y : List Operands). x ++ y) (expression_same fixed a) (expression_same fixed b))
    (ap₂ (λ x y. both Difference x y) (form_same fixed a) (form_same fixed b)))
    (ap₂ (λ x y. both Difference y x) (form_same fixed a) (form_same fixed b))
relation_same fixed (Compound f (more a (more b ts))) = refl

-- a relation's operations depend on the values of its variables alone
pub relation_agree : (f g : ℕ → Option ℚ) (t : Tree) → ((v : ℕ) → Occurs v t → f v ≡ g v) → relation_operands f t ≡ relation_operands g t
relation_agree f g t h =
    sym (relation_same f t)
    ∙ ap (λ (x : Tree). relation_operands no_values x) (apply_agree (valued f) (valued g) t (λ v o. ap (λ (x : Option ℚ). value_or_variable x v) (h v o)))
    ∙ relation_same g t
