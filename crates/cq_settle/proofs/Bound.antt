-- Fixed values may as well be read as bindings to numbers.
use Rattle.std.proofs.Common.{◌≡◌, ℕ, Bool, true, false, Option, None, Some, refl, ap, ap₂, ◌∙◌, ◌||◌}
use Rattle.std.specs.Prelude.{◌&&◌, if◌then◌else◌, bytes_eq, codes}
use Rattle.spec_numbers.specs.Rational.{ℚ}
use Rattle.spec_linear.specs.Form.{Linear}
use Rattle.spec_linear.specs.Solution.{Constraint}
use Rattle.spec_terms.specs.Term.{Var, Number, Name, Compound, one, more, Occurs, apply}
use Rattle.spec_terms.proofs.Substitution.{apply_agree}
use Rattle.spec_syntax.specs.Trees.{Tree}
use Rattle.spec_branch.specs.Expressions.{form_of, has_zero_divisor, is_zero_form, unary_name, unary_of, binary_name, binary_of, variable_under}
use Rattle.spec_branch.specs.Relations.{Lin, False, lin, relation_name, related_forms}
use Rattle.spec_branch.specs.Settling.{fixed_values, value_or_variable}
use Rattle.cq_settle.specs.Underway.{valued}
use Rattle.spec_branch.specs.Alike.{no_values}

variable_form_same : (o : Option ℚ) (x : ℕ) → form_of no_values (value_or_variable o x) ≡ Some (variable_under o x)
variable_form_same None x = refl
variable_form_same (Some q) x = refl

pub form_same : (fixed : ℕ → Option ℚ) (t : Tree) → form_of no_values (apply (valued fixed) t) ≡ form_of fixed t
form_same fixed (Var x) = variable_form_same (fixed x) x
form_same fixed (Number q) = refl
form_same fixed (Name a) = refl
form_same fixed (Compound f (one a)) = ap (unary_of (unary_name f)) (form_same fixed a)
form_same fixed (Compound f (more a (one b))) = ap₂ (λ x y. binary_of (binary_name f) x y) (form_same fixed a) (form_same fixed b)
form_same fixed (Compound f (more a (more b ts))) = refl

variable_divisor_same : (o : Option ℚ) (x : ℕ) → has_zero_divisor no_values (value_or_variable o x) ≡ false
variable_divisor_same None x = refl
variable_divisor_same (Some q) x = refl

pub divisor_same : (fixed : ℕ → Option ℚ) (t : Tree) → has_zero_divisor no_values (apply (valued fixed) t) ≡ has_zero_divisor fixed t
divisor_same fixed (Var x) = variable_divisor_same (fixed x) x
divisor_same fixed (Number q) = refl
divisor_same fixed (Name a) = refl
divisor_same fixed (Compound f (one a)) = divisor_same fixed a
divisor_same fixed (Compound f (more a (one b))) =
    ap₂ (λ x (y : Option Linear). x || (bytes_eq f (codes "/") && is_zero_form y)) (ap₂ (λ x y. x || y) (divisor_same fixed a) (divisor_same fixed b)) (form_same fixed b)
divisor_same fixed (Compound f (more a (more b ts))) = refl

variable_waits : (o : Option ℚ) (x : ℕ) → lin no_values (value_or_variable o x) ≡ Rattle.spec_branch.specs.Relations.Waits
variable_waits None x = refl
variable_waits (Some q) x = refl

-- a told term where some values are fixed is the same as with those values in the variables' places
pub lin_same : (fixed : ℕ → Option ℚ) (t : Tree) → lin no_values (apply (valued fixed) t) ≡ lin fixed t
lin_same fixed (Var x) = variable_waits (fixed x) x
lin_same fixed (Number q) = refl
lin_same fixed (Name a) = refl
lin_same fixed (Compound f (one a)) = refl
lin_same fixed (Compound f (more a (one b))) =
    ap₂ (λ (z : Bool) (r : Lin Constraint). if z then False else r)
    (ap₂ (λ x y. x || y) (divisor_same fixed a) (divisor_same fixed b))
    (ap₂ (λ x y. related_forms (relation_name f) x y) (form_same fixed a) (form_same fixed b))
lin_same fixed (Compound f (more a (more b ts))) = refl

one_value : (b : Bool) (o : Option ℚ) (v : ℕ) → b ≡ true → (if b then value_or_variable o v else Var v) ≡ value_or_variable o v
one_value true o v e = refl
one_value false o v e = cc

-- the numeric ones are all that stand in the term
pub numeric_enough : (numeric : ℕ → Bool) (fixed : ℕ → Option ℚ) (t : Tree) → ((v : ℕ) → Occurs v t → numeric v ≡ true)
    → apply (fixed_values numeric fixed) t ≡ apply (valued fixed) t
numeric_enough numeric fixed t h = apply_agree (fixed_values numeric fixed) (valued fixed) t (λ v o. one_value (numeric v) (fixed v) v (h v o))

pub lin_bound : (numeric : ℕ → Bool) (fixed : ℕ → Option ℚ) (t : Tree) → ((v : ℕ) → Occurs v t → numeric v ≡ true)
    → lin no_values (apply (fixed_values numeric fixed) t) ≡ lin fixed t
lin_bound numeric fixed t h = ap (λ u. lin no_values u) (numeric_enough numeric fixed t h) ∙ lin_same fixed t
