-- What the definitions say of a compound, from what they say of its arguments.
use Rattle.std.proofs.Common.{◌≡◌, ℕ, Bool, true, false, Option, Some, None, refl, sym, ap, ◌∙◌, ◌||◌, ◌&&◌}
use Rattle.std.specs.Prelude.{if◌then◌else◌, codes, bytes_eq}
use Rattle.spec_linear.specs.Form.{Linear}
use Rattle.spec_linear.specs.Solution.{Constraint}
use Rattle.spec_numbers.specs.Texts.{Text}
use Rattle.spec_terms.specs.Term.{Compound, one, more}
use Rattle.spec_syntax.specs.Trees.{Tree}
use Rattle.spec_numbers.specs.Rational.{ℚ}
use Rattle.spec_branch.specs.Expressions.{UnaryName, BinaryName, Plus, Minus, Times, Over, Power, Least, Greatest, unary_name, binary_name, unary_of, binary_of, is_zero_form, form_of, has_zero_divisor}
use Rattle.spec_branch.specs.Relations.{Lin, False, RelationName, relation_name, related_forms, form_or_waits, lin_expression, lin}
use Rattle.spec_branch.proofs.Stable.{is_over as is_quotient}
use Rattle.cq_cexpr.specs.Names.{is_over}
use Rattle.cq_cexpr.specs.Work.{form_in, after_one, after_both}

-- ---- quotients

-- no other name is that of quotients
not_over : (plus minus times power_ least_ greatest_ : Bool) → is_over (
    if plus then Some Plus
    else if minus then Some Minus
    else if times then Some Times
    else if false then Some Over
    else if power_ then Some Power
    else if least_ then Some Least
    else if greatest_ then Some Greatest
    else None) ≡ false
not_over true m t p l g = refl
not_over false true t p l g = refl
not_over false false true p l g = refl
not_over false false false true l g = refl
not_over false false false false true g = refl
not_over false false false false false true = refl
not_over false false false false false false = refl

pub over-binary_name : (f : Text) → is_over (binary_name f) ≡ bytes_eq f (codes "/")
over-binary_name f = go (bytes_eq f (codes "/")) refl
  where
    go : (b : Bool) → bytes_eq f (codes "/") ≡ b → is_over (binary_name f) ≡ b
    go true e = ap is_over (is_quotient f e)
    go false e =
        ap (λ (b : Bool). is_over (
        if bytes_eq f (codes "+") then Some Plus
        else if bytes_eq f (codes "-") then Some Minus
        else if bytes_eq f (codes "*") then Some Times
        else if b then Some Over
        else if bytes_eq f (codes "pow") || bytes_eq f (codes "^") then Some Power
        else if bytes_eq f (codes "min") then Some Least
        else if bytes_eq f (codes "max") then Some Greatest
        else None)) e
        ∙ not_over (bytes_eq f (codes "+")) (bytes_eq f (codes "-")) (bytes_eq f (codes "*"))
        (bytes_eq f (codes "pow") || bytes_eq f (codes "^")) (bytes_eq f (codes "min")) (bytes_eq f (codes "max"))

-- ---- compounds

-- an expression by whether a divisor is zero, and its form
abbrev taken : Bool → Option Linear → Lin Linear
taken zero form = if zero then False else form_or_waits form

with_one : (n : Option UnaryName) (z : Bool) (o : Option Linear) → taken z (unary_of n o) ≡ after_one n (taken z o)
with_one n true o = refl
with_one n false None = refl
with_one n false (Some f) = refl

pub one_is : (fixed : ℕ → Option ℚ) (f : Text) (a : Tree) → lin_expression fixed (Compound f (one a)) ≡ after_one (unary_name f) (lin_expression fixed a)
one_is fixed f a = with_one (unary_name f) (has_zero_divisor fixed a) (form_of fixed a)

with_two : (n : Option BinaryName) (s : Bool) (y z : Bool) (o p : Option Linear) → is_over n ≡ s
    → taken (y || z || (s && is_zero_form p)) (binary_of n o p) ≡ after_both n (taken y o) (taken z p)
with_two n s true z o p e = refl
with_two n s false true None p e = refl
with_two n s false true (Some f) p e = refl
with_two n s false false None None e = ap (λ (b : Bool). if b && false then False else form_or_waits (binary_of n None None)) (sym e)
with_two n s false false None (Some g) e = ap (λ (b : Bool). if b && is_zero_form (Some g) then False else form_or_waits (binary_of n None (Some g))) (sym e)
with_two n s false false (Some f) None e = ap (λ (b : Bool). if b && false then False else form_or_waits (binary_of n (Some f) None)) (sym e)
with_two n s false false (Some f) (Some g) e = ap (λ (b : Bool). if b && is_zero_form (Some g) then False else form_or_waits (binary_of n (Some f) (Some g))) (sym e)

pub two_is : (fixed : ℕ → Option ℚ) (f : Text) (a b : Tree) → lin_expression fixed (Compound f (more a (one b))) ≡ after_both (binary_name f) (lin_expression fixed a) (lin_expression fixed b)
two_is fixed f a b =
    with_two (binary_name f) (bytes_eq f (codes "/")) (has_zero_divisor fixed a) (has_zero_divisor fixed b) (form_of fixed a) (form_of fixed b) (over-binary_name f)

-- ---- relations

-- the sides of a relation
abbrev pub both_sides : Option RelationName → Lin Linear → Lin Linear → Lin Constraint
both_sides r False right = False
both_sides r left False = False
both_sides r left right = related_forms r (form_in left) (form_in right)

with_sides : (r : Option RelationName) (y z : Bool) (o p : Option Linear) → (if y || z then False else related_forms r o p) ≡ both_sides r (taken y o) (taken z p)
with_sides r true z o p = refl
with_sides r false true None p = refl
with_sides r false true (Some f) p = refl
with_sides r false false None None = refl
with_sides r false false None (Some g) = refl
with_sides r false false (Some f) None = refl
with_sides r false false (Some f) (Some g) = refl

pub relation_is : (fixed : ℕ → Option ℚ) (r : Text) (a b : Tree) → lin fixed (Compound r (more a (one b))) ≡ both_sides (relation_name r) (lin_expression fixed a) (lin_expression fixed b)
relation_is fixed r a b = with_sides (relation_name r) (has_zero_divisor fixed a) (has_zero_divisor fixed b) (form_of fixed a) (form_of fixed b)

-- ---- forms of arguments

-- the form of what an expression comes to, unless a divisor is zero
pub form_in_taken : (o : Option Linear) → form_in (form_or_waits o) ≡ o
form_in_taken None = refl
form_in_taken (Some f) = refl

-- a form where there is one is that of the definitions, else there is none
pub data FormOr (fixed : ℕ → Option ℚ) (t : Tree) : Type 0 where
  as_defined : form_in (lin_expression fixed t) ≡ form_of fixed t → FormOr fixed t
  is_none : form_in (lin_expression fixed t) ≡ None → FormOr fixed t

pub form_or : (fixed : ℕ → Option ℚ) (t : Tree) → FormOr fixed t
form_or fixed t = go (has_zero_divisor fixed t) (form_of fixed t) refl refl
  where
    go : (z : Bool) (o : Option Linear) → has_zero_divisor fixed t ≡ z → form_of fixed t ≡ o → FormOr fixed t
    go true o e h = is_none (ap (λ (b : Bool). form_in (taken b (form_of fixed t))) e)
    go false o e h = as_defined (ap (λ (b : Bool). form_in (taken b (form_of fixed t))) e ∙ form_in_taken (form_of fixed t))
