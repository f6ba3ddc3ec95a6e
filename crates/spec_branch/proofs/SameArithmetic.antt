-- An expression without errors that arithmetic gives a value has this value in constraints too.
use Rattle.std.proofs.Common.{◌≡◌, ℕ, zero, suc, arith, pos, negsuc, ℤ, nat_abs, nat_eq, Bool, true, false, cond, Option, None, Some, is_some, refl, sym, ap, ◌∙◌, ◌||◌}
use Rattle.std.specs.Prelude.{codes, bytes_eq}
use Rattle.std.specs.Cmp.Lexicographic.{bytes_decides}
use Rattle.spec_numbers.specs.Rational.{ℚ, ◌/ℚ◌}
use Rattle.cq_frac.specs.declared.Operation.{Operation}
use Rattle.cq_frac.specs.declared.Operation.TheVariants.{Sum, Difference, Product, Quotient}
use Rattle.spec_terms.specs.declared.arithmetic.UnaryOperation.{UnaryOperation}
use Rattle.spec_terms.specs.declared.arithmetic.UnaryOperation.TheVariants as unary
use Rattle.spec_terms.specs.declared.arithmetic.BinaryOperation.{BinaryOperation}
use Rattle.spec_terms.specs.declared.arithmetic.BinaryOperation.TheVariants as binary
use Rattle.spec_terms.specs.Operations.{is_zero, unary_named, binary_named, exact_value, unless_refused, refuses, exact_result, Evaluated, Value, Fails, Overflows, ZeroDivisor}
use Rattle.spec_terms.specs.Arithmetic.{evaluate, unary_applied, binary_applied}
use Rattle.spec_numbers.proofs.Tests.{nat_eq-apart}
use Rattle.spec_numbers.specs.Texts.{Text}
use Rattle.spec_terms.specs.Term.{Var, Number, Name, Compound, one, more}
use Rattle.spec_syntax.specs.Trees.{Tree}
use Rattle.spec_builtins.specs.Errors.{or_error}
use Rattle.spec_branch.specs.Checks.{expression_error}
use Rattle.spec_branch.specs.Expressions.{UnaryName, Same, Opposite, Absolute, BinaryName, Plus, Minus, Times, Over, Power, Least, Greatest, unary_name, binary_name}
use Rattle.spec_branch.specs.Values.{value_of_unary, value_of_quotient, value_of_binary, unary_at, binary_at, value_of}

-- ---- one table of names within the other

unary_meant : UnaryName → Option UnaryOperation
unary_meant Same = Some unary.Same
unary_meant Opposite = Some unary.Opposite
unary_meant Absolute = Some unary.Absolute

binary_meant : BinaryName → Option BinaryOperation
binary_meant Plus = Some (binary.Exact Sum)
binary_meant Minus = Some (binary.Exact Difference)
binary_meant Times = Some (binary.Exact Product)
binary_meant Over = Some (binary.Exact Quotient)
binary_meant Power = None
binary_meant Least = Some binary.Least
binary_meant Greatest = Some binary.Greatest

module _ {A B : Type 0} (table : Text → Option B) (meant : A → Option B) where
  -- an entry that is found by its text
  by_text : (f s : Text) (m n : A) → bytes_eq f s ≡ true → table s ≡ meant m → Some m ≡ Some n → table f ≡ meant n
  by_text f s m n h e d =
      let k : m ≡ n = cc in
      ap table ((bytes_decides f s).0 h) ∙ e ∙ ap meant k

abbrev Unaries : Text → UnaryName → Type 0
Unaries f n = unary_named f ≡ unary_meant n

abbrev Binaries : Text → BinaryName → Type 0
Binaries f n = binary_named f ≡ binary_meant n

unary_in : (f : Text) (n : UnaryName) → unary_name f ≡ Some n → Unaries f n
unfolding unary_meant
unary_in f n e = go (bytes_eq f (codes "+")) (bytes_eq f (codes "-")) (bytes_eq f (codes "abs")) refl refl refl e
  where
    go : (b c d : Bool) → bytes_eq f (codes "+") ≡ b → bytes_eq f (codes "-") ≡ c → bytes_eq f (codes "abs") ≡ d
        → cond b (Some Same) (cond c (Some Opposite) (cond d (Some Absolute) None)) ≡ Some n → Unaries f n
    go true c d h i j e = by_text unary_named unary_meant f (codes "+") Same n h refl e
    go false true d h i j e = by_text unary_named unary_meant f (codes "-") Opposite n i refl e
    go false false true h i j e = by_text unary_named unary_meant f (codes "abs") Absolute n j refl e
    go false false false h i j e = cc

binary_in : (f : Text) (n : BinaryName) → binary_name f ≡ Some n → Binaries f n
unfolding binary_meant
binary_in f n e =
    sums (bytes_eq f (codes "+")) (bytes_eq f (codes "-")) (bytes_eq f (codes "*")) (bytes_eq f (codes "/")) refl refl refl refl e
  where
    rest : (p w l g : Bool) → bytes_eq f (codes "pow") ≡ p → bytes_eq f (codes "^") ≡ w → bytes_eq f (codes "min") ≡ l
        → bytes_eq f (codes "max") ≡ g
        → cond (p || w) (Some Power) (cond l (Some Least) (cond g (Some Greatest) None)) ≡ Some n → Binaries f n
    rest true w l g h i j k e = by_text binary_named binary_meant f (codes "pow") Power n h refl e
    rest false true l g h i j k e = by_text binary_named binary_meant f (codes "^") Power n i refl e
    rest false false true g h i j k e = by_text binary_named binary_meant f (codes "min") Least n j refl e
    rest false false false true h i j k e = by_text binary_named binary_meant f (codes "max") Greatest n k refl e
    rest false false false false h i j k e = cc

    others : cond (bytes_eq f (codes "pow") || bytes_eq f (codes "^")) (Some Power) (cond (bytes_eq f (codes "min")) (Some Least) (cond (bytes_eq f (codes "max")) (Some Greatest) None)) ≡ Some n
        → Binaries f n
    others e = rest (bytes_eq f (codes "pow")) (bytes_eq f (codes "^")) (bytes_eq f (codes "min")) (bytes_eq f (codes "max")) refl refl refl refl e

    sums : (b c d q : Bool) → bytes_eq f (codes "+") ≡ b → bytes_eq f (codes "-") ≡ c → bytes_eq f (codes "*") ≡ d
        → bytes_eq f (codes "/") ≡ q
        → cond b (Some Plus) (cond c (Some Minus) (cond d (Some Times) (cond q (Some Over) (cond (bytes_eq f (codes "pow") || bytes_eq f (codes "^")) (Some Power) (cond (bytes_eq f (codes "min")) (Some Least) (cond (bytes_eq f (codes "max")) (Some Greatest) None)))))) ≡ Some n
        → Binaries f n
    sums true c d q h i j k e = by_text binary_named binary_meant f (codes "+") Plus n h refl e
    sums false true d q h i j k e = by_text binary_named binary_meant f (codes "-") Minus n i refl e
    sums false false true q h i j k e = by_text binary_named binary_meant f (codes "*") Times n j refl e
    sums false false false true h i j k e = by_text binary_named binary_meant f (codes "/") Over n k refl e
    sums false false false false h i j k e = others e

-- ---- the same results

same_zero : (z : ℤ) → nat_eq (nat_abs z) 0 ≡ is_zero z
same_zero (pos zero) = refl
same_zero (pos (suc n)) = nat_eq-apart (suc n) 0 (λ e. omega arith)
same_zero (negsuc n) = nat_eq-apart (suc n) 0 (λ e. omega arith)

taken : (o : Operation) (p q r : ℚ) → unless_refused o p q ≡ Value r → exact_value o p q ≡ r
taken o p q r e = go (refuses o p q) e
  where
    go : (b : Bool) → cond b (Overflows (record { operation = o; left = p; right = q })) (Value (exact_value o p q)) ≡ Value r
        → exact_value o p q ≡ r
    go true e = cc
    go false e = cc

quotient_taken : (p q r : ℚ) → exact_result Quotient p q ≡ Value r → value_of_quotient p q ≡ Some r
quotient_taken p q r e = ap (λ (b : Bool). cond b None (Some (p /ℚ q))) (same_zero q.numerator) ∙ go (is_zero q.numerator) e
  where
    go : (b : Bool) → cond b (Fails ZeroDivisor) (unless_refused Quotient p q) ≡ Value r → cond b None (Some (p /ℚ q)) ≡ Some r
    go true e = cc
    go false e = ap (λ (x : ℚ). Some x) (taken Quotient p q r e)

-- what has a value has an argument with one
record OneValue (n : UnaryName) (v : Evaluated) (q : ℚ) : Type 0 where
  argument : ℚ
  is : v ≡ Value argument
  same : value_of_unary n argument ≡ q

record TwoValues (n : BinaryName) (v w : Evaluated) (q : ℚ) : Type 0 where
  left : ℚ
  right : ℚ
  left_is : v ≡ Value left
  right_is : w ≡ Value right
  same : value_of_binary n left right ≡ Some q

one_value : (f : Text) (n : UnaryName) (v : Evaluated) (q : ℚ) → unary_applied f (unary_meant n) v ≡ Value q → OneValue n v q
unfolding unary_meant
one_value f Same (Value p) q e = record { argument = p; is = refl; same = cc }
one_value f Same (Fails x) q e = cc
one_value f Same (Overflows x) q e = cc
one_value f Opposite (Value p) q e = record { argument = p; is = refl; same = cc }
one_value f Opposite (Fails x) q e = cc
one_value f Opposite (Overflows x) q e = cc
one_value f Absolute (Value p) q e = record { argument = p; is = refl; same = cc }
one_value f Absolute (Fails x) q e = cc
one_value f Absolute (Overflows x) q e = cc

binary_same : (f : Text) (n : BinaryName) (p q r : ℚ) → binary_applied f (binary_meant n) (Value p) (Value q) ≡ Value r
    → value_of_binary n p q ≡ Some r
unfolding binary_meant
binary_same f Plus p q r e = ap (λ (x : ℚ). Some x) (taken Sum p q r e)
binary_same f Minus p q r e = ap (λ (x : ℚ). Some x) (taken Difference p q r e)
binary_same f Times p q r e = ap (λ (x : ℚ). Some x) (taken Product p q r e)
binary_same f Over p q r e = quotient_taken p q r e
binary_same f Power p q r e = cc
binary_same f Least p q r e = cc
binary_same f Greatest p q r e = cc

two_values : (f : Text) (n : BinaryName) (v w : Evaluated) (q : ℚ) → binary_applied f (binary_meant n) v w ≡ Value q
    → TwoValues n v w q
two_values f n v w q e = go (binary_meant n) v w refl e
  where
    go : (o : Option BinaryOperation) (v w : Evaluated) → binary_meant n ≡ o → binary_applied f o v w ≡ Value q → TwoValues n v w q
    go None v w d e = cc
    go (Some o) (Fails x) w d e = cc
    go (Some o) (Overflows x) w d e = cc
    go (Some o) (Value x) (Fails y) d e = cc
    go (Some o) (Value x) (Overflows y) d e = cc
    go (Some o) (Value x) (Value y) d e = record {
      left = x;
      right = y;
      left_is = refl;
      right_is = refl;
      same = binary_same f n x y q (ap (λ (m : Option BinaryOperation). binary_applied f m (Value x) (Value y)) d ∙ e);
    }

-- ---- expressions

both_none : (o p : Option Tree) → or_error o p ≡ None → (o ≡ None) × (p ≡ None)
both_none None p e = (refl, e)
both_none (Some t) p e = cc

none_then : (b : Bool) (o : Option Tree) (t : Tree) → cond b o (Some t) ≡ None → (b ≡ true) × (o ≡ None)
none_then true o t e = (refl, e)
none_then false o t e = cc

named_unary : (m : Option UnaryName) → (is_some m || false) ≡ true → (n : UnaryName) × (m ≡ Some n)
named_unary None e = cc
named_unary (Some n) e = (n, refl)

named_binary : (m : Option BinaryName) → is_some m ≡ true → (n : BinaryName) × (m ≡ Some n)
named_binary None e = cc
named_binary (Some n) e = (n, refl)

module _ (a : ℕ → ℚ) where
  pub same_value : (t : Tree) (q : ℚ) → expression_error t ≡ None → evaluate t ≡ Value q → value_of a t ≡ Some q
  same_value (Var x) q h e = cc
  same_value (Number p) q h e = cc
  same_value (Name n) q h e = cc
  same_value (Compound f (one t)) q h e =
      let k = none_then (is_some (unary_name f) || false) (expression_error t) _ h in
      let n : (n : UnaryName) × (unary_name f ≡ Some n) = named_unary (unary_name f) k.0 in
      let v : OneValue n.0 (evaluate t) q = one_value f n.0 (evaluate t) q (ap (λ m. unary_applied f m (evaluate t)) (sym (unary_in f n.0 n.1)) ∙ e) in
      (λ i. unary_at (n.1 i) (same_value t v.argument k.1 v.is i)) ∙ ap (λ (x : ℚ). Some x) v.same
  same_value (Compound f (more t (one u))) q h e =
      let k = none_then (is_some (binary_name f)) (or_error (expression_error t) (expression_error u)) _ h in
      let d = both_none (expression_error t) (expression_error u) k.1 in
      let n : (n : BinaryName) × (binary_name f ≡ Some n) = named_binary (binary_name f) k.0 in
      let v : TwoValues n.0 (evaluate t) (evaluate u) q = two_values f n.0 (evaluate t) (evaluate u) q (ap (λ m. binary_applied f m (evaluate t) (evaluate u)) (sym (binary_in f n.0 n.1)) ∙ e) in
      (λ i. binary_at (n.1 i) (same_value t v.left d.0 v.left_is i) (same_value u v.right d.1 v.right_is i)) ∙ v.same
  same_value (Compound f (more t (more u us))) q h e = cc
