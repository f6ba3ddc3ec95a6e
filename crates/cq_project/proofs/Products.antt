-- Products that are put in one by one.
use Rattle.std.proofs.Common.{◌≡◌, ℕ, zero, suc, ◌+◌, ◌<◌, List, [], ◌∷◌, ◌++◌, map, length, take, drop, get_or, add-one, arith, inl, pos, refl, ap, ap₂, sym, subst, ◌∙◌}
use Rattle.std.proofs.lemmas.List.{map-append}
use Rattle.std.proofs.Math.Seq.{split_at}
use Rattle.spec_numbers.specs.Rational.{ℚ, ◌+ℚ◌, ◌*ℚ◌}
use Rattle.spec_numbers.specs.Sums.{Monomial, sum_at}
use Rattle.spec_numbers.proofs.Ring.{var, int, ◌⊕◌}
use Rattle.spec_numbers.proofs.RationalLemmas.{ring}
use Rattle.spec_numbers.proofs.Sums.{sum_at-append}
use Rattle.spec_linear.specs.Form.{Linear, value_at, sum_form, scaled_form}
use Rattle.spec_linear.specs.Solution.{Constraint, Has}
use Rattle.spec_linear.proofs.Denominators.{has_right}
use Rattle.spec_linear.proofs.Values.{value_at-sum_form, value_at-scaled_form}
use Rattle.spec_numbers.proofs.Places.{take-next}
use Rattle.spec_linear.specs.Echelon.{Solved}
use Rattle.cq_frac.specs.declared.Pair.{Pair}
use Rattle.cq_frac.specs.declared.row.Entry.{Entry}
use Rattle.cq_form.specs.Entries.{product_of, products_of}
use Rattle.spec_projection.specs.Substitution.{put_into}
use Rattle.cq_equations.specs.declared.project.Equation.{Equation}
use Rattle.cq_equations.specs.Rows.{equations_of, solved_of}
use Rattle.cq_project.specs.declared.echelon.putting.Row.{Row}
use Rattle.cq_project.specs.Putting.{value_of, solved_by, all_solved_by, AreAlike, no_equation, one_equation, PutsPair, scales, adds, PutsInForm}
use Rattle.cq_project.proofs.Valued.{alike_values, alike_forms}

pub has_here : {A : Type 0} (l : List A) (i : ℕ) (x : A) → i < length l → x ≡ get_or l i x → Has x l
has_here l i x h e = subst (Has x) (sym (split_at l i x h)) (has_right x (take i l) (get_or l i x ∷ drop (suc i) l) (inl e))

-- ---- a sum with one more product
pub with_value : (es : List Solved) (sum multiple row f : Linear) (k : ℚ) (x : ℕ) → multiple ≡ scaled_form k row → ((a : ℕ → ℚ) → value_at a row ≡ value_of es a x)
    → f ≡ sum_form sum multiple → (a : ℕ → ℚ) → value_at a f ≡ value_at a sum +ℚ k *ℚ value_of es a x
with_value es sum multiple row f k x m values e a =
    ap (value_at a) e ∙ value_at-sum_form a sum multiple
    ∙ ap (λ q. value_at a sum +ℚ q) (ap (value_at a) m ∙ value_at-scaled_form a k row ∙ ap (λ q. k *ℚ q) (values a))

sum_behind : (v : ℕ → ℚ) (s : List Monomial) (m : Monomial) → sum_at v (s ++ m ∷ []) ≡ sum_at v s +ℚ m.factor *ℚ v m.variable
sum_behind v s m =
    sum_at-append v s (m ∷ []) ∙ ap (λ q. sum_at v s +ℚ q) (ring ((m.factor *ℚ v m.variable) ∷ []) (var 0 ⊕ int (pos 0)) (var 0) refl)

product_at : (s : List Entry) (i : ℕ) (m : Entry) → i < length s → m ≡ get_or s i m → product_of m ≡ get_or (products_of s) i (product_of m)
product_at [] i m h e = refl
product_at (n ∷ s) zero m h e = ap product_of e
product_at (n ∷ s) (suc i) m h e = product_at s i m (omega (arith, h)) e

same_length : (s : List Entry) → length (products_of s) ≡ length s
same_length [] = refl
same_length (m ∷ s) = let e = same_length s in omega (arith, e)

module _ (f : Linear) (s : List Entry) (is : products_of s ≡ f.products) (i : ℕ) (m : Entry) (within : i < length s) (here : m ≡ get_or s i m) where
  inside : i < length f.products
  inside = let e = same_length s in subst (λ t. i < length t) is (omega (arith, within, e))

  found : product_of m ≡ get_or f.products i (product_of m)
  found = product_at s i m within here ∙ ap (λ t. get_or t i (product_of m)) is

  pub products_split : f.products ≡ take i f.products ++ product_of m ∷ drop (i + 1) f.products
  products_split = split_at f.products i (product_of m) inside ∙ ap₂ (λ (n : Monomial) (j : ℕ). take i f.products ++ n ∷ drop j f.products) (sym found) (sym (add-one i))

  pub value_more : (v : ℕ → ℚ) → value_at v (record { products = take (i + 1) f.products; constant = f.constant })
      ≡ value_at v (record { products = take i f.products; constant = f.constant }) +ℚ m.factor *ℚ v m.quantity
  value_more v =
      ap (λ t. f.constant +ℚ sum_at v t) (take-next f.products i (product_of m) inside found)
      ∙ ap (λ q. f.constant +ℚ q) (sum_behind v (take i f.products) (product_of m))
      ∙ ring (f.constant ∷ sum_at v (take i f.products) ∷ (m.factor *ℚ v m.quantity) ∷ []) (var 0 ⊕ (var 1 ⊕ var 2)) ((var 0 ⊕ var 1) ⊕ var 2) refl

-- ---- stops, of equations that are alike
puts_alike : (k l : List Solved) → AreAlike k l → (before : Linear) (x : ℕ) (q : ℚ) (pair : Pair) → PutsPair k before x q pair → PutsPair l before x q pair
puts_alike k l h before x q pair (scales row o values p r) = scales row o (λ a. values a ∙ alike_values k l h a x) p r
puts_alike k l h before x q pair (adds row o values p r) = adds row o (λ a. values a ∙ alike_values k l h a x) p r

pub puts_in_alike : (k l : List Solved) → AreAlike k l → (f : Linear) (pair : Pair) → PutsInForm k f pair → PutsInForm l f pair
puts_in_alike k l h f pair p = record {
  ordered = p.ordered;
  earlier = p.earlier;
  now = p.now;
  later = p.later;
  split = p.split;
  before = p.before;
  before_ordered = p.before_ordered;
  gave = λ a. p.gave a ∙ alike_forms k l h a (record { products = p.earlier; constant = f.constant });
  puts = puts_alike k l h p.before p.now.variable p.now.factor pair p.puts;
}

-- ---- one more row
pub rows_more : (es : List Solved) (rows : List Constraint) (i : ℕ) (row : Constraint) (all new : List Constraint) → all ≡ map (put_into es) (take i rows)
    → i < length rows → row ≡ get_or rows i row → new ≡ all ++ put_into es row ∷ [] → new ≡ map (put_into es) (take (i + 1) rows)
rows_more es rows i row all new h l e n =
    n ∙ ap (λ t. t ++ put_into es row ∷ []) h ∙ sym (map-append (put_into es) (take i rows) (row ∷ [])) ∙ ap (map (put_into es)) (sym (take-next rows i row l e))

-- ---- one more equation
alike_behind : (k l : List Solved) (d e : Solved) → AreAlike k l → d.variable ≡ e.variable → ((a : ℕ → ℚ) → value_at a d.form ≡ value_at a e.form)
    → AreAlike (k ++ d ∷ []) (l ++ e ∷ [])
alike_behind _ _ d e no_equation v h = one_equation v h no_equation
alike_behind _ _ d e (one_equation w g t) v h = one_equation w g (alike_behind _ _ d e t v h)

pub alike_more : (rows : List Row) (row : Row) (equations : List Equation) (i : ℕ) (e : Equation) → AreAlike (all_solved_by rows) (equations_of (take i equations))
    → i < length equations → e ≡ get_or equations i e → row.variable ≡ e.variable
    → ((a : ℕ → ℚ) → value_at a row.form ≡ value_at a (solved_of e).form)
    → (new : List Row) → new ≡ rows ++ row ∷ [] → AreAlike (all_solved_by new) (equations_of (take (i + 1) equations))
alike_more rows row equations i e h l at v values new n =
    subst (λ (w : List Row). AreAlike (all_solved_by w) (equations_of (take (i + 1) equations))) (sym n)
    (subst (λ t. AreAlike (all_solved_by (rows ++ row ∷ [])) (equations_of t)) (sym (take-next equations i e l at))
    (subst (λ t. AreAlike t (equations_of (take i equations ++ e ∷ []))) (sym (map-append solved_by rows (row ∷ [])))
    (subst (λ t. AreAlike (all_solved_by rows ++ solved_by row ∷ []) t) (sym (map-append solved_of (take i equations) (e ∷ [])))
    (alike_behind (all_solved_by rows) (equations_of (take i equations)) (solved_by row) (solved_of e) h (ap (λ x. x.0) v) values))))
