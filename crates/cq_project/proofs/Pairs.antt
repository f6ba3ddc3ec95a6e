-- What is refused over a dictionary of equations that follow from a list, is refused over one of the list while an answer is made.
use Rattle.std.proofs.Common.{◌≡◌, ℕ, List, refl, ap, ap₂, sym, subst, ◌∙◌}
use Rattle.spec_numbers.specs.Rational.{ℚ, 1ℚ, ◌*ℚ◌, ◌/ℚ◌}
use Rattle.spec_linear.specs.Form.{Linear}
use Rattle.spec_linear.specs.Solution.{Constraint, Point, Solves, Has, SomeMentions}
use Rattle.spec_projection.proofs.Members.{has_image}
use Rattle.spec_simplex.specs.LimitsDictionary.{Quantity, variable, IsQuantity, Expression, IsWritten, IsDictionary, without_disequations}
use Rattle.spec_simplex.specs.Overflow.{Moment, answering, IsInUse, beside_feasible, in_answer, IsRow, quantity_row, asked_row, Row, RowIndex, constant, column, IsRowIndex, number_at, Exchange, pivot_entry, Adding, Makes, coefficients, constants, operands, quotient, inverse, product, product_inverse, difference, scaled, added, divided, between, between_constants, OverflowDue}
use Rattle.cq_frac.specs.declared.Operation.{Operation}
use Rattle.cq_frac.specs.declared.Pair.{Pair}
use Rattle.cq_project.proofs.Places.{AreAmong}
use Rattle.cq_project.proofs.Moved.{moved, all_moved, moved_expression, same_quantity, is_quantity, same_form, written, column_given, dictionary}

module _ (m : Moment) (k : List Constraint) (a : AreAmong m.list k) (known : (x : ℕ) → SomeMentions x k → IsQuantity m.list m.asked (variable x))
    (follows : (p : Point) → Solves p (without_disequations k) → Solves p (without_disequations m.list)) where
  abbrev pub answered : Moment
  answered = record { stage = answering; list = k; asked = m.asked; operations = m.operations; rows = m.rows }

  own : {zeros columns : List Quantity} → IsInUse m zeros columns → IsDictionary m.list m.asked zeros columns
  own (beside_feasible g) = g.own
  own (in_answer e d) = d

  abbrev there : Quantity → Quantity
  there q = moved m.list k a q

  abbrev all_there : List Quantity → List Quantity
  all_there s = all_moved m.list k a s

  abbrev expression : Expression → Expression
  expression e = moved_expression m.list k a e

  in_use : {zeros columns : List Quantity} → IsInUse m zeros columns → IsInUse answered (all_there zeros) (all_there columns)
  in_use {zeros} {columns} u = in_answer refl (dictionary m.list k a m.asked zeros columns (own u) known follows)

  module _ (zeros columns : List Quantity) (d : IsDictionary m.list m.asked zeros columns) where
    is_row : (f : Linear) → IsRow m columns f → IsRow answered (all_there columns) f
    is_row _ (quantity_row q i n) =
        subst (IsRow answered (all_there columns)) (same_form m.list k a m.asked q i)
        (quantity_row (there q) (is_quantity m.list k a m.asked q i)
        (λ h. n (column_given m.list k a m.asked zeros columns d.zeros_are_quantities d.columns_are_quantities q i columns d.columns_are_quantities h)))
    is_row f (asked_row h) = asked_row h

    written_there : (f : Linear) (e : Expression) → IsWritten m.list zeros columns f e → IsWritten k (all_there zeros) (all_there columns) f (expression e)
    written_there f e w = written m.list k a m.asked zeros columns d.zeros_are_quantities d.columns_are_quantities f e w

    abbrev row : Row m zeros columns → Row answered (all_there zeros) (all_there columns)
    row r = record { form = r.form; is_row = is_row r.form r.is_row; numbers = expression r.numbers; written = written_there r.form r.numbers r.written }

    abbrev index : RowIndex → RowIndex
    index constant = constant
    index (column q) = column (there q)

    is_index : (at : RowIndex) → IsRowIndex columns at → IsRowIndex (all_there columns) (index at)
    is_index constant h = tt
    is_index (column q) h = has_image there q columns h

    entry : (e : Expression) (q : Quantity) → Has q columns → (expression e).entry (there q) ≡ e.entry q
    entry e q h = ap e.entry (same_quantity m.list k a m.asked q (d.columns_are_quantities q h))

    number : (e : Expression) (at : RowIndex) → IsRowIndex columns at → number_at (expression e) (index at) ≡ number_at e at
    number e constant h = refl
    number e (column q) h = entry e q h

  abbrev exchange : Exchange m → Exchange answered
  exchange x = record {
    zeros = all_there x.zeros;
    columns = all_there x.columns;
    in_use = in_use x.in_use;
    row = row x.zeros x.columns (own x.in_use) x.row;
    column = there x.column;
    is_column = has_image there x.column x.columns x.is_column;
    not_zero = λ e. x.not_zero (sym (entry x.zeros x.columns (own x.in_use) x.row.numbers x.column x.is_column) ∙ e);
  }

  abbrev adding : Adding m → Adding answered
  adding x = record {
    zeros = all_there x.zeros;
    columns = all_there x.columns;
    in_use = in_use x.in_use;
    form = x.form;
    is_asked = x.is_asked;
    ordered = x.ordered;
    earlier = x.earlier;
    now = x.now;
    later = x.later;
    split = x.split;
    numbers = expression x.numbers;
    written = written_there x.zeros x.columns (own x.in_use) _ x.numbers x.written;
    before = expression x.before;
    gave = written_there x.zeros x.columns (own x.in_use) _ x.before x.gave;
  }

  with_numbers : {o : Operation} (p q : ℚ) {r s : ℚ} → Makes answered o p q → p ≡ r → q ≡ s → Makes answered o r s
  with_numbers {o} p q {r} {s} w e f = subst (λ y. Makes answered o r y) f (subst (λ z. Makes answered o z q) e w)

  module _ (x : Exchange m) where
    in_row : (at : RowIndex) → IsRowIndex x.columns at → number_at (exchange x).row.numbers (index x.zeros x.columns (own x.in_use) at) ≡ number_at x.row.numbers at
    in_row at h = number x.zeros x.columns (own x.in_use) x.row.numbers at h

    pivot : pivot_entry (exchange x) ≡ pivot_entry x
    pivot = entry x.zeros x.columns (own x.in_use) x.row.numbers x.column x.is_column

    in_column : (other : Row m x.zeros x.columns) → (expression other.numbers).entry (there x.column) ≡ other.numbers.entry x.column
    in_column other = entry x.zeros x.columns (own x.in_use) other.numbers x.column x.is_column

  makes : {o : Operation} {p q : ℚ} → Makes m o p q → Makes answered o p q
  makes (coefficients o h s x) = coefficients o h s x
  makes (constants o h s) = constants o h s
  makes (operands o h s l r) = operands o h s l r
  makes (quotient x at h) = with_numbers _ _ (quotient (exchange x) (index x.zeros x.columns (own x.in_use) at) (is_index x.zeros x.columns (own x.in_use) at h)) (in_row x at h) (pivot x)
  makes (inverse x) = with_numbers _ _ (inverse (exchange x)) refl (pivot x)
  makes (product x other at h) =
      with_numbers _ _ (product (exchange x) (row x.zeros x.columns (own x.in_use) other) (index x.zeros x.columns (own x.in_use) at) (is_index x.zeros x.columns (own x.in_use) at h))
      (in_column x other) (ap₂ (λ n p. n /ℚ p) (in_row x at h) (pivot x))
  makes (product_inverse x other) =
      with_numbers _ _ (product_inverse (exchange x) (row x.zeros x.columns (own x.in_use) other)) (in_column x other) (ap (λ p. 1ℚ /ℚ p) (pivot x))
  makes (difference x other at h) =
      with_numbers _ _ (difference (exchange x) (row x.zeros x.columns (own x.in_use) other) (index x.zeros x.columns (own x.in_use) at) (is_index x.zeros x.columns (own x.in_use) at h))
      (number x.zeros x.columns (own x.in_use) other.numbers at h)
      (ap₂ (λ n p. n *ℚ p) (in_column x other) (ap₂ (λ n p. n /ℚ p) (in_row x at h) (pivot x)))
  makes (scaled x at h) =
      with_numbers _ _ (scaled (adding x) (index x.zeros x.columns (own x.in_use) at) (is_index x.zeros x.columns (own x.in_use) at h)) refl
      (number x.zeros x.columns (own x.in_use) x.numbers at h)
  makes (added x at h) =
      with_numbers _ _ (added (adding x) (index x.zeros x.columns (own x.in_use) at) (is_index x.zeros x.columns (own x.in_use) at h))
      (number x.zeros x.columns (own x.in_use) x.before at h) (ap (λ n. x.now.factor *ℚ n) (number x.zeros x.columns (own x.in_use) x.numbers at h))
  makes (divided f h n x z) = divided f h n x z
  makes (between f g h j x y p n) = between f g h j x y p n
  makes (between_constants f g h j x p n) = between_constants f g h j x p n

  pub refused_there : (pair : Pair) → OverflowDue m pair → OverflowDue answered pair
  refused_there pair d = record { made = makes d.made; refused = d.refused }
