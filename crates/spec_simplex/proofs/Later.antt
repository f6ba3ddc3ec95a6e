-- What is due at a moment is due at one with more.
use Rattle.std.proofs.Common.{◌≡◌, ℕ, List, Bool}
use Rattle.spec_numbers.specs.Rational.{ℚ}
use Rattle.spec_linear.specs.Form.{Linear}
use Rattle.cq_frac.specs.declared.Operation.{Operation}
use Rattle.cq_frac.specs.declared.Pair.{Pair}
use Rattle.spec_simplex.specs.Dictionary.{Dictionary}
use Rattle.spec_simplex.specs.LimitsDictionary.{Quantity}
use Rattle.spec_simplex.specs.Overflow.{Operands, Stage, Moment, IsInUse, beside_feasible, in_answer, IsRow, quantity_row, asked_row, Row, Exchange, Adding, Makes, coefficients, constants, operands, quotient, inverse, product, product_inverse, difference, scaled, added, divided, between, between_constants, OverflowDue}
use Rattle.spec_simplex.specs.Chains.{IsWrittenWith, Shows, IsBlandChain}
use Rattle.spec_simplex.specs.Later.{in_place_of, HasAll}

module _ (m : Moment) (stage : Stage) (operations : List Operands) (rows : List Linear) where
  abbrev new : Moment
  new = in_place_of m stage operations rows

  module _ (has : HasAll m stage operations rows) where
    in_use : {zeros columns : List Quantity} → IsInUse m zeros columns → IsInUse new zeros columns
    in_use (beside_feasible g) = beside_feasible (record { own = g.own; all_zeros = g.all_zeros; live = g.live; feasible = g.feasible; part = g.part; rest = g.rest })
    in_use (in_answer e d) = in_answer (has.answers e) d

    is_row : {columns : List Quantity} {f : Linear} → IsRow m columns f → IsRow new columns f
    is_row (quantity_row q i n) = quantity_row q i n
    is_row (asked_row h) = asked_row h

    abbrev row : {zeros columns : List Quantity} → Row m zeros columns → Row new zeros columns
    row r = record { form = r.form; is_row = is_row r.is_row; numbers = r.numbers; written = r.written }

    abbrev exchange : Exchange m → Exchange new
    exchange x = record { zeros = x.zeros; columns = x.columns; in_use = in_use x.in_use; row = row x.row; column = x.column; is_column = x.is_column; not_zero = x.not_zero }

    abbrev adding : Adding m → Adding new
    adding a = record { zeros = a.zeros; columns = a.columns; in_use = in_use a.in_use; form = a.form; is_asked = a.is_asked; ordered = a.ordered; earlier = a.earlier; now = a.now; later = a.later; split = a.split; numbers = a.numbers; written = a.written; before = a.before; gave = a.gave }

    makes : {o : Operation} {a b : ℚ} → Makes m o a b → Makes new o a b
    makes (coefficients o h s x) = coefficients o (has.each_operation o h) s x
    makes (constants o h s) = constants o (has.each_operation o h) s
    makes (operands o h s l r) = operands o (has.each_operation o h) s l r
    makes (quotient x at p) = quotient (exchange x) at p
    makes (inverse x) = inverse (exchange x)
    makes (product x other at p) = product (exchange x) (row other) at p
    makes (product_inverse x other) = product_inverse (exchange x) (row other)
    makes (difference x other at p) = difference (exchange x) (row other) at p
    makes (scaled a at p) = scaled (adding a) at p
    makes (added a at p) = added (adding a) at p
    makes (divided f h n x z) = divided f (has.each_row f h) n x z
    makes (between f g h k x y p n) = between f g (has.each_row f h) (has.each_row g k) x y p n
    makes (between_constants f g h k x p n) = between_constants f g (has.each_row f h) (has.each_row g k) x p n

    pub overflow_stays : (pair : Pair) → OverflowDue m pair → OverflowDue new pair
    overflow_stays pair d = record { made = makes d.made; refused = d.refused }

  written_with : (zeros columns : List Quantity) (quantity : ℕ → Quantity) (is_column : ℕ → Bool) (f : Linear) (constant : ℚ) (entry : ℕ → ℚ)
      → IsWrittenWith m zeros columns quantity is_column f constant entry → IsWrittenWith new zeros columns quantity is_column f constant entry
  written_with zeros columns quantity is_column f constant entry w = record { expression = w.expression; written = w.written; numbers = w.numbers }

  shows : (zeros columns : List Quantity) (quantity : ℕ → Quantity) (f : Linear) (d : Dictionary) → Shows m zeros columns quantity f d → Shows new zeros columns quantity f d
  shows zeros columns quantity f d s = record {
    columns_are = s.columns_are;
    each_column = s.each_column;
    rows_are = s.rows_are;
    each_restricted = s.each_restricted;
    rows = λ q h. written_with zeros columns quantity d.is_column _ _ _ (s.rows q h);
    asked = written_with zeros columns quantity d.is_column _ _ _ s.asked;
  }

  pub chain_stays : (n : ℕ) → IsBlandChain m n → IsBlandChain new n
  chain_stays n b = record {
    form = b.form;
    is_asked = b.is_asked;
    zeros = b.zeros;
    columns = b.columns;
    feasible = b.feasible;
    size = b.size;
    quantity = b.quantity;
    numbering = b.numbering;
    restricted = b.restricted;
    flags = b.flags;
    first = b.first;
    is_dictionary = b.is_dictionary;
    shows = shows b.zeros b.columns b.quantity b.form b.first b.shows;
    last = b.last;
    chain = b.chain;
    column = b.column;
    row = b.row;
    another = b.another;
  }
