-- A moment with more operations, and with more constraints that may join, shows what it showed.
use Rattle.std.proofs.Common.{ℕ, List, [], ◌∷◌}
use Rattle.std.specs.List.{AllByRecursion}
use Rattle.spec_numbers.specs.Rational.{ℚ}
use Rattle.spec_linear.specs.Form.{Linear}
use Rattle.spec_linear.specs.Solution.{Constraint, Has}
use Rattle.cq_frac.specs.declared.Operation.{Operation}
use Rattle.cq_frac.specs.declared.Pair.{Pair}
use Rattle.spec_simplex.specs.Asked.{IsAsked, of_member, of_joining, of_question, of_variable, negated, IsInForce, alone, while_joining, while_asked, while_asked_unequal}
use Rattle.spec_simplex.specs.Chains.{IsBlandChain}
use Rattle.spec_simplex.specs.LimitsDictionary.{Quantity}
use Rattle.spec_simplex.specs.Overflow.{Operands, Moment, GoesWithFeasible, IsInUse, beside_feasible, in_answer, IsRow, quantity_row, asked_row, Row, Exchange, Adding, Makes, coefficients, constants, operands, quotient, inverse, product, product_inverse, difference, scaled, added, divided, between, between_constants, OverflowDue}

-- each is so where each is such
pub all_so : {A : Type 0} {P Q : A → Type 0} (xs : List A) → ((x : A) → P x → Q x) → AllByRecursion P xs → AllByRecursion Q xs
all_so [] f h = tt
all_so (x ∷ xs) f h = (f x h.0, all_so xs f h.1)

-- ---- operations

module _ (m : Moment) (ops : List Operands) (within : (o : Operands) → Has o m.operations → Has o ops) where
  abbrev pub wider : Moment
  wider = record m { operations = ops }

  abbrev goes : {zeros columns : List Quantity} → GoesWithFeasible m zeros columns → GoesWithFeasible wider zeros columns
  goes g = record { own = g.own; all_zeros = g.all_zeros; live = g.live; feasible = g.feasible; part = g.part; rest = g.rest }

  abbrev in_use : {zeros columns : List Quantity} → IsInUse m zeros columns → IsInUse wider zeros columns
  in_use (beside_feasible g) = beside_feasible (goes g)
  in_use (in_answer e d) = in_answer e d

  abbrev is_row : {columns : List Quantity} {f : Linear} → IsRow m columns f → IsRow wider columns f
  is_row (quantity_row q i n) = quantity_row q i n
  is_row (asked_row h) = asked_row h

  abbrev row : {zeros columns : List Quantity} → Row m zeros columns → Row wider zeros columns
  row r = record { form = r.form; is_row = is_row r.is_row; numbers = r.numbers; written = r.written }

  abbrev exchange : Exchange m → Exchange wider
  exchange x = record { zeros = x.zeros; columns = x.columns; in_use = in_use x.in_use; row = row x.row; column = x.column; is_column = x.is_column; not_zero = x.not_zero }

  abbrev adding : Adding m → Adding wider
  adding a = record { zeros = a.zeros; columns = a.columns; in_use = in_use a.in_use; form = a.form; is_asked = a.is_asked; ordered = a.ordered; earlier = a.earlier; now = a.now; later = a.later; split = a.split; numbers = a.numbers; written = a.written; before = a.before; gave = a.gave }

  makes : {o : Operation} {a b : ℚ} → Makes m o a b → Makes wider o a b
  makes (coefficients o h s x) = coefficients o (within o h) s x
  makes (constants o h s) = constants o (within o h) s
  makes (operands o h s i j) = operands o (within o h) s i j
  makes (quotient x at i) = quotient (exchange x) at i
  makes (inverse x) = inverse (exchange x)
  makes (product x other at i) = product (exchange x) (row other) at i
  makes (product_inverse x other) = product_inverse (exchange x) (row other)
  makes (difference x other at i) = difference (exchange x) (row other) at i
  makes (scaled a at i) = scaled (adding a) at i
  makes (added a at i) = added (adding a) at i
  makes (divided f h n x nz) = divided f h n x nz
  makes (between f g h k x y i j) = between f g h k x y i j
  makes (between_constants f g h k x i j) = between_constants f g h k x i j

  pub due_wider : (pair : Pair) → OverflowDue m pair → OverflowDue wider pair
  due_wider pair d = record { made = makes d.made; refused = d.refused }

  pub chain_wider : (n : ℕ) → IsBlandChain m n → IsBlandChain wider n
  chain_wider n k = record {
    form = k.form;
    is_asked = k.is_asked;
    zeros = k.zeros;
    columns = k.columns;
    feasible = k.feasible;
    size = k.size;
    quantity = k.quantity;
    numbering = k.numbering;
    restricted = k.restricted;
    flags = k.flags;
    first = k.first;
    is_dictionary = k.is_dictionary;
    shows = record {
      columns_are = k.shows.columns_are;
      each_column = k.shows.each_column;
      rows_are = k.shows.rows_are;
      each_restricted = k.shows.each_restricted;
      rows = λ q h. record { expression = (k.shows.rows q h).expression; written = (k.shows.rows q h).written; numbers = (k.shows.rows q h).numbers };
      asked = record { expression = k.shows.asked.expression; written = k.shows.asked.written; numbers = k.shows.asked.numbers };
    };
    last = k.last;
    chain = k.chain;
    column = k.column;
    row = k.row;
    another = k.another;
  }

-- ---- constraints that may join

module _ (l : List Constraint) (J K Q : Constraint → Type 0) (more : (c : Constraint) → J c → K c) where
  pub asked_more : {f : Linear} → IsAsked l J Q f → IsAsked l K Q f
  asked_more (of_member c h) = of_member c h
  asked_more (of_joining c h) = of_joining c (more c h)
  asked_more (of_question c h) = of_question c h
  asked_more (of_variable x) = of_variable x
  asked_more (negated f h) = negated f (asked_more h)

  pub in_force_more : {m : List Constraint} → IsInForce l J Q m → IsInForce l K Q m
  in_force_more alone = alone
  in_force_more (while_joining f g h e) = while_joining f g (more _ h) e
  in_force_more (while_asked c h) = while_asked c h
  in_force_more (while_asked_unequal f g h e) = while_asked_unequal f g h e
