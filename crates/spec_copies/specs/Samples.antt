-- Small states to try copies on, and the copies that terms have there. X, Y and Z are the variables 0, 1 and 2.
use Rattle.std.specs.Prelude.{ℕ, pos, List, [], ◌∷◌, Bool, false, nat_lt, ◌==◌, codes}
use Rattle.spec_numbers.specs.Rational.{0ℚ, 1ℚ, int_ℚ, neg_ℚ, ◌+ℚ◌}
use Rattle.spec_numbers.specs.Sums.{Monomial}
use Rattle.spec_linear.specs.Solution.{Constraint, equal_zero}
use Rattle.spec_projection.specs.Printed.{compared, AtLeast, Above, unequal_to}
use Rattle.spec_terms.specs.Term.{Number, Compound, one, more, identity}
use Rattle.spec_syntax.specs.Trees.{Tree}
use Rattle.spec_branch.specs.Branch.{State, Copied, Frozen, Sleeper}
use Rattle.spec_branch.specs.Examples.{X, Y}

-- nothing is bound; these constraints, delayed terms and sleepers are there, and these variables are numeric
abbrev pub state_of : List Constraint → List Tree → List Sleeper → (ℕ → Bool) → State
state_of l delayed sleepers numeric = record {
  bindings = identity;
  linear = l;
  delayed = delayed;
  numeric = numeric;
  sleepers = sleepers;
  next_sleeper = 1;
  fresh = 2;
}

-- X
abbrev pub x : Monomial
x = record { variable = 0; factor = 1ℚ }

-- Y
abbrev pub y : Monomial
y = record { variable = 1; factor = 1ℚ }

-- Z
abbrev pub z : Monomial
z = record { variable = 2; factor = 1ℚ }

-- -Z
abbrev pub minus_z : Monomial
minus_z = record { variable = 2; factor = neg_ℚ 1ℚ }

-- -X
abbrev pub minus_x : Monomial
minus_x = record { variable = 0; factor = neg_ℚ 1ℚ }

-- ---- X>0: the copy is above 0, too

-- X>0 was told
abbrev pub positive : State
positive = state_of (compared (x ∷ []) Above 0ℚ ∷ []) [] [] (λ v. v == 0)

-- the copy of X there
abbrev pub positive_copy : Copied
positive_copy = record {
  variables = 0 ∷ [];
  term = X;
  numeric = 0 ∷ [];
  rows = compared (x ∷ []) Above 0ℚ ∷ [];
  told = [];
  asleep = [];
}

-- ---- X>=1, Y=X+1: the copy of Y is at least 2, and X does not go with it

-- X>=1 and Y=X+1 were told
abbrev pub successor : State
successor = state_of (
    compared (x ∷ []) AtLeast 1ℚ ∷ equal_zero (record { products = minus_x ∷ y ∷ []; constant = neg_ℚ 1ℚ }) ∷ []
    ) [] [] (λ v. nat_lt v 2)

-- the copy of Y there
abbrev pub successor_copy : Copied
successor_copy = record {
  variables = 1 ∷ [];
  term = Y;
  numeric = 1 ∷ [];
  rows = compared (y ∷ []) AtLeast (1ℚ +ℚ 1ℚ) ∷ [];
  told = [];
  asleep = [];
}

-- ---- X*Y=6, which waits: Y and the constraint go with the copy of X

-- X*Y=6 as a term
abbrev pub product_term : Tree
product_term = Compound (codes "=") (more (Compound (codes "*") (more X (one Y))) (one (Number (int_ℚ (pos 6)))))

-- X*Y=6 was told, and waits
abbrev pub product : State
product = state_of [] (product_term ∷ []) [] (λ v. nat_lt v 2)

-- the copy of X there
abbrev pub product_copy : Copied
product_copy = record {
  variables = 0 ∷ 1 ∷ [];
  term = X;
  numeric = 0 ∷ 1 ∷ [];
  rows = [];
  told = product_term ∷ [];
  asleep = [];
}

-- ---- freeze(X,p(Y)): Y and the goal go with the copy of X; nothing goes with that of Y

-- the goal p(Y)
abbrev pub frozen_goal : Tree
frozen_goal = Compound (codes "p") (one Y)

-- freeze(X,p(Y)) sleeps
abbrev pub frozen : State
frozen = state_of [] [] (record { number = 0; asleep = Frozen X frozen_goal } ∷ []) (λ v. false)

-- the copy of X there
abbrev pub frozen_copy : Copied
frozen_copy = record {
  variables = 0 ∷ 1 ∷ [];
  term = X;
  numeric = [];
  rows = [];
  told = [];
  asleep = Frozen X frozen_goal ∷ [];
}

-- the copy of Y there
abbrev pub free_copy : Copied
free_copy = record { variables = 1 ∷ []; term = Y; numeric = []; rows = []; told = []; asleep = [] }

-- ---- Z>=0, X-Z>=0, Y-Z=\=0: Z goes with the copy of X-Y, since it stands in a disequation that nothing entails

-- X-Y as a term
abbrev pub pair_term : Tree
pair_term = Compound (codes "-") (more X (one Y))

-- the three constraints were told
abbrev pub apart : State
apart = record (state_of (
    compared (z ∷ []) AtLeast 0ℚ ∷ compared (x ∷ minus_z ∷ []) AtLeast 0ℚ ∷ unequal_to (y ∷ minus_z ∷ []) 0ℚ ∷ []
    ) [] [] (λ v. nat_lt v 3)) { fresh = 3 }

-- the copy of X-Y there
abbrev pub apart_copy : Copied
apart_copy = record {
  variables = 0 ∷ 1 ∷ 2 ∷ [];
  term = pair_term;
  numeric = 0 ∷ 1 ∷ 2 ∷ [];
  rows = apart.linear;
  told = [];
  asleep = [];
}
