-- What all closures of one list and its waiting terms share, and all outcomes of one settling.
use Rattle.std.specs.Prelude.{◌≡◌, ◌↔◌, ℕ, List, [], Bool, Option, None}
use Rattle.spec_numbers.specs.Rational.{ℚ}
use Rattle.spec_linear.specs.Solution.{Constraint, Equivalent, Fixed}
use Rattle.spec_numbers.specs.Texts.{Text}
use Rattle.spec_terms.specs.Term.{Subst}
use Rattle.spec_syntax.specs.Trees.{Tree}
use Rattle.spec_branch.specs.Branch.{State, Branch}

-- two ends, each a list and the terms that still wait
pub record SameClosure (l : List Constraint) (w : List Tree) (m : List Constraint) (x : List Tree) : Type 0 where
  pub solutions : Equivalent l m
  pub waiting : w ≡ x
  pub fixed : (v : ℕ) (q : ℚ) → Fixed l v q ↔ Fixed m v q

-- one branch, but for the form of its linear constraints, which have the same solutions
pub record SameBranch (b c : Branch) : Type 0 where
  pub items : b.items ≡ c.items
  pub phase : b.phase ≡ c.phase
  pub bindings : b.state.bindings ≡ c.state.bindings
  pub linear : Equivalent b.state.linear c.state.linear
  pub delayed : b.state.delayed ≡ c.state.delayed
  pub numeric : b.state.numeric ≡ c.state.numeric
  pub sleepers : b.state.sleepers ≡ c.state.sleepers
  pub next_sleeper : b.state.next_sleeper ≡ c.state.next_sleeper
  pub fresh : b.state.fresh ≡ c.state.fresh

-- the state with another list of linear constraints
abbrev pub with_linear : List Constraint → State → State
with_linear l st = record st { linear = l }

-- ---- settling without constraints

-- no list of constraints fixes a value
abbrev pub no_values : ℕ → Option ℚ
no_values x = None

-- nothing is told, waits or sleeps
abbrev pub idle : Subst Text → (ℕ → Bool) → ℕ → ℕ → State
idle b numeric next fresh = record {
  bindings = b;
  linear = [];
  delayed = [];
  numeric = numeric;
  sleepers = [];
  next_sleeper = next;
  fresh = fresh;
}
