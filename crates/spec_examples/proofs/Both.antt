-- A query that tells two inequalities, which join the empty list one after the other; no equation follows from them.
use Rattle.std.proofs.Common.{◌≡◌, ℕ, List, [], ◌∷◌, map, ap, refl}
use Rattle.spec_numbers.specs.Rational.{ℚ}
use Rattle.spec_numbers.proofs.Places.{nothing_within}
use Rattle.spec_linear.specs.Solution.{Constraint, Satisfies}
use Rattle.spec_projection.specs.Interior.{strictly, equations_of}
use Rattle.spec_terms.specs.Term.{identity, apply, followed_by}
use Rattle.spec_syntax.specs.Trees.{Tree}
use Rattle.spec_branch.specs.Relations.{Is, lin}
use Rattle.spec_branch.specs.Alike.{no_values}
use Rattle.spec_branch.specs.Branch.{Pending, Branch, no_work}
use Rattle.spec_branch.specs.Closure.{IsMove, no_move, move}
use Rattle.spec_branch.specs.Settling.{Settling, Settles, unified, kept, Kept, kept_branch, newly_bound, binding_equation}
use Rattle.spec_branch.proofs.Idle.{fixes_nothing}
use Rattle.spec_search.specs.Search.{empty_state}
use Rattle.spec_examples.proofs.Unify.{no_pairs}
use Rattle.spec_examples.proofs.Told.{nothing_solvable}
use Rattle.spec_examples.proofs.Inequalities.{solvable_inside, no_value_fixed}

-- both terms are told
abbrev pub telling_both : Tree → Tree → Pending
telling_both t u = record no_work { told = t ∷ u ∷ [] }

-- over so many variables, with their rows, and values at which both are strict
module _ (variables : ℕ) (none : newly_bound (empty_state variables) identity ≡ []) (t u : Tree) (row other : Constraint)
    (is : lin no_values (apply identity t) ≡ Is row) (other_is : lin no_values (apply identity u) ≡ Is other)
    (one_inequality : equations_of (row ∷ []) ≡ []) (inequalities : equations_of (row ∷ other ∷ []) ≡ [])
    (a : ℕ → ℚ) (inside : Satisfies a (strictly (row ∷ other ∷ []))) where
  abbrev pub first : IsMove identity [] (t ∷ u ∷ []) (row ∷ []) (u ∷ [])
  first = record {
    before = [];
    term = t;
    after = u ∷ [];
    among = refl;
    solvable = nothing_solvable;
    result = Is row;
    is_lin = record { fixed = no_values; fixes = fixes_nothing; is = is };
    row = row;
    row_is = refl;
    joins = refl;
    leaves = refl;
  }

  abbrev pub second : IsMove identity (row ∷ []) (u ∷ []) (row ∷ other ∷ []) []
  second = record {
    before = [];
    term = u;
    after = [];
    among = refl;
    solvable = solvable_inside (row ∷ []) one_inequality a (inside.0, tt);
    result = Is other;
    is_lin = record { fixed = no_values; fixes = no_value_fixed (row ∷ []) one_inequality a (inside.0, tt); is = other_is };
    row = other;
    row_is = refl;
    joins = refl;
    leaves = refl;
  }

  unfoldable pub settling_both : Settling (empty_state variables) (telling_both t u) identity
  settling_both = record {
    equations = [];
    each_newly_bound = record { moves = []; below = tt; is = ap (λ (vs : List ℕ). map (binding_equation (followed_by identity identity)) vs) none };
    linear = row ∷ other ∷ [];
    waiting = [];
    closure = record { moves = move first (move second no_move); closed = λ m x h. nothing_within h.before h.after h.term h.among };
  }

  abbrev pub branch_of_both : Branch
  branch_of_both = kept_branch [] (empty_state variables) (telling_both t u) identity (row ∷ other ∷ []) [] no_values

  pub both_settle : Settles [] (empty_state variables) (telling_both t u) (Kept branch_of_both)
  unfolding settling_both
  both_settle =
      unified identity no_pairs
      (kept (λ v e. cc) settling_both (solvable_inside (row ∷ other ∷ []) inequalities a inside) no_values (no_value_fixed (row ∷ other ∷ []) inequalities a inside))
