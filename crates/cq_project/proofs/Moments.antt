-- Moments of an answer at which some of its rows are scaled or combined.
use Rattle.std.proofs.Common.{inl, inr, List, [], ◌∷◌, ℕ, refl}
use Rattle.std.specs.Prelude.{map}
use Rattle.std.specs.List.{AllByRecursion}
use Rattle.spec_linear.specs.Solution.{Constraint, Has}
use Rattle.spec_projection.proofs.Members.{has_image}
use Rattle.spec_simplex.specs.Asked.{alone}
use Rattle.spec_simplex.specs.Overflow.{Moment, answering, OverflowDue}
use Rattle.spec_simplex.specs.Answers.{beginning, IsAnswerRow}
use Rattle.cq_frac.specs.declared.Pair.{Pair}
use Rattle.cq_elimination.specs.Steps.{AreRowsOf}
use Rattle.cq_project.specs.Answering.{IsRefusedAnswering}

-- the moment has these rows
abbrev with_rows : List Constraint → Moment
with_rows rows = record { stage = answering; list = []; asked = []; operations = []; rows = map (λ c. c.form) rows }

module _ (targets : List ℕ) (l rows : List Constraint) (each : (c : Constraint) → Has c rows → IsAnswerRow targets l c.form) where
  all_rows : (some : List Constraint) → ((c : Constraint) → Has c some → Has c rows) → AllByRecursion (IsAnswerRow targets l) (map (λ c. c.form) some)
  all_rows [] h = tt
  all_rows (c ∷ some) h = (each c (h c (inl refl)), all_rows some (λ d k. h d (inr k)))

  pub rows_refused : (pair : Pair) → ((m : Moment) → AreRowsOf m rows → OverflowDue m pair) → IsRefusedAnswering targets l pair
  rows_refused pair due = record {
    moment = with_rows rows;
    of_answer = record {
      stage = refl;
      list = [];
      is_list = beginning [] l refl;
      in_force = alone;
      asked = tt;
      rows = all_rows rows (λ c h. h);
      operations = refl;
    };
    due = due (with_rows rows) (λ c h. has_image (λ d. d.form) c rows h);
  }
