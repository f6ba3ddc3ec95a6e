-- Settling where no variable is numeric, and nothing waits or sleeps: the pairs are unified, and that is all.
use Rattle.std.proofs.Common.{◌≡◌, ℕ, List, [], ◌∷◌, Bool, true, false, ◌&&◌, not, pos, map, refl, sym, ap, ◌∙◌}
use Rattle.std.specs.Prelude.{filter, IsPermutation}
use Rattle.spec_numbers.specs.Rational.{ℚ, int_ℚ}
use Rattle.spec_numbers.proofs.Sign.{one_not_zero}
use Rattle.spec_linear.specs.Solution.{Fixed, Fixes}
use Rattle.spec_linear.proofs.Points.{all_at}
use Rattle.spec_numbers.specs.Texts.{Text}
use Rattle.spec_numbers.proofs.Places.{nothing_within}
use Rattle.spec_terms.specs.Term.{Subst, followed_by}
use Rattle.spec_terms.specs.Unifier.{Equation, IsUnifier, read_under}
use Rattle.spec_terms.specs.Variables.{counted_from}
use Rattle.spec_branch.specs.Branch.{Item, no_work}
use Rattle.spec_branch.specs.Closure.{IsClosure, no_move}
use Rattle.spec_branch.specs.Settling.{Settles, unified, kept, Kept, kept_branch, newly_bound, is_bound, binding_equation}
use Rattle.spec_branch.specs.Alike.{idle, no_values}

not_fixed : (x : ℕ) (q : ℚ) → Fixed [] x q → ⊥
unfolding all_at int_ℚ
not_fixed x q f = one_not_zero (f.always (all_at (pos 1)) tt ∙ sym (f.always (all_at (pos 0)) tt))

pub fixes_nothing : Fixes [] no_values
fixes_nothing = record { sound = λ x q e. cc; complete = λ x q f. absurd (not_fixed x q f) }

nothing_waits : (s : Subst Text) → IsClosure s [] [] [] []
nothing_waits s = record { moves = no_move; closed = λ m x h. nothing_within h.before h.after h.term h.among }

none_among : (b u : Subst Text) (numeric : ℕ → Bool) → ((v : ℕ) → numeric v ≡ false) → (vs : List ℕ)
    → filter (λ v. numeric v && not (is_bound b v) && is_bound u v) vs ≡ []
none_among b u numeric h [] = refl
none_among b u numeric h (v ∷ vs) = rw (h v) (none_among b u numeric h vs)

no_equations : (s : Subst Text) (vs : List ℕ) → vs ≡ [] → IsPermutation [] (map (binding_equation s) vs)
no_equations s vs e = record { moves = []; below = tt; is = ap (λ (ws : List ℕ). map (binding_equation s) ws) e }

pub idle_settles : (items : List Item) (b : Subst Text) (numeric : ℕ → Bool) (next fresh : ℕ)
    → ((v : ℕ) → numeric v ≡ false) → (es : List (Equation Text)) (u : Subst Text) → IsUnifier (read_under b es) u
    → Settles items (idle b numeric next fresh) (record no_work { equations = es }) (Kept (kept_branch items (idle b numeric next fresh) (record no_work { equations = es }) u [] [] no_values))
idle_settles items b numeric next fresh h es u is_unifier =
    unified u is_unifier (
    kept (λ v e. let c : false ≡ true = sym (h v) ∙ e in cc)
    (record {
      equations = [];
      each_newly_bound = no_equations (followed_by b u) (newly_bound (idle b numeric next fresh) u) (none_among b u numeric h (counted_from 0 fresh));
      linear = [];
      waiting = [];
      closure = nothing_waits (followed_by b u);
    })
    (all_at (pos 0), tt)
    no_values
    fixes_nothing)
