-- Two kept outcomes of one settling, from linear constraints with the same solutions, are the same branch but for these.
use Rattle.std.proofs.Common.{◌≡◌, ℕ, List, ◌++◌, Option, map, refl, ap}
use Rattle.std.proofs.lemmas.List.Sorted.{IsPermutation-sym, IsPermutation-trans}
use Rattle.spec_numbers.specs.Rational.{ℚ}
use Rattle.spec_linear.specs.Solution.{Constraint, Solvable, Fixes, Equivalent}
use Rattle.spec_linear.proofs.Lists.{solves_append}
use Rattle.spec_numbers.specs.Texts.{Text}
use Rattle.spec_terms.specs.Term.{Subst, followed_by}
use Rattle.spec_branch.specs.Branch.{State, Item, Pending}
use Rattle.std.specs.Prelude.{IsPermutation}
use Rattle.spec_branch.specs.Settling.{Settling, kept_branch, binding_equation, newly_bound}
use Rattle.spec_branch.specs.Alike.{SameClosure, SameBranch, with_linear}
use Rattle.spec_branch.proofs.Permuted.{permuted_alike}
use Rattle.spec_branch.proofs.Waiting.{same_closures, one_map}

-- lists with the same solutions before the same list
pub before_same : (k l m : List Constraint) → Equivalent k l → Equivalent (k ++ m) (l ++ m)
before_same k l m e p = (
  λ h. let s = (solves_append p k m).0 h in (solves_append p l m).1 ((e p).0 s.0, s.1),
  λ h. let s = (solves_append p l m).0 h in (solves_append p k m).1 ((e p).1 s.0, s.1),
)

module _ (st : State) (l : List Constraint) (e : Equivalent st.linear l) (p : Pending) (u : Subst Text) where
  pub starts : (i : Settling st p u) (j : Settling (with_linear l st) p u)
      → Equivalent (st.linear ++ i.equations ++ p.rows) (l ++ j.equations ++ p.rows)
  starts i j x =
      let es : List Constraint = map (binding_equation (followed_by st.bindings u)) (newly_bound st u) in
      let turned : IsPermutation i.equations j.equations =
      IsPermutation-trans i.equations es j.equations i.each_newly_bound (IsPermutation-sym j.equations es j.each_newly_bound) in
      let a = permuted_alike st.linear p.rows i.equations j.equations turned x in
      let b = before_same (st.linear ++ j.equations) (l ++ j.equations) p.rows (before_same st.linear l j.equations e) x in
      (λ h. b.0 (a.0 h), λ h. a.1 (b.1 h))

  pub same_settling : (items : List Item) (i : Settling st p u) (j : Settling (with_linear l st) p u) (f g : ℕ → Option ℚ)
      → Fixes i.linear f → Fixes j.linear g → Solvable i.linear → Solvable j.linear
      → SameBranch (kept_branch items st p u i.linear i.waiting f) (kept_branch items (with_linear l st) p u j.linear j.waiting g)
  same_settling items i j f g hf hg si sj =
      let c : SameClosure i.linear i.waiting j.linear j.waiting =
      same_closures (followed_by st.bindings u) (st.linear ++ i.equations ++ p.rows) (l ++ j.equations ++ p.rows) i.linear j.linear (st.delayed ++ p.told) i.waiting j.waiting
      (starts i j) i.closure j.closure f g hf hg si sj in
      let d : f ≡ g = one_map i.linear j.linear f g c.solutions hf hg in
      record {
        items = ap (λ (h : ℕ → Option ℚ). (kept_branch items st p u i.linear i.waiting h).items) d;
        phase = refl;
        bindings = ap (λ (h : ℕ → Option ℚ). (kept_branch items st p u i.linear i.waiting h).state.bindings) d;
        linear = c.solutions;
        delayed = c.waiting;
        numeric = refl;
        sleepers = ap (λ (h : ℕ → Option ℚ). (kept_branch items st p u i.linear i.waiting h).state.sleepers) d;
        next_sleeper = refl;
        fresh = refl;
      }
