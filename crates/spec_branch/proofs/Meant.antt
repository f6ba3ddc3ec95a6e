-- Moves, closures and settling keep the solutions.
use Rattle.std.proofs.Common.{◌≡◌, ◌↔◌, ℕ, List, [], ◌∷◌, ◌++◌, map, Bool, true, false, cond, Option, Some, None, refl, sym, ap, ap₂, subst}
use Rattle.std.specs.List.{AllByRecursion}
use Rattle.spec_numbers.specs.Rational.{ℚ}
use Rattle.spec_linear.specs.Solution.{Constraint, Point, number, Solves, Holds, Fixes, false_constraint}
use Rattle.spec_linear.proofs.Lists.{solves_append}
use Rattle.spec_numbers.specs.Texts.{Text}
use Rattle.spec_terms.specs.Term.{Subst, Var, Number, Name, Compound, one, more, apply, followed_by}
use Rattle.spec_terms.specs.Unifier.{IsUnifier, read_under}
use Rattle.spec_terms.proofs.Substitution.{apply-followed_by}
use Rattle.spec_syntax.specs.Trees.{Tree}
use Rattle.spec_branch.specs.Expressions.{unary_name, binary_name}
use Rattle.spec_branch.specs.Relations.{Lin, Is, Waits, False, row_of, IsLin, relation_name}
use Rattle.spec_branch.specs.Values.{value_of, unary_at, binary_at, SidesStand, IsTrueAt, Agrees}
use Rattle.spec_branch.proofs.AtPoints.{agrees}
use Rattle.spec_branch.proofs.Truth.{joins_as_truth, false_over}
use Rattle.spec_branch.proofs.Members.{both_parts}
use Rattle.spec_branch.specs.Branch.{State, Item, Pending, Branch}
use Rattle.spec_branch.specs.Closure.{IsMove, Moves, no_move, move, IsClosure}
use Rattle.spec_branch.specs.Settling.{Settling, Settles, SettlesUnified, Kept, Pruned, NoSolution, unified, kept, no_solution, kept_branch, fixed_values, value_or_variable, numeric_after, newly_bound, binding_equation}
use Rattle.spec_branch.specs.Meaning.{IsSolution, SolvesState, SolvesPending}
use Rattle.spec_branch.proofs.Absorbed.{false_fails}
use Rattle.spec_branch.proofs.Permuted.{permuted_alike}

-- ---- a move

-- what joins for a term says what the term says
row_truth : (l : List Constraint) (t : Tree) (r : Lin Constraint) (c : Constraint) → IsLin l t r → row_of r ≡ Some c
    → (p : Point) → Solves p l → Holds p c ↔ IsTrueAt (number p) t
row_truth l t (Is d) c is e p s =
    let k : d ≡ c = cc in
    let j = joins_as_truth l t d is p in
    subst (λ (x : Constraint). Holds p x ↔ IsTrueAt (number p) t) k ((λ h. (j.0 (h, s)).0), (λ h. (j.1 (h, s)).0))
row_truth l t Waits c is e p s = cc
row_truth l t False c is e p s =
    let k : false_constraint ≡ c = cc in
    subst (λ (x : Constraint). Holds p x ↔ IsTrueAt (number p) t) k ((λ h. absurd (false_fails p h)), (λ h. absurd (false_over l t is p s h)))

module _ (s : Subst Text) (p : Point) where
  abbrev IsTrue : Tree → Type 0
  IsTrue t = IsTrueAt (number p) (apply s t)

  move_keeps : (l l' : List Constraint) (w w' : List Tree) → IsMove s l w l' w'
      → IsSolution s l' w' p ↔ IsSolution s l w p
  move_keeps l l' w w' m = (
    λ h. (
        let k : Solves p l × Solves p (m.row ∷ []) = (solves_append p l (m.row ∷ [])).0 (subst (λ (x : List Constraint). Solves p x) m.joins h.solves) in
        let others : AllByRecursion IsTrue m.before × AllByRecursion IsTrue m.after = (both_parts IsTrue m.before m.after).0 (subst (AllByRecursion IsTrue) m.leaves h.true_there) in
        let here : IsTrue m.term = (truth k.0).0 k.1.0 in
        record {
          solves = k.0;
          true_there = subst (AllByRecursion IsTrue) (sym m.among) ((both_parts IsTrue m.before (m.term ∷ m.after)).1 (others.0, (here, others.1)));
        }),
    λ h. (
        let all : AllByRecursion IsTrue m.before × (IsTrue m.term × AllByRecursion IsTrue m.after) = (both_parts IsTrue m.before (m.term ∷ m.after)).0 (subst (AllByRecursion IsTrue) m.among h.true_there) in
        let row : Holds p m.row = (truth h.solves).1 all.1.0 in
        record {
          solves = subst (λ (x : List Constraint). Solves p x) (sym m.joins) ((solves_append p l (m.row ∷ [])).1 (h.solves, (row, tt)));
          true_there = subst (AllByRecursion IsTrue) (sym m.leaves) ((both_parts IsTrue m.before m.after).1 (all.0, all.1.1));
        }),
  )
    where
      truth : Solves p l → Holds p m.row ↔ IsTrue m.term
      truth h = row_truth l (apply s m.term) m.result m.row m.is_lin m.row_is p h

  moves_keep : {l l' : List Constraint} {w w' : List Tree} → Moves s l w l' w'
      → IsSolution s l' w' p ↔ IsSolution s l w p
  moves_keep no_move = (λ h. h, λ h. h)
  moves_keep (move {l = l} {l' = l'} {w = w} {w' = w'} k r) =
      let first = move_keeps l l' w w' k in
      let rest = moves_keep r in (
        λ h. first.0 (rest.0 h),
        λ h. rest.1 (first.1 h),
      )

pub closure_keeps : (s : Subst Text) (l m : List Constraint) (w x : List Tree) → IsClosure s l w m x → (p : Point)
    → IsSolution s m x p ↔ IsSolution s l w p
closure_keeps s l m w x c p = moves_keep s p c.moves

-- ---- fixed variables bound to their values

module _ (numeric : ℕ → Bool) (fixed : ℕ → Option ℚ) (a : ℕ → ℚ) (agree : Agrees fixed a) where
  abbrev bound : Subst Text
  bound = fixed_values numeric fixed

  variable_value : (x : ℕ) (b : Bool) (o : Option ℚ) → fixed x ≡ o → value_of a (cond b (value_or_variable o x) (Var x)) ≡ Some (a x)
  variable_value x true None e = refl
  variable_value x true (Some q) e = ap (λ (z : ℚ). Some z) (sym (agree x q e))
  variable_value x false o e = refl

  variable_untrue : (x : ℕ) (b : Bool) (o : Option ℚ) → IsTrueAt a (cond b (value_or_variable o x) (Var x)) → ⊥
  variable_untrue x true None h = h
  variable_untrue x true (Some q) h = h
  variable_untrue x false o h = h

  same_value : (t : Tree) → value_of a (apply bound t) ≡ value_of a t
  same_value (Var x) = variable_value x (numeric x) (fixed x) refl
  same_value (Number q) = refl
  same_value (Name n) = refl
  same_value (Compound f (one t)) = ap (unary_at (unary_name f)) (same_value t)
  same_value (Compound f (more t (one u))) = ap₂ (binary_at (binary_name f)) (same_value t) (same_value u)
  same_value (Compound f (more t (more u us))) = refl

  same_truth : (t : Tree) → IsTrueAt a (apply bound t) ↔ IsTrueAt a t
  same_truth (Var x) = (λ h. absurd (variable_untrue x (numeric x) (fixed x) h), λ h. absurd h)
  same_truth (Number q) = (λ h. h, λ h. h)
  same_truth (Name n) = (λ h. h, λ h. h)
  same_truth (Compound f (one t)) = (λ h. h, λ h. h)
  same_truth (Compound f (more t (one u))) = (
    λ h. subst (λ (v : Option ℚ). SidesStand (relation_name f) (value_of a t) v) (same_value u) (subst (λ (v : Option ℚ). SidesStand (relation_name f) v (value_of a (apply bound u))) (same_value t) h),
    λ h. subst (λ (v : Option ℚ). SidesStand (relation_name f) v (value_of a (apply bound u))) (sym (same_value t)) (subst (λ (v : Option ℚ). SidesStand (relation_name f) (value_of a t) v) (sym (same_value u)) h),
  )
  same_truth (Compound f (more t (more u us))) = (λ h. h, λ h. h)

  -- behind other bindings
  same_read : (s : Subst Text) (ts : List Tree) → AllByRecursion (λ t. IsTrueAt a (apply (followed_by s bound) t)) ts
      ↔ AllByRecursion (λ t. IsTrueAt a (apply s t)) ts
  same_read s [] = (λ h. h, λ h. h)
  same_read s (t ∷ ts) =
      let e = apply-followed_by s bound t in
      let here = same_truth (apply s t) in
      let rest = same_read s ts in (
        λ h. (here.0 (subst (IsTrueAt a) e h.0), rest.0 h.1),
        λ h. (subst (IsTrueAt a) (sym e) (here.1 h.0), rest.1 h.1),
      )

-- ---- settling

module _ (items : List Item) (st : State) (w : Pending) (u : Subst Text) where
  settling_keeps : (j : Settling st w u) (p : Point)
      → IsSolution (followed_by st.bindings u) j.linear j.waiting p ↔ SolvesPending st w u p
  settling_keeps j p =
      let s : Subst Text = followed_by st.bindings u in
      let c = closure_keeps s (st.linear ++ j.equations ++ w.rows) j.linear (st.delayed ++ w.told) j.waiting j.closure p in
      let same = permuted_alike st.linear w.rows j.equations (map (binding_equation s) (newly_bound st u)) j.each_newly_bound p in (
        λ h. (let k = c.0 h in record { solves = same.0 k.solves; true_there = k.true_there }),
        λ h. c.1 (record { solves = same.1 h.solves; true_there = h.true_there }),
      )

  kept_keeps : (j : Settling st w u) (fixed : ℕ → Option ℚ) → Fixes j.linear fixed → (p : Point)
      → SolvesState (kept_branch items st w u j.linear j.waiting fixed).state p ↔ SolvesPending st w u p
  kept_keeps j fixed fixes p =
      let s : Subst Text = followed_by st.bindings u in
      let numeric : ℕ → Bool = numeric_after st u s w.told in
      let k = settling_keeps j p in (
        λ h. k.0 (record { solves = h.solves; true_there = (same_read numeric fixed (number p) (agrees j.linear fixed fixes p h.solves) s j.waiting).0 h.true_there }),
        λ h. (
            let m = k.1 h in
            record { solves = m.solves; true_there = (same_read numeric fixed (number p) (agrees j.linear fixed fixes p m.solves) s j.waiting).1 m.true_there }),
      )

  unified_means : (b : Branch) → SettlesUnified items st w u (Kept b) → (p : Point)
      → SolvesState b.state p ↔ SolvesPending st w u p
  unified_means b (kept n j v fixed fixes) p = kept_keeps j fixed fixes p

  unsolvable_means : (l : List Constraint) → SettlesUnified items st w u (Pruned (NoSolution l)) → (p : Point)
      → SolvesPending st w u p → ⊥
  unsolvable_means l (no_solution n j v) p h = v p ((settling_keeps j p).1 h).solves

-- a branch that is kept has the solutions that it had with its work
pub kept_means : (items : List Item) (st : State) (w : Pending) (b : Branch) → Settles items st w (Kept b)
    → (u : Subst Text) × IsUnifier (read_under st.bindings w.equations) u × ((p : Point) → SolvesState b.state p ↔ SolvesPending st w u p)
kept_means items st w b (unified u i h) = (u, i, unified_means items st w u b h)

-- a branch without a solution had none with its work
pub pruned_means : (items : List Item) (st : State) (w : Pending) (l : List Constraint)
    → Settles items st w (Pruned (NoSolution l))
    → (u : Subst Text) × IsUnifier (read_under st.bindings w.equations) u × ((p : Point) → SolvesPending st w u p → ⊥)
pruned_means items st w l (unified u i h) = (u, i, unsolvable_means items st w u l h)
