-- Settling is determined by the solutions of the linear constraints: a branch that is kept once is never pruned, and is
-- kept as one branch.
use Rattle.std.proofs.Common.{◌≡◌, ℕ, List, Option, true, false, ◌++◌, refl, sym, subst, ◌∙◌}
use Rattle.spec_numbers.specs.Rational.{ℚ}
use Rattle.spec_linear.specs.Solution.{Constraint, Solvable, Unsolvable, Fixes, Equivalent}
use Rattle.spec_numbers.specs.Texts.{Text}
use Rattle.spec_terms.specs.Term.{Subst, followed_by}
use Rattle.spec_terms.specs.Unifier.{IsUnifier, read_under}
use Rattle.spec_terms.proofs.Unifiers.{unifier_unique}
use Rattle.spec_branch.specs.Branch.{State, Item, Pending, Branch}
use Rattle.spec_branch.specs.Settling.{Settles, no_unifier, unified, SettlesUnified, clash, no_solution, kept, Outcome, Kept, Pruned, Why, Clashes, NoClash, Settling, kept_branch}
use Rattle.spec_branch.specs.Alike.{SameBranch, with_linear}
use Rattle.spec_branch.proofs.Absorbed.{other_solvable}
use Rattle.spec_branch.proofs.OneSettling.{same_settling, starts}

module _ (items : List Item) (st : State) (p : Pending) where
  -- how a branch was kept
  record WasKept (b : Branch) : Type 0 where
    unifier : Subst Text
    is_unifier : IsUnifier (read_under st.bindings p.equations) unifier
    no_clash : NoClash st (followed_by st.bindings unifier)
    settling : Settling st p unifier
    solvable : Solvable settling.linear
    fixed : ℕ → Option ℚ
    fixes : Fixes settling.linear fixed
    is : kept_branch items st p unifier settling.linear settling.waiting fixed ≡ b

  kept_with : (u : Subst Text) → IsUnifier (read_under st.bindings p.equations) u → {o : Outcome}
      → SettlesUnified items st p u o → (b : Branch) → o ≡ Kept b → WasKept b
  kept_with u h (clash c) b e = cc
  kept_with u h (no_solution n j x) b e = cc
  kept_with u h (kept n j s f hf) b e =
      let d : kept_branch items st p u j.linear j.waiting f ≡ b = cc in
      record { unifier = u; is_unifier = h; no_clash = n; settling = j; solvable = s; fixed = f; fixes = hf; is = d }

  was_kept : {o : Outcome} → Settles items st p o → (b : Branch) → o ≡ Kept b → WasKept b
  was_kept (no_unifier h) b e = cc
  was_kept (unified u h k) b e = kept_with u h k b e

  same_unifier : (u v : Subst Text) → IsUnifier (read_under st.bindings p.equations) u
      → IsUnifier (read_under st.bindings p.equations) v → u ≡ v
  same_unifier u v h k = λ i x. unifier_unique (read_under st.bindings p.equations) u v h k x i

  clash_or_not : (u v : Subst Text) → u ≡ v → NoClash st (followed_by st.bindings u)
      → Clashes st (followed_by st.bindings v) → ⊥
  clash_or_not u v e n c =
      let w = subst (λ (w : Subst Text). NoClash st (followed_by st.bindings w)) e n in
      let d : false ≡ true = sym (w c.variable c.numeric) ∙ c.image in
      cc

-- from linear constraints with the same solutions
module _ (items : List Item) (st : State) (l : List Constraint) (same : Equivalent st.linear l) (p : Pending) where
  -- the state with the other list
  abbrev other : State
  other = with_linear l st

  one_branch : (b c : Branch) → (m : WasKept items st p b) → (n : WasKept items other p c) → SameBranch b c
  one_branch b c m n =
      subst (λ (x : Branch). SameBranch x c) m.is (
      subst (λ (y : Branch). SameBranch (kept_branch items st p m.unifier m.settling.linear m.settling.waiting m.fixed) y) n.is (
      subst (λ (w : Subst Text). (j : Settling other p w) (g : ℕ → Option ℚ) → Fixes j.linear g → Solvable j.linear
      → SameBranch (kept_branch items st p m.unifier m.settling.linear m.settling.waiting m.fixed) (kept_branch items other p w j.linear j.waiting g))
      (same_unifier items st p m.unifier n.unifier m.is_unifier n.is_unifier)
      (λ j g hg sj. same_settling st l same p m.unifier items m.settling j m.fixed g m.fixes hg m.solvable sj)
      n.settling n.fixed n.fixes n.solvable))

  pub kept_alike : (b c : Branch) → Settles items st p (Kept b) → Settles items other p (Kept c) → SameBranch b c
  kept_alike b c h k = one_branch b c (was_kept items st p h b refl) (was_kept items other p k c refl)

  solvable_or_not : (u v : Subst Text) → u ≡ v → (i : Settling st p u) (f : ℕ → Option ℚ) → Fixes i.linear f
      → Solvable i.linear → (j : Settling other p v) → Unsolvable j.linear → ⊥
  solvable_or_not u v e i f hf si =
      subst (λ (w : Subst Text). (j : Settling other p w) → Unsolvable j.linear → ⊥) e (λ j n.
      let s : Solvable j.linear =
      other_solvable (followed_by st.bindings u) (st.linear ++ i.equations ++ p.rows) (l ++ j.equations ++ p.rows) i.linear j.linear (st.delayed ++ p.told) i.waiting j.waiting
      (starts st l same p u i j) i.closure j.closure f hf si in
      n s.0 s.1)

  pruned_with : (b : Branch) → WasKept items st p b → (v : Subst Text)
      → IsUnifier (read_under st.bindings p.equations) v
      → {o : Outcome} → SettlesUnified items other p v o → (why : Why) → o ≡ Pruned why → ⊥
  pruned_with b m v k (clash c) why e =
      clash_or_not items st p m.unifier v (same_unifier items st p m.unifier v m.is_unifier k) m.no_clash
      (record { variable = c.variable; numeric = c.numeric; image = c.image })
  pruned_with b m v k (no_solution n j x) why e =
      solvable_or_not m.unifier v (same_unifier items st p m.unifier v m.is_unifier k) m.settling m.fixed m.fixes m.solvable j x
  pruned_with b m v k (kept n j s f hf) why e = cc

  kept_or_pruned : (b : Branch) → WasKept items st p b → {o : Outcome} → Settles items other p o → (why : Why)
      → o ≡ Pruned why → ⊥
  kept_or_pruned b m (no_unifier k) why e = k m.unifier m.is_unifier.unifies
  kept_or_pruned b m (unified v k x) why e = pruned_with b m v k x why e

  pub kept_and_pruned : (b : Branch) (why : Why) → Settles items st p (Kept b) → Settles items other p (Pruned why)
      → ⊥
  kept_and_pruned b why h k = kept_or_pruned b (was_kept items st p h b refl) k why refl

-- from one state
pub never_both : (items : List Item) (st : State) (p : Pending) (b : Branch) (why : Why)
    → Settles items st p (Kept b)
    → Settles items st p (Pruned why) → ⊥
never_both items st p = kept_and_pruned items st st.linear (λ x. ((λ h. h), (λ h. h))) p
