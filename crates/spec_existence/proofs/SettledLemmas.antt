-- A branch with work to do settles: it is kept, or pruned.
use Rattle.std.proofs.Common.{◌≡◌, ◌⊎◌, inl, inr, ℕ, suc, zero, ◌<◌, List, ◌++◌, Bool, true, false, map, arith, refl, ap, sym, ◌∙◌}
use Rattle.std.proofs.lemmas.Bool.{cases_eq}
use Rattle.std.proofs.lemmas.List.Sorted.{IsPermutation-refl}
use Rattle.spec_linear.specs.Solution.{Constraint, Solvable, Unsolvable}
use Rattle.spec_numbers.specs.Texts.{Text}
use Rattle.spec_terms.specs.Term.{Subst, followed_by}
use Rattle.spec_terms.specs.Unifier.{IsUnifier, read_under}
use Rattle.spec_branch.specs.Branch.{State, Item, Pending}
use Rattle.spec_branch.specs.Settling.{Clashes, NoClash, is_no_number, newly_bound, binding_equation, Settling, Settles, no_unifier, unified, clash, no_solution, kept, kept_branch, Outcome, Kept, Pruned, Clash, NoSolution}
use Rattle.spec_projection.proofs.Decision.{decided}
use Rattle.spec_projection.proofs.Fixing.{values_fixed, values_fixed_are}
use Rattle.spec_terms.proofs.Bindings.{IsUnified}
use Rattle.spec_terms.proofs.UnifiedLemmas.{texts_unified}
use Rattle.spec_existence.specs.Bounded.{IsBounded}
use Rattle.spec_existence.proofs.Closing.{closure_exists}

-- ---- clashes

module _ (st : State) (s : Subst Text) where
  abbrev NoClashBelow : ℕ → Type 0
  NoClashBelow n = (v : ℕ) → v < n → st.numeric v ≡ true → is_no_number (s v) ≡ false

  clash_at : (v : ℕ) → Clashes st s ⊎ (st.numeric v ≡ true → is_no_number (s v) ≡ false)
  clash_at v = go (st.numeric v) refl (is_no_number (s v)) refl
    where
      go : (a : Bool) → st.numeric v ≡ a → (b : Bool) → is_no_number (s v) ≡ b → Clashes st s ⊎ (st.numeric v ≡ true → is_no_number (s v) ≡ false)
      go true e true d = inl (record { variable = v; numeric = e; image = d })
      go true e false d = inr (λ h. d)
      go false e b d = inr (λ h. (let c : false ≡ true = sym e ∙ h in cc))

  clash_below : (n : ℕ) → Clashes st s ⊎ NoClashBelow n
  clash_below zero = inr (λ v h. absurd (omega (arith, h)))
  clash_below (suc n) = go (clash_at n) (clash_below n)
    where
      go : Clashes st s ⊎ (st.numeric n ≡ true → is_no_number (s n) ≡ false) → Clashes st s ⊎ NoClashBelow n → Clashes st s ⊎ NoClashBelow (suc n)
      go (inl c) rest = inl c
      go (inr k) (inl c) = inl c
      go (inr k) (inr rest) = inr (λ v h e. by v h e (cases_eq v n))
        where
          by : (v : ℕ) → v < suc n → st.numeric v ≡ true → (v ≡ n) ⊎ (v ≡ n → ⊥) → is_no_number (s v) ≡ false
          by v h e (inl same) = ap (λ x. is_no_number (s x)) same ∙ k (ap (λ x. st.numeric x) (sym same) ∙ e)
          by v h e (inr other) = rest v (omega (arith, h, other)) e

  pub clash_or_none : IsBounded st → Clashes st s ⊎ NoClash st s
  clash_or_none b = go (clash_below b.bound)
    where
      go : Clashes st s ⊎ NoClashBelow b.bound → Clashes st s ⊎ NoClash st s
      go (inl c) = inl c
      go (inr n) = inr (λ v e. n v (b.below v e) e)

-- ---- settling

abbrev pub HasOutcome : List Item → State → Pending → Type 0
HasOutcome items st p = (o : Outcome) × Settles items st p o

module _ (items : List Item) (st : State) (p : Pending) where
  -- the equations of newly bound variables join in their order
  some_settling : (u : Subst Text) → Settling st p u
  some_settling u =
      let s : Subst Text = followed_by st.bindings u in
      let es : List Constraint = map (binding_equation s) (newly_bound st u) in
      let c = closure_exists s (st.linear ++ es ++ p.rows) (st.delayed ++ p.told) in
      record { equations = es; each_newly_bound = IsPermutation-refl es; linear = c.0; waiting = c.1; closure = c.2 }

  unified_settles : IsBounded st → (u : Subst Text) → IsUnifier (read_under st.bindings p.equations) u → HasOutcome items st p
  unified_settles b u i = by_clash (clash_or_none st (followed_by st.bindings u) b)
    where
      by_list : NoClash st (followed_by st.bindings u) → (j : Settling st p u) → Solvable j.linear ⊎ Unsolvable j.linear → HasOutcome items st p
      by_list n j (inl h) =
          (Kept (kept_branch items st p u j.linear j.waiting (values_fixed j.linear)), unified u i (kept n j h (values_fixed j.linear) (values_fixed_are j.linear)))
      by_list n j (inr h) = (Pruned (NoSolution j.linear), unified u i (no_solution n j h))

      by_clash : Clashes st (followed_by st.bindings u) ⊎ NoClash st (followed_by st.bindings u) → HasOutcome items st p
      by_clash (inl c) = (Pruned Clash, unified u i (clash c))
      by_clash (inr n) = by_list n (some_settling u) (decided (some_settling u).linear)

  pub settles : IsBounded st → HasOutcome items st p
  settles b = go (texts_unified (read_under st.bindings p.equations))
    where
      go : IsUnified (read_under st.bindings p.equations) → HasOutcome items st p
      go (inl u) = unified_settles b u.0 u.1
      go (inr n) = (Pruned Clash, no_unifier n)
