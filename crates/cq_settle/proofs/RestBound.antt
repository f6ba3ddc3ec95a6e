-- The bindings of a state with a unifier behind them.
use Rattle.std.proofs.Common.{◌≡◌, ◌≤◌, ◌<◌, ℕ, List, sym, ap, ◌∙◌, subst, arith, inl, inr}
use Rattle.spec_numbers.specs.Texts.{Text}
use Rattle.spec_terms.specs.Term.{Subst, Var, Occurs, apply, identity}
use Rattle.spec_terms.specs.Unifier.{Equation, IsUnifier}
use Rattle.spec_terms.proofs.Substitution.{apply-identity, agree_apply, occurs_from}
use Rattle.spec_branch.specs.Branch.{State}
use Rattle.cq_settle.specs.Rest.{IsReadThrough}
use Rattle.cq_settle.specs.Called.{bound_state}
use Rattle.cq_settle.proofs.Alone.{StandsIn, stands_or_not, only_variable, stays_itself, own_or_paired}

module _ (st : State) (es : List (Equation Text)) (s : Subst Text) (through : IsReadThrough st) (u : IsUnifier es s)
    (inside : (v : ℕ) → StandsIn v es → (v < st.fresh) × (st.bindings v ≡ Var v)) where
  -- a variable of an image is its own
  kept_itself : (x w : ℕ) → Occurs w (s x) → s w ≡ Var w
  kept_itself x w o = agree_apply s identity (s x) (u.general s u.unifies x ∙ sym (apply-identity (s x))) w o

  free_image : (x w : ℕ) → st.bindings x ≡ Var x → Occurs w (s x) → st.bindings w ≡ Var w
  free_image x w free o = elim (stands_or_not w es) [
    | inl i ↦ (inside w i).1
    | inr n ↦ subst (λ (y : ℕ). st.bindings y ≡ Var y) (sym (own_or_paired es s u x w o n)) free
  ]

  below_image : (x w : ℕ) → x < st.fresh → Occurs w (s x) → w < st.fresh
  below_image x w l o = elim (stands_or_not w es) [
    | inl i ↦ (inside w i).0
    | inr n ↦ (let same : w ≡ x = own_or_paired es s u x w o n in omega (arith, same, l))
  ]

  older_image : (v w : ℕ) → apply s (st.bindings v) ≡ Var w → w ≤ v
  older_image v w e =
      let o = only_variable s (st.bindings v) w e in
      let low : o.0 ≤ v = through.older v o.0 o.1 in
      omega (arith, low, u.oldest o.0 w o.2)

  pub beyond_itself : (v : ℕ) → st.fresh ≤ v → s v ≡ Var v
  beyond_itself v l = stays_itself es s u v (λ i. omega (arith, l, (inside v i).0))

  through_both : (v w : ℕ) → Occurs w (apply s (st.bindings v)) → apply s (st.bindings w) ≡ Var w
  through_both v w o =
      let r = occurs_from s w (st.bindings v) o in
      let free : st.bindings r.0 ≡ Var r.0 = through.through v r.0 r.1 in
      ap (apply s) (free_image r.0 w free r.2) ∙ kept_itself r.0 w r.2

  below_both : (v w : ℕ) → v < st.fresh → Occurs w (apply s (st.bindings v)) → w < st.fresh
  below_both v w l o = let r = occurs_from s w (st.bindings v) o in below_image r.0 w (through.below v r.0 l r.1) r.2

  pub bound_through : IsReadThrough (bound_state st s)
  bound_through = record {
    through = through_both;
    older = older_image;
    below = below_both;
    beyond = λ v l. ap (apply s) (through.beyond v l) ∙ beyond_itself v l;
    numeric = λ v e. through.numeric v e;
  }
