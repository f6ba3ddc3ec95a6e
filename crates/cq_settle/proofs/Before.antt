-- What a begin may rely on, and what it leaves where it stops.
use Rattle.std.proofs.Common.{◌≡◌, ◌≢◌, ◌<◌, ◌≤◌, ℕ, List, [], ◌∷◌, length, Bool, true, false, refl, sym, ap, ◌∙◌, subst, arith}
use Rattle.std.specs.Prelude.{Contains, All, Any, ◌==◌}
use Rattle.std.proofs.lemmas.Bool.{true≢false}
use Rattle.std.proofs.lemmas.List.Elements.{All-weaker, All-contains_itself}
use Rattle.spec_linear.specs.Solution.{Constraint}
use Rattle.spec_numbers.specs.Texts.{Text}
use Rattle.spec_numbers.proofs.Tests.{nat_eq-self}
use Rattle.spec_terms.specs.Term.{Subst, Var, named}
use Rattle.spec_branch.specs.Branch.{State, Pending}
use Rattle.cq_term.specs.Texts.{text_of}
use Rattle.cq_attr.specs.Attributes.{is_numeric}
use Rattle.cq_frac.specs.declared.VarId.{VarId}
use Rattle.cq_term.specs.Meaning.{at}
use Rattle.cq_term.specs.Places.{numbers_of}
use Rattle.cq_settle.specs.Contents.{Contents}
use Rattle.cq_settle.specs.Called.{IsCalled, IsNewlyBound}
use Rattle.cq_settle.specs.Settled.{IsPruned}
use Rattle.cq_settle.specs.Steps.{AreThere, AreBoundThere, ClashesAt}
use Rattle.cq_settle.specs.Underway.{unified}
use Rattle.cq_settle.proofs.Begin.{HasBegun, task, numeric_there}
use Rattle.cq_settle.proofs.Looked.{has_of_contains}
use Rattle.cq_settle.proofs.Numeric.{variable_bound, any_found, numeric_below}
use Rattle.cq_settle.proofs.Pruned.{clash_prunes}
use Rattle.cq_settle.proofs.Start.{image_is, unified_unbound, unbound_value}

-- a fact of each variable by its number
of_numbers : (P : ℕ → Type 0) (vs : List VarId) → All P (numbers_of vs) → All (λ (v : VarId). P v.0) vs
of_numbers P vs h = λ k d l. subst P (by_place vs k d) (h k d.0 (subst (λ (n : ℕ). k < n) (sym (same_length vs)) l)) where
  same_length : (vs : List VarId) → length (numbers_of vs) ≡ length vs
  same_length [] = refl
  same_length (v ∷ vs) = ap Rattle.std.proofs.Common.suc (same_length vs)

  by_place : (vs : List VarId) (k : ℕ) (d : VarId) → Rattle.std.specs.Prelude.slice_index_or (numbers_of vs) k d.0 ≡ (Rattle.std.specs.Prelude.slice_index_or vs k d).0
  by_place [] k d = refl
  by_place (v ∷ vs) Rattle.std.proofs.Common.zero d = refl
  by_place (v ∷ vs) (Rattle.std.proofs.Common.suc k) d = by_place vs k d

module _ (texts : List Text) (c : Contents) (newly : List VarId) (told : List ℕ) (rows : List Constraint) (st : State) (p : Pending) (u : Subst Text)
    (k : IsCalled texts c newly told rows st p u) where
  there : (v : ℕ) → IsNewlyBound st u v → v < length c.heap.images
  there v b = subst (λ (n : ℕ). v < n) (sym k.stands.fresh) b.there

  unbound_before : (v : ℕ) → IsNewlyBound st u v → st.bindings v ≡ Var v
  unbound_before v b = variable_bound v (st.bindings v) b.unbound

  not_itself : (v : ℕ) → IsNewlyBound st u v → unified st u v ≢ Var v
  not_itself v b e = true≢false (sym b.binds ∙ unbound_value v (u v) (sym (unified_unbound texts c newly told rows st p u k v (unbound_before v b)) ∙ e))

  reads : (v : ℕ) (w : ℕ) → IsNewlyBound st u v → at c.heap.images v ≡ Var w → unified st u v ≡ Var w
  reads v w b e = image_is texts c newly told rows st p u k v b.there ∙ ap (named (text_of texts)) e

  pub all_there : AreThere c.heap.images newly
  all_there = of_numbers (λ v. v < length c.heap.images) newly (All-weaker (IsNewlyBound st u) (λ v. v < length c.heap.images) there (numbers_of newly) k.bound)

  pub all_bound : AreBoundThere c.heap.images newly
  all_bound = of_numbers (λ v. (v < length c.heap.images) × (at c.heap.images v ≢ Var v)) newly
      (All-weaker (IsNewlyBound st u) (λ v. (v < length c.heap.images) × (at c.heap.images v ≢ Var v)) (λ v b. (there v b, λ e. not_itself v b (reads v v b e))) (numbers_of newly) k.bound)

  older : (v : ℕ) → IsNewlyBound st u v → (w : ℕ) → at c.heap.images v ≡ Var w → w < v
  older v b w e =
      let le = k.read_through.older v w (reads v w b e) in
      let ne : w ≢ v = λ f. not_itself v b (reads v v b (e ∙ ap (λ (x : ℕ). Var x) f)) in
      omega (arith, le, ne)

  pub all_older : All (λ (v : VarId). (w : ℕ) → at c.heap.images v.0 ≡ Var w → w < v.0) newly
  all_older = of_numbers (λ v. (w : ℕ) → at c.heap.images v ≡ Var w → w < v) newly
      (All-weaker (IsNewlyBound st u) (λ v. (w : ℕ) → at c.heap.images v ≡ Var w → w < v) older (numbers_of newly) k.bound)

  pub one_clashes : Any (λ (v : VarId). ClashesAt c v.0) newly → IsPruned st p u
  one_clashes h = clash_prunes texts c newly told rows st p u k h.1.0
      (subst (λ (x : VarId). x.0 < length c.heap.images) h.3 (all_there h.0 h.1 h.2)) h.4

  pub numeric_there_below : (free : All (λ (v : VarId). ClashesAt c v.0 → ⊥) newly) (d : Contents) (fixed : List ℕ) → HasBegun c d newly told rows fixed
      → All (λ v. v < length d.heap.images) d.attrs.numeric
  numeric_there_below free d fixed b =
      All-weaker (Contains d.attrs.numeric) (λ v. v < length d.heap.images)
      (λ v h. let n : is_numeric d.attrs v ≡ true = any_found (λ w. w == v) d.attrs.numeric v (has_of_contains d.attrs.numeric v h) (nat_eq-self v) in
      let l = numeric_below st p u (task texts c newly told rows st p u k free d fixed b) v (sym (numeric_there texts c newly told rows st p u k free d fixed b v) ∙ n) in
      subst (λ hp. v < length hp.images) (sym b.heap) (subst (λ (m : ℕ). v < m) (sym k.stands.fresh) l))
      d.attrs.numeric (All-contains_itself d.attrs.numeric)
