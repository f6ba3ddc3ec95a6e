-- What the heads of two terms say of the substitutions that make them equal.
use Rattle.std.proofs.Common.{◌≡◌, ℕ, ◌<◌, length, refl, sym, ap, ◌∙◌, arith}
use Rattle.spec_terms.specs.Term.{Subst, Var, Number, Name, Compound, one, more, count, apply, apply_all, Terms}
use Rattle.cq_frac.specs.declared.VarId.{VarId}
use Rattle.cq_term.specs.Meaning.{HeapTerm, at}
use Rattle.cq_term.specs.HeapValue.{Terms as HeapTerms}
use Rattle.cq_term.specs.Shown.{view_of, IsUnbound}
use Rattle.cq_term.specs.declared.view.View.TheVariants as view
use Rattle.cq_term.proofs.Arguments.{shown_variable}
use Rattle.cq_unify.specs.Work.{Demands}
use Rattle.cq_unify.specs.declared.pairs.Demand.TheVariants as demand

abbrev pub IsFree : HeapTerms → ℕ → Type 0
IsFree heap a = (x : ℕ) → at heap.terms a ≡ Var x → IsUnbound heap.images x

module _ (heap : HeapTerms) (a b : ℕ) (v : VarId) (free_a : IsFree heap a) (free_b : IsFree heap b) where
  -- the right one is the variable
  pub bind_to_left : view_of (at heap.terms b) ≡ view.Var v → a < length heap.terms → ((x : VarId) → view_of (at heap.terms a) ≡ view.Var x → x.0 < v.0) → Demands heap a b (demand.Bind v a)
  bind_to_left shown live less =
      let q : at heap.terms b ≡ Var v.0 = shown_variable (at heap.terms b) v shown in
      let under = λ (w : ℕ) (h : at heap.terms a ≡ Var w). less (record { 0 = w }) (ap view_of h) in (
        record {
          unbound = free_b v.0 q;
          live = live;
          other = λ h. let p : v.0 < v.0 = under v.0 h in absurd (omega arith);
          older = λ w h. (free_a w h, under w h);
        },
        λ s. (λ h. sym (h ∙ ap (apply s) q), λ h. sym h ∙ sym (ap (apply s) q)),
      )

  -- the left one is the variable
  pub bind_to_right : view_of (at heap.terms a) ≡ view.Var v → b < length heap.terms → ((x : VarId) → view_of (at heap.terms b) ≡ view.Var x → x.0 < v.0) → Demands heap a b (demand.Bind v b)
  bind_to_right shown live less =
      let q : at heap.terms a ≡ Var v.0 = shown_variable (at heap.terms a) v shown in
      let under = λ (w : ℕ) (h : at heap.terms b ≡ Var w). less (record { 0 = w }) (ap view_of h) in (
        record {
          unbound = free_a v.0 q;
          live = live;
          other = λ h. let p : v.0 < v.0 = under v.0 h in absurd (omega arith);
          older = λ w h. (free_b w h, under w h);
        },
        λ s. (λ h. sym (ap (apply s) q) ∙ h, λ h. ap (apply s) q ∙ h),
      )

pub count-apply_all : (s : Subst ℕ) (ts : Terms ℕ) → count (apply_all s ts) ≡ count ts
count-apply_all s (one t) = refl
count-apply_all s (more t ts) = omega (arith, count-apply_all s ts)

-- other names, or other numbers of arguments
pub compounds_clash : (t u : HeapTerm) (f n g m : ℕ) → view_of t ≡ view.Compound f n → view_of u ≡ view.Compound g m → (f ≡ g → n ≡ m → ⊥) → (s : Subst ℕ) → apply s t ≡ apply s u → ⊥
compounds_clash (Compound h ts) (Compound k us) f n g m p q other s e =
    let same : apply_all s ts ≡ apply_all s us = cc in
    let name : f ≡ g = cc in
    let c : count ts ≡ n = cc in
    let d : count us ≡ m = cc in
    other name (omega (arith, count-apply_all s ts, count-apply_all s us, ap count same))
compounds_clash (Compound h ts) (Var x) f n g m p q other s e = cc
compounds_clash (Compound h ts) (Number x) f n g m p q other s e = cc
compounds_clash (Compound h ts) (Name x) f n g m p q other s e = cc
compounds_clash (Var x) u f n g m p q other s e = cc
compounds_clash (Number x) u f n g m p q other s e = cc
compounds_clash (Name x) u f n g m p q other s e = cc
