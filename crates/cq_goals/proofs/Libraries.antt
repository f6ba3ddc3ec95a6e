-- Which terms name the library.
use Rattle.std.proofs.Common.{◌≡◌, ◌≢◌, ℕ, suc, ◌<◌, true, false, ◌&&◌, Some, length, refl, ap, sym, ◌∙◌, subst, arith}
use Rattle.std.specs.Prelude.{slice_get, bytes_eq, codes}
use Rattle.std.proofs.lemmas.Option.{same_Some}
use Rattle.spec_numbers.specs.Texts.{Text}
use Rattle.spec_terms.specs.Term.{Var, Number, Name, Compound, one, more, count, named}
use Rattle.spec_builtins.specs.Built.{is_atom}
use Rattle.spec_builtins.specs.Clauses.{is_clpq}
use Rattle.cq_term.specs.Meaning.{HeapTerm}
use Rattle.cq_term.specs.Shown.{view_of, arguments}
use Rattle.cq_term.specs.declared.view.View.TheVariants as view

-- a compound of one argument
pub only_argument : (t : HeapTerm) (f n : ℕ) → view_of t ≡ view.Compound f n → n ≡ 1 → (a : HeapTerm) × (t ≡ Compound f (one a))
only_argument (Var v) f n e l = cc
only_argument (Number q) f n e l = cc
only_argument (Name b) f n e l = cc
only_argument (Compound g (one t)) f n e l = let h : f ≡ g = cc in (t, ap (λ k. Compound k (one t)) (sym h))
only_argument (Compound g (more t (one u))) f n e l = let h : ◌≡◌ {A = ℕ} 2 n = cc in absurd (omega (arith, h, l))
only_argument (Compound g (more t (more u us))) f n e l = let h : suc (suc (count us)) ≡ n = cc in absurd (omega (arith, h, l))

pub has_one : (t : HeapTerm) (f n : ℕ) → view_of t ≡ view.Compound f n → n ≡ 1 → 0 < length (arguments t)
has_one t f n e l = subst (λ u. 0 < length (arguments u)) (sym (only_argument t f n e l).1) (omega arith)

pub one_argument : (t a : HeapTerm) (f n : ℕ) → view_of t ≡ view.Compound f n → n ≡ 1 → slice_get (arguments t) 0 ≡ Some a → t ≡ Compound f (one a)
one_argument t a f n e l d =
    let k = only_argument t f n e l in
    k.1 ∙ ap (λ u. Compound f (one u)) (same_Some k.0 a (subst (λ u. slice_get (arguments u) 0 ≡ Some a) k.1 d))

module _ (g : ℕ → Text) where
  pub not_alone : (t : HeapTerm) (f n : ℕ) → view_of t ≡ view.Compound f n → n ≢ 1 → is_clpq (named g t) ≡ false
  not_alone (Var v) f n e l = refl
  not_alone (Number q) f n e l = refl
  not_alone (Name b) f n e l = refl
  not_alone (Compound b (one t)) f n e l = let d : ◌≡◌ {A = ℕ} n 1 = cc in absurd (l d)
  not_alone (Compound b (more t us)) f n e l = refl

  pub other_name : (t : HeapTerm) (f n : ℕ) → view_of t ≡ view.Compound f n → n ≡ 1 → bytes_eq (g f) (codes "library") ≡ false → is_clpq (named g t) ≡ false
  other_name t f n e l other =
      let k = only_argument t f n e l in
      ap (λ u. is_clpq (named g u)) k.1 ∙ ap (λ b. b && is_atom "clpq" (named g k.0)) other

  pub library_is : (t a : HeapTerm) (f : ℕ) → t ≡ Compound f (one a) → bytes_eq (g f) (codes "library") ≡ true → is_clpq (named g t) ≡ is_atom "clpq" (named g a)
  library_is t a f e named_so = ap (λ u. is_clpq (named g u)) e ∙ ap (λ b. b && is_atom "clpq" (named g a)) named_so

  pub no_compound : (t : HeapTerm) → ((f n : ℕ) → view_of t ≢ view.Compound f n) → is_clpq (named g t) ≡ false
  no_compound (Var v) h = refl
  no_compound (Number q) h = refl
  no_compound (Name a) h = refl
  no_compound (Compound f ts) h = absurd (h f (count ts) refl)
