-- Compounds of two arguments, and those that are no cells.
use Rattle.std.proofs.Common.{◌≡◌, ◌≢◌, ℕ, ◌<◌, Some, true, false, codes, length, sym, ap, ◌∙◌, subst, arith}
use Rattle.std.specs.Prelude.{slice_get, bytes_eq, if◌then◌else◌}
use Rattle.std.proofs.lemmas.Option.{same_Some}
use Rattle.spec_numbers.specs.Texts.{Text}
use Rattle.spec_terms.specs.Term.{Var, Number, Name, Compound, one, more, named}
use Rattle.spec_builtins.specs.Kinds.{parts, no_cell}
use Rattle.cq_term.specs.Meaning.{HeapTerm}
use Rattle.cq_term.specs.Shown.{view_of, arguments}
use Rattle.cq_term.specs.declared.view.View.TheVariants as view
use Rattle.cq_term.proofs.Arguments.{both_arguments}
use Rattle.cq_built.specs.Cells.{with_first}

pub has_two : (t : HeapTerm) (f n : ℕ) → view_of t ≡ view.Compound f n → n ≡ 2 → 1 < length (arguments t)
has_two t f n e two = subst (λ u. 1 < length (arguments u)) (sym (both_arguments t f (e ∙ ap (view.Compound f) two)).2) (omega arith)

pub two_arguments : (t a b : HeapTerm) (f n : ℕ) → view_of t ≡ view.Compound f n → n ≡ 2 → slice_get (arguments t) 0 ≡ Some a → slice_get (arguments t) 1 ≡ Some b → t ≡ Compound f (more a (one b))
two_arguments t a b f n e two d c =
    let k = both_arguments t f (e ∙ ap (view.Compound f) two) in
    k.2
    ∙ ap (λ u. Compound f (more u (one k.1))) (same_Some k.0 a (subst (λ u. slice_get (arguments u) 0 ≡ Some a) k.2 d))
    ∙ ap (λ u. Compound f (more a (one u))) (same_Some k.1 b (subst (λ u. slice_get (arguments u) 1 ≡ Some b) k.2 c))

module _ (g : ℕ → Text) where
  pub other_arity : (t : HeapTerm) (f n : ℕ) → view_of t ≡ view.Compound f n → n ≢ 2 → parts (named g t) ≡ no_cell (named g t)
  other_arity (Var v) f n e h = cc
  other_arity (Number q) f n e h = cc
  other_arity (Name b) f n e h = cc
  other_arity (Compound k (one t)) f n e h = cc
  other_arity (Compound k (more t (one u))) f n e h = let d : ◌≡◌ {A = ℕ} n 2 = cc in absurd (h d)
  other_arity (Compound k (more t (more u us))) f n e h = cc

  pub other_name : (t : HeapTerm) (f n : ℕ) → view_of t ≡ view.Compound f n → n ≡ 2 → bytes_eq (g f) (codes ".") ≡ false → parts (named g t) ≡ no_cell (named g t)
  other_name t f n e two other =
      let k = both_arguments t f (e ∙ ap (view.Compound f) two) in
      subst (λ u. parts (named g u) ≡ no_cell (named g u)) (sym k.2)
      (ap (λ b. if b then with_first (named g k.0) (parts (named g k.1)) else no_cell (named g (Compound f (more k.0 (one k.1))))) other)

  pub cell_parts : (t a b : HeapTerm) (f : ℕ) → t ≡ Compound f (more a (one b)) → bytes_eq (g f) (codes ".") ≡ true → parts (named g t) ≡ with_first (named g a) (parts (named g b))
  cell_parts t a b f e dot =
      ap (λ u. parts (named g u)) e
      ∙ ap (λ k. if k then with_first (named g a) (parts (named g b)) else no_cell (named g (Compound f (more a (one b))))) dot
