-- The indicators of heads.
use Rattle.std.proofs.Common.{◌≡◌, ℕ, ap, sym, ◌∙◌}
use Rattle.spec_numbers.specs.Texts.{Text}
use Rattle.spec_terms.specs.Term.{Var, Number, Name, Compound, count, named}
use Rattle.spec_builtins.specs.Built.{indicator, indicator_of}
use Rattle.cq_term.specs.Meaning.{HeapTerm}
use Rattle.cq_term.specs.Shown.{view_of}
use Rattle.cq_term.specs.declared.view.View.TheVariants as view
use Rattle.cq_built.proofs.Heads.{count-named}

module _ (g : ℕ → Text) where
  pub atom_indicator : (t : HeapTerm) (a : ℕ) → view_of t ≡ view.Name a → indicator (g a) 0 ≡ indicator_of (named g t)
  atom_indicator (Var v) a e = cc
  atom_indicator (Number q) a e = cc
  atom_indicator (Name b) a e = (let h : a ≡ b = cc in ap (λ x. indicator (g x) 0) h)
  atom_indicator (Compound f ts) a e = cc

  pub compound_indicator : (t : HeapTerm) (f n : ℕ) → view_of t ≡ view.Compound f n → indicator (g f) n ≡ indicator_of (named g t)
  compound_indicator (Var v) f n e = cc
  compound_indicator (Number q) f n e = cc
  compound_indicator (Name b) f n e = cc
  compound_indicator (Compound b ts) f n e =
      let d : f ≡ b = cc in
      let c : n ≡ count ts = cc in
      λ i. indicator (g (d i)) ((c ∙ sym (count-named g ts)) i)
