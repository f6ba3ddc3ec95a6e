-- How an error names goals.
use Rattle.std.proofs.Common.{◌≡◌, ℕ, refl}
use Rattle.std.specs.Prelude.{codes}
use Rattle.spec_numbers.specs.Texts.{Text}
use Rattle.spec_terms.specs.Term.{Var, Number, Name, Compound, named}
use Rattle.spec_builtins.specs.Built.{indicator, indicator_of}
use Rattle.cq_term.specs.Meaning.{HeapTerm}
use Rattle.cq_term.specs.Shown.{view_of}
use Rattle.cq_term.specs.declared.view.View.TheVariants as view

-- a goal without a name
module _ (g : ℕ → Text) where
  pub variable_nameless : (t : HeapTerm) (x : _) → view_of t ≡ view.Var x → indicator (codes "") 0 ≡ indicator_of (named g t)
  variable_nameless (Var v) x e = refl
  variable_nameless (Number q) x e = cc
  variable_nameless (Name a) x e = cc
  variable_nameless (Compound f ts) x e = cc

  pub number_nameless : (t : HeapTerm) (x : _) → view_of t ≡ view.Number x → indicator (codes "") 0 ≡ indicator_of (named g t)
  number_nameless (Var v) x e = cc
  number_nameless (Number q) x e = refl
  number_nameless (Name a) x e = cc
  number_nameless (Compound f ts) x e = cc
