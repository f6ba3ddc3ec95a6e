-- Goals by what they show.
use Rattle.std.proofs.Common.{◌≡◌, ℕ, true, refl}
use Rattle.spec_numbers.specs.Rational.{ℚ}
use Rattle.spec_numbers.specs.Texts.{Text}
use Rattle.spec_terms.specs.Term.{Var, Number, Name, Compound, named}
use Rattle.spec_builtins.specs.Errors.{instantiation, type_error}
use Rattle.spec_builtins.specs.Kinds.{is_callable}
use Rattle.spec_search.specs.Replies.{Place, Raises}
use Rattle.spec_search.specs.Rows.{reply_of}
use Rattle.cq_frac.specs.declared.VarId.{VarId}
use Rattle.cq_term.specs.Meaning.{HeapTerm}
use Rattle.cq_term.specs.Shown.{view_of}
use Rattle.cq_term.specs.declared.view.View.TheVariants as view

module _ (g : ℕ → Text) where
  pub variable_raises : (p : Place) (h : HeapTerm) (v : VarId) → view_of h ≡ view.Var v → reply_of p (named g h) ≡ Raises instantiation
  variable_raises p (Var w) v e = refl
  variable_raises p (Number q) v e = cc
  variable_raises p (Name a) v e = cc
  variable_raises p (Compound f ts) v e = cc

  pub number_raises : (p : Place) (h : HeapTerm) (q : ℚ) → view_of h ≡ view.Number q → reply_of p (named g h) ≡ Raises (type_error "callable" (named g h))
  number_raises p (Var w) q e = cc
  number_raises p (Number r) q e = refl
  number_raises p (Name a) q e = cc
  number_raises p (Compound f ts) q e = cc

  pub name_callable : (h : HeapTerm) (a : ℕ) → view_of h ≡ view.Name a → is_callable (named g h) ≡ true
  name_callable (Var w) a e = cc
  name_callable (Number r) a e = cc
  name_callable (Name b) a e = refl
  name_callable (Compound f ts) a e = cc

  pub compound_callable : (h : HeapTerm) (f n : ℕ) → view_of h ≡ view.Compound f n → is_callable (named g h) ≡ true
  compound_callable (Var w) f n e = cc
  compound_callable (Number r) f n e = cc
  compound_callable (Name b) f n e = cc
  compound_callable (Compound b ts) f n e = refl
