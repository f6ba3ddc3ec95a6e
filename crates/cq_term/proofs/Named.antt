-- The names of terms as they are shown, and the texts of names.
use Rattle.std.proofs.Common.{◌≡◌, ℕ, ◌<◌, List, Some, subst}
use Rattle.std.specs.Prelude.{[], slice_get}
use Rattle.std.proofs.lemmas.Option.{get_or_from_slice_get}
use Rattle.spec_numbers.specs.Texts.{Text}
use Rattle.spec_terms.specs.Term.{Var, Number, Name, Compound}
use Rattle.cq_term.specs.Texts.{text_of}
use Rattle.cq_term.specs.Meaning.{HeapTerm}
use Rattle.cq_term.specs.Names.{HasNamesBelow}
use Rattle.cq_term.specs.Shown.{view_of}
use Rattle.cq_term.specs.declared.view.View.TheVariants as view

pub name_below : (n : ℕ) (t : HeapTerm) (a : ℕ) → view_of t ≡ view.Name a → HasNamesBelow n t → a < n
name_below n (Var v) a e h = cc
name_below n (Number q) a e h = cc
name_below n (Name b) a e h = (let s : b ≡ a = cc in subst (λ x. x < n) s h)
name_below n (Compound f ts) a e h = cc

pub functor_below : (n : ℕ) (t : HeapTerm) (f k : ℕ) → view_of t ≡ view.Compound f k → HasNamesBelow n t → f < n
functor_below n (Var v) f k e h = cc
functor_below n (Number q) f k e h = cc
functor_below n (Name b) f k e h = cc
functor_below n (Compound g ts) f k e h = (let s : g ≡ f = cc in subst (λ x. x < n) s h.0)

pub text_is : (texts : List Text) (name : ℕ) (text : Text) → slice_get texts name ≡ Some text → text_of texts name ≡ text
text_is texts name text e = get_or_from_slice_get texts name text [] e
