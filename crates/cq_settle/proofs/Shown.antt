-- What a variable shows.
use Rattle.std.proofs.Common.{◌≡◌, ℕ, List, Bool, true, false, refl, sym, ◌∙◌, ◌||◌}
use Rattle.spec_terms.specs.Term.{Var}
use Rattle.cq_frac.specs.declared.VarId.{VarId}
use Rattle.cq_term.specs.Meaning.{HeapTerm, at}
use Rattle.cq_term.specs.Shown.{view_of}
use Rattle.cq_term.specs.declared.view.View.TheVariants as view
use Rattle.cq_term.proofs.Arguments.{shown_variable}

-- where the variable's term is its image
pub as_variable : (images terms : List HeapTerm) (v id : ℕ) → at terms id ≡ at images v → (x : VarId) → view.Var x ≡ view_of (at terms id) → at images v ≡ Var x.0
as_variable images terms v id same x e = sym same ∙ shown_variable (at terms id) x (sym e)

pub or_nothing : (b : Bool) → b ≡ (b || false)
or_nothing true = refl
or_nothing false = refl
