-- Terms that are no compound of one argument.
use Rattle.std.proofs.Common.{◌≡◌, ◌≢◌, ℕ, false, refl}
use Rattle.spec_terms.specs.Term.{Var, Number, Name, Compound, one, more, count}
use Rattle.cq_term.specs.Meaning.{HeapTerm}
use Rattle.cq_term.specs.Shown.{view_of}
use Rattle.cq_term.specs.declared.view.View.TheVariants as view
use Rattle.cq_interpreter.specs.Purposes.{is_unary}

pub not_one : (t : HeapTerm) (f n : ℕ) → view_of t ≡ view.Compound f n → n ≢ 1 → is_unary t ≡ false
not_one (Var v) f n e h = refl
not_one (Number q) f n e h = refl
not_one (Name a) f n e h = refl
not_one (Compound g (one t)) f n e h = let d : ◌≡◌ {A = ℕ} n 1 = cc in absurd (h d)
not_one (Compound g (more t ts)) f n e h = refl

pub no_compound : (t : HeapTerm) → ((f n : ℕ) → view_of t ≢ view.Compound f n) → is_unary t ≡ false
no_compound (Var v) h = refl
no_compound (Number q) h = refl
no_compound (Name a) h = refl
no_compound (Compound f ts) h = absurd (h f (count ts) refl)
