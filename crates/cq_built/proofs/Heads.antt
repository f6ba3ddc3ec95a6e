-- Compounds of two arguments.
use Rattle.std.proofs.Common.{◌≡◌, ◌≢◌, ℕ, suc, ◌+◌, ◌<◌, false, List, length, refl, ap, subst, arith}
use Rattle.spec_numbers.specs.Texts.{Text}
use Rattle.spec_terms.specs.Term.{Terms, Var, Number, Name, Compound, one, more, count, named, named_all, size}
use Rattle.spec_syntax.specs.Trees.{binary}
use Rattle.cq_term.specs.Texts.{text_of}
use Rattle.cq_term.specs.Meaning.{HeapTerm, at}
use Rattle.cq_term.specs.Names.{HasNamesBelow}
use Rattle.cq_term.specs.Shown.{view_of}
use Rattle.cq_term.specs.declared.view.View.TheVariants as view
use Rattle.cq_term.specs.Trees.{tree, KnowsTerms}
use Rattle.cq_built.proofs.Trees.{known_at}
use Rattle.cq_built.specs.Sides.{is_binary, HasSides}
use Rattle.cq_built.specs.declared.sides.Sides.{Sides}

pub size_positive : (t : HeapTerm) → 0 < size t
size_positive (Var v) = omega arith
size_positive (Number q) = omega arith
size_positive (Name a) = omega arith
size_positive (Compound f ts) = omega arith

pub tree_of_sides : (texts : List Text) (ts : List HeapTerm) (id : ℕ) (s : Sides) → HasSides ts id s → tree texts ts id ≡ binary (text_of texts s.name) (tree texts ts s.left) (tree texts ts s.right)
tree_of_sides texts ts id s h = ap (named (text_of texts)) h.term

pub size_of_sides : (ts : List HeapTerm) (id : ℕ) (s : Sides) → HasSides ts id s → size (at ts s.left) + size (at ts s.right) < size (at ts id)
size_of_sides ts id s h = let e = ap size h.term in omega (arith, e)

pub not_two_arguments : (t : HeapTerm) (f n : ℕ) → view_of t ≡ view.Compound f n → n ≢ 2 → is_binary t ≡ false
not_two_arguments (Var v) f n e h = refl
not_two_arguments (Number q) f n e h = refl
not_two_arguments (Name a) f n e h = refl
not_two_arguments (Compound g (one t)) f n e h = refl
not_two_arguments (Compound g (more t (one u))) f n e h = let d : ◌≡◌ {A = ℕ} n 2 = cc in absurd (h d)
not_two_arguments (Compound g (more t (more u us))) f n e h = refl

pub no_compound : (t : HeapTerm) → ((f n : ℕ) → view_of t ≢ view.Compound f n) → is_binary t ≡ false
no_compound (Var v) h = refl
no_compound (Number q) h = refl
no_compound (Name a) h = refl
no_compound (Compound f ts) h = absurd (h f (count ts) refl)

pub side_name_known : (texts : List Text) (ts : List HeapTerm) (id : ℕ) (s : Sides) → HasSides ts id s → KnowsTerms texts ts → id < length ts → s.name < length texts
side_name_known texts ts id s h known live = (subst (HasNamesBelow (length texts)) h.term (known_at texts ts id known live)).0

pub count-named : (g : ℕ → Text) (us : Terms ℕ) → count (named_all g us) ≡ count us
count-named g (one t) = refl
count-named g (more t us) = ap (λ n. suc n) (count-named g us)
