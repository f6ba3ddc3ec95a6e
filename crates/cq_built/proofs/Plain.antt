-- Parts of bodies that are no constructs.
use Rattle.std.proofs.Common.{◌≡◌, ℕ, true, false, refl, ap}
use Rattle.std.specs.Prelude.{if◌then◌else◌}
use Rattle.spec_numbers.specs.Texts.{Text}
use Rattle.spec_terms.specs.Term.{Var, Number, Name, Compound, one, more, named}
use Rattle.spec_syntax.specs.Trees.{Tree, binary}
use Rattle.spec_builtins.specs.Bodies.{converted_body, is_control}
use Rattle.spec_builtins.specs.Kinds.{is_variable}
use Rattle.cq_term.specs.Meaning.{HeapTerm}
use Rattle.cq_built.specs.Sides.{is_binary}

pub construct_is : (f : Text) (a b : Tree) → is_control f ≡ true → converted_body (binary f a b) ≡ binary f (converted_body a) (converted_body b)
construct_is f a b e = ap (λ x. if x then binary f (converted_body a) (converted_body b) else binary f a b) e

pub goal_is : (f : Text) (a b : Tree) → is_control f ≡ false → converted_body (binary f a b) ≡ binary f a b
goal_is f a b e = ap (λ x. if x then binary f (converted_body a) (converted_body b) else binary f a b) e

module _ (g : ℕ → Text) where
  pub other_is : (t : HeapTerm) → is_binary t ≡ false → is_variable (named g t) ≡ false → converted_body (named g t) ≡ named g t
  other_is (Var v) e n = cc
  other_is (Number q) e n = refl
  other_is (Name a) e n = refl
  other_is (Compound f (one t)) e n = refl
  other_is (Compound f (more t (one u))) e n = cc
  other_is (Compound f (more t (more u us))) e n = refl
