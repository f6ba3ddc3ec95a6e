-- Variables of a heap that has grown are unbound as before, and as many.
use Rattle.std.proofs.Common.{◌≡◌, ◌<◌, ◌≤◌, ℕ, List, length, sym, ap, subst, arith, Result, Ok, Err, IfOk}
use Rattle.std.specs.declared.alloc.AllocError.{AllocError}
use Rattle.spec_numbers.specs.Texts.{Text}
use Rattle.spec_numbers.proofs.Prefixes.{prefix_length}
use Rattle.spec_syntax.specs.Trees.{Tree}
use Rattle.cq_term.specs.HeapValue.{HeapValue}
use Rattle.cq_built.specs.Growing.{Grows}
use Rattle.cq_interpreter.specs.GenerationVariables.{AreUnbound}

module _ (texts more : List Text) (old new : HeapValue) (grows : Grows texts old more new) where
  pub still_unbound : AreUnbound old.now.images → AreUnbound new.now.images
  still_unbound h = subst AreUnbound (sym grows.images) h

  pub still_there : (n : ℕ) → n < length old.now.images → n < length new.now.images
  still_there n h = let e = ap length grows.images in omega (arith, h, e)

  pub still_live : (n : ℕ) → n < length old.now.terms → n < length new.now.terms
  still_live n h = let l = prefix_length old.now.terms new.now.terms grows.terms in omega (arith, h, l)

-- what is built is a tree that is the same
pub built_as : (r : Result ℕ AllocError) (tree_of : ℕ → Tree) (t u : Tree) → t ≡ u → IfOk r (λ id. tree_of id ≡ t) → IfOk r (λ id. tree_of id ≡ u)
built_as r tree_of t u e h = subst (λ x. IfOk r (λ id. tree_of id ≡ x)) e h
