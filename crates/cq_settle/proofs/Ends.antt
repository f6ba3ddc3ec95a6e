-- Where moves end: where each term waits, and where the list has no solution.
use Rattle.std.proofs.Common.{◌≡◌, ℕ, List, [], ◌∷◌, ◌++◌, Option, None, Some, refl, sym, ap, ◌∙◌, subst, inl, inr}
use Rattle.spec_numbers.specs.Rational.{ℚ}
use Rattle.spec_linear.specs.Solution.{Constraint, Unsolvable, Fixes, Has, Equivalent}
use Rattle.spec_numbers.specs.Texts.{Text}
use Rattle.spec_terms.specs.Term.{Subst, apply}
use Rattle.spec_syntax.specs.Trees.{Tree}
use Rattle.spec_branch.specs.Relations.{Lin, Waits, lin, row_of}
use Rattle.spec_branch.specs.Closure.{IsMove, Moves, no_move, move}
use Rattle.spec_branch.proofs.Waiting.{one_map}

-- each term waits under these values
abbrev pub AllWait : Subst Text → (ℕ → Option ℚ) → List Tree → Type 0
AllWait s fixed w = (t : Tree) → Has t w → lin fixed (apply s t) ≡ Waits

pub has_middle : (t : Tree) (before after : List Tree) → Has t (before ++ t ∷ after)
has_middle t [] after = inl refl
has_middle t (u ∷ us) after = inr (has_middle t us after)

pub alike_itself : (l : List Constraint) → Equivalent l l
alike_itself l p = (λ h. h, λ h. h)

-- no move is possible where each term waits
pub waiting_closed : (s : Subst Text) (l : List Constraint) (w : List Tree) (fixed : ℕ → Option ℚ) → Fixes l fixed → AllWait s fixed w
    → (m : List Constraint) (x : List Tree) → IsMove s l w m x → ⊥
waiting_closed s l w fixed fixes h m x k =
    let e : k.is_lin.fixed ≡ fixed = one_map l l k.is_lin.fixed fixed (alike_itself l) k.is_lin.fixes fixes in
    let waits : lin fixed (apply s k.term) ≡ Waits = h k.term (subst (λ (v : List Tree). Has k.term v) (sym k.among) (has_middle k.term k.before k.after)) in
    let r : k.result ≡ Waits = sym k.is_lin.is ∙ ap (λ (g : ℕ → Option ℚ). lin g (apply s k.term)) e ∙ waits in
    let n : None ≡ Some k.row = ap (λ (z : Lin Constraint). row_of z) (sym r) ∙ k.row_is in
    cc

-- nor where the list has no solution
pub unsolvable_closed : (s : Subst Text) (l : List Constraint) (w : List Tree) → Unsolvable l
    → (m : List Constraint) (x : List Tree) → IsMove s l w m x → ⊥
unsolvable_closed s l w h m x k = h k.solvable.0 k.solvable.1

-- moves one after another, the last one apart
pub then_moves : {s : Subst Text} {l l' m : List Constraint} {w w' x : List Tree} → Moves s l w l' w' → Moves s l' w' m x → Moves s l w m x
then_moves no_move r = r
then_moves (move k h) r = move k (then_moves h r)
