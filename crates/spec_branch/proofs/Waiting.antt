-- Closures reached in different orders leave the same terms waiting, and fix the same values.
use Rattle.std.proofs.Common.{◌≡◌, ℕ, List, [], ◌∷◌, ◌++◌, Bool, true, false, cond, not, Option, None, Some, refl, sym, ap, ◌∙◌, inl, inr}
use Rattle.std.specs.Prelude.{filter, is_some}
use Rattle.spec_numbers.specs.Rational.{ℚ}
use Rattle.spec_linear.specs.Solution.{Constraint, Solvable, Fixes, Has, Equivalent, false_constraint}
use Rattle.spec_linear.proofs.Lists.{told_once, alike_fixed, alike_sym}
use Rattle.spec_numbers.specs.Texts.{Text}
use Rattle.spec_terms.specs.Term.{Subst, apply}
use Rattle.spec_syntax.specs.Trees.{Tree}
use Rattle.spec_branch.specs.Relations.{Lin, Is, Waits, False, lin, row_of}
use Rattle.spec_branch.specs.Closure.{IsMove, Moves, no_move, move, IsClosure}
use Rattle.spec_branch.specs.Alike.{SameClosure}
use Rattle.spec_branch.proofs.Absorbed.{moves_below, became, can_move, Row, closures_agree}

-- ---- fixed values

pub alike_fixes : (l m : List Constraint) → Equivalent l m → (fixed : ℕ → Option ℚ) → Fixes l fixed → Fixes m fixed
alike_fixes l m e fixed f = record {
  sound = λ x q h. alike_fixed l m x q e (f.sound x q h);
  complete = λ x q g. f.complete x q (alike_fixed m l x q (alike_sym l m e) g);
}

-- two maps with the same values are one
same_map : (f g : ℕ → Option ℚ) → ((x : ℕ) (q : ℚ) → f x ≡ Some q → g x ≡ Some q)
    → ((x : ℕ) (q : ℚ) → g x ≡ Some q → f x ≡ Some q) → f ≡ g
same_map f g h k = λ i x. at x (f x) (g x) refl refl i
  where
    at : (x : ℕ) (o p : Option ℚ) → f x ≡ o → g x ≡ p → f x ≡ g x
    at x None None d e = d ∙ sym e
    at x None (Some q) d e = let c : None ≡ Some q = sym d ∙ k x q e in cc
    at x (Some q) p d e = d ∙ sym (h x q d)

-- lists with the same solutions have one map of fixed values
pub one_map : (l m : List Constraint) (f g : ℕ → Option ℚ) → Equivalent l m → Fixes l f → Fixes m g → f ≡ g
one_map l m f g e hf hg = same_map f g (told_once m f g (alike_fixes l m e f hf) hg) (told_once l g f (alike_fixes m l (alike_sym l m e) g hg) hf)

-- ---- waiting terms

-- the term waits under these values
abbrev waits : Subst Text → (ℕ → Option ℚ) → Tree → Bool
waits s f t = not (is_some (row_of (lin f (apply s t))))

filter-without : (test : Tree → Bool) (t : Tree) (c d : List Tree) → test t ≡ false
    → filter test (c ++ t ∷ d) ≡ filter test (c ++ d)
filter-without test t [] d e = ap (λ (b : Bool). cond b (t ∷ filter test d) (filter test d)) e
filter-without test t (x ∷ c) d e = ap (λ us. cond (test x) (x ∷ us) us) (filter-without test t c d e)

filter-all : (test : Tree → Bool) (w : List Tree) → ((t : Tree) → Has t w → test t ≡ true) → filter test w ≡ w
filter-all test [] h = refl
filter-all test (t ∷ w) h =
    ap (λ (b : Bool). cond b (t ∷ filter test w) (filter test w)) (h t (inl refl)) ∙ ap (λ us. t ∷ us) (filter-all test w (λ u a. h u (inr a)))

module _ (s : Subst Text) (goal : List Constraint) (fixed : ℕ → Option ℚ) (fixes : Fixes goal fixed) (solvable : Solvable goal) where
  -- what moves below the goal doesn't wait there
  goes : (t : Tree) (c : Constraint) → Row s goal fixed fixes solvable t c → waits s fixed t ≡ false
  goes t c r =
      elim (became s goal fixed fixes solvable t c r) [
        | inl b ↦ ap (λ (w : Lin Constraint). not (is_some (row_of w))) b.1
        | inr b ↦ ap (λ (w : Lin Constraint). not (is_some (row_of w))) b.0
      ]

  moves-waiting : {l : List Constraint} {w x : List Tree} → Moves s l w goal x
      → filter (waits s fixed) w ≡ filter (waits s fixed) x
  moves-waiting no_move = refl
  moves-waiting (move {l = l} k r) =
      ap (λ us. filter (waits s fixed) us) k.among
      ∙ filter-without (waits s fixed) k.term k.before k.after (goes k.term k.row (record { list = l; below = moves_below (move k r); result = k.result; is_lin = k.is_lin; row_is = k.row_is }))
      ∙ ap (λ us. filter (waits s fixed) us) (sym k.leaves)
      ∙ moves-waiting r

  -- what is left waits
  left-waits : (x : List Tree) → ((m : List Constraint) (y : List Tree) → IsMove s goal x m y → ⊥) → (t : Tree)
      → Has t x → waits s fixed t ≡ true
  left-waits x closed t a = go (lin fixed (apply s t)) refl
    where
      moved : (w : Lin Constraint) (c : Constraint) → lin fixed (apply s t) ≡ w → row_of w ≡ Some c → ⊥
      moved w c e h = let m = can_move s goal fixed fixes solvable t x a w c e h in closed m.0 m.1 m.2

      go : (w : Lin Constraint) → lin fixed (apply s t) ≡ w → not (is_some (row_of (lin fixed (apply s t)))) ≡ true
      go (Is c) e = absurd (moved (Is c) c e refl)
      go Waits e = ap (λ (w : Lin Constraint). not (is_some (row_of w))) e
      go False e = absurd (moved False false_constraint e refl)

  waiting-is : (l : List Constraint) (w x : List Tree) → IsClosure s l w goal x → x ≡ filter (waits s fixed) w
  waiting-is l w x c = sym (filter-all (waits s fixed) x (left-waits x c.closed)) ∙ sym (moves-waiting c.moves)

-- two solvable closures from lists with the same solutions are the same: solutions, waiting terms in order, and fixed values
pub same_closures : (s : Subst Text) (k l m n : List Constraint) (w x y : List Tree) → Equivalent k l
    → IsClosure s k w m x → IsClosure s l w n y → (f g : ℕ → Option ℚ) → Fixes m f → Fixes n g
    → Solvable m → Solvable n → SameClosure m x n y
same_closures s k l m n w x y begins a b f g hf hg sm sn =
    let e : Equivalent m n = closures_agree s k l m n w x y begins a b f g hf hg sm sn in
    let d : f ≡ g = one_map m n f g e hf hg in
    record {
      solutions = e;
      waiting = waiting-is s m f hf sm k w x a ∙ ap (λ (h : ℕ → Option ℚ). filter (waits s h) w) d ∙ sym (waiting-is s n g hg sn l w y b);
      fixed = λ v q. (alike_fixed m n v q e, alike_fixed n m v q (alike_sym m n e));
    }
