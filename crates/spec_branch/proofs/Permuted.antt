-- Lists of constraints in another order have the same solutions.
use Rattle.std.proofs.Common.{zero, suc, List, [], ◌∷◌, ◌++◌, arith}
use Rattle.std.specs.Prelude.{IsPermutation, All}
use Rattle.std.proofs.lemmas.List.Sorted.{All-permutation, IsPermutation-sym, IsPermutation-append_left, IsPermutation-append_right}
use Rattle.spec_linear.specs.Solution.{Constraint, Point, Solves, Holds, Equivalent}

to_all : (p : Point) (l : List Constraint) → Solves p l → All (λ c. Holds p c) l
to_all p [] s k d h = absurd (omega arith)
to_all p (c ∷ l) s zero d h = s.0
to_all p (c ∷ l) s (suc k) d h = to_all p l s.1 k d (omega arith)

from_all : (p : Point) (l : List Constraint) → All (λ c. Holds p c) l → Solves p l
from_all p [] h = tt
from_all p (c ∷ l) h = (h zero c (omega arith), from_all p l (λ k d e. h (suc k) d (omega arith)))

-- the constraints before and behind stay
pub permuted_alike : (a b xs ys : List Constraint) → IsPermutation xs ys → Equivalent (a ++ xs ++ b) (a ++ ys ++ b)
permuted_alike a b xs ys h p =
    let k : IsPermutation (a ++ xs ++ b) (a ++ ys ++ b) = IsPermutation-append_left b (a ++ xs) (a ++ ys) (IsPermutation-append_right a xs ys h) in
    let back : IsPermutation (a ++ ys ++ b) (a ++ xs ++ b) = IsPermutation-sym (a ++ xs ++ b) (a ++ ys ++ b) k in (
      λ s. from_all p (a ++ ys ++ b) (All-permutation (λ c. Holds p c) (a ++ xs ++ b) (a ++ ys ++ b) k (to_all p (a ++ xs ++ b) s)),
      λ s. from_all p (a ++ xs ++ b) (All-permutation (λ c. Holds p c) (a ++ ys ++ b) (a ++ xs ++ b) back (to_all p (a ++ ys ++ b) s)),
    )
