-- The query that `gen` asks for a number n: X1, X2 and so on up to Xn, of which each is some more than the one before it at
-- least and none is greater than a million, and the infimum V of Xn.
-- X1 is the variable 0, X2 the variable 1, and so on, and V the variable n.
use Rattle.std.specs.Prelude.{◌≡◌, ℕ, zero, suc, pred, ◌+◌, ◌*◌, ◌%◌, List, [], ◌∷◌, codes}
use Rattle.spec_numbers.specs.Rational.{ℚ, ◌≤ℚ◌}
use Rattle.spec_terms.specs.Term.{Var}
use Rattle.spec_syntax.specs.Trees.{Tree, natural, unary, binary}
use Rattle.spec_branch.specs.Values.{IsMetAt}

-- how much more than X(i-1) Xi is at least
unfoldable pub gap : ℕ → ℕ
gap i = suc ((i * i) % 7)

-- ---- its constraints

-- X1>=1, and Xi>=X(i-1)+a with the gap a of i, for the variable of Xi
abbrev pub lower : ℕ → Tree
lower zero = binary (codes ">=") (Var 0) (natural 1)
lower (suc k) = binary (codes ">=") (Var (suc k)) (binary (codes "+") (Var k) (natural (gap (suc (suc k)))))

-- Xi=<1000000
abbrev pub upper : ℕ → Tree
upper k = binary (codes "=<") (Var k) (natural 1000000)

-- those of so many variables from one on
abbrev pub lowers : ℕ → ℕ → List Tree
lowers k zero = []
lowers k (suc c) = lower k ∷ lowers (suc k) c

-- the upper bounds of so many variables, from the k-th on
abbrev pub uppers : ℕ → ℕ → List Tree
uppers k zero = []
uppers k (suc c) = upper k ∷ uppers (suc k) c

-- a conjunction of these in front of another constraint
abbrev pub before : List Tree → Tree → Tree
before [] rest = rest
before (t ∷ ts) rest = binary (codes ",") t (before ts rest)

-- X1>=1, X2>=X1+a, .., X1=<1000000, X2=<1000000, ..
abbrev pub constraints : ℕ → Tree
constraints n = before (lowers 0 n) (before (uppers 0 (pred n)) (upper (pred n)))

-- ---- the query

-- the variable of Xn
abbrev pub last : ℕ → ℕ
last n = pred n

-- {X1>=1, ..}
abbrev pub told : ℕ → Tree
told n = unary (codes "{}") (constraints n)

-- inf(Xn,V)
abbrev pub asked : ℕ → Tree
asked n = binary (codes "inf") (Var (last n)) (Var n)

-- the one, and then the other
abbrev pub query : ℕ → Tree
query n = binary (codes ",") (told n) (asked n)

-- how many variables it has
abbrev pub variables : ℕ → ℕ
variables n = suc n

-- ---- what it means

-- where a constraint is met, the variable is q at least, and somewhere it is q
pub record IsLeastValue (c : Tree) (x : ℕ) (q : ℚ) : Type 0 where
  pub bound : (a : ℕ → ℚ) → IsMetAt a c → q ≤ℚ a x
  pub reached : (a : ℕ → ℚ) × IsMetAt a c × (a x ≡ q)

-- 1 and the gaps of 2, 3 and so on added to it, up to that of the variable
abbrev pub least : ℕ → ℕ
least zero = 1
least (suc k) = least k + gap (suc (suc k))
