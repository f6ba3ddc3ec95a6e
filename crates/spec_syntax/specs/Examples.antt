-- Trees in short, for examples, and what the examples say.
use Rattle.std.specs.Prelude.{◌≡◌, ◌∷◌, ◌++◌, ℕ, take, slice_index_or, List, [], pos, codes, unwrap_or}
use Rattle.spec_numbers.specs.Rational.{ratio, neg_ℚ}
use Rattle.spec_syntax.specs.Operators.{Ops, put}
use Rattle.spec_syntax.specs.Standard.{standard}
use Rattle.spec_syntax.specs.declared.operators.OpKind.TheVariants.{Xf}
use Rattle.spec_terms.specs.Term.{Number}
use Rattle.spec_syntax.specs.Tokens.{Token, End}
use Rattle.spec_syntax.specs.Trees.{Tree}
use Rattle.spec_syntax.specs.Grammar.{Parses, IsRefused}
use Rattle.spec_syntax.specs.TextTokens.{clause_tokens}
use Rattle.spec_syntax.specs.Writing.{written}

-- the number n
abbrev pub number : ℕ → Tree
number n = Number (ratio (pos n) 1)

-- the number -n
abbrev pub negative : ℕ → Tree
negative n = Number (neg_ℚ (ratio (pos n) 1))

-- the operators at the start, and a postfix one
abbrev pub with_factorial : Ops
with_factorial = put standard 150 Xf (codes "fact")

-- the tokens of a clause, or none
abbrev pub tokens_of : List ℕ → List Token
tokens_of text = unwrap_or (clause_tokens text) []

-- the text is the clause t
abbrev pub Reads : Ops → List ℕ → Tree → Type 0
Reads ops text t = Parses ops (tokens_of text) t

-- the token of this number, from 0 on, is the first one of the text that begins no clause
abbrev pub Refuses : Ops → List ℕ → ℕ → Type 0
Refuses ops text n = IsRefused ops (take n (tokens_of text)) (slice_index_or (tokens_of text) n End)

-- the text is a clause, and has just the tokens that are written of its tree
abbrev pub IsWrittenAgain : Ops → List ℕ → Type 0
IsWrittenAgain ops text = (t : Tree) × Reads ops text t × (tokens_of text ≡ written ops t ++ End ∷ [])
