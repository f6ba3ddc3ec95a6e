-- The text of a term.
use Rattle.std.specs.Prelude.{ℕ, ◌==◌, nat_le, codes, Bool, true, false, List, [], ◌∷◌, ◌++◌, Option, Some, None, if◌then◌else◌, filter, ◌+◌}
use Rattle.std.specs.List.{position_or_len}
use Rattle.spec_syntax.specs.Operators.{Ops}
use Rattle.spec_numbers.specs.Texts.{Text}
use Rattle.spec_terms.specs.Variables.{variables}
use Rattle.spec_syntax.specs.Trees.{Tree}
use Rattle.spec_syntax.specs.TextTokens.{VariableName}
use Rattle.spec_syntax.specs.Writing.{priority}
use Rattle.spec_text.specs.Pieces.{Piece, pieces, unless}
use Rattle.spec_text.specs.declared.writing.Style.{Style}
use Rattle.spec_text.specs.declared.writing.Style.TheVariants.{Plain, Quoted}
use Rattle.spec_text.specs.Numbers.{whole_text}
use Rattle.spec_text.specs.Texts.{seen, joined}

-- ---- names of variables

-- the name that is given to a variable
abbrev pub given_name : List VariableName → ℕ → Option Text
given_name [] v = None
given_name (n ∷ names) v = if n.number == v then Some n.name else given_name names v

-- a variable has no name
abbrev pub is_unnamed : List VariableName → ℕ → Bool
is_unnamed names v = elim (given_name names v) [ Some f ↦ false | None ↦ true ]

-- `_1`, `_2` and so on, of a number from 0 on
abbrev pub counted_name : ℕ → Text
counted_name n = codes "_" ++ whole_text (1 + n)

-- a variable's name, or the one that its place among these gives it
abbrev pub shown : List VariableName → List ℕ → ℕ → Text
shown names unnamed v = elim (given_name names v) [ Some f ↦ f | None ↦ counted_name (position_or_len (λ w. w == v) unnamed) ]

-- ---- terms

-- the pieces of a term within a priority
abbrev pub pieces_within : Ops → ℕ → Tree → List Piece
pieces_within ops m t = unless (nat_le (priority ops t) m) (pieces ops t)

-- the text of a term with variables by these names
abbrev pub text_by : Style → Ops → (ℕ → Text) → ℕ → Tree → Text
text_by style ops name m t = joined style name (seen style name (pieces_within ops m t))

-- the text of a term within a priority; variables without a name are numbered by first occurrence
abbrev pub text_within : Style → Ops → List VariableName → ℕ → Tree → Text
text_within style ops names m t = text_by style ops (shown names (filter (is_unnamed names) (variables t))) m t

-- as by write/1
abbrev pub write : Ops → Tree → Text
write ops t = text_within Plain ops [] 1200 t

-- as by writeq/1
abbrev pub writeq : Ops → Tree → Text
writeq ops t = text_within Quoted ops [] 1200 t
