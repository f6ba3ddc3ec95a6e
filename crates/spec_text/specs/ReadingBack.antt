-- What is written of a term reads as that term, but for the names of variables.
use Rattle.std.specs.Prelude.{◌≡◌, ◌≢◌, ◌⊎◌, ◌≤◌, ℕ, zero, suc, ◌+◌, nat_abs, List, [], ◌∷◌, ◌++◌, length, true, false, codes, ⊤}
use Rattle.std.specs.Str.{is_utf8}
use Rattle.spec_numbers.specs.Rational.{ℚ, denominator}
use Rattle.spec_syntax.specs.Operators.{Ops, is_operator}
use Rattle.spec_numbers.specs.Texts.{Text}
use Rattle.spec_terms.specs.Term.{Terms, Var, Number, Name, Compound, one, more}
use Rattle.spec_terms.specs.Variables.{variables, renamed_from}
use Rattle.spec_syntax.specs.Numerals.{greatest}
use Rattle.spec_syntax.specs.Trees.{Tree}
use Rattle.spec_syntax.specs.TextTokens.{VariableName, Variables}
use Rattle.spec_syntax.specs.Writing.{needs_quotes}
use Rattle.spec_text.specs.Readings.{Clause, Reads}
use Rattle.spec_text.specs.Written.{counted_name, writeq}

-- the operators' names need no quotes, but for the comma
abbrev pub NamesAreBare : Ops → Type 0
NamesAreBare ops = (f : Text) → is_operator ops f ≡ true → (f ≡ codes ",") ⊎ (needs_quotes f ≡ false)

-- both parts are at most the greatest number
abbrev pub FitsNumber : ℚ → Type 0
FitsNumber q = (nat_abs q.numerator ≤ greatest) × (denominator q ≤ greatest)

-- numbers that fit, names of characters, and no compound named `[]`, nor one named `{}` of more than one argument
abbrev mutual
  pub CanBeRead : Tree → Type 0
  CanBeRead (Var v) = ⊤
  CanBeRead (Number q) = FitsNumber q
  CanBeRead (Name f) = is_utf8 f ≡ true
  CanBeRead (Compound f (one a)) = (is_utf8 f ≡ true) × (f ≢ codes "[]") × CanBeRead a
  CanBeRead (Compound f (more a as1)) = (is_utf8 f ≡ true) × (f ≢ codes "[]") × (f ≢ codes "{}") × CanBeRead a × AllCanBeRead as1

  pub AllCanBeRead : Terms Text → Type 0
  AllCanBeRead (one a) = CanBeRead a
  AllCanBeRead (more a as1) = CanBeRead a × AllCanBeRead as1

-- `_1`, `_2` and so on, so many names, for the variables from n on
abbrev pub counted_names : ℕ → ℕ → List VariableName
counted_names n zero = []
counted_names n (suc k) = record { name = counted_name n; number = n } ∷ counted_names (suc n) k

-- the variables `_1` up to `_n`
abbrev pub counted : ℕ → Variables
counted n = record { names = counted_names 0 n; count = n }

-- the text of a term as a clause
abbrev pub clause_text : Ops → Tree → Text
clause_text ops t = writeq ops t ++ codes " .\n"

-- The text of a clause reads as the term with its variables numbered by first occurrence, up to the end token.
abbrev pub ReadsBack : Ops → Tree → Type 0
ReadsBack ops t = Reads ops (clause_text ops t) 0 (Clause (renamed_from 0 t) (counted (length (variables t))) (length (writeq ops t) + 2))
