-- Names whose variables are numbered in their order.
use Rattle.std.specs.Prelude.{ℕ, suc, ◌≤◌, List, [], ◌∷◌, ⊤}
use Rattle.spec_terms.specs.VariableName.{VariableName}
use Rattle.cq_read.specs.declared.reading.Read.{Read}
use Rattle.cq_read.specs.declared.reading.Read.TheVariants as read

-- the numbers ascend, from a number on and below another
abbrev pub AreNumbered : ℕ → List VariableName → ℕ → Type 0
AreNumbered low [] high = low ≤ high
AreNumbered low (v ∷ vs) high = (low ≤ v.number) × AreNumbered (suc v.number) vs high

-- those of a clause that was read, from 0 on
abbrev pub IsNumbered : ℕ → Read → Type 0
IsNumbered count (read.Clause term names next) = AreNumbered 0 names.items count
IsNumbered count read.End = ⊤
IsNumbered count (read.Syntax error resume) = ⊤
