-- Answers to try the texts on.
use Rattle.std.specs.Prelude.{ℕ, List, [], ◌∷◌, codes, pos, negsuc, ℤ, false}
use Rattle.spec_numbers.specs.Rational.{int_ℚ, 0ℚ}
use Rattle.spec_numbers.specs.Sums.{Monomial}
use Rattle.spec_linear.specs.declared.Relation.TheVariants.{Gt}
use Rattle.spec_linear.specs.Form.{variable_form, constant_form, difference_form}
use Rattle.spec_syntax.specs.Standard.{standard}
use Rattle.spec_terms.specs.Term.{identity, Name, Var}
use Rattle.spec_syntax.specs.TextTokens.{VariableName}
use Rattle.spec_syntax.specs.Trees.{binary}
use Rattle.spec_projection.specs.Printed.{AtLeast, Above}
use Rattle.spec_branch.specs.Branch.{State, Frozen}
use Rattle.spec_numbers.specs.Texts.{Text}
use Rattle.spec_answers.specs.Lines.{or_true, lines_text}
use Rattle.spec_answers.specs.Rows.{Rows, no_rows}
use Rattle.spec_answers.specs.Answer.{answer_lines}

-- a whole number times a variable
abbrev pub times : ℤ → ℕ → Monomial
times z v = record { variable = v; factor = int_ℚ z }

-- a variable with a name
abbrev pub named : Text → ℕ → VariableName
named f v = record { name = f; number = v }

-- nothing is bound, told, delayed or asleep
abbrev pub untouched : State
untouched = record { bindings = identity; linear = []; delayed = []; numeric = λ v. false; sleepers = []; next_sleeper = 0; fresh = 9 }

-- the text of rows, where nothing is bound
abbrev pub text_of : List VariableName → List ℕ → Rows → Text
text_of names order r = lines_text (or_true (answer_lines standard names untouched order r))

-- a variable that is kept for a disequation
abbrev pub kept : Text
kept = text_of (named (codes "U") 0 ∷ named (codes "_V") 7 ∷ named (codes "V") 1 ∷ []) (0 ∷ 1 ∷ 5 ∷ [])
    (record {
      equations = [];
      inequalities =
          record { products = times (pos 1) 0 ∷ times (negsuc 0) 5 ∷ []; comparison = AtLeast; bound = 0ℚ }
          ∷ record { products = times (pos 1) 5 ∷ []; comparison = Above; bound = int_ℚ (negsuc 2) } ∷ [];
      disequations = record { products = times (pos 1) 1 ∷ times (negsuc 0) 5 ∷ []; bound = 0ℚ } ∷ [];
    })

-- X*Y = a waits, and freeze(Z,f(Y)) sleeps, where Y is no query variable
abbrev pub residues : Text
residues =
    let st = record untouched {
      delayed = binary (codes "=") (binary (codes "*") (Var 0) (Var 1)) (Name (codes "a")) ∷ [];
      sleepers = record { number = 0; asleep = Frozen (Var 2) (Var 1) } ∷ [];
    } in
    let names = named (codes "X") 0 ∷ named (codes "_Y") 1 ∷ named (codes "Z") 2 ∷ [] in
    lines_text (or_true (answer_lines standard names st (0 ∷ 2 ∷ 1 ∷ []) no_rows))

-- X>0 was told
abbrev pub above_zero : State
above_zero = record untouched { linear = record { relation = Gt; form = difference_form (variable_form 0) (constant_form 0ℚ) } ∷ [] }
