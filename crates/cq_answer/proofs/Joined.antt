-- The lines of rows, and how they are an answer's.
use Rattle.std.proofs.Common.{◌≡◌, ℕ, List, [], ◌∷◌, ◌++◌, map, refl, sym, ap, ap₂, ◌∙◌, append_assoc}
use Rattle.std.proofs.lemmas.List.{map-append}
use Rattle.spec_numbers.specs.Texts.{Text}
use Rattle.spec_answers.specs.Answer.{braced}
use Rattle.spec_answers.specs.Lines.{lines_text}
use Rattle.spec_answers.specs.RowText.{equation_text}
use Rattle.spec_answers.specs.Rows.{inequality_text, disequation_text, row_texts}
use Rattle.cq_elimination.specs.Lines.{line_of, lines_of, inequality_of, disequation_of}
use Rattle.cq_elimination.specs.declared.arrange.PrintedRow.{PrintedRow}
use Rattle.cq_equations.specs.declared.project.Equation.{Equation}
use Rattle.cq_equations.specs.Rows.{solved_of, equations_of}
use Rattle.cq_answer.specs.Texts.{printed_rows}
use Rattle.cq_answer.proofs.PrintingLines.{lines_append}

abbrev pub equation_line : (ℕ → Text) → Equation → Text
equation_line name e = braced (equation_text name (solved_of e))

abbrev pub inequality_line : (ℕ → Text) → PrintedRow → Text
inequality_line name r = braced (inequality_text name (inequality_of (line_of r)))

abbrev pub disequation_line : (ℕ → Text) → PrintedRow → Text
disequation_line name r = braced (disequation_text name (disequation_of (line_of r)))

module _ (name : ℕ → Text) where
  equations_braced : (es : List Equation) → map braced (map (equation_text name) (equations_of es)) ≡ map (equation_line name) es
  equations_braced [] = refl
  equations_braced (e ∷ es) = ap (λ ls. equation_line name e ∷ ls) (equations_braced es)

  inequalities_braced : (rs : List PrintedRow) → map braced (map (inequality_text name) (map inequality_of (lines_of rs))) ≡ map (inequality_line name) rs
  inequalities_braced [] = refl
  inequalities_braced (r ∷ rs) = ap (λ ls. inequality_line name r ∷ ls) (inequalities_braced rs)

  disequations_braced : (rs : List PrintedRow) → map braced (map (disequation_text name) (map disequation_of (lines_of rs))) ≡ map (disequation_line name) rs
  disequations_braced [] = refl
  disequations_braced (r ∷ rs) = ap (λ ls. disequation_line name r ∷ ls) (disequations_braced rs)

  braced_rows : (es : List Equation) (is ds : List PrintedRow) →
      map braced (row_texts name (printed_rows es is ds)) ≡ (map (equation_line name) es ++ map (inequality_line name) is) ++ map (disequation_line name) ds
  braced_rows es is ds =
      let e = map (equation_text name) (equations_of es) in
      let i = map (inequality_text name) (map inequality_of (lines_of is)) in
      let d = map (disequation_text name) (map disequation_of (lines_of ds)) in
      map-append braced (e ++ i) d
      ∙ ap₂ (λ a b. a ++ b) (map-append braced e i ∙ ap₂ (λ a b. a ++ b) (equations_braced es) (inequalities_braced is)) (disequations_braced ds)

  pub rows_joined : (old new : Text) (es : List Equation) (is ds : List PrintedRow) →
      new ≡ ((old ++ lines_text (map (equation_line name) es)) ++ lines_text (map (inequality_line name) is)) ++ lines_text (map (disequation_line name) ds) →
      new ≡ old ++ lines_text (map braced (row_texts name (printed_rows es is ds)))
  rows_joined old new es is ds h =
      let e = map (equation_line name) es in
      let i = map (inequality_line name) is in
      let d = map (disequation_line name) ds in
      h
      ∙ ap (λ s. s ++ lines_text d) (append_assoc old (lines_text e) (lines_text i) ∙ ap (λ s. old ++ s) (sym (lines_append e i)))
      ∙ append_assoc old (lines_text (e ++ i)) (lines_text d)
      ∙ ap (λ s. old ++ s) (sym (lines_append (e ++ i) d) ∙ ap lines_text (sym (braced_rows es is ds)))
