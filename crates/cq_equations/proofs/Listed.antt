-- Rows that are listed one by one.
use Rattle.std.proofs.Common.{◌≡◌, ℕ, zero, suc, ◌+◌, ◌<◌, List, [], ◌∷◌, ◌++◌, length, map, take, get_or, Option, Some, None, refl, ap, ap₂, sym, ◌∙◌, append-nil}
use Rattle.std.specs.Prelude.{slice_get}
use Rattle.std.specs.List.{cons_option}
use Rattle.std.proofs.lemmas.List.{take_more, map-append}
use Rattle.std.proofs.lemmas.List.Elements.{filter_map-append}
use Rattle.spec_numbers.specs.Rational.{ℚ}
use Rattle.spec_numbers.specs.Sums.{Monomial}
use Rattle.spec_linear.specs.Form.{Linear}
use Rattle.spec_linear.specs.SolvedForm.{row_at, rows_of}
use Rattle.cq_frac.specs.declared.VarId.{VarId}
use Rattle.cq_equations.specs.declared.project.Equation.{Equation}
use Rattle.cq_equations.specs.Told.{numbers_of}
use Rattle.cq_equations.specs.Rows.{monomial_of, solved_of, equations_of}

-- one more product
pub places_more : (s : List Monomial) (items new : List (VarId × ℚ)) (i : ℕ) (p : VarId × ℚ) → map monomial_of items ≡ take i s → i < length s → slice_get s i ≡ Some (monomial_of p) → new ≡ items ++ p ∷ [] → map monomial_of new ≡ take (i + 1) s
places_more s items new i p h l g n =
    ap (map monomial_of) n ∙ map-append monomial_of items (p ∷ []) ∙ ap (λ t. t ++ monomial_of p ∷ []) h
    ∙ ap (λ m. take i s ++ m ∷ []) (sym (got s i (monomial_of p) g)) ∙ sym (take_more s i (monomial_of p) l)
  where
    got : (s : List Monomial) (i : ℕ) (m : Monomial) → slice_get s i ≡ Some m → get_or s i m ≡ m
    got [] i m e = refl
    got (n ∷ s) zero m e = cc
    got (n ∷ s) (suc i) m e = got s i m e

module _ (solved : ℕ → Option Linear) (keep : List VarId) (i : ℕ) (x : VarId) (l : i < length keep) (e : x ≡ get_or keep i x) where
  more : rows_of solved (numbers_of (take (i + 1) keep)) ≡ rows_of solved (numbers_of (take i keep)) ++ rows_of solved (x.0 ∷ [])
  more =
      ap (λ t. rows_of solved (numbers_of t)) (take_more keep i x l ∙ ap (λ y. take i keep ++ y ∷ []) (sym e))
      ∙ ap (rows_of solved) (map-append (λ (y : VarId). y.0) (take i keep) (x ∷ []))
      ∙ filter_map-append (λ y. row_at y (solved y)) (numbers_of (take i keep)) (x.0 ∷ [])

  one : (o : Option Linear) → solved x.0 ≡ o → rows_of solved (x.0 ∷ []) ≡ cons_option (row_at x.0 o) []
  one o n = ap (λ p. cons_option (row_at x.0 p) []) n

  -- the next variable is free
  pub no_row_more : (es : List Equation) → equations_of es ≡ rows_of solved (numbers_of (take i keep)) → solved x.0 ≡ None → equations_of es ≡ rows_of solved (numbers_of (take (i + 1) keep))
  no_row_more es h n =
      h ∙ sym (append-nil (rows_of solved (numbers_of (take i keep)))) ∙ ap (λ t. rows_of solved (numbers_of (take i keep)) ++ t) (sym (one None n)) ∙ sym more

  -- the next variable is solved for
  pub row_more : (es new : List Equation) (r : Equation) (f : Linear) → equations_of es ≡ rows_of solved (numbers_of (take i keep)) → solved x.0 ≡ Some f → new ≡ es ++ r ∷ [] → solved_of r ≡ record { variable = x.0; form = f } → equations_of new ≡ rows_of solved (numbers_of (take (i + 1) keep))
  row_more es new r f h s n q =
      ap equations_of n ∙ map-append solved_of es (r ∷ []) ∙ ap₂ (λ a b. a ++ b ∷ []) h q
      ∙ ap (λ t. rows_of solved (numbers_of (take i keep)) ++ t) (sym (one (Some f) s)) ∙ sym more
