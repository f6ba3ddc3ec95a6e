-- Whether a run refutes.
use Rattle.std.proofs.Common.{◌≡◌, suc, arith, List, [], ◌∷◌, length, Bool, true, false, ◌&&◌, ◌||◌, refl, sym, ap, ◌∙◌}
use Rattle.std.specs.Prelude.{◌==◌}
use Rattle.std.proofs.lemmas.Bool.{eqb-true}
use Rattle.spec_numbers.specs.Rational.{ℚ, 0ℚ}
use Rattle.spec_numbers.specs.Sums.{Monomial}
use Rattle.spec_linear.specs.Form.{is_empty, is_zero}
use Rattle.spec_linear.proofs.Values.{is_zero-of, is_zero-true}
use Rattle.cq_frac.specs.declared.row.Entry.{Entry}
use Rattle.cq_form.specs.Entries.{products_of}

pub no_products : (s : List Entry) (t : List Monomial) → (length s == 0) ≡ true → products_of s ≡ t → is_empty t ≡ true
no_products [] t e same = ap is_empty (sym same)
no_products (m ∷ s) t e same = let none : suc (length s) ≡ 0 = eqb-true (suc (length s)) 0 e in absurd (omega (arith, none))

pub zero_test : (q : ℚ) (b : Bool) → (b ≡ true → q ≡ 0ℚ) → (q ≡ 0ℚ → b ≡ true) → is_zero q ≡ b
zero_test q true h k = is_zero-of q (h refl)
zero_test q false h k = go (is_zero q) refl
  where
    go : (x : Bool) → is_zero q ≡ x → x ≡ false
    go true e = let n : false ≡ true = k (is_zero-true q e) in cc
    go false e = refl

pub strict_decides : (allowed empty below none strict found : Bool) → allowed ≡ true → empty ≡ true → below ≡ false → none ≡ true → found ≡ strict
    → found ≡ (allowed && empty && (below || (none && strict)))
strict_decides allowed empty below none strict found a e b n s =
    s
    ∙ sym (ap (λ x. x && empty && (below || (none && strict))) a ∙ ap (λ x. x && (below || (none && strict))) e ∙ ap (λ x. x || (none && strict)) b ∙ ap (λ x. x && strict) n)

pub not_zero_decides : (allowed empty below none strict : Bool) → allowed ≡ true → empty ≡ true → below ≡ false → none ≡ false
    → false ≡ (allowed && empty && (below || (none && strict)))
not_zero_decides allowed empty below none strict a e b n =
    sym (ap (λ x. x && empty && (below || (none && strict))) a ∙ ap (λ x. x && (below || (none && strict))) e ∙ ap (λ x. x || (none && strict)) b ∙ ap (λ x. x && strict) n)
