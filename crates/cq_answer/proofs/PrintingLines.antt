-- Lines, one after another.
use Rattle.std.proofs.Common.{◌≡◌, ℕ, ◌+◌, ◌<◌, List, [], ◌∷◌, ◌++◌, codes, length, take, get_or, map, refl, sym, ap, ◌∙◌, append_assoc, append-nil}
use Rattle.std.proofs.lemmas.List.{take_more, map-append}
use Rattle.spec_numbers.specs.Texts.{Text}
use Rattle.spec_answers.specs.Lines.{lines_text}

pub lines_append : (ks ls : List Text) → lines_text (ks ++ ls) ≡ lines_text ks ++ lines_text ls
lines_append [] ls = refl
lines_append (k ∷ ks) ls = ap (λ t. k ++ codes "\n" ++ t) (lines_append ks ls) ∙ sym (append_assoc (k ++ codes "\n") (lines_text ks) (lines_text ls))

-- the next line
pub line_more : {A : Type 0} (f : A → Text) (old : Text) (xs : List A) (i : ℕ) (x : A) (text new : Text) → i < length xs → x ≡ get_or xs i x →
    text ≡ old ++ lines_text (map f (take i xs)) → new ≡ text ++ (f x ++ codes "\n") → new ≡ old ++ lines_text (map f (take (i + 1) xs))
line_more f old xs i x text new l at t e =
    e ∙ ap (λ s. s ++ (f x ++ codes "\n")) t ∙ append_assoc old (lines_text (map f (take i xs))) (f x ++ codes "\n")
    ∙ ap (λ s. old ++ (lines_text (map f (take i xs)) ++ s)) (sym (append-nil (f x ++ codes "\n")))
    ∙ ap (λ s. old ++ s) (
    sym (lines_append (map f (take i xs)) (f x ∷ []))
    ∙ ap lines_text (sym (map-append f (take i xs) (x ∷ [])))
    ∙ ap (λ ys. lines_text (map f ys)) (sym (take_more xs i x l ∙ ap (λ y. take i xs ++ y ∷ []) (sym at))))
