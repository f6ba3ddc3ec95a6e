-- A text is cut at the first byte that is the one looked for.
use Rattle.std.proofs.Common.{◌≡◌, ℕ, zero, suc, ◌+◌, ◌<◌, ◌≤◌, false, [], ◌∷◌, ◌++◌, ◌-◌, length, length-drop, get_or, take, drop, All, take-append-drop, arith, refl, sym, ap, subst, ◌∙◌}
use Rattle.std.specs.Prelude.{◌==◌}
use Rattle.std.specs.List.{slice_split}
use Rattle.std.proofs.lemmas.Bool.{eq-eqb, ne_eqb}
use Rattle.std.proofs.lemmas.List.{drop_more, take_more}
use Rattle.std.proofs.lemmas.List.Elements.{All-push}
use Rattle.std.proofs.lemmas.List.Splits.{slice_split_at, slice_split_none}
use Rattle.spec_numbers.specs.Texts.{Text}

-- no byte before the place is the one looked for
abbrev pub NoneBefore : ℕ → Text → ℕ → Type 0
NoneBefore at text i = All (λ b. (b == at) ≡ false) (take i text)

take_all : (text : Text) (i : ℕ) → length text ≤ i → take i text ≡ text
take_all [] zero h = refl
take_all [] (suc i) h = refl
take_all (b ∷ text) zero h = absurd (omega (arith, h))
take_all (b ∷ text) (suc i) h = ap (λ s. b ∷ s) (take_all text i (omega (arith, h)))

-- the byte there is it
pub cut_found : (at : ℕ) (text : Text) (i : ℕ) → i < length text → get_or text i 0 ≡ at → NoneBefore at text i
    → slice_split (λ b. b == at) text ≡ take i text ∷ slice_split (λ b. b == at) (take (length text - (i + 1)) (drop (i + 1) text))
cut_found at text i inside is before =
    let y = get_or text i 0 in
    let parts : text ≡ take i text ++ y ∷ drop (i + 1) text =
    sym (take-append-drop i text) ∙ ap (λ s. take i text ++ s) (drop_more text i 0 inside) in
    ap (slice_split (λ b. b == at)) parts ∙ slice_split_at (λ b. b == at) (take i text) y (drop (i + 1) text) before (eq-eqb y at is)
    ∙ ap (λ s. take i text ∷ slice_split (λ b. b == at) s) (sym (take_all (drop (i + 1) text) (length text - (i + 1)) (omega (arith, length-drop (i + 1) text))))

-- it is not
pub none_more : (at : ℕ) (text : Text) (i : ℕ) → i < length text → (get_or text i 0 ≡ at → ⊥) → NoneBefore at text i → NoneBefore at text (i + 1)
none_more at text i inside other before =
    subst (All (λ b. (b == at) ≡ false)) (sym (take_more text i 0 inside))
    (All-push (λ b. (b == at) ≡ false) (take i text) (get_or text i 0) before (ne_eqb (get_or text i 0) at other))

-- no byte is
pub cut_nowhere : (at : ℕ) (text : Text) (i : ℕ) → length text ≤ i → NoneBefore at text i → slice_split (λ b. b == at) text ≡ text ∷ []
cut_nowhere at text i end before = slice_split_none (λ b. b == at) text (subst (All (λ b. (b == at) ≡ false)) (take_all text i end) before)
