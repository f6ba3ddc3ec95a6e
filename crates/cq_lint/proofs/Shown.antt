-- The shown bytes of a line, one behind another.
use Rattle.std.proofs.Common.{◌≡◌, ℕ, suc, ◌+◌, ◌<◌, ◌≤◌, List, [], ◌∷◌, ◌++◌, true, false, length, get_or, take, drop, sym, ap, ◌∙◌, arith, append_assoc, append-nil}
use Rattle.std.specs.Prelude.{if◌then◌else◌}
use Rattle.std.proofs.lemmas.List.{at_drop_more, at_drop_all, take_more}
use Rattle.cq_lint.specs.Lines.{ends_shown, shown_from}

-- the byte at the place is shown, or not
at_place : (line : List ℕ) (i : ℕ) → i < length line
    → shown_from i (drop i line) ≡ (if ends_shown i (get_or line i 0) then [] else get_or line i 0 ∷ shown_from (suc i) (drop (i + 1) line))
at_place line i h = at_drop_more (λ bs. shown_from i bs) line i 0 h

-- a byte that is shown joins those before it
pub shown_goes : (line whole : List ℕ) (i : ℕ) → i < length line → ends_shown i (get_or line i 0) ≡ false → take i line ++ shown_from i (drop i line) ≡ whole
    → take (i + 1) line ++ shown_from (i + 1) (drop (i + 1) line) ≡ whole
shown_goes line whole i h e w =
    let b = get_or line i 0 in
    let rest = drop (i + 1) line in
    let on : i + 1 ≡ suc i = omega arith in
    (λ j. take_more line i 0 h j ++ shown_from (on j) rest)
    ∙ append_assoc (take i line) (b ∷ []) (shown_from (suc i) rest)
    ∙ sym (ap (λ bs. take i line ++ bs) (at_place line i h ∙ ap (λ c. if c then [] else b ∷ shown_from (suc i) rest) e))
    ∙ w

-- at a byte that is not shown, those before it are all
pub shown_stops : (line whole : List ℕ) (i : ℕ) → i < length line → ends_shown i (get_or line i 0) ≡ true → take i line ++ shown_from i (drop i line) ≡ whole → take i line ≡ whole
shown_stops line whole i h e w =
    let b = get_or line i 0 in
    sym (append-nil (take i line))
    ∙ sym (ap (λ bs. take i line ++ bs) (at_place line i h ∙ ap (λ c. if c then [] else b ∷ shown_from (suc i) (drop (i + 1) line)) e))
    ∙ w

-- at the line's end, the bytes before it are all
pub shown_ends : (line whole : List ℕ) (i : ℕ) → length line ≤ i → take i line ++ shown_from i (drop i line) ≡ whole → take i line ≡ whole
shown_ends line whole i h w = sym (append-nil (take i line)) ∙ sym (ap (λ bs. take i line ++ bs) (at_drop_all (λ bs. shown_from i bs) line i h)) ∙ w
