-- Lines and columns, one byte behind another.
use Rattle.std.proofs.Common.{◌≡◌, ℕ, zero, suc, ◌+◌, ◌<◌, ◌≤◌, List, [], ◌∷◌, Bool, true, false, length, get_or, take, refl, sym, ap, ◌∙◌, arith}
use Rattle.std.specs.Prelude.{fold, if◌then◌else◌, ◌==◌}
use Rattle.std.proofs.lemmas.List.{length-take-le}
use Rattle.std.proofs.lemmas.List.Sums.{fold_more}
use Rattle.cq_lint.specs.Lines.{first_place, goes_on, place_behind, place_of}
use Rattle.cq_lint.specs.declared.places.Place.{Place}

-- the place is behind so many bytes, of which each makes a line or a column at most
pub record IsBehind (p : Place) (n : ℕ) : Type 0 where
  pub at : p.at ≡ n
  pub line : p.line ≤ n + 1
  pub column : p.column ≤ n + 1

-- a byte more makes a line or a column more at most
one_more : (p : Place) (n : ℕ) (feed more : Bool) → IsBehind p n
    → IsBehind (if feed then record { at = suc p.at; line = suc p.line; column = 1; start = suc p.at } else if more then record p { at = suc p.at } else record p { at = suc p.at; column = suc p.column }) (suc n)
one_more p n true more h = record { at = ap suc h.at; line = (let l = h.line in omega (arith, l)); column = omega arith }
one_more p n false true h = record { at = ap suc h.at; line = (let l = h.line in omega (arith, l)); column = (let l = h.column in omega (arith, l)) }
one_more p n false false h = record { at = ap suc h.at; line = (let l = h.line in omega (arith, l)); column = (let l = h.column in omega (arith, l)) }

-- so many bytes more make so many lines or columns more at most
all_behind : (bs : List ℕ) (p : Place) (n m : ℕ) → m ≡ n + length bs → IsBehind p n → IsBehind (fold place_behind p bs) m
all_behind [] p n m e h = record { at = (let a = h.at in omega (arith, a, e)); line = (let l = h.line in omega (arith, l, e)); column = (let l = h.column in omega (arith, l, e)) }
all_behind (b ∷ bs) p n m e h = all_behind bs (place_behind p b) (suc n) m (omega (arith, e)) (one_more p n (b == 10) (goes_on b) h)

-- the place of a byte within the text is behind as many bytes
pub place_there : (text : List ℕ) (n : ℕ) → n ≤ length text → IsBehind (place_of text n) n
place_there text n h = all_behind (take n text) first_place 0 n (let l = length-take-le n text h in omega (arith, l)) (record { at = refl; line = omega arith; column = omega arith })

-- the place of the next byte is one byte behind
pub place_step : (text : List ℕ) (n d : ℕ) → n < length text → place_of text (n + 1) ≡ place_behind (place_of text n) (get_or text n d)
place_step text n d h = fold_more place_behind first_place text n d h

-- the bytes before a place that may be behind the end
take_again : (n : ℕ) (bs : List ℕ) → take (length (take n bs)) bs ≡ take n bs
take_again zero bs = refl
take_again (suc n) [] = refl
take_again (suc n) (b ∷ bs) = ap (λ cs. b ∷ cs) (take_again n bs)

-- the place behind so many bytes counts them
at_behind : (bs : List ℕ) (p : Place) (n m : ℕ) → m ≡ n + length bs → IsBehind p n → (fold place_behind p bs).at ≡ m
at_behind bs p n m e h = (all_behind bs p n m e h).at

-- the byte of a place has the same place, also where the text's end was nearer
pub place_again : (text : List ℕ) (n : ℕ) → place_of text n ≡ place_of text (place_of text n).at
place_again text n =
    let bs = take n text in
    let there : (place_of text n).at ≡ length bs = at_behind bs first_place 0 (length bs) (omega arith) (record { at = refl; line = omega arith; column = omega arith }) in
    sym (ap (λ cs. fold place_behind first_place cs) (ap (λ m. take m text) there ∙ take_again n text))
