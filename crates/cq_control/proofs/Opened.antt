-- How the open choices change with their contents, which a vector has with the oldest first, and with the marks.
use Rattle.std.proofs.Common.{◌≡◌, ℕ, zero, suc, ◌+◌, ◌-◌, ◌≤◌, List, [], ◌∷◌, ◌++◌, length, take, drop, reverse, Some, arith, refl, ap, sym, ◌∙◌, length-drop, append_assoc}
use Rattle.std.specs.Prelude.{slice_get, slice_set}
use Rattle.std.specs.List.{zip}
use Rattle.std.proofs.lemmas.List.{reverse-append, length-reverse, drop_at, take-append-drop}
use Rattle.std.proofs.lemmas.Option.{same_Some, none-some}
use Rattle.cq_control.specs.Open.{last, open_choices}

-- ---- lists

pub reverse-push : {X : Type 0} (xs : List X) (y : X) → reverse (xs ++ y ∷ []) ≡ y ∷ reverse xs
reverse-push xs y = reverse-append xs (y ∷ [])

-- the oldest ones, so many of them
pub last-reverse : {X : Type 0} (n : ℕ) (xs : List X) → last n (reverse xs) ≡ reverse (take n xs)
last-reverse n xs =
    ap (λ m. drop (m - n) (reverse xs)) (length-reverse xs)
    ∙ ap (drop (length xs - n)) (ap reverse (sym (take-append-drop n xs)) ∙ reverse-append (take n xs) (drop n xs))
    ∙ drop_at (reverse (drop n xs)) (reverse (take n xs)) (length xs - n) (length-reverse (drop n xs) ∙ length-drop n xs)

pub last-all : {X : Type 0} (n : ℕ) (xs : List X) → length xs ≤ n → last n xs ≡ xs
last-all n xs le = let e : length xs - n ≡ 0 = omega arith in ap (λ m. drop m xs) e

pub take-one-more : {X : Type 0} (xs : List X) (n : ℕ) (x : X) → slice_get xs n ≡ Some x → take (suc n) xs ≡ take n xs ++ x ∷ []
take-one-more [] n x e = absurd (none-some x e)
take-one-more (y ∷ ys) zero x e = ap (λ z. z ∷ []) (same_Some y x e)
take-one-more (y ∷ ys) (suc n) x e = ap (λ zs. y ∷ zs) (take-one-more ys n x e)

pub take-length : {X : Type 0} (xs : List X) (n : ℕ) → length xs ≤ n → take n xs ≡ xs
take-length [] zero le = refl
take-length [] (suc n) le = refl
take-length (x ∷ xs) zero le = absurd (omega arith)
take-length (x ∷ xs) (suc n) le = ap (λ ys. x ∷ ys) (take-length xs n (omega arith))

pub take-last : {X : Type 0} (xs : List X) (n : ℕ) (x : X) → length xs ≡ suc n → slice_get xs n ≡ Some x → xs ≡ take n xs ++ x ∷ []
take-last xs n x l e = sym (take-length xs (suc n) (omega (arith, l))) ∙ take-one-more xs n x e

split_at : {X : Type 0} (xs : List X) (i : ℕ) (x y : X) → slice_get xs i ≡ Some x → (xs ≡ take i xs ++ x ∷ drop (suc i) xs) × (slice_set xs i y ≡ take i xs ++ y ∷ drop (suc i) xs)
split_at [] i x y e = absurd (none-some x e)
split_at (z ∷ zs) zero x y e = (ap (λ w. w ∷ zs) (same_Some z x e), refl)
split_at (z ∷ zs) (suc i) x y e = let s = split_at zs i x y e in (ap (λ l. z ∷ l) s.0, ap (λ l. z ∷ l) s.1)

reverse-round : {X : Type 0} (us bs : List X) (x : X) → reverse (us ++ x ∷ bs) ≡ reverse bs ++ x ∷ reverse us
reverse-round us bs x = reverse-append us (x ∷ bs) ∙ ap (λ l. l ++ reverse us) (reverse-append (x ∷ []) bs) ∙ append_assoc (reverse bs) (x ∷ []) (reverse us)

-- another one in its place
pub replaced-at : {X : Type 0} (xs : List X) (n : ℕ) (x y : X) → slice_get xs n ≡ Some x
    → (newer : List X) × (reverse xs ≡ newer ++ x ∷ last n (reverse xs)) × (reverse (slice_set xs n y) ≡ newer ++ y ∷ last n (reverse xs))
replaced-at xs n x y e =
    let s = split_at xs n x y e in
    let older = sym (last-reverse n xs) in
    let behind = reverse (drop (suc n) xs) in (
      behind,
      ap reverse s.0 ∙ reverse-round (take n xs) (drop (suc n) xs) x ∙ ap (λ l. behind ++ x ∷ l) older,
      ap reverse s.1 ∙ reverse-round (take n xs) (drop (suc n) xs) y ∙ ap (λ l. behind ++ y ∷ l) older,
    )

set-last : {X : Type 0} (xs : List X) (n : ℕ) (y : X) → length xs ≡ suc n → slice_set xs n y ≡ take n xs ++ y ∷ []
set-last [] n y l = absurd (omega arith)
set-last (x ∷ []) zero y l = refl
set-last (x ∷ z ∷ xs) zero y l = absurd (omega arith)
set-last (x ∷ xs) (suc n) y l = ap (λ ys. x ∷ ys) (set-last xs n y (omega (arith, l)))

-- another newest one
pub replaced-top : {X : Type 0} (xs : List X) (n : ℕ) (x y : X) → length xs ≡ suc n → slice_get xs n ≡ Some x
    → (reverse xs ≡ x ∷ reverse (take n xs)) × (reverse (slice_set xs n y) ≡ y ∷ reverse (take n xs))
replaced-top xs n x y l e =
    (ap reverse (take-last xs n x l e) ∙ reverse-push (take n xs) x, ap reverse (set-last xs n y l) ∙ reverse-push (take n xs) y)

-- ---- pairs

zip-none : {X Y : Type 0} (xs : List X) → zip xs (let none : List Y = [] in none) ≡ []
zip-none [] = refl
zip-none (x ∷ xs) = refl

drop-zip : {X Y : Type 0} (n : ℕ) (xs : List X) (ys : List Y) → drop n (zip xs ys) ≡ zip (drop n xs) (drop n ys)
drop-zip zero xs ys = refl
drop-zip (suc n) [] ys = refl
drop-zip (suc n) (x ∷ xs) [] = sym (zip-none (drop n xs))
drop-zip (suc n) (x ∷ xs) (y ∷ ys) = drop-zip n xs ys

length-zip : {X Y : Type 0} (xs : List X) (ys : List Y) → length xs ≡ length ys → length (zip xs ys) ≡ length ys
length-zip [] [] e = refl
length-zip [] (y ∷ ys) e = absurd (omega arith)
length-zip (x ∷ xs) [] e = absurd (omega arith)
length-zip (x ∷ xs) (y ∷ ys) e = ap suc (length-zip xs ys (omega arith))

-- ---- choices, whose contents come with the newest first

-- there are as many of them
pub length-open : {V C : Type 0} (saved : List V) (cs : List C) → length saved ≡ length cs → length (open_choices saved cs) ≡ length cs
length-open saved cs e = length-zip (reverse saved) cs (length-reverse saved ∙ e)

-- one more at a new mark
pub open-push : {V C : Type 0} (saved : List V) (cs : List C) (v : V) (c : C) → open_choices (saved ++ v ∷ []) (c ∷ cs) ≡ (v, c) ∷ open_choices saved cs
open-push saved cs v c = ap (λ xs. zip xs (c ∷ cs)) (reverse-push saved v)

-- those below a height, at the oldest marks
pub open-last : {V C : Type 0} (saved : List V) (cs : List C) (h : ℕ) → length saved ≡ length cs → open_choices (take h saved) (last h cs) ≡ last h (open_choices saved cs)
open-last saved cs h e =
    ap (λ xs. zip xs (last h cs)) (sym (last-reverse h saved) ∙ ap (λ n. drop (n - h) (reverse saved)) (length-reverse saved ∙ e))
    ∙ sym (drop-zip (length cs - h) (reverse saved) cs)
    ∙ ap (λ n. drop (n - h) (open_choices saved cs)) (sym (length-open saved cs e))

-- the newest one, whose mark is the newest
pub open-top : {V C : Type 0} (saved : List V) (older : List C) (n : ℕ) (v : V) (c : C) → length saved ≡ suc n → slice_get saved n ≡ Some v
    → open_choices saved (c ∷ older) ≡ (v, c) ∷ open_choices (take n saved) older
open-top saved older n v c l at = ap (λ s. open_choices s (c ∷ older)) (take-last saved n v l at) ∙ open-push (take n saved) older v c

-- other contents of one that has others on both sides
pub open-around : {V C : Type 0} (saved : List V) (newer older : List C) (c : C) → length saved ≡ length (newer ++ c ∷ older)
    → (front below : List (V × C)) × (v : V) × (length below ≡ length older) × ((d : C) → open_choices saved (newer ++ d ∷ older) ≡ front ++ (v, d) ∷ below)
open-around {V} {C} saved newer older c e =
    go (reverse saved) newer (length-reverse saved ∙ e)
  where
    go : (xs : List V) (ns : List C) → length xs ≡ length (ns ++ c ∷ older)
        → (front below : List (V × C)) × (v : V) × (length below ≡ length older) × ((d : C) → zip xs (ns ++ d ∷ older) ≡ front ++ (v, d) ∷ below)
    go [] [] l = absurd (omega arith)
    go [] (n ∷ ns) l = absurd (omega arith)
    go (x ∷ xs) [] l = ([], zip xs older, x, length-zip xs older (omega arith), λ d. refl)
    go (x ∷ xs) (n ∷ ns) l = let r = go xs ns (omega arith) in ((x, n) ∷ r.0, r.1, r.2, r.3, λ d. ap (λ ys. (x, n) ∷ ys) (r.4 d))
