-- What a log of older values gives back, after each change.
use Rattle.std.proofs.Common.{◌≡◌, ℕ, zero, suc, ◌+◌, ◌<◌, ◌≤◌, List, [], ◌∷◌, ◌++◌, length, Some, refl, sym, ap, ◌∙◌, inl, inr, ◌⊎◌, get_or, set, take, drop, arith, map, length-set}
use Rattle.std.specs.Prelude.{slice_get}
use Rattle.std.proofs.lemmas.List.{set-append_left, set-set, set_comm, set-get_or, drop-append-le, take-append-drop, take-set-le, get_or-set_other}
use Rattle.std.proofs.lemmas.Option.{none-some, same_Some}
use Rattle.std.proofs.lemmas.Bool.{cases_eq}
use Rattle.cq_trail.specs.Log.{restore}
use Rattle.spec_numbers.proofs.Places.{get-drop, get_push, get_kept, get_take, map_same}

-- what lies from p on, before q and from q on
pub drop-take-drop : {X : Type 0} (p q : ℕ) (xs : List X) → p ≤ q → drop p (take q xs) ++ drop q xs ≡ drop p xs
drop-take-drop zero q xs h = take-append-drop q xs
drop-take-drop (suc p) zero xs h = absurd (omega arith)
drop-take-drop (suc p) (suc q) [] h = refl
drop-take-drop (suc p) (suc q) (x ∷ xs) h = drop-take-drop p q xs (omega arith)

module _ {A : Type 0} where
  -- each change is of a place below n
  abbrev pub Within : ℕ → List (ℕ × A) → Type 0
  Within n cs = (j : ℕ) (c : ℕ × A) → slice_get cs j ≡ Some c → c.0 < n

  -- some change is of this place
  abbrev pub Has : ℕ → List (ℕ × A) → Type 0
  Has i [] = ⊥
  Has i (c ∷ cs) = (c.0 ≡ i) ⊎ Has i cs

  pub has_or_not : (i : ℕ) (cs : List (ℕ × A)) → Has i cs ⊎ (Has i cs → ⊥)
  has_or_not i [] = inr (λ h. h)
  has_or_not i (c ∷ cs) = elim (cases_eq c.0 i) [
    | inl e ↦ inl (inl e)
    | inr n ↦ elim (has_or_not i cs) [ inl h ↦ inl (inr h) | inr h ↦ inr (λ b. elim b [ inl e ↦ n e | inr g ↦ h g ]) ]
  ]

  pub restore-append : (cs ds : List (ℕ × A)) (xs : List A) → restore (cs ++ ds) xs ≡ restore cs (restore ds xs)
  restore-append [] ds xs = refl
  restore-append (c ∷ cs) ds xs = ap (λ (l : List A). set l c.0 c.1) (restore-append cs ds xs)

  pub length-restore : (cs : List (ℕ × A)) (xs : List A) → length (restore cs xs) ≡ length xs
  length-restore [] xs = refl
  length-restore (c ∷ cs) xs = length-set (restore cs xs) c.0 c.1 ∙ length-restore cs xs

  pub restore-append_right : (cs : List (ℕ × A)) (xs ys : List A) → Within (length xs) cs → restore cs (xs ++ ys) ≡ restore cs xs ++ ys
  restore-append_right [] xs ys w = refl
  restore-append_right (c ∷ cs) xs ys w =
      let h = restore-append_right cs xs ys (λ j x q. w (suc j) x q) in
      let l : c.0 < length (restore cs xs) = rw (length-restore cs xs) (w 0 c refl) in
      ap (λ (l : List A). set l c.0 c.1) h ∙ set-append_left (restore cs xs) ys c.0 c.1 l

  take-set-lt : (n : ℕ) (xs : List A) (i : ℕ) (a : A) → i < n → take n (set xs i a) ≡ set (take n xs) i a
  take-set-lt zero xs i a h = absurd (omega arith)
  take-set-lt (suc n) [] i a h = refl
  take-set-lt (suc n) (x ∷ xs) zero a h = refl
  take-set-lt (suc n) (x ∷ xs) (suc i) a h = ap (λ l. x ∷ l) (take-set-lt n xs i a (omega arith))

  pub restore-take : (cs : List (ℕ × A)) (xs : List A) (n : ℕ) → Within n cs → restore cs (take n xs) ≡ take n (restore cs xs)
  restore-take [] xs n w = refl
  restore-take (c ∷ cs) xs n w =
      ap (λ (l : List A). set l c.0 c.1) (restore-take cs xs n (λ j x q. w (suc j) x q)) ∙ sym (take-set-lt n (restore cs xs) c.0 c.1 (w 0 c refl))

  pub within_drop : (n m : ℕ) (cs : List (ℕ × A)) → Within n cs → Within n (drop m cs)
  within_drop n m cs w = λ j c q. w (m + j) c (sym (get-drop m cs j) ∙ q)

  -- a write to a place makes no difference once the place is overwritten
  pub set-restore-set : (cs : List (ℕ × A)) (xs : List A) (i : ℕ) (v w : A) → set (restore cs (set xs i v)) i w ≡ set (restore cs xs) i w
  set-restore-set [] xs i v w = set-set xs i v w
  set-restore-set (c ∷ cs) xs i v w = elim (cases_eq c.0 i) [
    | inl e ↦ rw e (set-set (restore cs (set xs i v)) i c.1 w ∙ set-restore-set cs xs i v w ∙ sym (set-set (restore cs xs) i c.1 w))
    | inr n ↦ set_comm (restore cs (set xs i v)) c.0 i c.1 w n ∙ ap (λ (l : List A). set l c.0 c.1) (set-restore-set cs xs i v w) ∙ sym (set_comm (restore cs xs) c.0 i c.1 w n)
  ]

  -- nor where a change of the place is taken back
  pub restore_covered : (cs : List (ℕ × A)) (xs : List A) (i : ℕ) (v : A) → Has i cs → restore cs (set xs i v) ≡ restore cs xs
  restore_covered [] xs i v h = absurd h
  restore_covered (c ∷ cs) xs i v h = elim h [
    | inl e ↦ rw e (set-restore-set cs xs i v c.1)
    | inr g ↦ ap (λ (l : List A). set l c.0 c.1) (restore_covered cs xs i v g)
  ]

  -- nor where the list is cut before it
  pub take-restore-set : (cs : List (ℕ × A)) (xs : List A) (n i : ℕ) (v : A) → n ≤ i → take n (restore cs (set xs i v)) ≡ take n (restore cs xs)
  take-restore-set cs xs n i v le =
      sym (take-set-le n (restore cs (set xs i v)) i v le) ∙ ap (take n) (set-restore-set cs xs i v v) ∙ take-set-le n (restore cs xs) i v le

  -- a place that no change is of stays
  pub get_or-restore_apart : (cs : List (ℕ × A)) (xs : List A) (i : ℕ) (d : A) → (Has i cs → ⊥) → get_or (restore cs xs) i d ≡ get_or xs i d
  get_or-restore_apart [] xs i d n = refl
  get_or-restore_apart (c ∷ cs) xs i d n =
      get_or-set_other (restore cs xs) c.0 i c.1 d (λ e. n (inl (sym e))) ∙ get_or-restore_apart cs xs i d (λ h. n (inr h))

  -- a change and its entry at the end of the log cancel
  pub restore-saved : (cs : List (ℕ × A)) (xs : List A) (i : ℕ) (v old : A) → old ≡ get_or xs i old → restore (cs ++ (i, old) ∷ []) (set xs i v) ≡ restore cs xs
  restore-saved cs xs i v old o =
      restore-append cs ((i, old) ∷ []) (set xs i v) ∙ ap (restore cs) (set-set xs i v old ∙ ap (set xs i) o ∙ set-get_or xs i old)

  -- a list given back in two steps
  pub restore-take-restore : (cs : List (ℕ × A)) (xs : List A) (n p q : ℕ) → p ≤ q → Within n (take q cs) → restore (drop p (take q cs)) (take n (restore (drop q cs) xs)) ≡ take n (restore (drop p cs) xs)
  restore-take-restore cs xs n p q le w =
      restore-take (drop p (take q cs)) (restore (drop q cs) xs) n (within_drop n p (take q cs) w)
      ∙ ap (take n) (sym (restore-append (drop p (take q cs)) (drop q cs) xs) ∙ ap (λ l. restore l xs) (drop-take-drop p q cs le))

  -- the newest change taken back
  pub restore_last : (cs : List (ℕ × A)) (c : ℕ × A) (m : ℕ) (xs : List A) → m ≤ length cs → restore (drop m (cs ++ c ∷ [])) xs ≡ restore (drop m cs) (set xs c.0 c.1)
  restore_last cs c m xs le = ap (λ l. restore l xs) (drop-append-le m cs (c ∷ []) le) ∙ restore-append (drop m cs) (c ∷ []) xs
