-- The branches that choices stand for, and how many there are below a height.
use Rattle.std.proofs.Common.{◌≡◌, ℕ, zero, suc, ◌+◌, ◌-◌, List, [], ◌∷◌, ◌++◌, length, drop, refl, sym, ap, ap₂, ◌∙◌, arith, length-append, append_assoc}
use Rattle.std.proofs.lemmas.List.{drop_at}
use Rattle.cq_control.specs.Heights.{waiting, StandFor, total, branches_below}
use Rattle.cq_control.specs.Open.{last}

module _ {V C B : Type 0} (size : C → ℕ) (branches : List (V × C) → V → C → List B) (each : StandFor size branches) where
  pub length-waiting : (choices : List (V × C)) → length (waiting branches choices) ≡ total size choices
  length-waiting [] = refl
  length-waiting (c ∷ older) = length-append (branches older c.0 c.1) (waiting branches older) ∙ ap₂ (λ m n. m + n) (each older c.0 c.1) (length-waiting older)

  split : (n : ℕ) (choices : List (V × C)) → (front : List B) × (waiting branches choices ≡ front ++ waiting branches (drop n choices))
  split zero choices = ([], refl)
  split (suc n) [] = ([], refl)
  split (suc n) (c ∷ older) =
      let s = split n older in
      let here = branches older c.0 c.1 in
      (here ++ s.0, ap (λ l. here ++ l) s.1 ∙ sym (append_assoc here s.0 (waiting branches (drop n older))))

  last-behind : (front xs : List B) (m : ℕ) → length xs ≡ m → last m (front ++ xs) ≡ xs
  last-behind front xs m e = let l : length (front ++ xs) - m ≡ length front = omega (arith, length-append front xs) in ap (λ n. drop n (front ++ xs)) l ∙ drop_at front xs (length front) refl

  pub length-below : (choices : List (V × C)) (height : ℕ) → branches_below size choices height ≡ length (waiting branches (last height choices))
  length-below choices height = sym (length-waiting (last height choices))

  pub waiting-last : (choices : List (V × C)) (height : ℕ) → waiting branches (last height choices) ≡ last (branches_below size choices height) (waiting branches choices)
  waiting-last choices height =
      let s = split (length choices - height) choices in
      sym (ap (last (branches_below size choices height)) s.1 ∙ last-behind s.0 (waiting branches (last height choices)) (branches_below size choices height) (length-waiting (last height choices)))
