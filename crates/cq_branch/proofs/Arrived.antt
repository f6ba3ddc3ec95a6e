-- An engine comes quietly from one search to another, as its choices are cut and come back to.
use Rattle.std.proofs.Common.{◌≡◌, ℕ, zero, suc, ◌-◌, List, [], ◌∷◌, length, map, drop, Option, refl, ap, ◌∙◌}
use Rattle.std.proofs.lemmas.List.{length-map}
use Rattle.spec_branch.specs.Branch.{State}
use Rattle.spec_syntax.specs.Trees.{Tree}
use Rattle.spec_search.specs.Search.{Search}
use Rattle.cq_control.specs.Open.{last}
use Rattle.spec_engine.specs.Standing.{Machine, IsStanding}
use Rattle.spec_engine.specs.Coming.{Quietly, at_once, after, Comes}

pub quietly_on : {steps : ℕ} {s t u : Search} → Quietly steps s t → Quietly steps t u → Quietly steps s u
quietly_on at_once r = r
quietly_on (after may turn q) r = after may turn (quietly_on q r)

module _ {W : Type 0} (IsState : W → State → Type 0) (term : W → ℕ → Option Tree) where
  pub comes_on : (steps : ℕ) (m n : Machine W) (s : Search) → Comes IsState term steps m s → ((t : Search) → IsStanding IsState term m t → Comes IsState term steps n t)
      → Comes IsState term steps n s
  comes_on steps m n s c f = let d = f c.reached c.stands in record { reached = d.reached; quiet = quietly_on c.quiet d.quiet; stands = d.stands }

  pub comes_at_once : (steps : ℕ) (m : Machine W) (s : Search) → IsStanding IsState term m s → Comes IsState term steps m s
  comes_at_once steps m s j = record { reached = s; quiet = at_once; stands = j }

pub drop-map : {A B : Type 0} (f : A → B) (n : ℕ) (xs : List A) → drop n (map f xs) ≡ map f (drop n xs)
drop-map f zero xs = refl
drop-map f (suc n) [] = refl
drop-map f (suc n) (x ∷ xs) = drop-map f n xs

pub last-map : {A B : Type 0} (f : A → B) (n : ℕ) (xs : List A) → last n (map f xs) ≡ map f (last n xs)
last-map f n xs = ap (λ m. drop (m - n) (map f xs)) (length-map xs f) ∙ drop-map f (length xs - n) xs
