-- Unifiers: substitutions that make pairs of terms equal (Robinson 1965).
use Rattle.std.specs.Prelude.{◌≡◌, ℕ, ◌≤◌, List, [], ◌∷◌, ⊤}
use Rattle.spec_terms.specs.Term.{Term, Subst, Var, apply}

-- two terms that are to be made equal
pub record Equation (A : Type 0) : Type 0 where
  pub left : Term A
  pub right : Term A

-- the substitution makes each pair equal
abbrev pub Equates : {A : Type 0} → Subst A → List (Equation A) → Type 0
Equates s [] = ⊤
Equates s (e ∷ es) = (apply s e.left ≡ apply s e.right) × Equates s es

-- the most general unifier that keeps the oldest variable of each class of variables made equal
pub record IsUnifier {A : Type 0} (es : List (Equation A)) (s : Subst A) : Type 0 where
  pub unifies : Equates s es
  -- every substitution that makes the pairs equal is an instance of it, itself among them, so it is idempotent
  pub general : (r : Subst A) → Equates r es → (v : ℕ) → apply r (s v) ≡ r v
  pub oldest : (v w : ℕ) → s v ≡ Var w → w ≤ v

-- no finite substitution makes the pairs equal
abbrev pub HasNoUnifier : {A : Type 0} → List (Equation A) → Type 0
HasNoUnifier {A} es = (s : Subst A) → Equates s es → ⊥

-- the pairs read under a substitution
abbrev pub read_under : {A : Type 0} → Subst A → List (Equation A) → List (Equation A)
read_under s [] = []
read_under s (e ∷ es) = record { left = apply s e.left; right = apply s e.right } ∷ read_under s es
