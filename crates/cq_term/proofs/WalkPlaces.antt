-- The place of a variable in a set of variables, and the set with one more variable.
use Rattle.std.proofs.Common.{◌≡◌, ℕ, ◌+◌, List, [], ◌∷◌, ◌++◌, not, cond, Bool, true, false, if◌then◌else◌, nat_eq, refl, ap, ◌∙◌}
use Rattle.std.specs.List.{list_any, position_or_len}
use Rattle.std.proofs.lemmas.List.{map-append}
use Rattle.indexmap.specs.IndexSet.{insert_key}
use Rattle.spec_numbers.proofs.Tests.{nat_eq-sym}
use Rattle.spec_terms.specs.Variables.{with_variable}
use Rattle.cq_frac.specs.declared.VarId.{VarId}
use Rattle.cq_term.specs.Places.{numbers_of, place_of}

-- a test for a variable finds it at its place
pub position_or_len-place : (test : VarId → Bool) (v : ℕ) → ((w : VarId) → test w ≡ nat_eq v w.0) → (ks : List VarId) → position_or_len test ks ≡ place_of ks v
position_or_len-place test v same [] = refl
position_or_len-place test v same (k ∷ ks) = λ i. cond (not ((same k ∙ nat_eq-sym v k.0) i)) (1 + position_or_len-place test v same ks i) 0

-- one more variable of a set
module _ (eq : VarId → VarId → Bool) (same : (a b : VarId) → eq a b ≡ nat_eq a.0 b.0) where
  any-numbers_of : (ks : List VarId) (v : VarId) → list_any (eq v) ks ≡ list_any (λ w. nat_eq w v.0) (numbers_of ks)
  any-numbers_of [] v = refl
  any-numbers_of (k ∷ ks) v =
      let e : eq v k ≡ nat_eq k.0 v.0 = same v k ∙ nat_eq-sym v.0 k.0 in
      let d : list_any (eq v) ks ≡ list_any (λ w. nat_eq w v.0) (numbers_of ks) = any-numbers_of ks v in
      cc

  pub numbers_of-insert_key : (ks : List VarId) (v : VarId) → numbers_of (insert_key eq ks v) ≡ with_variable (numbers_of ks) v.0
  numbers_of-insert_key ks v = go (list_any (eq v) ks) ∙ ap (λ b. cond b (numbers_of ks) (numbers_of ks ++ v.0 ∷ [])) (any-numbers_of ks v)
    where
      go : (b : Bool) → numbers_of (if b then ks else ks ++ v ∷ []) ≡ cond b (numbers_of ks) (numbers_of ks ++ v.0 ∷ [])
      go true = refl
      go false = map-append (λ (w : VarId). w.0) ks (v ∷ [])
