-- The state of a pair of terms, by whether they have a unifier and are identical.
use Rattle.std.proofs.Common.{◌≡◌, ◌⊎◌, inl, inr, Bool, true, false, cond, not, refl, sym, ap, ◌∙◌}
use Rattle.std.specs.declared.cmp.Ordering.{Ordering}
use Rattle.std.specs.declared.cmp.Ordering.TheVariants.{Less, Equal, Greater}
use Rattle.spec_numbers.specs.Texts.{Text}
use Rattle.spec_terms.specs.Term.{Subst, Var}
use Rattle.spec_terms.specs.Unifier.{IsUnifier, HasNoUnifier}
use Rattle.spec_terms.specs.Order.{compare_terms}
use Rattle.spec_syntax.specs.Trees.{Tree}
use Rattle.spec_builtins.specs.Built.{compound2}
use Rattle.spec_terms.proofs.UnifiedLemmas.{texts_unified}
use Rattle.spec_asleep.specs.Asleep.{DifState, Gone, Broken, Waiting, pair, is_same, state_by, broken_or_waiting, dif_state, is_waiting, is_true}

abbrev IsUnified : Tree → Tree → Type 0
IsUnified a b = ((u : Subst Text) × IsUnifier (pair a b) u) ⊎ HasNoUnifier (pair a b)

pub gone : (a b : Tree) → dif_state a b ≡ Gone → HasNoUnifier (pair a b)
gone a b e = go (texts_unified (pair a b)) e
  where
    by_test : (x : Bool) → cond x Broken Waiting ≡ Gone → HasNoUnifier (pair a b)
    by_test true d = cc
    by_test false d = cc

    go : (r : IsUnified a b) → state_by a b r ≡ Gone → HasNoUnifier (pair a b)
    go (inl h) d = by_test (is_same a b) d
    go (inr n) d = n

pub apart : (a b : Tree) → HasNoUnifier (pair a b) → dif_state a b ≡ Gone
apart a b n = go (texts_unified (pair a b))
  where
    go : (r : IsUnified a b) → state_by a b r ≡ Gone
    go (inl h) = absurd (n h.0 (h.1.unifies))
    go (inr m) = refl

-- the test tells whether terms are identical
module _ (same : (t u : Tree) → (compare_terms t u ≡ Equal → t ≡ u) × (t ≡ u → compare_terms t u ≡ Equal)) where
  same_is : (a b : Tree) → is_same a b ≡ true → a ≡ b
  same_is a b e = go (compare_terms a b) (same a b).0 e
    where
      go : (o : Ordering) → (o ≡ Equal → a ≡ b) → elim o [ Less ↦ false | Equal ↦ true | Greater ↦ false ] ≡ true → a ≡ b
      go Less h d = cc
      go Equal h d = h refl
      go Greater h d = cc

  is_itself : (a b : Tree) → a ≡ b → is_same a b ≡ true
  is_itself a b e = ap (λ o. elim o [ Less ↦ false | Equal ↦ true | Greater ↦ false ]) ((same a b).1 e)

  pub broken : (a b : Tree) → dif_state a b ≡ Broken → a ≡ b
  broken a b e = go (texts_unified (pair a b)) e
    where
      by_test : (x : Bool) → is_same a b ≡ x → cond x Broken Waiting ≡ Broken → a ≡ b
      by_test true d k = same_is a b d
      by_test false d k = cc

      go : (r : IsUnified a b) → state_by a b r ≡ Broken → a ≡ b
      go (inl h) d = by_test (is_same a b) refl d
      go (inr n) d = cc

  pub waiting : (a b : Tree) → dif_state a b ≡ Waiting → (a ≡ b → ⊥) × ((u : Subst Text) × IsUnifier (pair a b) u)
  waiting a b e = go (texts_unified (pair a b)) e
    where
      by_test : (x : Bool) → is_same a b ≡ x → cond x Broken Waiting ≡ Waiting → a ≡ b → ⊥
      by_test true d k h = cc
      by_test false d k h = let i : is_same a b ≡ true = is_itself a b h in cc

      go : (r : IsUnified a b) → state_by a b r ≡ Waiting → (a ≡ b → ⊥) × ((u : Subst Text) × IsUnifier (pair a b) u)
      go (inl h) d = (by_test (is_same a b) refl d, h)
      go (inr n) d = cc

  pub itself : (a : Tree) → dif_state a a ≡ Broken
  itself a = go (texts_unified (pair a a))
    where
      go : (r : IsUnified a a) → state_by a a r ≡ Broken
      go (inl h) = ap (λ b. cond b Broken Waiting) (is_itself a a refl)
      go (inr n) = absurd (n (λ v. Var v) (refl, tt))

  -- a pair is decided where it no longer waits
  pub decided : (a b : Tree) → (is_true (compound2 "?=" a b) ≡ true → (a ≡ b) ⊎ HasNoUnifier (pair a b)) × ((a ≡ b) ⊎ HasNoUnifier (pair a b) → is_true (compound2 "?=" a b) ≡ true)
  decided a b = (forth (dif_state a b) refl, back)
    where
      forth : (s : DifState) → dif_state a b ≡ s → not (is_waiting s) ≡ true → (a ≡ b) ⊎ HasNoUnifier (pair a b)
      forth Gone e d = inr (gone a b e)
      forth Broken e d = inl (broken a b e)
      forth Waiting e d = cc

      back : (a ≡ b) ⊎ HasNoUnifier (pair a b) → not (is_waiting (dif_state a b)) ≡ true
      back (inl e) = ap (λ t. not (is_waiting (dif_state a t))) (sym e) ∙ ap (λ s. not (is_waiting s)) (itself a)
      back (inr n) = ap (λ s. not (is_waiting s)) (apart a b n)
