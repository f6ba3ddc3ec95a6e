-- Variants are the terms whose variables have the same places, from left to right.
use Rattle.std.proofs.Common.{◌≡◌, ℕ, suc, ◌+◌, arith, refl, ap, sym, ◌∙◌, subst, inl, inr, cond, not, Bool, true, false, List, [], ◌∷◌, ◌++◌, length, length-append, map}
use Rattle.std.specs.Prelude.{◌↔◌, ◌==◌, nat_lt}
use Rattle.std.specs.List.{list_any, position_or_len}
use Rattle.std.proofs.lemmas.Bool.{cases_eq, eq-eqb, ne_eqb}
use Rattle.std.proofs.lemmas.Bool.Decides.{nat_tests}
use borrow.Author.Tests.{lt-ltb}
use Rattle.spec_terms.specs.Term.{Term, Terms, Subst, Var, Number, Name, Compound, one, more, apply, apply_all, followed_by, identity, Occurs}
use Rattle.spec_terms.specs.Variables.{with_variable, variables_after, variables_in, variables, numbered_from, original_from, renamed_from}
use Rattle.spec_terms.proofs.Substitution.{apply-followed_by, apply-identity, apply_agree, agree_apply}
use Rattle.spec_terms.proofs.Listed.{Member, Separates, renaming, member_contains, with_kept, with_last, listed_kept, listed_in_kept, listed_here, listed_occurs, variables_after-renamed, renamed_back}
use Rattle.spec_terms.specs.Variants.{IsInstance, AreVariants}

-- ---- places
-- the place of a variable in a list, or the length
abbrev pub place : List ℕ → ℕ → ℕ
place vs v = position_or_len (λ w. w == v) vs

place-cons : (w v : ℕ) (vs : List ℕ) → place (w ∷ vs) v ≡ cond (w == v) 0 (1 + place vs v)
place-cons w v vs = go (w == v)
  where
    go : (b : Bool) → cond (not b) (1 + place vs v) 0 ≡ cond b 0 (1 + place vs v)
    go true = refl
    go false = refl

place-push : (vs : List ℕ) (v : ℕ) → place (vs ++ v ∷ []) v ≡ place vs v
place-push [] v = rw (eq-eqb v v refl) refl
place-push (w ∷ vs) v = place-cons w v (vs ++ v ∷ []) ∙ ap (λ n. cond (w == v) 0 (1 + n)) (place-push vs v) ∙ sym (place-cons w v vs)

place-with : (vs : List ℕ) (v : ℕ) → place (with_variable vs v) v ≡ place vs v
place-with vs v = go (list_any (λ x. x == v) vs)
  where
    go : (b : Bool) → place (cond b vs (vs ++ v ∷ [])) v ≡ place vs v
    go true = refl
    go false = place-push vs v

-- a variable that is there keeps its place
place_longer : (vs : List ℕ) (v x : ℕ) → Member v vs → place (vs ++ x ∷ []) v ≡ place vs v
place_longer [] v x m = absurd m
place_longer (w ∷ vs) v x m = elim (cases_eq w v) [
  | inl h ↦ rw (eq-eqb w v h) refl
  | inr n ↦ place-cons w v (vs ++ x ∷ []) ∙ ap (λ k. cond (w == v) 0 (1 + k)) (elim m [ inl h ↦ absurd (n h) | inr k ↦ place_longer vs v x k ]) ∙ sym (place-cons w v vs)
]

with_keeps : (vs : List ℕ) (v x : ℕ) → Member v vs → place (with_variable vs x) v ≡ place vs v
with_keeps vs v x m = go (list_any (λ y. y == x) vs)
  where
    go : (b : Bool) → place (cond b vs (vs ++ x ∷ [])) v ≡ place vs v
    go true = refl
    go false = place_longer vs v x m

-- a variable stands in a list where its place is below the length
any-place : (vs : List ℕ) (v : ℕ) → list_any (λ w. w == v) vs ≡ nat_lt (place vs v) (length vs)
any-place [] v = refl
any-place (w ∷ vs) v = elim (cases_eq w v) [
  | inl h ↦ rw (eq-eqb w v h) (sym (lt-ltb 0 (length (w ∷ vs)) (omega arith)))
  | inr n ↦ rw (ne_eqb w v n) (any-place vs v ∙ later (place vs v) (length vs))
]
  where
    later : (m n : ℕ) → nat_lt m n ≡ nat_lt (1 + m) (suc n)
    later m n = grind (arith, nat_tests)

-- the length with one more variable depends on its place and the length
length-with : (vs : List ℕ) (v : ℕ) → length (with_variable vs v) ≡ cond (nat_lt (place vs v) (length vs)) (length vs) (suc (length vs))
length-with vs v = go (list_any (λ w. w == v) vs) ∙ ap (λ b. cond b (length vs) (suc (length vs))) (any-place vs v)
  where
    go : (b : Bool) → length (cond b vs (vs ++ v ∷ [])) ≡ cond b (length vs) (suc (length vs))
    go true = refl
    go false = omega (arith, length-append vs (v ∷ []))

module _ {A : Type 0} where
  mutual
    kept_after : (vs : List ℕ) (t : Term A) (v : ℕ) → Member v vs → place (variables_after vs t) v ≡ place vs v
    kept_after vs (Var x) v m = with_keeps vs v x m
    kept_after vs (Number q) v m = refl
    kept_after vs (Name a) v m = refl
    kept_after vs (Compound f ts) v m = kept_in vs ts v m

    kept_in : (vs : List ℕ) (ts : Terms A) (v : ℕ) → Member v vs → place (variables_in vs ts) v ≡ place vs v
    kept_in vs (one t) v m = kept_after vs t v m
    kept_in vs (more t ts) v m = kept_in (variables_after vs t) ts v (listed_kept vs t v m) ∙ kept_after vs t v m

  -- ---- two terms side by side
  -- the terms are alike but for their variables, and these have the same places among those seen so far
  abbrev mutual
    pub Match : List ℕ → List ℕ → Term A → Term A → Type 0
    Match vs ws (Var v) (Var w) = place vs v ≡ place ws w
    Match vs ws (Number p) (Number q) = p ≡ q
    Match vs ws (Name a) (Name b) = a ≡ b
    Match vs ws (Compound f ts) (Compound g us) = (f ≡ g) × MatchAll vs ws ts us
    Match vs ws t u = ⊥

    pub MatchAll : List ℕ → List ℕ → Terms A → Terms A → Type 0
    MatchAll vs ws (one t) (one u) = Match vs ws t u
    MatchAll vs ws (more t ts) (more u us) = Match vs ws t u × MatchAll (variables_after vs t) (variables_after ws u) ts us
    MatchAll vs ws ts us = ⊥

  -- as many variables have been seen in both
  mutual
    lengths_after : (vs ws : List ℕ) (t u : Term A) → Match vs ws t u → length vs ≡ length ws → length (variables_after vs t) ≡ length (variables_after ws u)
    lengths_after vs ws (Var v) (Var w) m e = length-with vs v ∙ (λ i. cond (nat_lt (m i) (e i)) (e i) (suc (e i))) ∙ sym (length-with ws w)
    lengths_after vs ws (Number p) (Number q) m e = e
    lengths_after vs ws (Name a) (Name b) m e = e
    lengths_after vs ws (Compound f ts) (Compound g us) m e = lengths_in vs ws ts us m.1 e
    lengths_after vs ws t u m e = absurd m

    lengths_in : (vs ws : List ℕ) (ts us : Terms A) → MatchAll vs ws ts us → length vs ≡ length ws → length (variables_in vs ts) ≡ length (variables_in ws us)
    lengths_in vs ws (one t) (one u) m e = lengths_after vs ws t u m e
    lengths_in vs ws (more t ts) (more u us) m e = lengths_in (variables_after vs t) (variables_after ws u) ts us m.1 (lengths_after vs ws t u m.0 e)
    lengths_in vs ws ts us m e = absurd m

  -- a term with its variables as their places, after others
  abbrev numbered_after : List ℕ → Term A → Term A
  numbered_after vs t = apply (numbered_from 0 (variables_after vs t)) t

  abbrev numbered_in : List ℕ → Terms A → Terms A
  numbered_in vs ts = apply_all (numbered_from 0 (variables_in vs ts)) ts

  first_numbered : (vs : List ℕ) (t : Term A) (ts : Terms A) → apply (numbered_from 0 (variables_in vs (more t ts))) t ≡ numbered_after vs t
  first_numbered vs t ts =
      apply_agree (numbered_from 0 (variables_in vs (more t ts))) (numbered_from 0 (variables_after vs t)) t
      (λ v o. ap (λ n. Var (0 + n)) (kept_in (variables_after vs t) ts v (listed_here vs t v o)))

  variable_of : Term A → ℕ
  variable_of (Var v) = v
  variable_of (Number q) = 0
  variable_of (Name a) = 0
  variable_of (Compound f ts) = 0

  mutual
    match_numbered : (vs ws : List ℕ) (t u : Term A) → length vs ≡ length ws → Match vs ws t u → numbered_after vs t ≡ numbered_after ws u
    match_numbered vs ws (Var v) (Var w) e m = ap (λ n. Var (0 + n)) (place-with vs v ∙ m ∙ sym (place-with ws w))
    match_numbered vs ws (Number p) (Number q) e m = ap (λ x. Number x) m
    match_numbered vs ws (Name a) (Name b) e m = ap (λ x. Name x) m
    match_numbered vs ws (Compound f ts) (Compound g us) e m = λ i. Compound (m.0 i) (match_numbered_all vs ws ts us e m.1 i)
    match_numbered vs ws t u e m = absurd m

    match_numbered_all : (vs ws : List ℕ) (ts us : Terms A) → length vs ≡ length ws → MatchAll vs ws ts us → numbered_in vs ts ≡ numbered_in ws us
    match_numbered_all vs ws (one t) (one u) e m = ap (λ x. one x) (match_numbered vs ws t u e m)
    match_numbered_all vs ws (more t ts) (more u us) e m =
        let first : apply (numbered_from 0 (variables_in vs (more t ts))) t ≡ apply (numbered_from 0 (variables_in ws (more u us))) u =
        first_numbered vs t ts ∙ match_numbered vs ws t u e m.0 ∙ sym (first_numbered ws u us) in
        let rest = match_numbered_all (variables_after vs t) (variables_after ws u) ts us (lengths_after vs ws t u m.0 e) m.1 in
        λ i. more (first i) (rest i)
    match_numbered_all vs ws ts us e m = absurd m

  mutual
    numbered_match : (vs ws : List ℕ) (t u : Term A) → length vs ≡ length ws → numbered_after vs t ≡ numbered_after ws u → Match vs ws t u
    numbered_match vs ws (Var v) (Var w) e h =
        let p : 0 + place (with_variable vs v) v ≡ 0 + place (with_variable ws w) w = cc in
        let q : place (with_variable vs v) v ≡ place (with_variable ws w) w = omega arith in
        sym (place-with vs v) ∙ q ∙ place-with ws w
    numbered_match vs ws (Number p) (Number q) e h = cc
    numbered_match vs ws (Name a) (Name b) e h = cc
    numbered_match vs ws (Compound f ts) (Compound g us) e h =
        let name : f ≡ g = cc in
        let all : numbered_in vs ts ≡ numbered_in ws us = cc in
        (name, numbered_match_all vs ws ts us e all)
    numbered_match vs ws t u e h = cc

    numbered_match_all : (vs ws : List ℕ) (ts us : Terms A) → length vs ≡ length ws → numbered_in vs ts ≡ numbered_in ws us → MatchAll vs ws ts us
    numbered_match_all vs ws (one t) (one u) e h = (let k : numbered_after vs t ≡ numbered_after ws u = cc in numbered_match vs ws t u e k)
    numbered_match_all vs ws (more t ts) (more u us) e h =
        let first : apply (numbered_from 0 (variables_in vs (more t ts))) t ≡ apply (numbered_from 0 (variables_in ws (more u us))) u = cc in
        let rest : numbered_in (variables_after vs t) ts ≡ numbered_in (variables_after ws u) us = cc in
        let m = numbered_match vs ws t u e (sym (first_numbered vs t ts) ∙ first ∙ first_numbered ws u us) in
        (m, numbered_match_all (variables_after vs t) (variables_after ws u) ts us (lengths_after vs ws t u m e) rest)
    numbered_match_all vs ws ts us e h = cc

  pub match_renamed : (t u : Term A) → Match [] [] t u ↔ (renamed_from 0 t ≡ renamed_from 0 u)
  match_renamed t u = (match_numbered [] [] t u refl, numbered_match [] [] t u refl)

-- ---- instances
place-map : (f : ℕ → ℕ) (all vs : List ℕ) (v : ℕ) → Separates f all → ((w : ℕ) → Member w vs → Member w all) → Member v all → place (map f vs) (f v) ≡ place vs v
place-map f all [] v s within m = refl
place-map f all (w ∷ vs) v s within m = elim (cases_eq w v) [
  | inl h ↦ rw (eq-eqb w v h, eq-eqb (f w) (f v) (ap f h)) refl
  | inr n ↦ rw (ne_eqb w v n, ne_eqb (f w) (f v) (λ e. n (s w v (within w (inl refl)) m e))) (ap (λ k. 1 + k) (place-map f all vs v s (λ x k. within x (inr k)) m))
]

module _ {A : Type 0} where
  -- a term matches its copy under a renaming
  mutual
    match_copy : (f : ℕ → ℕ) (all vs : List ℕ) (t : Term A) → Separates f all → ((w : ℕ) → Member w (variables_after vs t) → Member w all) → Match vs (map f vs) t (apply (renaming f) t)
    match_copy f all vs (Var v) s within = sym (place-map f all vs v s (λ w m. within w (with_kept vs v w m)) (within v (with_last vs v)))
    match_copy f all vs (Number q) s within = refl
    match_copy f all vs (Name a) s within = refl
    match_copy f all vs (Compound g ts) s within = (refl, match_copies f all vs ts s within)

    match_copies : (f : ℕ → ℕ) (all vs : List ℕ) (ts : Terms A) → Separates f all → ((w : ℕ) → Member w (variables_in vs ts) → Member w all) → MatchAll vs (map f vs) ts (apply_all (renaming f) ts)
    match_copies f all vs (one t) s within = match_copy f all vs t s within
    match_copies f all vs (more t ts) s within =
        let here = λ (w : ℕ) (m : Member w (variables_after vs t)). within w (listed_in_kept (variables_after vs t) ts w m) in (
          match_copy f all vs t s here,
          subst (λ (us : List ℕ). MatchAll (variables_after vs t) us ts (apply_all (renaming f) ts)) (sym (variables_after-renamed f all vs t s here)) (match_copies f all (variables_after vs t) ts s within),
        )

  -- a substitution that can be undone makes variables of variables
  renames : (s : Subst A) (t : Term A) (v : ℕ) → apply s t ≡ Var v → t ≡ Var (variable_of t)
  unfolding variable_of
  renames s (Var w) v e = refl
  renames s (Number q) v e = cc
  renames s (Name a) v e = cc
  renames s (Compound f ts) v e = cc

  module _ (t u : Term A) (r s : Subst A) (there : apply r t ≡ u) (back : apply s u ≡ t) where
    undone : (v : ℕ) → Occurs v t → apply s (r v) ≡ Var v
    undone = agree_apply (followed_by r s) identity t (apply-followed_by r s t ∙ ap (apply s) there ∙ back ∙ sym (apply-identity t))

    number : ℕ → ℕ
    number v = variable_of (r v)

    image : (v : ℕ) → Occurs v t → r v ≡ Var (number v)
    unfolding number
    image v o = renames s (r v) v (undone v o)

    occurs : (v : ℕ) → Member v (variables t) → Occurs v t
    occurs v m = listed_occurs t v (member_contains (variables t) v m)

    apart : Separates number (variables t)
    apart v w m k e =
        let p : s (number v) ≡ Var v = ap (apply s) (sym (image v (occurs v m))) ∙ undone v (occurs v m) in
        let q : s (number w) ≡ Var w = ap (apply s) (sym (image w (occurs w k))) ∙ undone w (occurs w k) in
        let d : s (number v) ≡ s (number w) = ap s e in
        cc

    pub instances_match : Match [] [] t u
    instances_match =
        subst (Match [] [] t) (sym (apply_agree r (renaming number) t image) ∙ there) (match_copy number (variables t) [] t apart (λ w m. m))

  pub variants_match : (t u : Term A) → AreVariants t u → Match [] [] t u
  variants_match t u h = instances_match t u h.1.0 h.0.0 h.1.1 h.0.1

  -- the term that is renamed as the other one is
  instance_renamed : (t u : Term A) → renamed_from 0 t ≡ renamed_from 0 u → IsInstance t u
  instance_renamed t u e = (
    followed_by (numbered_from 0 (variables u)) (original_from 0 (variables t)),
    apply-followed_by (numbered_from 0 (variables u)) (original_from 0 (variables t)) u ∙ ap (apply (original_from 0 (variables t))) (sym e) ∙ renamed_back 0 t,
  )

  pub variants_renamed : (t u : Term A) → AreVariants t u ↔ (renamed_from 0 t ≡ renamed_from 0 u)
  variants_renamed t u = (λ h. (match_renamed t u).0 (variants_match t u h), λ e. (instance_renamed t u e, instance_renamed u t (sym e)))

  pub match_variants : (t u : Term A) → Match [] [] t u ↔ AreVariants t u
  match_variants t u = (λ m. (variants_renamed t u).1 ((match_renamed t u).0 m), variants_match t u)

  pub instance_itself : (t : Term A) → IsInstance t t
  instance_itself t = (identity, apply-identity t)

  pub instance_chain : (t u w : Term A) → IsInstance t u → IsInstance u w → IsInstance t w
  instance_chain t u w h k = (followed_by k.0 h.0, apply-followed_by k.0 h.0 w ∙ ap (apply h.0) k.1 ∙ h.1)
