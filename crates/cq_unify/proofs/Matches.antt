-- Whether the pairs of terms that are left match, pair by pair, with the variables that were met before them.
use Rattle.std.proofs.Common.{◌≡◌, ℕ, List, [], ◌∷◌, ◌++◌, refl, ap, sym, ◌∙◌, subst, inl, inr, arith}
use Rattle.std.specs.Prelude.{All, ◌↔◌, ⊤}
use Rattle.spec_terms.specs.Term.{Terms, Var, Number, Name, Compound, one, more, count, list_of, identity, OccursIn}
use Rattle.spec_terms.specs.Variables.{with_variable, variables_after, variables_in}
use Rattle.spec_terms.proofs.Substitution.{apply-identity}
use Rattle.spec_terms.specs.Variants.{AreVariants}
use Rattle.spec_terms.proofs.Renamings.{place, Match, MatchAll, match_variants}
use Rattle.cq_term.specs.Meaning.{HeapTerm, at}
use Rattle.cq_term.specs.Shown.{view_of, arguments}
use Rattle.spec_terms.specs.Unifier.{Equation}
use Rattle.cq_term.specs.Pairs.{IsLive, equation_of, pairwise, HaveSameFunctor, PushesPairs}
use Rattle.cq_unify.specs.OrderWork.{IsConstant, AreUnlike}
use Rattle.cq_term.specs.declared.walk.pairs.Pair.{Pair}
use Rattle.cq_term.proofs.SideBySide.{live_pop, live_push}
use Rattle.cq_term.specs.Ground.{IsGround}
use Rattle.cq_term.proofs.Ground.{after_ground}
use Rattle.cq_unify.proofs.Ahead.{ahead, ahead_pop, ahead_push, Remains}

abbrev pub MatchAhead : List ℕ → List ℕ → List (Equation ℕ) → Type 0
MatchAhead vs ws [] = ⊤
MatchAhead vs ws (b ∷ bs) = Match vs ws b.left b.right × MatchAhead (variables_after vs b.left) (variables_after ws b.right) bs

match_lists : (vs ws : List ℕ) (ts us : Terms ℕ) (bs : List (Equation ℕ)) → count ts ≡ count us →
    MatchAhead vs ws (pairwise (list_of ts) (list_of us) ++ bs) ↔ (MatchAll vs ws ts us × MatchAhead (variables_in vs ts) (variables_in ws us) bs)
match_lists vs ws (one t) (one u) bs n = (λ h. h, λ h. h)
match_lists vs ws (one t) (more u (one w)) bs n = absurd (omega arith)
match_lists vs ws (one t) (more u (more w us)) bs n = absurd (omega arith)
match_lists vs ws (more t (one w)) (one u) bs n = absurd (omega arith)
match_lists vs ws (more t (more w ts)) (one u) bs n = absurd (omega arith)
match_lists vs ws (more t ts) (more u us) bs n =
    let rest = match_lists (variables_after vs t) (variables_after ws u) ts us bs (omega arith) in (
      λ h. (let k = rest.0 h.1 in ((h.0, k.0), k.1)),
      λ h. (h.0.0, rest.1 (h.0.1, h.1)),
    )

-- the arguments of two compounds in place of the compounds
match_arguments : (vs ws : List ℕ) (t u : HeapTerm) (n : ℕ) (bs : List (Equation ℕ)) → HaveSameFunctor t u n →
    MatchAhead vs ws (pairwise (arguments t) (arguments u) ++ bs) ↔ (Match vs ws t u × MatchAhead (variables_after vs t) (variables_after ws u) bs)
match_arguments vs ws (Compound f ts) (Compound g us) n bs (h, p, q) =
    let c : count ts ≡ count us = cc in
    let name : f ≡ g = cc in
    let rest = match_lists vs ws ts us bs c in
    (λ a. (let k = rest.0 a in ((name, k.0), k.1)), λ a. rest.1 (a.0.1, a.1))
match_arguments vs ws (Compound f ts) (Var x) n bs (h, p, q) = cc
match_arguments vs ws (Compound f ts) (Number x) n bs (h, p, q) = cc
match_arguments vs ws (Compound f ts) (Name x) n bs (h, p, q) = cc
match_arguments vs ws (Var x) u n bs (h, p, q) = cc
match_arguments vs ws (Number x) u n bs (h, p, q) = cc
match_arguments vs ws (Name x) u n bs (h, p, q) = cc

-- ---- what the heads say
counts_match : (vs ws : List ℕ) (ts us : Terms ℕ) → MatchAll vs ws ts us → count ts ≡ count us
counts_match vs ws (one t) (one u) m = refl
counts_match vs ws (more t ts) (more u us) m = omega (arith, counts_match (variables_after vs t) (variables_after ws u) ts us m.1)
counts_match vs ws ts us m = absurd m

unlike_terms : (vs ws : List ℕ) (t u : HeapTerm) → AreUnlike t u → Match vs ws t u → ⊥
unlike_terms vs ws (Var v) (Var w) h m = h.apart v w refl refl
unlike_terms vs ws (Number p) (Number q) h m = h.other (ap (λ x. view_of (Number x)) m)
unlike_terms vs ws (Name a) (Name b) h m = h.other (ap (λ x. view_of (Name x)) m)
unlike_terms vs ws (Compound f ts) (Compound g us) h m =
    let name : f ≡ g = m.0 in
    let counts = counts_match vs ws ts us m.1 in
    h.other cc
unlike_terms vs ws t u h m = absurd m

constants_match : (vs ws : List ℕ) (t u : HeapTerm) → IsConstant t → t ≡ u → Match vs ws t u
constants_match vs ws t u h e = subst (Match vs ws t) e (itself t h)
  where
    itself : (x : HeapTerm) → IsConstant x → Match vs ws x x
    itself (Var v) h = absurd h
    itself (Number q) h = refl
    itself (Name a) h = refl
    itself (Compound f ts) h = absurd h

constant_after : (vs : List ℕ) (t : HeapTerm) → IsConstant t → variables_after vs t ≡ vs
constant_after vs (Var v) h = absurd h
constant_after vs (Number q) h = refl
constant_after vs (Name a) h = refl
constant_after vs (Compound f ts) h = absurd h

-- a term without variables matches itself, whatever was met
mutual
  ground_matches : (vs ws : List ℕ) (t : HeapTerm) → IsGround t → Match vs ws t t
  ground_matches vs ws (Var v) ground = absurd (ground v refl)
  ground_matches vs ws (Number q) ground = refl
  ground_matches vs ws (Name a) ground = refl
  ground_matches vs ws (Compound f ts) ground = (refl, all_ground_match vs ws ts ground)

  all_ground_match : (vs ws : List ℕ) (ts : Terms ℕ) → ((v : ℕ) → OccursIn v ts → ⊥) → MatchAll vs ws ts ts
  all_ground_match vs ws (one t) ground = ground_matches vs ws t ground
  all_ground_match vs ws (more t ts) ground = (ground_matches vs ws t (λ v o. ground v (inl o)), all_ground_match (variables_after vs t) (variables_after ws t) ts (λ v o. ground v (inr o)))

-- ---- two terms whose heads say all
pub itself_variant : (t u : HeapTerm) → t ≡ u → AreVariants t u
itself_variant t u e = subst (AreVariants t) e ((identity, apply-identity t), (identity, apply-identity t))

pub unlike_variants : (t u : HeapTerm) → AreUnlike t u → AreVariants t u → ⊥
unlike_variants t u unlike h = unlike_terms [] [] t u unlike ((match_variants t u).1 h)

pub variables_variant : (t u : HeapTerm) (v w : ℕ) → t ≡ Var v → u ≡ Var w → AreVariants t u
variables_variant t u v w p q = subst (λ x. AreVariants x u) (sym p) (subst (AreVariants (Var v)) (sym q) ((match_variants (Var v) (Var w)).0 refl))

-- ---- the pairs that are left
pub match_start : (ts : List HeapTerm) (p : Pair) (vs ws : List ℕ) (work : List Pair) → vs ≡ [] → ws ≡ [] → work ≡ p ∷ [] → All (IsLive ts) (p ∷ []) →
    Remains ts (AreVariants (at ts p.left) (at ts p.right)) (MatchAhead vs ws) work
match_start ts p vs ws work v w e live =
    let alone = match_variants (at ts p.left) (at ts p.right) in
    let all : MatchAhead vs ws (ahead ts work) ≡ MatchAhead [] [] (equation_of ts p ∷ []) = (λ i. MatchAhead (v i) (w i) (ahead ts (e i))) in record {
      live = subst (All (IsLive ts)) (sym e) live;
      decides = (λ h. subst (λ T. T) (sym all) (alone.1 h, tt), λ h. alone.0 (subst (λ T. T) all h).0);
    }

module _ (ts : List HeapTerm) (claim : Type 0) (vs ws : List ℕ) (old work : List Pair) (p : Pair) (is : old ≡ work ++ p ∷ []) (remains : Remains ts claim (MatchAhead vs ws) old) where
  next_matches : claim ↔ (Match vs ws (at ts p.left) (at ts p.right) × MatchAhead (variables_after vs (at ts p.left)) (variables_after ws (at ts p.right)) (ahead ts work))
  next_matches = (λ h. subst (MatchAhead vs ws) (ahead_pop ts old work p is) (remains.decides.0 h), λ h. remains.decides.1 (subst (MatchAhead vs ws) (sym (ahead_pop ts old work p is)) h))

  -- the next pair matches, and these variables have been met then
  past : (xs ys : List ℕ) → variables_after vs (at ts p.left) ≡ xs → variables_after ws (at ts p.right) ≡ ys → Match vs ws (at ts p.left) (at ts p.right) → Remains ts claim (MatchAhead xs ys) work
  past xs ys x y m = record {
    live = (live_pop ts old work p is remains.live).0;
    decides = (
      λ h. subst (λ zs. MatchAhead zs ys (ahead ts work)) x (subst (λ zs. MatchAhead (variables_after vs (at ts p.left)) zs (ahead ts work)) y (next_matches.0 h).1),
      λ h. next_matches.1 (m, subst (λ zs. MatchAhead (variables_after vs (at ts p.left)) zs (ahead ts work)) (sym y) (subst (λ zs. MatchAhead zs ys (ahead ts work)) (sym x) h)),
    );
  }

  pub match_constants : IsConstant (at ts p.left) → at ts p.left ≡ at ts p.right → Remains ts claim (MatchAhead vs ws) work
  match_constants h e = past vs ws (constant_after vs (at ts p.left) h) (constant_after ws (at ts p.right) (subst IsConstant e h)) (constants_match vs ws (at ts p.left) (at ts p.right) h e)

  pub match_ground : p.left ≡ p.right → IsGround (at ts p.left) → Remains ts claim (MatchAhead vs ws) work
  match_ground e ground =
      let same : at ts p.left ≡ at ts p.right = ap (at ts) e in
      past vs ws (after_ground vs (at ts p.left) ground) (after_ground ws (at ts p.right) (subst IsGround same ground)) (subst (Match vs ws (at ts p.left)) same (ground_matches vs ws (at ts p.left) ground))

  pub match_unlike : AreUnlike (at ts p.left) (at ts p.right) → claim → ⊥
  match_unlike h k = unlike_terms vs ws (at ts p.left) (at ts p.right) h (next_matches.0 k).0

  module _ (v w : ℕ) (left : at ts p.left ≡ Var v) (right : at ts p.right ≡ Var w) where
    pub match_variables : (xs ys : List ℕ) → xs ≡ with_variable vs v → ys ≡ with_variable ws w → place vs v ≡ place ws w → Remains ts claim (MatchAhead xs ys) work
    match_variables xs ys x y e =
        past xs ys (ap (variables_after vs) left ∙ sym x) (ap (variables_after ws) right ∙ sym y)
        (subst (λ t. Match vs ws t (at ts p.right)) (sym left) (subst (Match vs ws (Var v)) (sym right) e))

    pub match_other_places : (place vs v ≡ place ws w → ⊥) → claim → ⊥
    match_other_places n k = n (subst (Match vs ws (Var v)) right (subst (λ t. Match vs ws t (at ts p.right)) left (next_matches.0 k).0))

  pub match_spread : (n : ℕ) (new : List Pair) → HaveSameFunctor (at ts p.left) (at ts p.right) n → PushesPairs ts p.left p.right 0 work new → Remains ts claim (MatchAhead vs ws) new
  match_spread n new alike pushes =
      let on = ahead_push ts old work p is new pushes in
      let around = match_arguments vs ws (at ts p.left) (at ts p.right) n (ahead ts work) alike in record {
        live = live_push ts old work p is new pushes (live_pop ts old work p is remains.live).0;
        decides = (λ h. subst (MatchAhead vs ws) (sym on) (around.1 (next_matches.0 h)), λ h. next_matches.1 (around.0 (subst (MatchAhead vs ws) on h)));
      }
