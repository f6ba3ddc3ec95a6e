-- A goal that was resolved with a clause, as two terms of a heap that were made equal: the heap with the clause's terms as they
-- were, under new variables, and the same under the unifier.
use Rattle.std.proofs.Common.{◌≡◌, ◌<◌, ◌+◌, ℕ, zero, suc, List, [], ◌∷◌, ◌++◌, length, map, get_or, refl, sym, ap, ◌∙◌, subst, arith, inl, inr, append_assoc, length-append}
use Rattle.std.specs.Prelude.{All, Contains}
use Rattle.std.proofs.lemmas.List.{length-map, get_or_append_left}
use Rattle.std.proofs.lemmas.List.Elements.{All-cons, All-nil, All-get_or, All-from_get_or, All-map, All-push}
use Rattle.spec_numbers.specs.Prefixes.{IsPrefix}
use Rattle.spec_numbers.proofs.Prefixes.{prefix_get_or, prefix_within}
use Rattle.spec_terms.specs.Term.{Subst, Occurs, apply}
use Rattle.spec_terms.specs.Unifier.{Equation, IsUnifier, HasNoUnifier}
use Rattle.spec_terms.specs.Variables.{counted_from, variables}
use Rattle.spec_terms.proofs.Listed.{occurs_listed}
use Rattle.spec_terms.proofs.Substitution.{occurs_from}
use Rattle.cq_frac.specs.declared.VarId.{VarId}
use Rattle.cq_resolve.specs.Resolved.{Resolved, call}
use Rattle.cq_settle.specs.Equal.{MayBeEqual, AllEqual}
use Rattle.cq_settle.specs.Ready.{MayBeTold}
use Rattle.cq_resolve.specs.Building.{moved_by}
use Rattle.cq_resolve.specs.StoredValue.{ClauseValue, HaveNamesBelow, both}
use Rattle.cq_resolve.proofs.Built.{last_at}
use Rattle.cq_resolve.proofs.Renamed.{new_image}
use Rattle.cq_term.specs.HeapValue.{Terms}
use Rattle.cq_term.specs.Meaning.{HeapTerm, at, blank}
use Rattle.cq_term.specs.Names.{HasNamesBelow}
use Rattle.cq_term.specs.Shown.{IsUnbound}
use Rattle.cq_term.proofs.Known.{names_substituted}
use Rattle.cq_unify.specs.Copied.{unbound_from}
use Rattle.cq_unify.specs.Unified.{in_turn}
use Rattle.cq_unify.proofs.Places.{variables_now}
use Rattle.cq_unify.proofs.Unbound.{at-map}
use Rattle.cq_term.specs.Pairs.{equations}
use Rattle.cq_term.specs.declared.walk.pairs.Pair.{Pair}

-- ---- the clause's variables

counted_below : (n k i v : ℕ) → i < length (counted_from n k) → get_or (counted_from n k) i v ≡ v → v < n + k
counted_below n zero i v l e = absurd (omega (arith, l))
counted_below n (suc k) zero v l e = omega (arith, e)
counted_below n (suc k) (suc i) v l e = let m = counted_below (suc n) k i v (omega (arith, l)) e in omega (arith, m)

-- they are numbered from 0 on
pub numbered_below : (c : ClauseValue) → variables (both c.head c.body) ≡ counted_from 0 c.variables → (v : ℕ) → Occurs v (both c.head c.body) → v < c.variables
numbered_below c e v o =
    let k = subst (λ (vs : List ℕ). Contains vs v) e (occurs_listed (both c.head c.body) v o) in
    let below = counted_below 0 c.variables k.0 v k.1 k.2 in
    omega (arith, below)

-- ---- the heap with the clause's terms

module _ (old : Terms) (kept : ClauseValue) where
  abbrev pub moved : HeapTerm → HeapTerm
  moved t = apply (moved_by (length old.images)) t

  abbrev pub with_head : List HeapTerm
  with_head = old.terms ++ moved kept.head ∷ []

  -- the head and the body behind the other terms
  abbrev pub renamed : Terms
  renamed = record { terms = with_head ++ moved kept.body ∷ []; images = old.images ++ unbound_from (length old.images) kept.variables }

  abbrev pub head_and : ℕ → Pair
  head_and goal = record { left = goal; right = length old.terms }

  pub renamed_terms : IsPrefix old.terms renamed.terms
  renamed_terms = (moved kept.head ∷ moved kept.body ∷ [], append_assoc old.terms (moved kept.head ∷ []) (moved kept.body ∷ []))

  head_live : length old.terms < length with_head
  head_live = omega (arith, length-append old.terms (moved kept.head ∷ []))

  pub body_live : length with_head < length renamed.terms
  body_live = omega (arith, length-append with_head (moved kept.body ∷ []))

  pub same_at : (id : ℕ) → id < length old.terms → at renamed.terms id ≡ at old.terms id
  same_at id l = prefix_get_or old.terms renamed.terms id blank renamed_terms l

  pub head_at : at renamed.terms (length old.terms) ≡ moved kept.head
  head_at =
      prefix_get_or with_head renamed.terms (length old.terms) blank (moved kept.body ∷ [], refl) head_live
      ∙ last_at old.terms with_head (moved kept.head) (length old.terms) refl refl

  pub body_at : at renamed.terms (length with_head) ≡ moved kept.body
  body_at = last_at with_head renamed.terms (moved kept.body) (length with_head) refl refl

  -- nothing makes the two terms equal, where nothing makes the goal and the head so
  pair_is : (goal : ℕ) → goal < length old.terms → call old kept goal ≡ equations renamed.terms (head_and goal ∷ [])
  pair_is goal l = λ i. record { left = sym (same_at goal l) i; right = sym head_at i } ∷ []

  pub pair_none : (goal : ℕ) → goal < length old.terms → HasNoUnifier (call old kept goal) → HasNoUnifier (equations renamed.terms (head_and goal ∷ []))
  pair_none goal l none = subst (λ (es : List (Equation ℕ)). HasNoUnifier es) (pair_is goal l) none

  -- ---- its variables

  stays_unbound : (v : ℕ) → IsUnbound old.images v → IsUnbound renamed.images v
  stays_unbound v h = (
    omega (arith, h.0, variables_now old.images renamed.images kept.variables refl),
    get_or_append_left old.images (unbound_from (length old.images) kept.variables) blank v h.0 ∙ h.1,
  )

  is_new : (v k : ℕ) → v ≡ length old.images + k → k < kept.variables → IsUnbound renamed.images v
  is_new v k e l = subst (IsUnbound renamed.images) (sym e)
      (omega (arith, l, variables_now old.images renamed.images kept.variables refl), new_image old.images renamed.images kept.variables k refl l)

  module _ (within : (v : ℕ) → Occurs v (both kept.head kept.body) → v < kept.variables) where
    head_unbound : (v : ℕ) → Occurs v (moved kept.head) → IsUnbound renamed.images v
    head_unbound v o = let f = occurs_from (moved_by (length old.images)) v kept.head o in is_new v f.0 f.2 (within f.0 (inl f.1))

    body_unbound : (v : ℕ) → Occurs v (moved kept.body) → IsUnbound renamed.images v
    body_unbound v o = let f = occurs_from (moved_by (length old.images)) v kept.body o in is_new v f.0 f.2 (within f.0 (inr f.1))

    pub body_may : MayBeTold renamed (length with_head)
    body_may = record { live = body_live; inside = λ v o. body_unbound v (subst (Occurs v) body_at o) }

    goal_may : (goal : ℕ) → MayBeTold old goal → MayBeTold renamed goal
    goal_may goal m = record {
      live = prefix_within old.terms renamed.terms goal renamed_terms m.live;
      inside = λ v o. stays_unbound v (m.inside v (subst (Occurs v) (same_at goal m.live) o));
    }

    head_may : MayBeTold renamed (length old.terms)
    head_may = record { live = omega (arith, head_live, body_live); inside = λ v o. head_unbound v (subst (Occurs v) head_at o) }

    pub pair_may : (goal : ℕ) → MayBeTold old goal → All (MayBeEqual renamed) (head_and goal ∷ [])
    pair_may goal m = All-cons (MayBeEqual renamed) (head_and goal) [] (goal_may goal m, head_may) (All-nil (MayBeEqual renamed))

  -- ---- its names

  moved_names : (n : ℕ) (t : HeapTerm) → HasNamesBelow n t → HasNamesBelow n (moved t)
  moved_names n t h = names_substituted n (moved_by (length old.images)) t h (λ v o. tt)

  pub renamed_names : (n : ℕ) → HaveNamesBelow n kept → All (HasNamesBelow n) old.terms → All (HasNamesBelow n) renamed.terms
  renamed_names n h all =
      All-push (HasNamesBelow n) with_head (moved kept.body) (All-push (HasNamesBelow n) old.terms (moved kept.head) all (moved_names n kept.head h.head)) (moved_names n kept.body h.body)

  -- ---- the same under the unifier

  module _ (h : Terms) (goal body : ℕ) (told : List VarId) (r : Resolved old h kept goal body told) where
    abbrev s : Subst ℕ
    s = in_turn r.bindings

    abbrev pub unified : Terms
    unified = record { terms = map (apply s) renamed.terms; images = h.images }

    abbrev prefixed : List HeapTerm
    prefixed = map (apply s) old.terms

    pub old_live : (id : ℕ) → id < length old.terms → id < length h.terms
    old_live id l = prefix_within prefixed h.terms id r.terms (omega (arith, l, length-map old.terms (apply s)))

    now_at : (id : ℕ) → id < length old.terms → at h.terms id ≡ apply s (at old.terms id)
    now_at id l = prefix_get_or prefixed h.terms id blank r.terms (omega (arith, l, length-map old.terms (apply s))) ∙ at-map s old.terms id

    pub then_at : (id : ℕ) → id < length old.terms → at h.terms id ≡ at unified.terms id
    then_at id l = now_at id l ∙ ap (apply s) (sym (same_at id l)) ∙ sym (at-map s renamed.terms id)

    pub body_then : at h.terms body ≡ at unified.terms (length with_head)
    body_then = r.body ∙ ap (apply s) (sym body_at) ∙ sym (at-map s renamed.terms (length with_head))

    module _ (n : ℕ) (all : All (HasNamesBelow n) h.terms) (live : goal < length old.terms) where
      named_at : (id : ℕ) → id < length old.terms → HasNamesBelow n (apply s (at old.terms id))
      named_at id l = subst (HasNamesBelow n) (now_at id l) (All-get_or (HasNamesBelow n) h.terms id blank (old_live id l) all)

      named_head : HasNamesBelow n (apply s (moved kept.head))
      named_head = subst (HasNamesBelow n) r.unifier.unifies.0 (named_at goal live)

      named_body : HasNamesBelow n (apply s (moved kept.body))
      named_body = subst (HasNamesBelow n) r.body (All-get_or (HasNamesBelow n) h.terms body blank r.live all)

      pub unified_names : All (HasNamesBelow n) unified.terms
      unified_names = All-map (HasNamesBelow n) (apply s) renamed.terms
          (All-push (λ t. HasNamesBelow n (apply s t)) with_head (moved kept.body)
          (All-push (λ t. HasNamesBelow n (apply s t)) old.terms (moved kept.head) (All-from_get_or (λ t. HasNamesBelow n (apply s t)) old.terms blank named_at) named_head) named_body)

    -- the goal and the head were made equal
    pub all_equal : ((v : ℕ) → Occurs v (both kept.head kept.body) → v < kept.variables) → MayBeTold old goal → AllEqual renamed unified (head_and goal ∷ []) told
    all_equal within m = record {
      read_through = pair_may within goal m;
      unifier = s;
      unifies = subst (λ (es : List (Equation ℕ)). IsUnifier es s) (pair_is goal m.live) r.unifier;
      terms = refl;
      images = r.images;
      newly = r.newly;
      once = r.once;
    }
