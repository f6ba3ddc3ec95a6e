-- What the bindings made so far and the pairs that are left keep true.
use Rattle.std.proofs.Common.{◌≡◌, ◌≢◌, ℕ, ◌<◌, ◌≤◌, List, [], ◌∷◌, ◌++◌, length, refl, sym, ap, ◌∙◌, arith, map, inl, inr, subst, get_or, append-nil, append_assoc}
use Rattle.std.specs.Prelude.{◌↔◌, All, Contains}
use Rattle.std.specs.List.{AllPairs}
use Rattle.std.proofs.lemmas.Bool.{cases_eq}
use Rattle.std.proofs.lemmas.List.{length-map, map-append, get_or_default}
use Rattle.std.proofs.lemmas.List.Elements.{Contains-push, Contains-push_cases, Contains-append_left, All-same}
use Rattle.std.proofs.lemmas.List.Quantifiers.{all_pairs_push}
use Rattle.spec_terms.specs.Term.{Subst, Var, apply, identity, single, followed_by, Occurs}
use Rattle.spec_terms.specs.Unifier.{Equation, Equates, HasNoUnifier}
use Rattle.spec_terms.proofs.Substitution.{apply-identity, apply-followed_by, apply_agree, apply-single_absent, apply-single_instance, single_same, occurs_clash}
use Rattle.cq_frac.specs.declared.VarId.{VarId}
use Rattle.cq_term.specs.Meaning.{HeapTerm, at}
use Rattle.cq_term.specs.HeapValue.{Terms, HeapValue}
use Rattle.cq_term.specs.Names.{KeepsNames}
use Rattle.cq_term.specs.Shown.{IsUnbound}
use Rattle.cq_unify.specs.Unified.{Binding, in_turn, variables_of, equation, IsNewlyBound, Unified}
use Rattle.cq_term.specs.Pairs.{IsLive, equations}
use Rattle.cq_term.specs.declared.walk.pairs.Pair.{Pair}
use Rattle.cq_term.proofs.SideBySide.{live_one}
use Rattle.cq_unify.specs.Work.{CanBind, IsBound, Demands, Narrowed}
use Rattle.cq_unify.specs.declared.pairs.Demand.TheVariants as demand
use Rattle.cq_unify.specs.declared.pairs.Step.TheVariants as step
use Rattle.cq_unify.proofs.Unbound.{at-map, variable_from, unbound_before, bound_now, unbound_now}

-- ---- bindings in turn, and one more
pub in_turn-push : (bs : List Binding) (b : Binding) (x : ℕ) → in_turn (bs ++ b ∷ []) x ≡ apply (single b.variable.0 b.term) (in_turn bs x)
in_turn-push [] b x = apply-identity (single b.variable.0 b.term x)
in_turn-push (c ∷ bs) b x =
    apply_agree (in_turn (bs ++ b ∷ [])) (followed_by (in_turn bs) (single b.variable.0 b.term)) (single c.variable.0 c.term x) (λ w o. in_turn-push bs b w)
    ∙ apply-followed_by (in_turn bs) (single b.variable.0 b.term) (single c.variable.0 c.term x)

apply-push : (bs : List Binding) (b : Binding) (t : HeapTerm) → apply (in_turn (bs ++ b ∷ [])) t ≡ apply (single b.variable.0 b.term) (apply (in_turn bs) t)
apply-push bs b t =
    apply_agree (in_turn (bs ++ b ∷ [])) (followed_by (in_turn bs) (single b.variable.0 b.term)) t (λ w o. in_turn-push bs b w)
    ∙ apply-followed_by (in_turn bs) (single b.variable.0 b.term) t

map-push : (bs : List Binding) (b : Binding) (ts : List HeapTerm) → map (apply (in_turn (bs ++ b ∷ []))) ts ≡ map (apply (single b.variable.0 b.term)) (map (apply (in_turn bs)) ts)
map-push bs b [] = refl
map-push bs b (t ∷ ts) = λ i. apply-push bs b t i ∷ map-push bs b ts i

pub map-identity : (ts : List HeapTerm) → map (apply identity) ts ≡ ts
map-identity [] = refl
map-identity (t ∷ ts) = λ i. apply-identity t i ∷ map-identity ts i

pub equates_agree : (r s : Subst ℕ) (es : List (Equation ℕ)) → ((v : ℕ) → r v ≡ s v) → Equates r es → Equates s es
equates_agree r s [] same h = tt
equates_agree r s (e ∷ es) same h = (
  sym (apply_agree r s e.left (λ v o. same v)) ∙ h.0 ∙ apply_agree r s e.right (λ v o. same v),
  equates_agree r s es same h.1,
)

-- the pairs read under a binding
equates_bound : (s : Subst ℕ) (v : ℕ) (u : HeapTerm) (ts : List HeapTerm) (ps : List Pair) → Equates s (equations (map (apply (single v u)) ts) ps) → Equates (followed_by (single v u) s) (equations ts ps)
equates_bound s v u ts [] h = tt
equates_bound s v u ts (p ∷ ps) h = (read p.left ∙ h.0 ∙ sym (read p.right), equates_bound s v u ts ps h.1)
  where
    read : (i : ℕ) → apply (followed_by (single v u) s) (at ts i) ≡ apply s (at (map (apply (single v u)) ts) i)
    read i = apply-followed_by (single v u) s (at ts i) ∙ ap (apply s) (sym (at-map (single v u) ts i))

equates_instance : (s : Subst ℕ) (v : ℕ) (u : HeapTerm) (ts : List HeapTerm) (ps : List Pair) → s v ≡ apply s u → Equates s (equations ts ps) → Equates s (equations (map (apply (single v u)) ts) ps)
equates_instance s v u ts [] e h = tt
equates_instance s v u ts (p ∷ ps) e h = (read p.left ∙ h.0 ∙ sym (read p.right), equates_instance s v u ts ps e h.1)
  where
    read : (i : ℕ) → apply s (at (map (apply (single v u)) ts) i) ≡ apply s (at ts i)
    read i = ap (apply s) (at-map (single v u) ts i) ∙ apply-single_instance v u s e (at ts i)

-- ---- the invariant
pub record Progress (old now : Terms) (goal : List (Equation ℕ)) (bs : List Binding) (work : List Pair) : Type 0 where
  pub terms : now.terms ≡ map (apply (in_turn bs)) old.terms
  pub images : now.images ≡ map (apply (in_turn bs)) old.images
  pub live : All (IsLive now.terms) work
  -- a unifier is an instance of the bindings, and solves what is left
  pub general : (s : Subst ℕ) → Equates s goal → ((v : ℕ) → apply s (in_turn bs v) ≡ s v) × Equates s (equations now.terms work)
  -- what solves the rest makes the bindings a unifier
  pub solved : (s : Subst ℕ) → Equates s (equations now.terms work) → Equates (followed_by (in_turn bs) s) goal
  pub oldest : (v w : ℕ) → in_turn bs v ≡ Var w → w ≤ v
  pub unbound : (w : ℕ) → IsUnbound now.images w → IsUnbound old.images w
  pub newly : (v : VarId) → Contains (variables_of bs) v ↔ IsNewlyBound old now v
  pub once : AllPairs ◌≢◌ (variables_of bs)

progress_start : (heap : Terms) (a b : ℕ) (work : List Pair) → work ≡ record { left = a; right = b } ∷ [] → a < length heap.terms → b < length heap.terms → Progress heap heap (equation heap a b) [] work
progress_start heap a b work e live_a live_b = record {
  terms = sym (map-identity heap.terms);
  images = sym (map-identity heap.images);
  live = All-same (IsLive heap.terms) work (record { left = a; right = b } ∷ []) e (live_one heap.terms (record { left = a; right = b }) (live_a, live_b));
  general = λ s h. (λ v. refl, subst (λ (ps : List Pair). Equates s (equations heap.terms ps)) (sym e) h);
  solved = λ s h. equates_agree s (followed_by identity s) (equation heap a b) (λ v. refl) (subst (λ (ps : List Pair). Equates s (equations heap.terms ps)) e h);
  oldest = λ v w h. let q : v ≡ w = cc in omega arith;
  unbound = λ w h. h;
  newly = λ v. (λ h. absurd (omega (arith, h.1)), λ h. absurd (h.1 h.0));
  once = λ i j d lt within. absurd (omega arith);
}

pub same_variable : (v x : VarId) → v.0 ≡ x.0 → v ≡ x
same_variable v x e = ap (λ (n : ℕ). let r : VarId = record { 0 = n } in r) e

contains_at : {X : Type 0} (xs : List X) (k : ℕ) (d x : X) → k < length xs → get_or xs k d ≡ x → Contains xs x
contains_at xs k d x lt e = (k, lt, get_or_default xs k x d lt ∙ e)

module _ (old now : Terms) (goal : List (Equation ℕ)) (bs : List Binding) (work rest : List Pair) (p : Progress old now goal bs work) (v : VarId) (t : ℕ)
    (narrowed : Narrowed now work rest (step.Bind v t)) (apart : Occurs v.0 (at now.terms t) → ⊥) where
  abbrev can : CanBind now v t
  can = narrowed.0

  abbrev pub binding : Binding
  binding = record { variable = v; term = at now.terms t }

  abbrev pub bound_terms : Terms
  bound_terms = record { terms = map (apply (single v.0 (at now.terms t))) now.terms; images = map (apply (single v.0 (at now.terms t))) now.images }

  general : (s : Subst ℕ) → Equates s goal → ((x : ℕ) → apply s (in_turn (bs ++ binding ∷ []) x) ≡ s x) × Equates s (equations bound_terms.terms rest)
  general s e =
      let g = p.general s e in
      let k = (narrowed.2 s).0 g.1 in (
        λ x. ap (apply s) (in_turn-push bs binding x) ∙ apply-single_instance v.0 (at now.terms t) s k.0 (in_turn bs x) ∙ g.0 x,
        equates_instance s v.0 (at now.terms t) now.terms rest k.0 k.1,
      )

  solved : (s : Subst ℕ) → Equates s (equations bound_terms.terms rest) → Equates (followed_by (in_turn (bs ++ binding ∷ [])) s) goal
  solved s h =
      let u : HeapTerm = at now.terms t in
      let r : Subst ℕ = followed_by (single v.0 u) s in
      let meets : r v.0 ≡ apply r u =
      ap (apply s) (single_same v.0 u) ∙ sym (apply-followed_by (single v.0 u) s u ∙ ap (apply s) (apply-single_absent v.0 u u apart)) in
      let before = (narrowed.2 r).1 (meets, equates_bound s v.0 u now.terms rest h) in
      equates_agree (followed_by (in_turn bs) r) (followed_by (in_turn (bs ++ binding ∷ [])) s) goal
      (λ x. apply-followed_by (single v.0 u) s (in_turn bs x) ∙ ap (apply s) (sym (in_turn-push bs binding x)))
      (p.solved r before)

  oldest : (x w : ℕ) → in_turn (bs ++ binding ∷ []) x ≡ Var w → w ≤ x
  oldest x w e = elim (variable_from v.0 (at now.terms t) (in_turn bs x) w (sym (in_turn-push bs binding x) ∙ e)) [
    | inl h ↦ p.oldest x w h
    | inr h ↦ omega (arith, p.oldest x v.0 h.0, (can.older w h.1).1)
  ]

  variables-push : variables_of (bs ++ binding ∷ []) ≡ variables_of bs ++ v ∷ []
  variables-push = map-append (λ (b : Binding). b.variable) bs (binding ∷ [])

  newly_to : (x : VarId) → Contains (variables_of bs ++ v ∷ []) x → IsNewlyBound old bound_terms x
  newly_to x h = elim (Contains-push_cases (variables_of bs) v x h) [
    | inl c ↦ (let k = (p.newly x).0 c in (k.0, λ q. k.1 (unbound_before now v t can x.0 q)))
    | inr e ↦ subst (IsNewlyBound old bound_terms) e (p.unbound v.0 can.unbound, bound_now now v t can)
  ]

  newly_from : (x : VarId) → IsNewlyBound old bound_terms x → Contains (variables_of bs ++ v ∷ []) x
  newly_from x h = elim (cases_eq v.0 x.0) [
    | inl e ↦ subst (Contains (variables_of bs ++ v ∷ [])) (same_variable v x e) (Contains-push (variables_of bs) v)
    | inr other ↦ Contains-append_left (variables_of bs) (v ∷ []) x ((p.newly x).1 (h.0, λ q. h.1 (unbound_now now v t can x.0 other q)))
  ]

  once : AllPairs ◌≢◌ (variables_of bs ++ v ∷ [])
  once = all_pairs_push ◌≢◌ (variables_of bs) v p.once (λ k d lt e. ((p.newly v).0 (contains_at (variables_of bs) k d v lt e)).1 can.unbound)

  pub progress_bind : Progress old bound_terms goal (bs ++ binding ∷ []) rest
  progress_bind = record {
    terms = ap (map (apply (single v.0 (at now.terms t)))) p.terms ∙ sym (map-push bs binding old.terms);
    images = ap (map (apply (single v.0 (at now.terms t)))) p.images ∙ sym (map-push bs binding old.images);
    live = rw (length-map now.terms (apply (single v.0 (at now.terms t)))) narrowed.1;
    general = general;
    solved = solved;
    oldest = oldest;
    unbound = λ w h. p.unbound w (unbound_before now v t can w h);
    newly = λ x. (
      λ h. newly_to x (subst (λ (vs : List VarId). Contains vs x) variables-push h),
      λ h. subst (λ (vs : List VarId). Contains vs x) (sym variables-push) (newly_from x h),
    );
    once = subst (AllPairs ◌≢◌) (sym variables-push) once;
  }

pub progress_end : (old now : Terms) (a b : ℕ) (bs : List Binding) (work : List Pair) (bound : List VarId) → Progress old now (equation old a b) bs work → ((s : Subst ℕ) → Equates s (equations now.terms work)) → bound ≡ variables_of bs → Unified old now a b bound
progress_end old now a b bs work bound p all e = record {
  bindings = bs;
  unifier = record {
    unifies = equates_agree (followed_by (in_turn bs) identity) (in_turn bs) (equation old a b) (λ v. apply-identity (in_turn bs v)) (p.solved identity (all identity));
    general = λ r h v. (p.general r h).0 v;
    oldest = p.oldest;
  };
  terms = p.terms;
  images = p.images;
  in_order = e;
  newly = λ v. (
    λ h. (p.newly v).0 (subst (λ (vs : List VarId). Contains vs v) e h),
    λ h. subst (λ (vs : List VarId). Contains vs v) (sym e) ((p.newly v).1 h),
  );
  once = subst (AllPairs ◌≢◌) (sym e) p.once;
}

-- ---- the loop of `solve`
pub record Solving (old now : HeapValue) (a b : ℕ) (before after : List VarId) (work : List Pair) : Type 0 where
  pub bindings : List Binding
  pub progress : Progress old.now now.now (equation old.now a b) bindings work
  pub told : after ≡ before ++ variables_of bindings
  pub live : length now.now.terms ≡ length old.now.terms
  pub names : (n : ℕ) → KeepsNames n old.now now.now
  pub saved : now.saved ≡ old.saved
  pub room : old.room ≤ now.room

pub solving_start : (heap : HeapValue) (a b : ℕ) (told : List VarId) (work : List Pair) → work ≡ record { left = a; right = b } ∷ [] → a < length heap.now.terms → b < length heap.now.terms → Solving heap heap a b told told work
solving_start heap a b told work e live_a live_b = record {
  bindings = [];
  progress = progress_start heap.now a b work e live_a live_b;
  told = sym (append-nil told);
  live = refl;
  names = λ n all. all;
  saved = refl;
  room = omega arith;
}

same_terms : (x y : Terms) → x.terms ≡ y.terms → x.images ≡ y.images → x ≡ y
same_terms x y e d = λ i. record { terms = e i; images = d i }

module _ (old now : HeapValue) (a b : ℕ) (before told : List VarId) (work rest : List Pair) (h : Solving old now a b before told work) where
  pub solving_bind : (v : VarId) (t : ℕ) (next : HeapValue) (told_next : List VarId) → Narrowed now.now work rest (step.Bind v t) → IsBound now.now next.now v t → ((n : ℕ) → KeepsNames n now.now next.now) → next.saved ≡ now.saved → now.room ≤ next.room →
      told_next ≡ told ++ v ∷ [] → Solving old next a b before told_next rest
  solving_bind v t next told_next narrowed bound names saved room pushed =
      let made : Binding = record { variable = v; term = at now.now.terms t } in record {
        bindings = h.bindings ++ made ∷ [];
        progress = subst (λ (x : Terms). Progress old.now x (equation old.now a b) (h.bindings ++ made ∷ []) rest)
            (sym (same_terms next.now (bound_terms old.now now.now (equation old.now a b) h.bindings work rest h.progress v t narrowed bound.apart) bound.terms bound.images))
            (progress_bind old.now now.now (equation old.now a b) h.bindings work rest h.progress v t narrowed bound.apart);
        told = pushed ∙ ap (λ vs. vs ++ v ∷ []) h.told ∙ append_assoc before (variables_of h.bindings) (v ∷ []) ∙ ap (λ vs. before ++ vs) (sym (map-append (λ (x : Binding). x.variable) h.bindings (made ∷ [])));
        live = ap length bound.terms ∙ length-map now.now.terms (apply (single v.0 (at now.now.terms t))) ∙ h.live;
        names = λ n all. names n (h.names n all);
        saved = saved ∙ h.saved;
        room = omega (arith, h.room);
      }

  pub solving_done : Narrowed now.now work rest step.Done → (more : List VarId) × (told ≡ before ++ more) × Unified old.now now.now a b more
  solving_done all = (variables_of h.bindings, h.told, progress_end old.now now.now a b h.bindings work (variables_of h.bindings) h.progress all refl)

  pub solving_clash : Narrowed now.now work rest step.Clash → HasNoUnifier (equation old.now a b)
  solving_clash none s e = none s (h.progress.general s e).1

  -- a variable inside the term that it is to become
  pub solving_occurs : (v : VarId) (t : ℕ) → Narrowed now.now work rest (step.Bind v t) → Occurs v.0 (at now.now.terms t) → HasNoUnifier (equation old.now a b)
  solving_occurs v t narrowed inside s e = occurs_clash s v.0 (at now.now.terms t) inside narrowed.0.other ((narrowed.2 s).0 (h.progress.general s e).1).0

-- ---- two terms whose heads say all
module _ (heap : HeapValue) (a b : ℕ) (live_a : a < length heap.now.terms) (live_b : b < length heap.now.terms) (told : List VarId) where
  abbrev both : List Pair
  both = record { left = a; right = b } ∷ []

  started : Solving heap heap a b told told both
  started = solving_start heap a b told both refl live_a live_b

  pub alike_unified : Demands heap.now a b demand.Same → (more : List VarId) × (told ≡ told ++ more) × Unified heap.now heap.now a b more
  alike_unified e = solving_done heap heap a b told told both both started (λ s. (ap (apply s) e, tt))

  module _ (v : VarId) (t : ℕ) (binds : Demands heap.now a b (demand.Bind v t)) where
    narrowed_all : Narrowed heap.now both [] (step.Bind v t)
    narrowed_all = (binds.0, (λ k d lt. absurd (omega arith)), λ s. (λ e. ((binds.1 s).0 e.0, tt), λ e. ((binds.1 s).1 e.0, tt)))

    pub bound_unified : (next : HeapValue) (told_next : List VarId) → IsBound heap.now next.now v t → ((n : ℕ) → KeepsNames n heap.now next.now) → next.saved ≡ heap.saved → heap.room ≤ next.room → told_next ≡ told ++ v ∷ [] →
        (more : List VarId) × (told_next ≡ told ++ more) × Unified heap.now next.now a b more
    bound_unified next told_next bound names saved room pushed =
        solving_done heap next a b told told_next [] [] (solving_bind heap heap a b told told both [] started v t next told_next narrowed_all bound names saved room pushed) (λ s. tt)

    pub inside_unified : Occurs v.0 (at heap.now.terms t) → HasNoUnifier (equation heap.now a b)
    inside_unified inside = solving_occurs heap heap a b told told both [] started v t narrowed_all inside
