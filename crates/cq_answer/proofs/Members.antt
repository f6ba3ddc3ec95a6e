-- Whether variables are in lists, and what filters leave.
use Rattle.std.proofs.Common.{◌≡◌, ℕ, ◌<◌, Bool, true, false, cond, ◌||◌, List, [], ◌∷◌, ◌++◌, length, nat_eq, refl, sym, ap, ap₂, ◌∙◌, subst, inl, inr, append_assoc, append-nil}
use Rattle.std.specs.Prelude.{fold, filter, Contains, ◌⊎◌}
use Rattle.std.specs.List.{list_any, AllByRecursion}
use Rattle.std.proofs.lemmas.Bool.{eq-eqb}
use Rattle.std.proofs.Common.{get_or}
use Rattle.std.proofs.lemmas.List.Folds.{list_any-append, list_any_at}
use Rattle.spec_numbers.proofs.Tests.{nat_eq-self, nat_eq-same}
use Rattle.spec_linear.specs.Solution.{Has}
use Rattle.spec_linear.specs.Echelon.{AreDistinct}
use Rattle.spec_terms.specs.Term.{Term, Terms, Var, Number, Name, Compound, one, more, Occurs}
use Rattle.spec_terms.specs.Variables.{with_variable, variables_after, variables_in, variables}
use Rattle.spec_terms.proofs.Listed.{occurs_listed}

abbrev pub has : List ℕ → ℕ → Bool
has vs v = list_any (λ w. nat_eq w v) vs

-- ---- tests

or_false : (a : Bool) → (a || false) ≡ a
or_false true = refl
or_false false = refl

or_assoc : (a b c : Bool) → ((a || b) || c) ≡ (a || (b || c))
or_assoc true b c = refl
or_assoc false b c = refl

pub or_true : (a b : Bool) → b ≡ true → (a || b) ≡ true
or_true true b e = refl
or_true false b e = e

-- ---- members

pub has_append : (vs us : List ℕ) (v : ℕ) → has (vs ++ us) v ≡ (has vs v || has us v)
has_append vs us v = list_any-append (λ w. nat_eq w v) vs us

pub has_here : (vs : List ℕ) (v : ℕ) → has (v ∷ vs) v ≡ true
has_here vs v = ap (λ b. b || has vs v) (nat_eq-self v)

pub has_later : (vs : List ℕ) (u v : ℕ) → has vs v ≡ true → has (u ∷ vs) v ≡ true
has_later vs u v e = or_true (nat_eq u v) (has vs v) e

pub has_from : (vs : List ℕ) (v : ℕ) → Has v vs → has vs v ≡ true
has_from [] v h = absurd h
has_from (u ∷ vs) v (inl e) = ap (λ b. b || has vs v) (subst (λ w. nat_eq w v ≡ true) e (nat_eq-self v))
has_from (u ∷ vs) v (inr h) = has_later vs u v (has_from vs v h)

pub from_has : (vs : List ℕ) (v : ℕ) → has vs v ≡ true → Has v vs
from_has [] v e = let d : false ≡ true = e in cc
from_has (u ∷ vs) v e = by (nat_eq u v) refl e (from_has vs v)
  where
    by : (b : Bool) → nat_eq u v ≡ b → (b || has vs v) ≡ true → (has vs v ≡ true → Has v vs) → Has v (u ∷ vs)
    by true f h rest = inl (sym (nat_eq-same u v f))
    by false f h rest = inr (rest h)

pub has_not : (vs : List ℕ) (v : ℕ) → (Has v vs → ⊥) → has vs v ≡ false
has_not vs v n = by (has vs v) refl
  where
    by : (b : Bool) → has vs v ≡ b → has vs v ≡ false
    by true e = absurd (n (from_has vs v e))
    by false e = e

-- ---- variables that are added

has_with : (vs : List ℕ) (u v : ℕ) → has (with_variable vs u) v ≡ (has vs v || nat_eq u v)
has_with vs u v = by (has vs u) refl
  where
    same : (c : Bool) → nat_eq u v ≡ c → has vs u ≡ true → has vs v ≡ (has vs v || c)
    same true f e = let there : has vs v ≡ true = subst (λ w. has vs w ≡ true) (nat_eq-same u v f) e in there ∙ sym (or_true (has vs v) true refl)
    same false f e = sym (or_false (has vs v))

    by : (b : Bool) → has vs u ≡ b → has (cond b vs (vs ++ u ∷ [])) v ≡ (has vs v || nat_eq u v)
    by true e = same (nat_eq u v) refl e
    by false e = has_append vs (u ∷ []) v ∙ ap (λ b. has vs v || b) (or_false (nat_eq u v))

module _ {A : Type 0} where
  mutual
    has_after : (vs : List ℕ) (t : Term A) (v : ℕ) → has (variables_after vs t) v ≡ (has vs v || has (variables_after [] t) v)
    has_after vs (Var u) v = has_with vs u v ∙ ap (λ b. has vs v || b) (sym (or_false (nat_eq u v)))
    has_after vs (Number q) v = sym (or_false (has vs v))
    has_after vs (Name a) v = sym (or_false (has vs v))
    has_after vs (Compound f ts) v = has_in vs ts v

    has_in : (vs : List ℕ) (ts : Terms A) (v : ℕ) → has (variables_in vs ts) v ≡ (has vs v || has (variables_in [] ts) v)
    has_in vs (one t) v = has_after vs t v
    has_in vs (more t ts) v =
        has_in (variables_after vs t) ts v
        ∙ ap (λ b. b || has (variables_in [] ts) v) (has_after vs t v)
        ∙ or_assoc (has vs v) (has (variables_after [] t) v) (has (variables_in [] ts) v)
        ∙ ap (λ b. has vs v || b) (sym (has_in (variables_after [] t) ts v))

  pub has_fold : (ts : List (Term A)) (vs : List ℕ) (v : ℕ) → has (fold variables_after vs ts) v ≡ (has vs v || has (fold variables_after [] ts) v)
  has_fold [] vs v = sym (or_false (has vs v))
  has_fold (t ∷ ts) vs v =
      has_fold ts (variables_after vs t) v
      ∙ ap (λ b. b || has (fold variables_after [] ts) v) (has_after vs t v)
      ∙ or_assoc (has vs v) (has (variables_after [] t) v) (has (fold variables_after [] ts) v)
      ∙ ap (λ b. has vs v || b) (sym (has_fold ts (variables_after [] t) v))

  occurs_has : (t : Term A) (v : ℕ) → Occurs v t → has (variables_after [] t) v ≡ true
  occurs_has t v o =
      let c : Contains (variables t) v = occurs_listed t v o in
      list_any_at (λ w. nat_eq w v) (variables t) c.0 v c.1 (eq-eqb (get_or (variables t) c.0 v) v c.2)

  -- each variable that stands in one of the terms is among their variables
  pub each_has : (ts : List (Term A)) (vs : List ℕ) → AllByRecursion (λ t. (v : ℕ) → Occurs v t → has (fold variables_after vs ts) v ≡ true) ts
  each_has [] vs = tt
  each_has (t ∷ ts) vs = (
    λ v o.
        has_fold ts (variables_after vs t) v
        ∙ ap (λ b. b || has (fold variables_after [] ts) v) (has_after vs t v ∙ or_true (has vs v) (has (variables_after [] t) v) (occurs_has t v o)),
    each_has ts (variables_after vs t),
  )

-- ---- those before stay in front

abbrev pub Begins : List ℕ → List ℕ → Type 0
Begins vs ws = (us : List ℕ) × (ws ≡ vs ++ us)

begins_more : (vs ws xs : List ℕ) → Begins vs ws → Begins ws xs → Begins vs xs
begins_more vs ws xs a b = (a.0 ++ b.0, b.1 ∙ ap (λ ys. ys ++ b.0) a.1 ∙ append_assoc vs a.0 b.0)

begins_with : (vs : List ℕ) (v : ℕ) → Begins vs (with_variable vs v)
begins_with vs v = by (has vs v)
  where
    by : (b : Bool) → Begins vs (cond b vs (vs ++ v ∷ []))
    by true = ([], sym (append-nil vs))
    by false = (v ∷ [], refl)

module _ {A : Type 0} where
  mutual
    begins_after : (vs : List ℕ) (t : Term A) → Begins vs (variables_after vs t)
    begins_after vs (Var v) = begins_with vs v
    begins_after vs (Number q) = ([], sym (append-nil vs))
    begins_after vs (Name a) = ([], sym (append-nil vs))
    begins_after vs (Compound f ts) = begins_in vs ts

    begins_in : (vs : List ℕ) (ts : Terms A) → Begins vs (variables_in vs ts)
    begins_in vs (one t) = begins_after vs t
    begins_in vs (more t ts) = begins_more vs (variables_after vs t) (variables_in (variables_after vs t) ts) (begins_after vs t) (begins_in (variables_after vs t) ts)

  pub begins_fold : (ts : List (Term A)) (vs : List ℕ) → Begins vs (fold variables_after vs ts)
  begins_fold [] vs = ([], sym (append-nil vs))
  begins_fold (t ∷ ts) vs = begins_more vs (variables_after vs t) (fold variables_after (variables_after vs t) ts) (begins_after vs t) (begins_fold ts (variables_after vs t))

-- ---- filters

pub filter_none : (p : ℕ → Bool) (vs : List ℕ) → ((v : ℕ) → has vs v ≡ true → p v ≡ false) → filter p vs ≡ []
filter_none p [] h = refl
filter_none p (v ∷ vs) h = ap (λ b. cond b (v ∷ filter p vs) (filter p vs)) (h v (has_here vs v)) ∙ filter_none p vs (λ w e. h w (has_later vs v w e))

pub filter_every : (p : ℕ → Bool) (vs : List ℕ) → ((v : ℕ) → has vs v ≡ true → p v ≡ true) → filter p vs ≡ vs
filter_every p [] h = refl
filter_every p (v ∷ vs) h =
    ap (λ b. cond b (v ∷ filter p vs) (filter p vs)) (h v (has_here vs v)) ∙ ap (λ ws. v ∷ ws) (filter_every p vs (λ w e. h w (has_later vs v w e)))

pub filter_alike : (p q : ℕ → Bool) (vs : List ℕ) → ((v : ℕ) → has vs v ≡ true → p v ≡ q v) → filter p vs ≡ filter q vs
filter_alike p q [] h = refl
filter_alike p q (v ∷ vs) h =
    ap₂ (λ b ws. cond b (v ∷ ws) ws) (h v (has_here vs v)) (filter_alike p q vs (λ w e. h w (has_later vs v w e)))

pub has_filtered : (p : ℕ → Bool) (vs : List ℕ) (v : ℕ) → has vs v ≡ true → p v ≡ true → has (filter p vs) v ≡ true
has_filtered p [] v e f = e
has_filtered p (u ∷ vs) v e f = by (nat_eq u v) refl e (λ h. has_filtered p vs v h f)
  where
    kept : (b : Bool) → has (filter p vs) v ≡ true → has (cond b (u ∷ filter p vs) (filter p vs)) v ≡ true
    kept true h = has_later (filter p vs) u v h
    kept false h = h

    by : (b : Bool) → nat_eq u v ≡ b → (b || has vs v) ≡ true → (has vs v ≡ true → has (filter p vs) v ≡ true) → has (cond (p u) (u ∷ filter p vs) (filter p vs)) v ≡ true
    by true g h rest =
        ap (λ b. has (cond b (u ∷ filter p vs) (filter p vs)) v) (ap p (nat_eq-same u v g) ∙ f)
        ∙ ap (λ b. b || has (filter p vs) v) g
    by false g h rest = kept (p u) (rest h)

-- ---- numbers that differ

pub not_both : (vs us : List ℕ) (x : ℕ) → AreDistinct (vs ++ us) → Has x vs → Has x us → ⊥
not_both [] us x d h k = h
not_both (v ∷ vs) us x d (inl e) k = d.0 (behind vs v (subst (λ w. Has w us) e k))
  where
    behind : (ws : List ℕ) (w : ℕ) → Has w us → Has w (ws ++ us)
    behind [] w h = h
    behind (y ∷ ws) w h = inr (behind ws w h)
not_both (v ∷ vs) us x d (inr h) k = not_both vs us x d.1 h k
