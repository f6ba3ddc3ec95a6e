-- Variables that are added one by one.
use Rattle.std.proofs.Common.{◌≡◌, ℕ, ◌+◌, ◌<◌, Bool, true, false, cond, ◌||◌, List, [], ◌∷◌, ◌++◌, length, take, get_or, map, nat_eq, refl, sym, ap, ◌∙◌, subst, inl, inr, append_assoc, append-nil}
use Rattle.std.specs.Prelude.{fold, ◌⊎◌}
use Rattle.std.specs.List.{list_any}
use Rattle.std.proofs.lemmas.List.{take_more, map-append}
use Rattle.std.proofs.lemmas.List.Folds.{list_any-append}
use Rattle.std.proofs.lemmas.List.Sums.{fold-append}
use Rattle.spec_numbers.proofs.Tests.{nat_eq-self, nat_eq-same, nat_eq-apart}
use Rattle.spec_linear.specs.Solution.{Has}
use Rattle.spec_linear.specs.Echelon.{AreDistinct}
use Rattle.spec_terms.specs.Term.{Term, Terms, Var, Number, Name, Compound, one, more, named}
use Rattle.spec_terms.specs.Variables.{with_variable, variables_after, variables_in, variables}
use Rattle.spec_terms.proofs.RenamedVariables.{variables_named}

abbrev pub with_all : List ℕ → List ℕ → List ℕ
with_all vs us = fold with_variable vs us

abbrev has : List ℕ → ℕ → Bool
has vs v = list_any (λ w. nat_eq w v) vs

-- ---- one more variable

still_there : (vs : List ℕ) (u v : ℕ) → has vs v ≡ true → has (with_variable vs u) v ≡ true
still_there vs u v e = by (has vs u)
  where
    by : (b : Bool) → has (cond b vs (vs ++ u ∷ [])) v ≡ true
    by true = e
    by false = list_any-append (λ w. nat_eq w v) vs (u ∷ []) ∙ ap (λ b. b || has (u ∷ []) v) e

or_self : (b c : Bool) → c ≡ true → (b || (c || false)) ≡ true
or_self true c e = refl
or_self false true e = refl
or_self false false e = e

is_there : (vs : List ℕ) (v : ℕ) → has (with_variable vs v) v ≡ true
is_there vs v = by (has vs v) refl
  where
    by : (b : Bool) → has vs v ≡ b → has (cond b vs (vs ++ v ∷ [])) v ≡ true
    by true e = e
    by false e = list_any-append (λ w. nat_eq w v) vs (v ∷ []) ∙ or_self (has vs v) (nat_eq v v) (nat_eq-self v)

all_there : (us vs : List ℕ) (v : ℕ) → has vs v ≡ true → has (with_all vs us) v ≡ true
all_there [] vs v e = e
all_there (u ∷ us) vs v e = all_there us (with_variable vs u) v (still_there vs u v e)

there : (us vs : List ℕ) (v : ℕ) → has us v ≡ true → has (with_all vs us) v ≡ true
there [] vs v e = let d : false ≡ true = e in cc
there (u ∷ us) vs v e = by (nat_eq u v) refl e (there us (with_variable vs u) v)
  where
    by : (b : Bool) → nat_eq u v ≡ b → (b || has us v) ≡ true → (has us v ≡ true → has (with_all (with_variable vs u) us) v ≡ true) → has (with_all (with_variable vs u) us) v ≡ true
    by true f h rest = all_there us (with_variable vs u) v (subst (λ w. has (with_variable vs u) w ≡ true) (nat_eq-same u v f) (is_there vs u))
    by false f h rest = rest h

-- ---- the variables of a term

with_more : (vs us : List ℕ) (v : ℕ) → with_all vs (with_variable us v) ≡ with_variable (with_all vs us) v
with_more vs us v = by (has us v) refl
  where
    by : (b : Bool) → has us v ≡ b → with_all vs (cond b us (us ++ v ∷ [])) ≡ with_variable (with_all vs us) v
    by true e = sym (ap (λ b. cond b (with_all vs us) (with_all vs us ++ v ∷ [])) (there us vs v e))
    by false e = fold-append with_variable vs us (v ∷ [])

module _ {A : Type 0} where
  mutual
    after_all : (vs us : List ℕ) (t : Term A) → with_all vs (variables_after us t) ≡ variables_after (with_all vs us) t
    after_all vs us (Var v) = with_more vs us v
    after_all vs us (Number q) = refl
    after_all vs us (Name a) = refl
    after_all vs us (Compound f ts) = in_all vs us ts

    in_all : (vs us : List ℕ) (ts : Terms A) → with_all vs (variables_in us ts) ≡ variables_in (with_all vs us) ts
    in_all vs us (one t) = after_all vs us t
    in_all vs us (more t ts) = in_all vs (variables_after us t) ts ∙ ap (λ ws. variables_in ws ts) (after_all vs us t)

-- the variables of a term, each in its turn, are those behind the ones before
pub all_of_term : {A B : Type 0} (f : A → B) (vs : List ℕ) (t : Term A) → with_all vs (variables t) ≡ variables_after vs (named f t)
all_of_term f vs t = ap (with_all vs) (sym (variables_named f t)) ∙ after_all vs [] (named f t)

-- the next of some variables
pub each_more : {A : Type 0} (f : A → ℕ) (vs : List ℕ) (xs : List A) (i : ℕ) (x : A) → i < length xs → x ≡ get_or xs i x →
    with_variable (with_all vs (map f (take i xs))) (f x) ≡ with_all vs (map f (take (i + 1) xs))
each_more f vs xs i x l e = sym (
    ap (λ ys. with_all vs (map f ys)) (take_more xs i x l ∙ ap (λ y. take i xs ++ y ∷ []) (sym e))
    ∙ ap (with_all vs) (map-append f (take i xs) (x ∷ []))
    ∙ fold-append with_variable vs (map f (take i xs)) (f x ∷ []))

-- ---- each once

absent : (vs : List ℕ) (v : ℕ) → (Has v vs → ⊥) → has vs v ≡ false
absent [] v n = refl
absent (w ∷ vs) v n = ap (λ b. b || has vs v) (nat_eq-apart w v (λ e. n (inl (sym e)))) ∙ absent vs v (λ h. n (inr h))

has_no : (vs : List ℕ) (v : ℕ) → has vs v ≡ false → Has v vs → ⊥
has_no [] v e h = h
has_no (w ∷ vs) v e (inl g) = let d : true ≡ false = ap (λ b. b || has vs v) (sym (subst (λ x. nat_eq w x ≡ true) (sym g) (nat_eq-self w))) ∙ e in cc
has_no (w ∷ vs) v e (inr h) = by (nat_eq w v) e (λ d. has_no vs v d h)
  where
    by : (b : Bool) → (b || has vs v) ≡ false → (has vs v ≡ false → ⊥) → ⊥
    by true d rest = let n : true ≡ false = d in cc
    by false d rest = rest d

has_pushed : (vs : List ℕ) (x v : ℕ) → Has x (vs ++ v ∷ []) → Has x vs ⊎ (x ≡ v)
has_pushed [] x v (inl e) = inr e
has_pushed [] x v (inr h) = absurd h
has_pushed (w ∷ vs) x v (inl e) = inl (inl e)
has_pushed (w ∷ vs) x v (inr h) = elim (has_pushed vs x v h) [ inl k ↦ inl (inr k) | inr e ↦ inr e ]

distinct_push : (vs : List ℕ) (v : ℕ) → AreDistinct vs → (Has v vs → ⊥) → AreDistinct (vs ++ v ∷ [])
distinct_push [] v d n = (λ h. h, d)
distinct_push (w ∷ vs) v d n = (λ h. elim (has_pushed vs w v h) [ inl k ↦ d.0 k | inr e ↦ n (inl (sym e)) ], distinct_push vs v d.1 (λ h. n (inr h)))

distinct_with : (vs : List ℕ) (v : ℕ) → AreDistinct vs → AreDistinct (with_variable vs v)
distinct_with vs v d = by (has vs v) refl
  where
    by : (b : Bool) → has vs v ≡ b → AreDistinct (cond b vs (vs ++ v ∷ []))
    by true e = d
    by false e = distinct_push vs v d (has_no vs v e)

module _ {A : Type 0} where
  mutual
    distinct_after : (vs : List ℕ) (t : Term A) → AreDistinct vs → AreDistinct (variables_after vs t)
    distinct_after vs (Var v) d = distinct_with vs v d
    distinct_after vs (Number q) d = d
    distinct_after vs (Name a) d = d
    distinct_after vs (Compound f ts) d = distinct_in vs ts d

    distinct_in : (vs : List ℕ) (ts : Terms A) → AreDistinct vs → AreDistinct (variables_in vs ts)
    distinct_in vs (one t) d = distinct_after vs t d
    distinct_in vs (more t ts) d = distinct_in (variables_after vs t) ts (distinct_after vs t d)

  pub distinct_terms : (ts : List (Term A)) (vs : List ℕ) → AreDistinct vs → AreDistinct (fold variables_after vs ts)
  distinct_terms [] vs d = d
  distinct_terms (t ∷ ts) vs d = distinct_terms ts (variables_after vs t) (distinct_after vs t d)

has_behind : (vs us : List ℕ) (x : ℕ) → Has x us → Has x (vs ++ us)
has_behind [] us x h = h
has_behind (v ∷ vs) us x h = inr (has_behind vs us x h)

not_before : (vs us : List ℕ) (x : ℕ) → AreDistinct (vs ++ x ∷ us) → Has x vs → ⊥
not_before [] us x d h = h
not_before (v ∷ vs) us x d (inl e) = d.0 (has_behind vs (x ∷ us) v (inl (sym e)))
not_before (v ∷ vs) us x d (inr h) = not_before vs us x d.1 h

-- variables that differ, added in their order
all_pushed : (us vs : List ℕ) → AreDistinct (vs ++ us) → with_all vs us ≡ vs ++ us
all_pushed [] vs d = sym (append-nil vs)
all_pushed (u ∷ us) vs d =
    let step : with_variable vs u ≡ vs ++ u ∷ [] = ap (λ b. cond b vs (vs ++ u ∷ [])) (absent vs u (not_before vs us u d)) in
    ap (λ ws. with_all ws us) step
    ∙ all_pushed us (vs ++ u ∷ []) (subst AreDistinct (sym (append_assoc vs (u ∷ []) us)) d)
    ∙ append_assoc vs (u ∷ []) us

pub all_distinct : (us : List ℕ) → AreDistinct us → with_all [] us ≡ us
all_distinct us d = all_pushed us [] d

-- variables of terms, behind those that were added first
pub found_all : {A : Type 0} (numbers before first second third : List ℕ) (ts us ws : List (Term A)) → AreDistinct numbers → before ≡ with_all [] numbers →
    first ≡ fold variables_after before ts → second ≡ fold variables_after first us → third ≡ fold variables_after second ws → third ≡ fold variables_after numbers (ts ++ us ++ ws)
found_all numbers before first second third ts us ws d b e f g =
    g
    ∙ ap (λ vs. fold variables_after vs ws) (f ∙ ap (λ vs. fold variables_after vs us) (e ∙ ap (λ vs. fold variables_after vs ts) (b ∙ all_distinct numbers d)))
    ∙ ap (λ vs. fold variables_after vs ws) (sym (fold-append variables_after numbers ts us))
    ∙ sym (fold-append variables_after numbers (ts ++ us) ws)
