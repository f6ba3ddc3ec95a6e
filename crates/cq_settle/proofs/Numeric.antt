-- Which variables are numeric in the middle of a settling.
use Rattle.std.proofs.Common.{◌≡◌, ◌<◌, ◌≤◌, ℕ, zero, suc, ◌+◌, List, [], ◌∷◌, Bool, true, false, cond, refl, sym, ap, ◌∙◌, subst, inl, inr, ◌⊎◌, arith}
use Rattle.std.specs.Prelude.{Contains, ◌==◌, ◌&&◌, ◌||◌, not, filter}
use Rattle.std.specs.List.{list_any}
use Rattle.spec_linear.specs.Solution.{Has}
use Rattle.spec_numbers.specs.Texts.{Text}
use Rattle.spec_numbers.proofs.Tests.{one_is, or_left, or_right, nat_eq-same, nat_eq-self}
use Rattle.spec_terms.specs.Term.{Subst, Var, Number, Name, Compound, Occurs, apply}
use Rattle.spec_terms.specs.Variables.{variables, counted_from}
use Rattle.spec_terms.proofs.Listed.{listed_occurs}
use Rattle.spec_terms.proofs.Substitution.{occurs_from}
use Rattle.spec_syntax.specs.Trees.{Tree}
use Rattle.spec_branch.specs.Branch.{State, Pending}
use Rattle.spec_branch.specs.Settling.{is_the_variable, is_bound, newly_bound, stands_in}
use Rattle.cq_attr.proofs.Elements.{contains_here, contains_later}
use Rattle.cq_settle.specs.Underway.{IsTask, unified, numeric_then}
use Rattle.cq_settle.proofs.Closed.{by_member}

-- ---- members

pub record Found {A : Type 0} (test : A → Bool) (xs : List A) : Type 0 where
  pub item : A
  pub among : Has item xs
  pub passes : test item ≡ true

pub found_any : {A : Type 0} (test : A → Bool) (xs : List A) → list_any test xs ≡ true → Found test xs
found_any test [] e = cc
found_any test (x ∷ xs) e =
    elim (one_is (test x) (list_any test xs) e) [
      | inl h ↦ record { item = x; among = inl refl; passes = h }
      | inr h ↦ (let r = found_any test xs h in record { item = r.item; among = inr r.among; passes = r.passes })
    ]

pub contains_of_has : {A : Type 0} (xs : List A) (x : A) → Has x xs → Contains xs x
contains_of_has [] x h = absurd h
contains_of_has (y ∷ xs) x (inl e) = contains_here y xs x (sym e)
contains_of_has (y ∷ xs) x (inr h) = contains_later y xs x (contains_of_has xs x h)

kept_or : {A : Type 0} (b : Bool) (x y : A) (xs : List A) → Has x (cond b (y ∷ xs) xs) → (x ≡ y) ⊎ Has x xs
kept_or true x y xs h = h
kept_or false x y xs h = inr h

pub has_unfiltered : {A : Type 0} (test : A → Bool) (xs : List A) (x : A) → Has x (filter test xs) → Has x xs
has_unfiltered test [] x h = absurd h
has_unfiltered test (y ∷ xs) x h =
    elim (kept_or (test y) x y (filter test xs) h) [ inl e ↦ inl e | inr m ↦ inr (has_unfiltered test xs x m) ]

pub has_counted : (n k x : ℕ) → Has x (counted_from n k) → (n ≤ x) × (x < n + k)
has_counted n zero x h = absurd h
has_counted n (suc k) x (inl e) = (omega (arith, e), omega (arith, e))
has_counted n (suc k) x (inr h) = let r = has_counted (suc n) k x h in (omega (arith, r.0), omega (arith, r.1))

pub newly_below : (st : State) (u : Subst Text) (x : ℕ) → Has x (newly_bound st u) → x < st.fresh
newly_below st u x h =
    let r = has_counted 0 st.fresh x (has_unfiltered (λ v. st.numeric v && not (is_bound st.bindings v) && is_bound u v) (counted_from 0 st.fresh) x h) in
    omega (arith, r.1)

-- ---- numeric variables

pub variable_from : (v : ℕ) (t : Tree) → is_the_variable v t ≡ true → t ≡ Var v
variable_from v (Var w) e = ap (λ (x : ℕ). Var x) (nat_eq-same w v e)
variable_from v (Number q) e = cc
variable_from v (Name a) e = cc
variable_from v (Compound f ts) e = cc

module _ (st : State) (p : Pending) (u : Subst Text) (k : IsTask st p u) where
  -- an image's variable is unbound, and below the next one
  abbrev pub IsFree : ℕ → Type 0
  IsFree v = (unified st u v ≡ Var v) × (v < st.fresh)

  of_image : (v w : ℕ) → Has w (newly_bound st u) → is_the_variable v (unified st u w) ≡ true → IsFree v
  of_image v w h e =
      let stands : Occurs v (unified st u w) = subst (λ (t : Tree). Occurs v t) (sym (variable_from v (unified st u w) e)) refl in
      (k.read_through.through w v stands, k.read_through.below w v (newly_below st u w h) stands)

  pub of_term : (t : Tree) (v : ℕ) → Occurs v (apply (unified st u) t) → unified st u v ≡ Var v
  of_term t v o = let r = occurs_from (unified st u) v t o in k.read_through.through r.0 v r.2

  of_told : (v : ℕ) → stands_in (unified st u) p.told v ≡ true → IsFree v
  of_told v e =
      let t = found_any (λ t. list_any (λ w. w == v) (variables (apply (unified st u) t))) p.told e in
      let w = found_any (λ w. w == v) (variables (apply (unified st u) t.item)) t.passes in
      let o : Occurs w.item (apply (unified st u) t.item) = listed_occurs (apply (unified st u) t.item) w.item (contains_of_has _ w.item w.among) in
      let o' : Occurs v (apply (unified st u) t.item) = subst (λ (x : ℕ). Occurs x (apply (unified st u) t.item)) (nat_eq-same w.item v w.passes) o in
      (of_term t.item v o', by_member _ p.told k.told_below t.item t.among v o')

  -- a numeric variable was so, or is unbound
  pub numeric_cases : (v : ℕ) → numeric_then st p u v ≡ true → (st.numeric v ≡ true) ⊎ IsFree v
  numeric_cases v e =
      elim (one_is (st.numeric v || list_any (λ w. is_the_variable v (unified st u w)) (newly_bound st u)) (stands_in (unified st u) p.told v) e) [
        | inl h ↦ (elim (one_is (st.numeric v) (list_any (λ w. is_the_variable v (unified st u w)) (newly_bound st u)) h) [
          | inl n ↦ inl n
          | inr i ↦ (let w = found_any (λ w. is_the_variable v (unified st u w)) (newly_bound st u) i in inr (of_image v w.item w.among w.passes))
        ])
        | inr s ↦ inr (of_told v s)
      ]

  pub numeric_below : (v : ℕ) → numeric_then st p u v ≡ true → v < st.fresh
  numeric_below v e = elim (numeric_cases v e) [ inl n ↦ k.read_through.numeric v n | inr f ↦ f.1 ]

-- ---- images of numeric variables

kept_in : {A : Type 0} (b : Bool) (x y : A) (xs : List A) → b ≡ true → x ≡ y → Has x (cond b (y ∷ xs) xs)
kept_in true x y xs e h = inl h
kept_in false x y xs e h = cc

later_in : {A : Type 0} (b : Bool) (x y : A) (xs : List A) → Has x xs → Has x (cond b (y ∷ xs) xs)
later_in true x y xs h = inr h
later_in false x y xs h = h

pub has_filtered : {A : Type 0} (test : A → Bool) (xs : List A) (x : A) → Has x xs → test x ≡ true → Has x (filter test xs)
has_filtered test [] x h e = absurd h
has_filtered test (y ∷ xs) x (inl i) e = kept_in (test y) x y (filter test xs) (ap test (sym i) ∙ e) i
has_filtered test (y ∷ xs) x (inr h) e = later_in (test y) x y (filter test xs) (has_filtered test xs x h e)

pub in_counted : (n k x : ℕ) → n ≤ x → x < n + k → Has x (counted_from n k)
in_counted n zero x l m = absurd (omega (arith, l, m))
in_counted n (suc k) x l m = elim (first_or n x l) [ inl e ↦ inl e | inr h ↦ inr (in_counted (suc n) k x h (omega (arith, m))) ] where
  first_or : (n x : ℕ) → n ≤ x → (x ≡ n) ⊎ (suc n ≤ x)
  first_or zero zero l = inl refl
  first_or zero (suc x) l = inr (omega arith)
  first_or (suc n) zero l = absurd (omega (arith, l))
  first_or (suc n) (suc x) l = elim (first_or n x (omega (arith, l))) [ inl e ↦ inl (ap suc e) | inr h ↦ inr (omega (arith, h)) ]

pub any_found : {A : Type 0} (test : A → Bool) (xs : List A) (x : A) → Has x xs → test x ≡ true → list_any test xs ≡ true
any_found test [] x h e = absurd h
any_found test (y ∷ xs) x (inl i) e = or_left (test y) (list_any test xs) (ap test (sym i) ∙ e)
any_found test (y ∷ xs) x (inr h) e = or_right (test y) (list_any test xs) (any_found test xs x h e)

pub variable_bound : (y : ℕ) (t : Tree) → not (is_the_variable y t) ≡ false → t ≡ Var y
variable_bound y t e = variable_from y t (turned (is_the_variable y t) e) where
  turned : (b : Bool) → not b ≡ false → b ≡ true
  turned true e = refl
  turned false e = cc

module _ (st : State) (p : Pending) (u : Subst Text) (k : IsTask st p u) where
  numeric_before : (x : ℕ) → st.numeric x ≡ true → numeric_then st p u x ≡ true
  numeric_before x e = or_left _ (stands_in (unified st u) p.told x) (or_left (st.numeric x) (list_any (λ w. is_the_variable x (unified st u w)) (newly_bound st u)) e)

  -- the image of a numeric variable that was unbound
  from_unbound : (y x : ℕ) → st.numeric y ≡ true → st.bindings y ≡ Var y → unified st u y ≡ Var x → (b : Bool) → is_bound u y ≡ b → numeric_then st p u x ≡ true
  from_unbound y x n e i false f =
      let a : Var x ≡ Var y = sym i ∙ ap (apply u) e ∙ variable_bound y (u y) f in
      let s : y ≡ x = cc in
      numeric_before x (subst (λ (z : ℕ). st.numeric z ≡ true) s n)
  from_unbound y x n e i true f =
      let test : ℕ → Bool = λ v. st.numeric v && not (is_bound st.bindings v) && is_bound u v in
      let unbound : not (is_bound st.bindings y) ≡ true = ap (λ (t : Tree). not (not (is_the_variable y t))) e ∙ ap (λ (b : Bool). not (not b)) (nat_eq-self y) in
      let passes : test y ≡ true = and_true (st.numeric y && not (is_bound st.bindings y)) (is_bound u y) (and_true (st.numeric y) (not (is_bound st.bindings y)) n unbound) f in
      let newly : Has y (newly_bound st u) = has_filtered test (counted_from 0 st.fresh) y (in_counted 0 st.fresh y (omega arith) (omega (arith, k.read_through.numeric y n))) passes in
      let here : is_the_variable x (unified st u y) ≡ true = ap (is_the_variable x) i ∙ nat_eq-self x in
      or_left _ (stands_in (unified st u) p.told x) (or_right (st.numeric x) _ (any_found (λ w. is_the_variable x (unified st u w)) (newly_bound st u) y newly here)) where
        and_true : (a b : Bool) → a ≡ true → b ≡ true → (a && b) ≡ true
        and_true true b e f = f
        and_true false b e f = cc

  by_image : (v x : ℕ) → st.numeric v ≡ true → unified st u v ≡ Var x → (t : Tree) → st.bindings v ≡ t → numeric_then st p u x ≡ true
  by_image v x n i (Var y) e =
      let unbound : st.bindings y ≡ Var y = k.rests.read_through.through v y (subst (λ (t : Tree). Occurs y t) (sym e) refl) in
      from_unbound y x (k.rests.images v y n e) unbound (ap (apply u) unbound ∙ ap (apply u) (sym e) ∙ i) (is_bound u y) refl
  by_image v x n i (Number q) e = let a : Number q ≡ Var x = ap (apply u) (sym e) ∙ i in cc
  by_image v x n i (Name a) e = let b : Name a ≡ Var x = ap (apply u) (sym e) ∙ i in cc
  by_image v x n i (Compound f ts) e = let b : apply u (Compound f ts) ≡ Var x = ap (apply u) (sym e) ∙ i in cc

  -- a variable that a numeric one became is numeric
  pub numeric_image : (v x : ℕ) → st.numeric v ≡ true → unified st u v ≡ Var x → numeric_then st p u x ≡ true
  numeric_image v x n i = by_image v x n i (st.bindings v) refl
