-- In the branch that is kept nothing is left to settle.
use Rattle.std.proofs.Common.{◌≡◌, ◌≤◌, ℕ, List, [], ◌∷◌, Bool, true, false, Option, None, Some, refl, sym, ap, ◌∙◌, subst, inl, inr, arith}
use Rattle.std.specs.Prelude.{if◌then◌else◌, ◌==◌, not}
use Rattle.std.specs.List.{AllByRecursion}
use Rattle.spec_numbers.specs.Rational.{ℚ}
use Rattle.spec_linear.specs.Solution.{Has, Fixed, Fixes, Solvable}
use Rattle.spec_numbers.specs.Texts.{Text}
use Rattle.spec_numbers.proofs.Tests.{nat_eq-same}
use Rattle.spec_terms.specs.Term.{Subst, Var, Number, Name, Compound, Occurs, apply}
use Rattle.spec_terms.proofs.Substitution.{apply-followed_by, occurs_from}
use Rattle.spec_syntax.specs.Trees.{Tree}
use Rattle.spec_branch.specs.Relations.{Waits, lin}
use Rattle.spec_branch.specs.Branch.{State, Pending, Sleeper}
use Rattle.spec_branch.specs.Alike.{no_values}
use Rattle.spec_branch.specs.Settling.{is_the_variable, is_bound, is_no_number, NoClash, fixed_values, value_or_variable, bindings_after, kept_branch, still_sleeps, state_of, left_asleep}
use Rattle.cq_term.specs.Meaning.{HeapTerm}
use Rattle.cq_settle.specs.Contents.{Contents}
use Rattle.cq_settle.specs.Rest.{IsReadThrough, IsAtRest}
use Rattle.cq_settle.specs.Underway.{IsUnderway, unified, numeric_then}
use Rattle.cq_settle.proofs.Bound.{lin_bound}
use Rattle.cq_settle.proofs.Closed.{all_wait, numeric_inside}
use Rattle.cq_settle.proofs.Numeric.{numeric_cases, numeric_below, numeric_image}

-- what a variable becomes
pub data Becomes (numeric : ℕ → Bool) (fixed : ℕ → Option ℚ) (v : ℕ) (t : Tree) : Type 0 where
  itself : t ≡ Var v → (numeric v ≡ true → fixed v ≡ None) → Becomes numeric fixed v t
  number : (q : ℚ) → t ≡ Number q → numeric v ≡ true → Becomes numeric fixed v t

becomes_value : (numeric : ℕ → Bool) (fixed : ℕ → Option ℚ) (v : ℕ) (o : Option ℚ) → fixed v ≡ o → numeric v ≡ true → Becomes numeric fixed v (value_or_variable o v)
becomes_value numeric fixed v None e n = itself refl (λ _. e)
becomes_value numeric fixed v (Some q) e n = number q refl n

becomes_by : (numeric : ℕ → Bool) (fixed : ℕ → Option ℚ) (v : ℕ) (b : Bool) → numeric v ≡ b → Becomes numeric fixed v (if b then value_or_variable (fixed v) v else Var v)
becomes_by numeric fixed v true e = becomes_value numeric fixed v (fixed v) refl e
becomes_by numeric fixed v false e = itself refl (λ n. let c : true ≡ false = sym n ∙ e in cc)

becomes : (numeric : ℕ → Bool) (fixed : ℕ → Option ℚ) (v : ℕ) → Becomes numeric fixed v (fixed_values numeric fixed v)
becomes numeric fixed v = becomes_by numeric fixed v (numeric v) refl

all_from : {P : Tree → Type 0} (ts : List Tree) → ((t : Tree) → Has t ts → P t) → AllByRecursion P ts
all_from [] f = tt
all_from (x ∷ ts) f = (f x (inl refl), all_from ts (λ t h. f t (inr h)))

module _ (texts : List Text) (older : List HeapTerm) (c : Contents) (st : State) (p : Pending) (u : Subst Text) (values : ℕ → Option ℚ) (waiting : List Tree) (all : List ℕ)
    (k : IsUnderway texts older c st p u values waiting [] [] [] [] all) (solvable : Solvable c.told) (fixed : ℕ → Option ℚ) (fixes : Fixes c.told fixed) where
  abbrev after : Subst Text
  after = bindings_after st p u fixed

  abbrev n : ℕ → Bool
  n = numeric_then st p u

  at_free : (v : ℕ) → unified st u v ≡ Var v → after v ≡ fixed_values n fixed v
  at_free v e = ap (apply (fixed_values n fixed)) e

  -- a variable of a term of values is one of the term
  from_value : (w x : ℕ) → Occurs w (fixed_values n fixed x) → w ≡ x
  from_value w x o = by_case (fixed_values n fixed x) (becomes n fixed x) o where
    by_case : (t : Tree) → Becomes n fixed x t → Occurs w t → w ≡ x
    by_case t (itself e f) o = let P : Tree → Type 0 = λ y. Occurs w y in subst P e o
    by_case t (number q e m) o = let P : Tree → Type 0 = λ y. Occurs w y in absurd (subst P e o)

  same_inside : (t : Tree) (w : ℕ) → Occurs w (apply (fixed_values n fixed) t) → Occurs w t
  same_inside t w o =
      let r = occurs_from (fixed_values n fixed) w t o in
      subst (λ (x : ℕ). Occurs x t) (sym (from_value w r.0 r.2)) r.1

  still_unbound : (w x : ℕ) → Occurs w (fixed_values n fixed x) → fixed_values n fixed w ≡ Var w
  still_unbound w x o = by_case (fixed_values n fixed x) refl (becomes n fixed x) o where
    by_case : (t : Tree) → fixed_values n fixed x ≡ t → Becomes n fixed x t → Occurs w t → fixed_values n fixed w ≡ Var w
    by_case t i (itself e f) o = let P : Tree → Type 0 = λ y. Occurs w y in let s : w ≡ x = subst P e o in
        ap (fixed_values n fixed) s ∙ i ∙ e ∙ ap (λ (y : ℕ). Var y) (sym s)
    by_case t i (number q e m) o = let P : Tree → Type 0 = λ y. Occurs w y in absurd (subst P e o)

  pub read_through : IsReadThrough (kept_branch [] st p u c.told waiting fixed).state
  read_through = record {
    through = λ v w o. let r = occurs_from (fixed_values n fixed) w (unified st u v) o in
        at_free w (k.here.task.read_through.through v w (same_inside (unified st u v) w o)) ∙ still_unbound w r.0 r.2;
    older = λ v w e. older_by v w e (unified st u v) refl;
    below = λ v w l o. k.here.task.read_through.below v w l (same_inside (unified st u v) w o);
    beyond = λ v l. at_free v (k.here.task.read_through.beyond v l) ∙ beyond_by v l (becomes n fixed v);
    numeric = λ v e. numeric_below st p u k.here.task v e;
  } where
    is_value : (x w : ℕ) (t : Tree) → Becomes n fixed x t → t ≡ Var w → x ≡ w
    is_value x w t (itself i f) e = let g : Var x ≡ Var w = sym i ∙ e in cc
    is_value x w t (number q i g) e = let h : Number q ≡ Var w = sym i ∙ e in cc

    older_by : (v w : ℕ) → after v ≡ Var w → (t : Tree) → unified st u v ≡ t → w ≤ v
    older_by v w e (Var x) i =
        let g : x ≡ w = is_value x w (fixed_values n fixed x) (becomes n fixed x) (ap (apply (fixed_values n fixed)) (sym i) ∙ e) in
        subst (λ (y : ℕ). y ≤ v) g (k.here.task.read_through.older v x i)
    older_by v w e (Number q) i = let h : Number q ≡ Var w = ap (apply (fixed_values n fixed)) (sym i) ∙ e in cc
    older_by v w e (Name a) i = let h : Name a ≡ Var w = ap (apply (fixed_values n fixed)) (sym i) ∙ e in cc
    older_by v w e (Compound f ts) i = let h : apply (fixed_values n fixed) (Compound f ts) ≡ Var w = ap (apply (fixed_values n fixed)) (sym i) ∙ e in cc

    beyond_by : (v : ℕ) → st.fresh ≤ v → Becomes n fixed v (fixed_values n fixed v) → fixed_values n fixed v ≡ Var v
    beyond_by v l (itself e f) = e
    beyond_by v l (number q e m) = absurd (omega (arith, l, numeric_below st p u k.here.task v m))

  -- ---- numeric variables

  value_is_no_clash : (v : ℕ) → is_no_number (fixed_values n fixed v) ≡ false
  value_is_no_clash v = by_case (fixed_values n fixed v) (becomes n fixed v) where
    by_case : (t : Tree) → Becomes n fixed v t → is_no_number t ≡ false
    by_case t (itself e f) = ap is_no_number e
    by_case t (number q e m) = ap is_no_number e

  no_clash_of : (t : Tree) → is_no_number t ≡ false → is_no_number (apply (fixed_values n fixed) t) ≡ false
  no_clash_of (Var w) e = value_is_no_clash w
  no_clash_of (Number q) e = refl
  no_clash_of (Name a) e = cc
  no_clash_of (Compound f ts) e = cc

  pub no_clash : NoClash (kept_branch [] st p u c.told waiting fixed).state after
  no_clash v e = elim (numeric_cases st p u k.here.task v e) [
    | inl m ↦ no_clash_of (unified st u v) (k.here.task.no_clash v m)
    | inr f ↦ (ap is_no_number (at_free v f.0) ∙ value_is_no_clash v)
  ]

  -- ---- what waits

  pub waits : (t : Tree) → Has t waiting → lin no_values (apply after t) ≡ Waits
  waits t h =
      ap (λ (x : Tree). lin no_values x) (apply-followed_by (unified st u) (fixed_values n fixed) t)
      ∙ lin_bound n fixed (apply (unified st u) t) (numeric_inside texts older c st p u values waiting all k solvable fixed fixes t h)
      ∙ all_wait texts older c st p u values waiting all k solvable fixed fixes t h

  pub waiting_numeric : (t : Tree) → Has t waiting → (v : ℕ) → Occurs v (apply after t) → n v ≡ true
  waiting_numeric t h v o =
      numeric_inside texts older c st p u values waiting all k solvable fixed fixes t h v
      (same_inside (apply (unified st u) t) v (subst (λ (x : Tree). Occurs v x) (apply-followed_by (unified st u) (fixed_values n fixed) t) o))

  pub all_waiting : AllByRecursion (λ t. lin no_values (apply after t) ≡ Waits) waiting
  all_waiting = all_from waiting waits

  pub all_numeric : AllByRecursion (λ t. (v : ℕ) → Occurs v (apply after t) → n v ≡ true) waiting
  all_numeric = all_from waiting waiting_numeric

  -- ---- numeric variables are bound where they are fixed, and to numeric ones

  value_bound : (v : ℕ) (q : ℚ) → n v ≡ true → fixed v ≡ Some q → (t : Tree) → Becomes n fixed v t → not (is_the_variable v t) ≡ true
  value_bound v q m e t (itself i f) = let c : None ≡ Some q = sym (f m) ∙ e in cc
  value_bound v q m e t (number r i g) = ap (λ (x : Tree). not (is_the_variable v x)) i

  other_bound : (v w : ℕ) → (w == v) ≡ false → (t : Tree) → Becomes n fixed w t → not (is_the_variable v t) ≡ true
  other_bound v w e t (itself i f) = ap (λ (x : Tree). not (is_the_variable v x)) i ∙ ap not e
  other_bound v w e t (number r i g) = ap (λ (x : Tree). not (is_the_variable v x)) i

  bound_variable : (v q' : ℕ) (q : ℚ) → n v ≡ true → Fixed c.told v q → unified st u v ≡ Var q' → (b : Bool) → (q' == v) ≡ b → is_bound after v ≡ true
  bound_variable v w q m f i true e =
      ap (λ (t : Tree). not (is_the_variable v t)) (at_free v (i ∙ ap (λ (x : ℕ). Var x) (nat_eq-same w v e)))
      ∙ value_bound v q m (fixes.complete v q f) (fixed_values n fixed v) (becomes n fixed v)
  bound_variable v w q m f i false e =
      ap (λ (t : Tree). not (is_the_variable v (apply (fixed_values n fixed) t))) i
      ∙ other_bound v w e (fixed_values n fixed w) (becomes n fixed w)

  bound_term : (v : ℕ) (q : ℚ) → n v ≡ true → Fixed c.told v q → (t : Tree) → unified st u v ≡ t → is_bound after v ≡ true
  bound_term v q m f (Var w) i = bound_variable v w q m f i (w == v) refl
  bound_term v q m f (Number r) i = ap (λ (t : Tree). not (is_the_variable v (apply (fixed_values n fixed) t))) i
  bound_term v q m f (Name a) i = ap (λ (t : Tree). not (is_the_variable v (apply (fixed_values n fixed) t))) i
  bound_term v q m f (Compound g ts) i = ap (λ (t : Tree). not (is_the_variable v (apply (fixed_values n fixed) t))) i

  pub fixed_bound : (v : ℕ) (q : ℚ) → n v ≡ true → Fixed c.told v q → is_bound after v ≡ true
  fixed_bound v q m f = bound_term v q m f (unified st u v) refl

  value_numeric : (x w : ℕ) → n x ≡ true → (t : Tree) → Becomes n fixed x t → t ≡ Var w → n w ≡ true
  value_numeric x w m t (itself i f) e = let s : Var x ≡ Var w = sym i ∙ e in let g : x ≡ w = cc in subst (λ (y : ℕ). n y ≡ true) g m
  value_numeric x w m t (number q i g) e = let s : Number q ≡ Var w = sym i ∙ e in cc

  image_term : (v w : ℕ) → st.numeric v ≡ true → after v ≡ Var w → (t : Tree) → unified st u v ≡ t → n w ≡ true
  image_term v w m e (Var x) i =
      value_numeric x w (numeric_image st p u k.here.task v x m i) (fixed_values n fixed x) (becomes n fixed x) (ap (apply (fixed_values n fixed)) (sym i) ∙ e)
  image_term v w m e (Number q) i = let s : Number q ≡ Var w = ap (apply (fixed_values n fixed)) (sym i) ∙ e in cc
  image_term v w m e (Name a) i = let s : Name a ≡ Var w = ap (apply (fixed_values n fixed)) (sym i) ∙ e in cc
  image_term v w m e (Compound f ts) i = let s : apply (fixed_values n fixed) (Compound f ts) ≡ Var w = ap (apply (fixed_values n fixed)) (sym i) ∙ e in cc

  pub images : (v w : ℕ) → n v ≡ true → after v ≡ Var w → n w ≡ true
  images v w m e = elim (numeric_cases st p u k.here.task v m) [
    | inl b ↦ image_term v w b e (unified st u v) refl
    | inr f ↦ value_numeric v w m (fixed_values n fixed v) (becomes n fixed v) (sym (at_free v f.0) ∙ e)
  ]

  -- ---- sleepers

  sleeping : (b : Bool) (z : Sleeper) (zs : List Sleeper) → b ≡ still_sleeps (state_of after z.asleep) → AllByRecursion (λ x. still_sleeps (state_of after x.asleep) ≡ true) zs
      → AllByRecursion (λ x. still_sleeps (state_of after x.asleep) ≡ true) (if b then z ∷ zs else zs)
  sleeping true z zs e h = (sym e, h)
  sleeping false z zs e h = h

  asleep : (zs : List Sleeper) → AllByRecursion (λ x. still_sleeps (state_of after x.asleep) ≡ true) (left_asleep after zs)
  asleep [] = tt
  asleep (z ∷ zs) = sleeping (still_sleeps (state_of after z.asleep)) z (left_asleep after zs) refl (asleep zs)

  pub rests : IsAtRest (kept_branch [] st p u c.told waiting fixed).state
  rests = record {
    read_through = read_through;
    solvable = solvable;
    fixed = fixed_bound;
    no_clash = no_clash;
    images = images;
    waiting = all_waiting;
    delayed = all_numeric;
    asleep = asleep st.sleepers;
  }
