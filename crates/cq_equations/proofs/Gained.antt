-- The variables that an equation fixes.
use Rattle.std.proofs.Common.{◌≡◌, ℕ, List, [], ◌∷◌, ◌++◌, Option, None, Some, Bool, true, false, cond, refl, ap, ap₂, sym, subst, ◌∙◌, ◌⊎◌, inl, inr, append-nil}
use Rattle.std.specs.Prelude.{filter, is_none, is_some, MatchOption}
use Rattle.spec_numbers.specs.Rational.{ℚ}
use Rattle.spec_linear.specs.Form.{Linear, IsForm}
use Rattle.spec_linear.specs.Solution.{Constraint, Has, Fixed, Solvable, Unsolvable}
use Rattle.spec_simplex.specs.Overflow.{Makes}
use Rattle.spec_linear.specs.Echelon.{AreDistinct}
use Rattle.spec_linear.specs.SolvedForm.{NotFixed}
use Rattle.cq_frac.specs.declared.Operation.{Operation}
use Rattle.cq_frac.specs.declared.VarId.{VarId}
use Rattle.cq_dict.specs.declared.table.Role.TheVariants.{Basic}
use Rattle.cq_equations.specs.declared.table.Name.TheVariants.{Member}
use Rattle.spec_linear.specs.declared.Relation.TheVariants.{Eq}
use Rattle.std.specs.Prelude.{IsErrAnd}
use Rattle.std.proofs.Common.{Result, Err}
use Rattle.cq_frac.specs.declared.Pair.{Pair}
use Rattle.cq_frac.specs.declared.Refusal.{Refusal}
use Rattle.cq_frac.specs.declared.Refusal.TheVariants as of_refusal
use Rattle.cq_equations.specs.declared.store.StoreFault.{StoreFault}
use Rattle.cq_equations.specs.declared.store.StoreFault.TheVariants.{Overflow}
use Rattle.cq_equations.specs.Faults.{IsStoreFault}
use Rattle.cq_equations.specs.Describes.{with_equation}
use Rattle.cq_equations.specs.Contents.{Named, AreNamed, IsStored, variables_of, variable_forms, solved_in, number_in}
use Rattle.cq_equations.specs.Told.{numbers_of, AreNewlyFixed, new_variables, CallMakes, while_asked}
use Rattle.cq_equations.specs.Entering.{AddsMember, AreGained, TakesEquation, IsRefused, EnteringPair, in_form, in_exchange}
use Rattle.cq_equations.proofs.Names.{has_or_not, variables_of-append}
use Rattle.cq_equations.proofs.Causes.{at_work}
use Rattle.cq_equations.proofs.Values.{value_is}
use Rattle.cq_equations.proofs.Places.{unknown_unsolved}
use Rattle.cq_equations.proofs.Keep.{solved_more}
use Rattle.cq_equations.proofs.Telling.{added_stored, added_order, adding_makes, exchanging_makes, joins_stored, contradicts_unsolvable}
use Rattle.cq_equations.proofs.Fresh.{known_after, old_known, known_before}
use Rattle.cq_equations.proofs.Solved.{solved_form}
use Rattle.spec_linear.proofs.Solving.{solvable}
use Rattle.cq_frac.specs.Refused.{IsRefused as Refuses}

-- ---- filtered lists

has_filtered : (p : ℕ → Bool) (s : List ℕ) (x : ℕ) → Has x (filter p s) → Has x s × (p x ≡ true)
has_filtered p [] x h = absurd h
has_filtered p (y ∷ s) x h = go (p y) refl (λ k. has_filtered p s x k) h
  where
    go : (b : Bool) → p y ≡ b → (Has x (filter p s) → Has x s × (p x ≡ true)) → Has x (cond b (y ∷ filter p s) (filter p s)) → Has x (y ∷ s) × (p x ≡ true)
    go true e rest (inl w) = (inl w, ap p w ∙ e)
    go true e rest (inr k) = let r = rest k in (inr r.0, r.1)
    go false e rest k = let r = rest k in (inr r.0, r.1)

filtered_has : (p : ℕ → Bool) (s : List ℕ) (x : ℕ) → Has x s → p x ≡ true → Has x (filter p s)
filtered_has p [] x h e = h
filtered_has p (y ∷ s) x h e = go (p y) refl (λ k. filtered_has p s x k e) h
  where
    go : (b : Bool) → p y ≡ b → (Has x s → Has x (filter p s)) → (x ≡ y) ⊎ Has x s → Has x (cond b (y ∷ filter p s) (filter p s))
    go true f rest (inl w) = inl w
    go true f rest (inr k) = inr (rest k)
    go false f rest (inl w) = let t : p y ≡ true = ap p (sym w) ∙ e in cc
    go false f rest (inr k) = rest k

distinct_filtered : (p : ℕ → Bool) (s : List ℕ) → AreDistinct s → AreDistinct (filter p s)
distinct_filtered p [] d = tt
distinct_filtered p (y ∷ s) d = go (p y) (distinct_filtered p s d.1)
  where
    go : (b : Bool) → AreDistinct (filter p s) → AreDistinct (cond b (y ∷ filter p s) (filter p s))
    go true r = ((λ h. d.0 (has_filtered p s y h).0), r)
    go false r = r

numbers-filter : (p : ℕ → Bool) (s : List VarId) → numbers_of (filter (λ v. p v.0) s) ≡ filter p (numbers_of s)
numbers-filter p [] = refl
numbers-filter p (v ∷ s) = go (p v.0) (numbers-filter p s)
  where
    go : (b : Bool) → numbers_of (filter (λ v. p v.0) s) ≡ filter p (numbers_of s) → numbers_of (cond b (v ∷ filter (λ v. p v.0) s) (filter (λ v. p v.0) s)) ≡ cond b (v.0 ∷ filter p (numbers_of s)) (filter p (numbers_of s))
    go true e = ap (λ t. v.0 ∷ t) e
    go false e = e

is_none-true : {A : Type 0} (o : Option A) → is_none o ≡ true → o ≡ None
is_none-true None e = refl
is_none-true (Some x) e = cc

is_some-true : {A : Type 0} (o : Option A) → is_some o ≡ true → (x : A) × (o ≡ Some x)
is_some-true None e = cc
is_some-true (Some x) e = (x, refl)

filter_agrees : (p q : ℕ → Bool) (s : List ℕ) → ((x : ℕ) → Has x s → p x ≡ q x) → filter p s ≡ filter q s
filter_agrees p q [] h = refl
filter_agrees p q (y ∷ s) h = ap₂ (λ b t. cond b (y ∷ t) t) (h y (inl refl)) (filter_agrees p q s (λ x k. h x (inr k)))

-- the form's row gives no known variable a number
same_known : (known asked : Named) (f : Linear) → AreNamed known → AddsMember known f asked → (x : ℕ) → Has x (variables_of known.names) → solved_in asked x ≡ solved_in known x
same_known known asked f a m x h = ap (λ t. solved_in t x) (ap₂ (λ n z. record { names = n; roles = z }) m.names m.roles) ∙ solved_more known a (Member ∷ []) (Basic m.row ∷ []) x h

pub known_rest : (known asked : Named) (f : Linear) → AreNamed known → AddsMember known f asked → (rest : List ℕ) → rest ≡ filter (λ x. is_none (number_in (solved_in asked x))) (variables_of asked.names) →
    rest ≡ filter (λ x. is_none (number_in (solved_in known x))) (variables_of known.names)
known_rest known asked f a m rest e =
    e ∙ ap (filter (λ x. is_none (number_in (solved_in asked x)))) (ap variables_of m.names ∙ variables_of-append known.names (Member ∷ []) ∙ append-nil (variables_of known.names))
    ∙ filter_agrees (λ x. is_none (number_in (solved_in asked x))) (λ x. is_none (number_in (solved_in known x))) (variables_of known.names) (λ x h. ap (λ o. is_none (number_in o)) (same_known known asked f a m x h))

-- ---- what is gained

pub gained_by : (known new : Named) → AreDistinct (variables_of known.names) → (rest fixed : List VarId) → numbers_of rest ≡ filter (λ x. is_none (number_in (solved_in known x))) (variables_of known.names) →
    fixed ≡ filter (λ v. is_some (number_in (solved_in new v.0))) rest → AreGained known new (numbers_of fixed)
gained_by known new d rest fixed e f =
    let g : numbers_of fixed ≡ filter (λ x. is_some (number_in (solved_in new x))) (filter (λ x. is_none (number_in (solved_in known x))) (variables_of known.names)) =
    ap numbers_of f ∙ numbers-filter (λ x. is_some (number_in (solved_in new x))) rest ∙ ap (filter (λ x. is_some (number_in (solved_in new x)))) e in
    subst (AreGained known new) (sym g)
    (record {
      once = distinct_filtered _ _ (distinct_filtered _ _ d);
      gained = λ x h. is_some-true (number_in (solved_in new x)) (has_filtered (λ x. is_some (number_in (solved_in new x))) _ x h).1;
      before = λ x h. is_none-true (number_in (solved_in known x)) (has_filtered (λ x. is_none (number_in (solved_in known x))) (variables_of known.names) x (has_filtered (λ x. is_some (number_in (solved_in new x))) _ x h).0).1;
      each = λ x q h n s.
          filtered_has (λ x. is_some (number_in (solved_in new x))) _ x (filtered_has (λ x. is_none (number_in (solved_in known x))) (variables_of known.names) x h (ap is_none n)) (ap is_some s);
    })

pub none_gained : (known new : Named) (f : Linear) → AreNamed known → AddsMember known f new → AreGained known new []
none_gained known new f a m = record {
  once = tt;
  gained = λ x h. absurd h;
  before = λ x h. absurd h;
  each = λ x q h n s.
      let e : solved_in new x ≡ solved_in known x = same_known known new f a m x h in
      let w = sym n ∙ ap number_in (sym e) ∙ s in cc;
}

-- ---- what telling it says

module _ (l : List Constraint) (old : Named) (s : IsStored l old) (f : Linear) where
  pub entered_stored : (fixed : List ℕ) (new : Named) → TakesEquation old f fixed new → IsStored (with_equation l f) new
  entered_stored fixed new e =
      (joins_stored l e.known (added_stored l old e.known (new_variables (variables_of old.names) f) s e.adds) f (known_after old e.known f e.adds) new e.joins).0

  pub entered_order : (fixed : List ℕ) (new : Named) → TakesEquation old f fixed new → variables_of new.names ≡ variables_of old.names ++ new_variables (variables_of old.names) f
  entered_order fixed new e =
      (joins_stored l e.known (added_stored l old e.known (new_variables (variables_of old.names) f) s e.adds) f (known_after old e.known f e.adds) new e.joins).1
      ∙ added_order old e.known (new_variables (variables_of old.names) f) e.adds

  pub newly_fixed : (fixed : List ℕ) (new : Named) → TakesEquation old f fixed new → AreNewlyFixed l (with_equation l f) fixed
  newly_fixed fixed new e = record {
    once = e.gained.once;
    fixed = λ x h. let q = e.gained.gained x h in (q.0, subst (λ o. MatchOption o (NotFixed (with_equation l f) x) (λ q. Fixed (with_equation l f) x q)) q.1 (new_value x));
    before = λ x h. subst (λ o. MatchOption o (NotFixed l x) (λ q. Fixed l x q)) (e.gained.before x h) (old_value x);
    each = λ x q h n. by_values x q h n (number_in (solved_in e.known x)) refl (number_in (solved_in new x)) refl (has_or_not x (variables_of e.known.names));
  }
    where
      known_stored : IsStored l e.known
      known_stored = added_stored l old e.known (new_variables (variables_of old.names) f) s e.adds

      joined : IsStored (with_equation l f) new × (variables_of new.names ≡ variables_of e.known.names)
      joined = joins_stored l e.known known_stored f (known_after old e.known f e.adds) new e.joins

      new_value : (x : ℕ) → MatchOption (number_in (solved_in new x)) (NotFixed (with_equation l f) x) (λ q. Fixed (with_equation l f) x q)
      new_value x = value_is (with_equation l f) new joined.0 x

      old_value : (x : ℕ) → MatchOption (number_in (solved_in e.known x)) (NotFixed l x) (λ q. Fixed l x q)
      old_value x = value_is l e.known known_stored x

      by_values : (x : ℕ) (q : ℚ) → Fixed (with_equation l f) x q → NotFixed l x → (o : Option ℚ) → number_in (solved_in e.known x) ≡ o → (p : Option ℚ) → number_in (solved_in new x) ≡ p →
          Has x (variables_of e.known.names) ⊎ (Has x (variables_of e.known.names) → ⊥) → Has x fixed
      by_values x q h n (Some r) eo p ep k = absurd (n r (subst (λ o. MatchOption o (NotFixed l x) (λ q. Fixed l x q)) eo (old_value x)))
      by_values x q h n None eo None ep k = let z : NotFixed (with_equation l f) x = subst (λ o. MatchOption o (NotFixed (with_equation l f) x) (λ q. Fixed (with_equation l f) x q)) ep (new_value x) in absurd (z q h)
      by_values x q h n None eo (Some r) ep (inl k) = e.gained.each x r k eo ep
      by_values x q h n None eo (Some r) ep (inr k) =
          let z : solved_in new x ≡ None = unknown_unsolved new joined.0.named x (λ m. k (subst (Has x) joined.1 m)) in
          let w = sym (ap number_in z) ∙ ep in cc

  pub refused_unsolvable : IsRefused old f → Unsolvable (with_equation l f)
  refused_unsolvable r =
      contradicts_unsolvable l r.known (added_stored l old r.known (new_variables (variables_of old.names) f) s r.adds) f (known_after old r.known f r.adds) r.contradicts

  pub meets_due : IsForm f → {o : Operation} {a b : ℚ} → EnteringPair old f o a b → Makes (at_work l (f ∷ variable_forms (variables_of old.names))) o a b
  meets_due ordered (in_form known adds p) =
      adding_makes l known (added_stored l old known (new_variables (variables_of old.names) f) s adds) f (known_after old known f adds) (variables_of old.names) (old_known old known f adds) (known_before old known f adds) ordered _ _ _ p
  meets_due ordered (in_exchange known asked adds member column p) =
      exchanging_makes l known (added_stored l old known (new_variables (variables_of old.names) f) s adds) f (known_after old known f adds) (variables_of old.names) (old_known old known f adds) (known_before old known f adds) asked member column _ _ _ p

-- an equation is what its form says
equation_is : (c : Constraint) → c.relation ≡ Eq → (l : List Constraint) → with_equation l c.form ≡ l ++ c ∷ []
equation_is c e l = ap (λ r. l ++ record { relation = r; form = c.form } ∷ []) (sym e)

-- a fault that was handed on
pub fault_of : {A : Type 0} (r : Result A StoreFault) (fault : Refusal) → IsErrAnd r (IsStoreFault fault) → (pair : Pair) → r ≡ Err (Overflow pair) → fault ≡ of_refusal.Overflow pair
fault_of r fault h pair e = go fault (subst (λ z. IsErrAnd z (IsStoreFault fault)) e h)
  where
    go : (fault : Refusal) → IsStoreFault fault (Overflow pair) → fault ≡ of_refusal.Overflow pair
    go (of_refusal.Overflow p) w = let f : pair ≡ p = cc in ap of_refusal.Overflow (sym f)
    go of_refusal.NoMemory w = cc

-- ---- what it says of the told list

module _ (l : List Constraint) (old : Named) (s : IsStored l old) (c : Constraint) (is : c.relation ≡ Eq) (f : Linear) (f_is : f ≡ c.form) where
  list_is : with_equation l f ≡ l ++ c ∷ []
  list_is = ap (with_equation l) f_is ∙ equation_is c is l

  module _ (fixed : List ℕ) (new : Named) (e : TakesEquation old f fixed new) (told : List Constraint) (told_is : told ≡ l ++ c ∷ []) where
    pub told_stored : IsStored told new
    told_stored = subst (λ m. IsStored m new) (list_is ∙ sym told_is) (entered_stored l old s f fixed new e)

    pub told_fixed : AreNewlyFixed l told fixed
    told_fixed = subst (λ m. AreNewlyFixed l m fixed) (list_is ∙ sym told_is) (newly_fixed l old s f fixed new e)

    pub told_order : variables_of new.names ≡ variables_of old.names ++ new_variables (variables_of old.names) c.form
    told_order = entered_order l old s f fixed new e ∙ ap (λ g. variables_of old.names ++ new_variables (variables_of old.names) g) f_is

    pub told_solvable : Solvable told
    told_solvable = solvable (variables_of new.names) told (solved_in new) (solved_form told new told_stored)

  pub told_unsolvable : IsRefused old f → Unsolvable (l ++ c ∷ [])
  told_unsolvable r = subst Unsolvable list_is (refused_unsolvable l old s f r)

  pub call_makes : IsForm f → (pair : Pair) → EnteringPair old f pair.operation pair.left pair.right → Refuses pair → CallMakes l (variables_of old.names) c pair
  call_makes ordered pair m r =
      while_asked (record { made = subst (λ g. Makes (at_work l (g ∷ variable_forms (variables_of old.names))) pair.operation pair.left pair.right) f_is (meets_due l old s f ordered m); refused = r })

-- an error at another type of answers
pub moved_err : {A B E : Type 0} (x y : E) → ◌≡◌ {A = Result A E} (Err x) (Err y) → ◌≡◌ {A = Result B E} (Err x) (Err y)
moved_err x y e = let f : x ≡ y = cc in ap Err f
