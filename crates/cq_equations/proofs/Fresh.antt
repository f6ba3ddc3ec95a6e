-- The new variables of a form become known one by one.
use Rattle.std.proofs.Common.{◌≡◌, ℕ, zero, suc, ◌+◌, ◌<◌, ◌≤◌, List, [], ◌∷◌, ◌++◌, length, take, get_or, slice_get, Option, None, Some, Bool, true, false, not, nat_eq, cond, arith, refl, ap, ap₂, sym, subst, ◌∙◌, ◌⊎◌, inl, inr}
use Rattle.std.specs.Prelude.{MatchOption, is_some}
use Rattle.std.specs.List.{list_any}
use Rattle.std.proofs.lemmas.List.{take_more}
use Rattle.spec_numbers.specs.Rational.{ℚ}
use Rattle.spec_numbers.specs.Sums.{Monomial, Mentions}
use Rattle.spec_linear.specs.Form.{Linear, IsSumFrom}
use Rattle.spec_linear.specs.Solution.{Has}
use Rattle.spec_linear.proofs.Denominators.{has_left, has_right}
use Rattle.spec_simplex.specs.LimitsDictionary.{Quantity, variable}
use Rattle.spec_linear.specs.Echelon.{variables}
use Rattle.cq_frac.specs.declared.VarId.{VarId}
use Rattle.cq_form.specs.Entries.{products_of}
use Rattle.cq_frac.specs.declared.row.Entry.{Entry}
use Rattle.cq_frac.specs.Rows as row
use Rattle.cq_dict.specs.Roles.{IsAt}
use Rattle.cq_dict.proofs.Roles.{at_last}
use Rattle.cq_equations.proofs.Names.{place_below}
use Rattle.cq_dict.specs.declared.table.Role.TheVariants.{Live, Basic}
use Rattle.cq_equations.specs.declared.table.Name.TheVariants.{Variable}
use Rattle.cq_equations.specs.Describes.{placed}
use Rattle.cq_equations.specs.Contents.{Named, AreNamed, variables_of, place_of}
use Rattle.cq_equations.specs.Told.{new_variables}
use Rattle.cq_equations.specs.Entering.{AddsVariables, none_added, one_added, AddsMember}
use Rattle.cq_equations.proofs.Telling.{fresh, is_among, among_is, has_fresh, fresh_or_old, variables-mention, added_order}
use Rattle.spec_numbers.proofs.Places.{take-next}
use Rattle.spec_linear.proofs.Orders.{mentions-has}

-- ---- tests of options

pub none_of : {A : Type 0} (o : Option A) (P : Type 0) (Q : A → Type 0) (b : Bool) → MatchOption o P Q → is_some o ≡ not b → b ≡ true → P
none_of None P Q b h e t = h
none_of (Some x) P Q b h e t = let f : true ≡ false = e ∙ ap not t in cc

pub some_of : {A : Type 0} (o : Option A) (P : Type 0) (Q : A → Type 0) (b : Bool) → MatchOption o P Q → is_some o ≡ not b → b ≡ false → (x : A) × Q x
some_of None P Q b h e t = let f : false ≡ true = e ∙ ap not t in cc
some_of (Some x) P Q b h e t = (x, h)

-- ---- the products of a list of entries

products-end : (s : List Entry) (p : Entry) → products_of (s ++ p ∷ []) ≡ products_of s ++ record { variable = p.quantity; factor = p.factor } ∷ []
products-end [] p = refl
products-end (q ∷ s) p = ap (λ t. record { variable = q.quantity; factor = q.factor } ∷ t) (products-end s p)

placed-end : (place : Quantity → ℕ) (s : List Monomial) (m : Monomial) → placed place (s ++ m ∷ []) ≡ placed place s ++ record { quantity = place (variable m.variable); factor = m.factor } ∷ []
placed-end place [] m = refl
placed-end place (n ∷ s) m = ap (λ t. record { quantity = place (variable n.variable); factor = n.factor } ∷ t) (placed-end place s m)

pub placed_more : (place : Quantity → ℕ) (s : List Entry) (i : ℕ) (p : Entry) → i < length s → p ≡ get_or s i p →
    placed place (products_of (take (i + 1) s)) ≡ placed place (products_of (take i s)) ++ record { quantity = place (variable p.quantity); factor = p.factor } ∷ []
placed_more place s i p l e = ap (λ t. placed place (products_of t)) (take-next s i p l e) ∙ ap (placed place) (products-end (take i s) p) ∙ placed-end place (products_of (take i s)) (record { variable = p.quantity; factor = p.factor })

pub mention_at : (s : List Entry) (i : ℕ) (p : Entry) → i < length s → p ≡ get_or s i p → Mentions p.quantity (products_of s)
mention_at [] i p l e = absurd (omega arith)
mention_at (q ∷ s) zero p l e = inl (ap (λ (z : Entry). z.quantity) e)
mention_at (q ∷ s) (suc i) p l e = inr (mention_at s i p (omega arith) e)

at_least : (low : ℕ) (s : List Entry) (i : ℕ) (p : Entry) → IsSumFrom low (products_of s) → i < length s → p ≡ get_or s i p → low ≤ p.quantity
at_least low [] i p f l e = absurd (omega arith)
at_least low (q ∷ s) zero p f l e = omega (arith, f.0, ap (λ (z : Entry). z.quantity) e)
at_least low (q ∷ s) (suc i) p f l e = omega (arith, f.0, at_least (suc q.quantity) s i p f.2 (omega arith) e)

-- no variable comes twice
not_earlier : (low : ℕ) (s : List Entry) (i : ℕ) (p : Entry) → IsSumFrom low (products_of s) → i < length s → p ≡ get_or s i p → Has p.quantity (variables (products_of (take i s))) → ⊥
not_earlier low [] i p f l e h = absurd (omega arith)
not_earlier low (q ∷ s) zero p f l e h = h
not_earlier low (q ∷ s) (suc i) p f l e (inl w) = omega (arith, at_least (suc q.quantity) s i p f.2 (omega arith) e, w)
not_earlier low (q ∷ s) (suc i) p f l e (inr h) = not_earlier (suc q.quantity) s i p f.2 (omega arith) e h

variables-end : (s : List Monomial) (m : Monomial) → variables (s ++ m ∷ []) ≡ variables s ++ m.variable ∷ []
variables-end [] m = refl
variables-end (n ∷ s) m = ap (λ t. n.variable ∷ t) (variables-end s m)

variables_more : (s : List Entry) (i : ℕ) (p : Entry) → i < length s → p ≡ get_or s i p → variables (products_of (take (i + 1) s)) ≡ variables (products_of (take i s)) ++ p.quantity ∷ []
variables_more s i p l e = ap (λ t. variables (products_of t)) (take-next s i p l e) ∙ ap variables (products-end (take i s) p) ∙ variables-end (products_of (take i s)) (record { variable = p.quantity; factor = p.factor })

fresh-new : (order xs : List ℕ) (x : ℕ) → (Has x order → ⊥) → fresh order (xs ++ x ∷ []) ≡ fresh order xs ++ x ∷ []
fresh-new order [] x n = last (list_any (nat_eq x) order) (λ e. n (among_is x order e))
  where
    last : (b : Bool) → (b ≡ true → ⊥) → cond (not b) (x ∷ []) [] ≡ x ∷ []
    last true h = absurd (h refl)
    last false h = refl
fresh-new order (y ∷ xs) x n = go (list_any (nat_eq y) order) (fresh-new order xs x n)
  where
    go : (b : Bool) → fresh order (xs ++ x ∷ []) ≡ fresh order xs ++ x ∷ [] → cond (not b) (y ∷ fresh order (xs ++ x ∷ [])) (fresh order (xs ++ x ∷ [])) ≡ cond (not b) (y ∷ fresh order xs) (fresh order xs) ++ x ∷ []
    go true e = e
    go false e = ap (λ t. y ∷ t) e

fresh-old : (order xs : List ℕ) (x : ℕ) → Has x order → fresh order (xs ++ x ∷ []) ≡ fresh order xs
fresh-old order [] x h = ap (λ b. cond (not b) (x ∷ []) []) (is_among x order h)
fresh-old order (y ∷ xs) x h = go (list_any (nat_eq y) order) (fresh-old order xs x h)
  where
    go : (b : Bool) → fresh order (xs ++ x ∷ []) ≡ fresh order xs → cond (not b) (y ∷ fresh order (xs ++ x ∷ [])) (fresh order (xs ++ x ∷ [])) ≡ cond (not b) (y ∷ fresh order xs) (fresh order xs)
    go true e = e
    go false e = ap (λ t. y ∷ t) e

pub has_split : (x : ℕ) (s t : List ℕ) → Has x (s ++ t) → Has x s ⊎ Has x t
has_split x [] t h = inr h
has_split x (y ∷ s) t (inl e) = inl (inl e)
has_split x (y ∷ s) t (inr h) = elim (has_split x s t h) [ inl k ↦ inl (inr k) | inr k ↦ inr k ]

-- ---- the loop

abbrev pub AddsFirst : Named → List Entry → ℕ → Named → Type 0
AddsFirst old s i new = AddsVariables old (fresh (variables_of old.names) (variables (products_of (take i s)))) new

pub adds_new : (old mid : Named) (s : List Entry) (i : ℕ) (p : Entry) → i < length s → p ≡ get_or s i p → AddsFirst old s i mid → (Has p.quantity (variables_of mid.names) → ⊥) →
    (new : Named) → new.names ≡ mid.names ++ Variable (record { 0 = p.quantity }) ∷ [] → new.roles ≡ mid.roles ++ Live ∷ [] → AddsFirst old s (i + 1) new
adds_new old mid s i p l e a n new en es =
    let none : Has p.quantity (variables_of old.names) → ⊥ = λ h. n (subst (Has p.quantity) (sym (added_order old mid _ a)) (has_left p.quantity (variables_of old.names) (fresh (variables_of old.names) (variables (products_of (take i s)))) h)) in
    subst (λ xs. AddsVariables old xs new) (sym (ap (fresh (variables_of old.names)) (variables_more s i p l e) ∙ fresh-new (variables_of old.names) (variables (products_of (take i s))) p.quantity none))
    (subst (AddsVariables old (fresh (variables_of old.names) (variables (products_of (take i s))) ++ p.quantity ∷ [])) (sym (ap₂ (λ x y. record { names = x; roles = y }) en es)) (one_added (fresh (variables_of old.names) (variables (products_of (take i s)))) mid a (record { 0 = p.quantity }) n))

pub adds_old : (old mid : Named) (s : List Entry) (i : ℕ) (p : Entry) → i < length s → p ≡ get_or s i p → IsSumFrom 0 (products_of s) → AddsFirst old s i mid → Has p.quantity (variables_of mid.names) → AddsFirst old s (i + 1) mid
adds_old old mid s i p l e f a h =
    elim (has_split p.quantity (variables_of old.names) (fresh (variables_of old.names) (variables (products_of (take i s)))) (subst (Has p.quantity) (added_order old mid _ a) h)) [
      | inl k ↦ subst (λ xs. AddsVariables old xs mid) (sym (ap (fresh (variables_of old.names)) (variables_more s i p l e) ∙ fresh-old (variables_of old.names) (variables (products_of (take i s))) p.quantity k)) a
      | inr k ↦ absurd (not_earlier 0 s i p f l e (has_fresh (variables_of old.names) (variables (products_of (take i s))) p.quantity k).0)
    ]

pub adds_none : (old : Named) → AddsVariables old [] old
adds_none old = none_added

-- ---- what is known after it

pub known_after : (old known : Named) (f : Linear) → AddsVariables old (new_variables (variables_of old.names) f) known → (x : ℕ) → Mentions x f.products → Has x (variables_of known.names)
known_after old known f a x m =
    subst (Has x) (sym (added_order old known _ a))
    (elim (fresh_or_old (variables_of old.names) (variables f.products) x (mentions-has x f.products m)) [
      | inl k ↦ has_left x (variables_of old.names) (new_variables (variables_of old.names) f) k
      | inr k ↦ has_right x (variables_of old.names) (new_variables (variables_of old.names) f) k
    ])

pub old_known : (old known : Named) (f : Linear) → AddsVariables old (new_variables (variables_of old.names) f) known → (x : ℕ) → Has x (variables_of old.names) → Has x (variables_of known.names)
old_known old known f a x h = subst (Has x) (sym (added_order old known _ a)) (has_left x (variables_of old.names) (new_variables (variables_of old.names) f) h)

pub known_before : (old known : Named) (f : Linear) → AddsVariables old (new_variables (variables_of old.names) f) known → (x : ℕ) → Has x (variables_of known.names) → Mentions x f.products ⊎ Has x (variables_of old.names)
known_before old known f a x h =
    elim (has_split x (variables_of old.names) (new_variables (variables_of old.names) f) (subst (Has x) (added_order old known _ a) h)) [
      | inl k ↦ inr k
      | inr k ↦ inl (variables-mention x f.products (has_fresh (variables_of old.names) (variables f.products) x k).0)
    ]

-- ---- the row of the form

pub last_row : (known asked : Named) (f : Linear) (m : AddsMember known f asked) (n : ℕ) → n ≡ length known.roles → IsAt asked.roles n (Basic m.row)
last_row known asked f m n e = subst (λ k. IsAt asked.roles k (Basic m.row)) (sym e) (subst (λ z. IsAt z (length known.roles) (Basic m.row)) (sym m.roles) (at_last known.roles (Basic m.row)))

pub first_of : (s : List Entry) (m : Entry) → slice_get s 0 ≡ Some m → (rest : List Entry) × (s ≡ m ∷ rest)
first_of [] m e = cc
first_of (n ∷ s) m e = let f : n ≡ m = cc in (s, ap (λ z. z ∷ s) f)

pub none_first : (s : List Entry) → slice_get s 0 ≡ None → s ≡ []
none_first [] e = refl
none_first (n ∷ s) e = cc

placed_place : (place : Quantity → ℕ) (s : List Monomial) (m : Entry) → row.Has m (placed place s) → (x : ℕ) × Mentions x s × (m.quantity ≡ place (variable x))
placed_place place [] m h = absurd h
placed_place place (n ∷ s) m (inl e) = (n.variable, inl refl, ap (λ (z : Entry). z.quantity) e)
placed_place place (n ∷ s) m (inr h) = let r = placed_place place s m h in (r.0, inr r.1, r.2)

pub placed_below : (t : Named) → AreNamed t → (s : List Monomial) → ((x : ℕ) → Mentions x s → Has x (variables_of t.names)) → (m : Entry) → row.Has m (placed (place_of t.names) s) → m.quantity < length t.roles
placed_below t a s known m h = let r = placed_place (place_of t.names) s m h in omega (arith, r.2, place_below t.names r.0 (known r.0 r.1), a.size)
