-- The names of quantities and their numbers.
use Rattle.std.proofs.Common.{◌≡◌, ℕ, zero, suc, ◌+◌, ◌<◌, ◌≤◌, List, [], ◌∷◌, ◌++◌, length, map, None, Some, Bool, true, false, nat_eq, arith, refl, ap, sym, subst, ◌∙◌, ◌⊎◌, inl, inr, slice_get}
use Rattle.spec_linear.specs.Solution.{Has}
use Rattle.spec_linear.specs.Echelon.{AreDistinct, InOrder}
use Rattle.cq_frac.specs.declared.VarId.{VarId}
use Rattle.cq_frac.specs.declared.row.Entry.{Entry}
use Rattle.cq_frac.specs.Rows.{choose, IsRowFrom, everywhere}
use Rattle.cq_frac.specs.Rows as row
use Rattle.cq_frac.proofs.Units.{same_number}
use Rattle.cq_dict.specs.declared.table.Role.{Role}
use Rattle.cq_dict.specs.Roles.{IsAt}
use Rattle.cq_equations.specs.declared.table.Name.{Name}
use Rattle.cq_equations.specs.declared.table.Name.TheVariants.{Variable, Member}
use Rattle.cq_equations.specs.Contents.{IsNamed, variables_of, place_of_variable, place_of_member, members_in}
use Rattle.spec_numbers.proofs.Tests.{nat_eq-self, nat_eq-apart}

-- ---- roles as reads of the list

pub get_at : (l : List Role) (i : ℕ) (s : Role) → slice_get l i ≡ Some s → IsAt l i s
get_at [] i s h = cc
get_at (x ∷ l) zero s h = let e : x ≡ s = cc in sym e
get_at (x ∷ l) (suc i) s h = get_at l i s h

pub at_get : (l : List Role) (i : ℕ) (s : Role) → IsAt l i s → slice_get l i ≡ Some s
at_get [] i s h = absurd h
at_get (x ∷ l) zero s h = ap Some (sym h)
at_get (x ∷ l) (suc i) s h = at_get l i s h

pub get_none : (l : List Role) (i : ℕ) → length l ≤ i → slice_get l i ≡ None
get_none [] i h = refl
get_none (x ∷ l) zero h = absurd (omega arith)
get_none (x ∷ l) (suc i) h = get_none l i (omega arith)

-- ---- the number of a variable

pub place_named : (names : List Name) (x : ℕ) → Has x (variables_of names) → (v : VarId) × IsNamed names (place_of_variable names x) v × (v.0 ≡ x)
place_named [] x h = absurd h
place_named (Member ∷ names) x h = let r = place_named names x h in (r.0, record { get = r.1.get }, r.2)
place_named (Variable v ∷ names) x h = go (λ k. place_named names x k) (nat_eq v.0 x) refl h
  where
    go : (Has x (variables_of names) → (w : VarId) × IsNamed names (place_of_variable names x) w × (w.0 ≡ x)) → (b : Bool) → nat_eq v.0 x ≡ b → (x ≡ v.0) ⊎ Has x (variables_of names) →
        (w : VarId) × IsNamed (Variable v ∷ names) (choose b 0 (suc (place_of_variable names x))) w × (w.0 ≡ x)
    go rest true e k = (v, record { get = refl }, same_number v.0 x e)
    go rest false e (inl w) = let f : nat_eq v.0 x ≡ true = subst (λ k. nat_eq v.0 k ≡ true) (sym w) (nat_eq-self v.0) in cc
    go rest false e (inr k) = let r = rest k in (r.0, record { get = r.1.get }, r.2)

pub place_below : (names : List Name) (x : ℕ) → Has x (variables_of names) → place_of_variable names x < length names
place_below [] x h = absurd h
place_below (Member ∷ names) x h = omega (arith, place_below names x h)
place_below (Variable v ∷ names) x h = go (λ k. place_below names x k) (nat_eq v.0 x) refl h
  where
    go : (Has x (variables_of names) → place_of_variable names x < length names) → (b : Bool) → nat_eq v.0 x ≡ b → (x ≡ v.0) ⊎ Has x (variables_of names) → choose b 0 (suc (place_of_variable names x)) < suc (length names)
    go rest true e k = omega arith
    go rest false e (inl w) = let f : nat_eq v.0 x ≡ true = subst (λ k. nat_eq v.0 k ≡ true) (sym w) (nat_eq-self v.0) in cc
    go rest false e (inr k) = omega (arith, rest k)

pub place_absent : (names : List Name) (x : ℕ) → (Has x (variables_of names) → ⊥) → place_of_variable names x ≡ length names
place_absent [] x h = refl
place_absent (Member ∷ names) x h = omega (arith, place_absent names x h)
place_absent (Variable v ∷ names) x h =
    ap (λ b. choose b 0 (suc (place_of_variable names x))) (nat_eq-apart v.0 x (λ e. h (inl (sym e))))
    ∙ ap suc (place_absent names x (λ k. h (inr k)))

pub has_or_not : (x : ℕ) (s : List ℕ) → Has x s ⊎ (Has x s → ⊥)
has_or_not x [] = inr (λ h. h)
has_or_not x (y ∷ s) = go (nat_eq x y) refl (has_or_not x s)
  where
    go : (b : Bool) → nat_eq x y ≡ b → Has x s ⊎ (Has x s → ⊥) → Has x (y ∷ s) ⊎ (Has x (y ∷ s) → ⊥)
    go true e r = inl (inl (same_number x y e))
    go false e (inl h) = inl (inr h)
    go false e (inr n) = inr (λ h. elim h [ inl w ↦ let f : nat_eq x y ≡ true = subst (λ k. nat_eq x k ≡ true) w (nat_eq-self x) in cc | inr k ↦ n k ])

pub named_has : (names : List Name) (n : ℕ) (v : VarId) → IsNamed names n v → Has v.0 (variables_of names)
named_has [] n v h = let e = h.get in cc
named_has (Variable w ∷ names) zero v h = let e = h.get in let f : w ≡ v = cc in inl (ap (λ (y : VarId). y.0) (sym f))
named_has (Member ∷ names) zero v h = let e = h.get in cc
named_has (Variable w ∷ names) (suc n) v h = inr (named_has names n v (record { get = h.get }))
named_has (Member ∷ names) (suc n) v h = named_has names n v (record { get = h.get })

-- where no variable has two numbers, a quantity that is a variable has the variable's number
pub named_place : (names : List Name) (n : ℕ) (v : VarId) → AreDistinct (variables_of names) → IsNamed names n v → place_of_variable names v.0 ≡ n
named_place [] n v d h = let e = h.get in cc
named_place (Member ∷ names) zero v d h = let e = h.get in cc
named_place (Member ∷ names) (suc n) v d h = ap suc (named_place names n v d (record { get = h.get }))
named_place (Variable w ∷ names) zero v d h = let e = h.get in let f : w ≡ v = cc in ap (λ b. choose b 0 (suc (place_of_variable names v.0))) (subst (λ (y : VarId). nat_eq w.0 y.0 ≡ true) f (nat_eq-self w.0))
named_place (Variable w ∷ names) (suc n) v d h =
    let k = named_has names n v (record { get = h.get }) in
    ap (λ b. choose b 0 (suc (place_of_variable names v.0))) (nat_eq-apart w.0 v.0 (λ e. d.0 (subst (λ y. Has y (variables_of names)) (sym e) k)))
    ∙ ap suc (named_place names n v d.1 (record { get = h.get }))

-- ---- more names

pub named_more : (l m : List Name) (n : ℕ) (v : VarId) → IsNamed l n v → IsNamed (l ++ m) n v
named_more [] m n v h = let e = h.get in cc
named_more (x ∷ l) m zero v h = record { get = h.get }
named_more (x ∷ l) m (suc n) v h = record { get = (named_more l m n v (record { get = h.get })).get }

pub named_last : (l : List Name) (v : VarId) → IsNamed (l ++ Variable v ∷ []) (length l) v
named_last [] v = record { get = refl }
named_last (x ∷ l) v = record { get = (named_last l v).get }

pub variables_of-append : (l m : List Name) → variables_of (l ++ m) ≡ variables_of l ++ variables_of m
variables_of-append [] m = refl
variables_of-append (Variable x ∷ l) m = ap (λ s. x.0 ∷ s) (variables_of-append l m)
variables_of-append (Member ∷ l) m = variables_of-append l m

pub place_more : (l m : List Name) (x : ℕ) → Has x (variables_of l) → place_of_variable (l ++ m) x ≡ place_of_variable l x
place_more [] m x h = absurd h
place_more (Member ∷ l) m x h = ap suc (place_more l m x h)
place_more (Variable v ∷ l) m x h = go (λ k. place_more l m x k) (nat_eq v.0 x) refl h
  where
    go : (Has x (variables_of l) → place_of_variable (l ++ m) x ≡ place_of_variable l x) → (b : Bool) → nat_eq v.0 x ≡ b → (x ≡ v.0) ⊎ Has x (variables_of l) → choose b 0 (suc (place_of_variable (l ++ m) x)) ≡ choose b 0 (suc (place_of_variable l x))
    go rest true e k = refl
    go rest false e (inl w) = let f : nat_eq v.0 x ≡ true = subst (λ k. nat_eq v.0 k ≡ true) (sym w) (nat_eq-self v.0) in cc
    go rest false e (inr k) = ap suc (rest k)

pub place_last : (l : List Name) (v : VarId) → (Has v.0 (variables_of l) → ⊥) → place_of_variable (l ++ Variable v ∷ []) v.0 ≡ length l
place_last [] v h = ap (λ b. choose b 0 1) (nat_eq-self v.0)
place_last (Member ∷ l) v h = ap suc (place_last l v h)
place_last (Variable w ∷ l) v h =
    ap (λ b. choose b 0 (suc (place_of_variable (l ++ Variable v ∷ []) v.0))) (nat_eq-apart w.0 v.0 (λ e. h (inl (sym e))))
    ∙ ap suc (place_last l v (λ k. h (inr k)))

pub member_more : (l m : List Name) (i : ℕ) → i < members_in l → place_of_member (l ++ m) i ≡ place_of_member l i
member_more [] m i h = absurd (omega arith)
member_more (Variable x ∷ l) m i h = ap suc (member_more l m i h)
member_more (Member ∷ l) m zero h = refl
member_more (Member ∷ l) m (suc i) h = ap suc (member_more l m i (omega arith))

pub member_last : (l : List Name) → place_of_member (l ++ Member ∷ []) (members_in l) ≡ length l
member_last [] = refl
member_last (Variable x ∷ l) = ap suc (member_last l)
member_last (Member ∷ l) = ap suc (member_last l)

pub members_in-append : (l m : List Name) → members_in (l ++ m) ≡ members_in l + members_in m
members_in-append [] m = omega arith
members_in-append (Variable x ∷ l) m = members_in-append l m
members_in-append (Member ∷ l) m = omega (arith, members_in-append l m)

-- ---- the order of a row's variables

-- each entry's quantity, counted from k on, is a variable, which has this number
abbrev pub AreVariables : (ℕ → ℕ) → ℕ → List Name → List Entry → Type 0
AreVariables f k names s = (m : Entry) → row.Has m s → (j : ℕ) × (m.quantity ≡ k + j) × ((v : VarId) × IsNamed names j v × (f m.quantity ≡ v.0))

abbrev pub numbers_by : (ℕ → ℕ) → List Entry → List ℕ
numbers_by f s = map (λ m. f m.quantity) s

above : (k : ℕ) (s : List Entry) → IsRowFrom everywhere k s → (m : Entry) → row.Has m s → k ≤ m.quantity
above k [] r m h = absurd h
above k (x ∷ s) r m (inl e) = omega (arith, r.0, ap (λ (y : Entry). y.quantity) e)
above k (x ∷ s) r m (inr h) = omega (arith, r.0, above (x.quantity + 1) s r.3 m h)

shorter : (f : ℕ → ℕ) (k : ℕ) (n : Name) (names : List Name) (s : List Entry) → IsRowFrom everywhere (k + 1) s → AreVariables f k (n ∷ names) s → AreVariables f (k + 1) names s
shorter f k n names s r a m h = go (a m h).0 (a m h)
  where
    go : (j : ℕ) → (i : ℕ) × (m.quantity ≡ k + i) × ((v : VarId) × IsNamed (n ∷ names) i v × (f m.quantity ≡ v.0)) → (j : ℕ) × (m.quantity ≡ (k + 1) + j) × ((v : VarId) × IsNamed names j v × (f m.quantity ≡ v.0))
    go j (zero, e, w) = let b = above (k + 1) s r m h in absurd (omega (arith, b, e))
    go j (suc i, e, w) = (i, omega (arith, e), (w.0, record { get = w.1.get }, w.2))

pub entries_in_order : (f : ℕ → ℕ) (k : ℕ) (names : List Name) (s : List Entry) → IsRowFrom everywhere k s → AreVariables f k names s → InOrder (variables_of names) (numbers_by f s)
entries_in_order f k names [] r a = done names
  where
    done : (names : List Name) → InOrder (variables_of names) []
    done [] = tt
    done (Variable x ∷ names) = tt
    done (Member ∷ names) = done names
entries_in_order f k [] (m ∷ s) r a = let w = a m (inl refl) in let e = w.2.1.get in cc
entries_in_order f k (n ∷ names) (m ∷ s) r a =
    go (a m (inl refl)).0 (a m (inl refl)) refl
    (λ q. entries_in_order f (k + 1) names s (rest_from q) (shorter f k n names s (rest_from q) (λ x h. a x (inr h))))
    (λ q. entries_in_order f (k + 1) names (m ∷ s) (all_from q) (shorter f k n names (m ∷ s) (all_from q) a))
  where
    rest_from : m.quantity ≡ k → IsRowFrom everywhere (k + 1) s
    rest_from e = subst (λ q. IsRowFrom everywhere (q + 1) s) e r.3

    all_from : k < m.quantity → IsRowFrom everywhere (k + 1) (m ∷ s)
    all_from h = (omega arith, r.1, r.2, r.3)

    first : (n : Name) (v : VarId) → IsNamed (n ∷ names) 0 v → f m.quantity ≡ v.0 → InOrder (variables_of names) (numbers_by f s) → InOrder (variables_of (n ∷ names)) (f m.quantity ∷ numbers_by f s)
    first (Variable w) v h e o = let g = h.get in let i : w ≡ v = cc in inl (e ∙ ap (λ (y : VarId). y.0) (sym i), o)
    first Member v h e o = let g = h.get in cc

    later : (n : Name) → InOrder (variables_of names) (f m.quantity ∷ numbers_by f s) → InOrder (variables_of (n ∷ names)) (f m.quantity ∷ numbers_by f s)
    later (Variable w) o = inr o
    later Member o = o

    go : (j : ℕ) (w : (j : ℕ) × (m.quantity ≡ k + j) × ((v : VarId) × IsNamed (n ∷ names) j v × (f m.quantity ≡ v.0))) → w.0 ≡ j → (m.quantity ≡ k → InOrder (variables_of names) (numbers_by f s)) →
        (k < m.quantity → InOrder (variables_of names) (f m.quantity ∷ numbers_by f s)) → InOrder (variables_of (n ∷ names)) (f m.quantity ∷ numbers_by f s)
    go zero w z here there = first n w.2.0 (subst (λ t. IsNamed (n ∷ names) t w.2.0) z w.2.1) w.2.2 (here (omega (arith, w.1, z)))
    go (suc j) w z here there = later n (there (omega (arith, w.1, z)))
