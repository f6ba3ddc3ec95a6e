-- A constraint is met where its members are, and where one of its halves is.
use Rattle.std.proofs.Common.{◌||◌, is_some, ◌≡◌, ◌↔◌, ◌⊎◌, ℕ, List, [], ◌∷◌, ◌++◌, Bool, true, false, cond, Option, None, Some, refl, sym, ◌∙◌, subst, inl, inr}
use Rattle.std.specs.Prelude.{codes, ⊤}
use Rattle.std.specs.Cmp.Lexicographic.{bytes_decides}
use Rattle.std.specs.List.{AllByRecursion}
use Rattle.spec_numbers.specs.Rational.{ℚ}
use Rattle.spec_numbers.specs.Texts.{Text}
use Rattle.spec_terms.specs.Term.{Var, Number, Name, Compound, one, more}
use Rattle.spec_syntax.specs.Trees.{Tree, binary}
use Rattle.spec_builtins.specs.Errors.{type_error, or_error}
use Rattle.spec_branch.specs.Checks.{is_conjunction, is_disjunction, expression_error, constraint_error, members, Halves, in_conjunction, halves}
use Rattle.spec_branch.specs.Relations.{relation_name}
use Rattle.spec_branch.specs.Values.{value_of, SidesStand, IsTrueAt, Joined, IsMetAt}

-- ---- members

module _ {A : Type 0} (P : A → Type 0) where
  pub both_parts : (xs ys : List A) → AllByRecursion P (xs ++ ys) ↔ (AllByRecursion P xs × AllByRecursion P ys)
  both_parts [] ys = (λ h. (tt, h), λ h. h.1)
  both_parts (x ∷ xs) ys =
      let r : AllByRecursion P (xs ++ ys) ↔ (AllByRecursion P xs × AllByRecursion P ys) = both_parts xs ys in (
        λ h. ((h.0, (r.0 h.1).0), (r.0 h.1).1),
        λ h. (h.0.0, r.1 (h.0.1, h.1)),
      )

  alone : (x : A) → P x ↔ AllByRecursion P (x ∷ [])
  alone x = (λ h. (h, tt), λ h. h.0)

-- no name is both
one_name : (f : Text) → is_conjunction f ≡ true → is_disjunction f ≡ true → ⊥
one_name f c d =
    let e : codes "," ≡ codes ";" = sym ((bytes_decides f (codes ",")).0 c) ∙ (bytes_decides f (codes ";")).0 d in
    cc

module _ (a : ℕ → ℚ) where
  pub members_met : (t : Tree) → IsMetAt a t ↔ AllByRecursion (IsMetAt a) (members t)
  members_met (Var x) = alone (IsMetAt a) (Var x)
  members_met (Number q) = alone (IsMetAt a) (Number q)
  members_met (Name n) = alone (IsMetAt a) (Name n)
  members_met (Compound f (one t)) = alone (IsMetAt a) (Compound f (one t))
  members_met (Compound f (more t (one u))) = go (is_conjunction f) refl (members_met t) (members_met u)
    where
      go : (b : Bool) → is_conjunction f ≡ b → IsMetAt a t ↔ AllByRecursion (IsMetAt a) (members t)
          → IsMetAt a u ↔ AllByRecursion (IsMetAt a) (members u)
          → IsMetAt a (binary f t u) ↔ AllByRecursion (IsMetAt a) (cond b (members t ++ members u) (binary f t u ∷ []))
      go false e h k = alone (IsMetAt a) (binary f t u)
      go true e h k =
          subst (λ (b : Bool). Joined b (is_disjunction f) (IsMetAt a t) (IsMetAt a u) (SidesStand (relation_name f) (value_of a t) (value_of a u)) ↔ AllByRecursion (IsMetAt a) (members t ++ members u)) (sym e) (
            λ m. (both_parts (IsMetAt a) (members t) (members u)).1 (h.0 m.0, k.0 m.1),
            λ m. (let p = (both_parts (IsMetAt a) (members t) (members u)).0 m in (h.1 p.0, k.1 p.1)),
          )
  members_met (Compound f (more t (more u us))) = alone (IsMetAt a) (Compound f (more t (more u us)))

  -- ---- halves

  -- met where one of the halves is
  abbrev AreHalves : Type 0 → Option Halves → Type 0
  AreHalves T None = ⊤
  AreHalves T (Some h) = T ↔ (IsMetAt a h.left ⊎ IsMetAt a h.right)

  of_conjunction : (t u : Tree) (o p : Option Halves) → AreHalves (IsMetAt a t) o → AreHalves (IsMetAt a u) p
      → AreHalves (IsMetAt a t × IsMetAt a u) (in_conjunction t u o p)
  of_conjunction t u None None h k = tt
  of_conjunction t u None (Some y) h k = (
    λ m. elim (k.0 m.1) [ inl v ↦ inl (m.0, v) | inr v ↦ inr (m.0, v) ],
    λ m. elim m [ inl v ↦ (v.0, k.1 (inl v.1)) | inr v ↦ (v.0, k.1 (inr v.1)) ],
  )
  of_conjunction t u (Some x) p h k = (
    λ m. elim (h.0 m.0) [ inl v ↦ inl (v, m.1) | inr v ↦ inr (v, m.1) ],
    λ m. elim m [ inl v ↦ (h.1 (inl v.0), v.1) | inr v ↦ (h.1 (inr v.0), v.1) ],
  )

  by_name : (c d : Bool) (t u : Tree) (R : Type 0) (o p : Option Halves) → AreHalves (IsMetAt a t) o
      → AreHalves (IsMetAt a u) p
      → (c ≡ true → d ≡ true → ⊥)
      → AreHalves (Joined c d (IsMetAt a t) (IsMetAt a u) R) (cond d (Some (record { left = t; right = u })) (cond c (in_conjunction t u o p) None))
  by_name true true t u R o p h k n = absurd (n refl refl)
  by_name true false t u R o p h k n = of_conjunction t u o p h k
  by_name false true t u R o p h k n = (λ m. m, λ m. m)
  by_name false false t u R o p h k n = tt

  halves_are : (t : Tree) → AreHalves (IsMetAt a t) (halves t)
  halves_are (Var x) = tt
  halves_are (Number q) = tt
  halves_are (Name n) = tt
  halves_are (Compound f (one t)) = tt
  halves_are (Compound f (more t (one u))) =
      by_name (is_conjunction f) (is_disjunction f) t u (SidesStand (relation_name f) (value_of a t) (value_of a u)) (halves t) (halves u) (halves_are t) (halves_are u) (one_name f)
  halves_are (Compound f (more t (more u us))) = tt

  pub halves_met : (t : Tree) (h : Halves) → halves t ≡ Some h → IsMetAt a t ↔ (IsMetAt a h.left ⊎ IsMetAt a h.right)
  halves_met t h e = subst (AreHalves (IsMetAt a t)) e (halves_are t)

  -- ---- what is told

  -- what a lawful constraint without halves says is what its members say
  abbrev AllTrue : Tree → Type 0
  AllTrue t = IsMetAt a t ↔ AllByRecursion (IsTrueAt a) (members t)

  no_errors : (o p : Option Tree) → or_error o p ≡ None → (o ≡ None) × (p ≡ None)
  no_errors None p e = (refl, e)
  no_errors (Some x) p e = cc

  no_halves : (t u : Tree) (o p : Option Halves) → in_conjunction t u o p ≡ None → (o ≡ None) × (p ≡ None)
  no_halves t u None None e = (refl, refl)
  no_halves t u None (Some y) e = cc
  no_halves t u (Some x) p e = cc

  told_by : (f : Text) (t u : Tree) (c d : Bool) → is_conjunction f ≡ c → is_disjunction f ≡ d
      → (constraint_error t ≡ None → halves t ≡ None → AllTrue t)
      → (constraint_error u ≡ None → halves u ≡ None → AllTrue u)
      → cond (c || d) (or_error (constraint_error t) (constraint_error u)) (cond (is_some (relation_name f)) (or_error (expression_error t) (expression_error u)) (Some (type_error "constraint" (binary f t u)))) ≡ None
      → cond d (Some (record { left = t; right = u })) (cond c (in_conjunction t u (halves t) (halves u)) None) ≡ None
      → Joined c d (IsMetAt a t) (IsMetAt a u) (SidesStand (relation_name f) (value_of a t) (value_of a u)) ↔ AllByRecursion (IsTrueAt a) (cond c (members t ++ members u) (binary f t u ∷ []))
  told_by f t u c true i j h k e n = cc
  told_by f t u true false i j h k e n =
      let errors = no_errors (constraint_error t) (constraint_error u) e in
      let whole = no_halves t u (halves t) (halves u) n in
      let left = h errors.0 whole.0 in
      let right = k errors.1 whole.1 in
      let parts = both_parts (IsTrueAt a) (members t) (members u) in (
        λ m. parts.1 (left.0 m.0, right.0 m.1),
        λ m. (let p = parts.0 m in (left.1 p.0, right.1 p.1)),
      )
  told_by f t u false false i j h k e n = (λ m. (m, tt), λ m. m.0)

  pub members_true : (t : Tree) → constraint_error t ≡ None → halves t ≡ None → AllTrue t
  members_true (Var x) e n = cc
  members_true (Number q) e n = cc
  members_true (Name x) e n = cc
  members_true (Compound f (one t)) e n = cc
  members_true (Compound f (more t (one u))) e n =
      told_by f t u (is_conjunction f) (is_disjunction f) refl refl (members_true t) (members_true u) e n
  members_true (Compound f (more t (more u us))) e n = cc
