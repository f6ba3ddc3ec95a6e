-- Constraints that join one after another.
use Rattle.std.proofs.Common.{◌≡◌, ℕ, List, [], ◌∷◌, ◌++◌, Bool, true, false, Option, Some, refl, sym, ap, ◌∙◌, subst, inl, inr, ◌⊎◌, append_assoc}
use Rattle.std.specs.Prelude.{Contains, nat_eq}
use Rattle.std.proofs.lemmas.List.{map-append}
use Rattle.std.proofs.lemmas.List.Elements.{Contains-append_left, Contains-append_right}
use Rattle.spec_numbers.specs.Rational.{ℚ}
use Rattle.spec_linear.specs.Solution.{Constraint, Solvable, Fixed}
use Rattle.spec_linear.specs.Certificate.{Refutes}
use Rattle.spec_linear.proofs.Refutation.{refuted}
use Rattle.spec_numbers.proofs.Tests.{nat_eq-same, nat_eq-other}
use Rattle.cq_attr.proofs.Elements.{contains_here, contains_later, contains_cases, contains_none}
use Rattle.spec_terms.specs.Term.{Var}
use Rattle.cq_attr.specs.Attributes.{is_numeric}
use Rattle.cq_frac.specs.declared.VarId.{VarId}
use Rattle.cq_term.specs.Meaning.{at}
use Rattle.cq_settle.specs.Contents.{Contents}
use Rattle.cq_tableau.specs.Newly.{AreNewlyFixed}
use Rattle.cq_term.specs.Places.{numbers_of}
use Rattle.cq_settle.specs.Steps.{HaveJoined, StopsAt, CannotJoin, BindsValues, JoinsAndBinds}
use Rattle.cq_settle.proofs.Numeric.{contains_of_has}

-- whether a number is in a list
pub contains_or_not : (xs : List ℕ) (v : ℕ) → Contains xs v ⊎ (Contains xs v → ⊥)
contains_or_not [] v = inr (contains_none v)
contains_or_not (x ∷ xs) v = by_test (nat_eq x v) refl (contains_or_not xs v) where
  neither : (x ≡ v → ⊥) → (Contains xs v → ⊥) → (x ≡ v) ⊎ Contains xs v → ⊥
  neither f g (inl e) = f e
  neither f g (inr h) = g h

  by_test : (b : Bool) → nat_eq x v ≡ b → Contains xs v ⊎ (Contains xs v → ⊥) → Contains (x ∷ xs) v ⊎ (Contains (x ∷ xs) v → ⊥)
  by_test true e r = inl (contains_here x xs v (nat_eq-same x v e))
  by_test false e (inl h) = inl (contains_later x xs v h)
  by_test false e (inr g) = inr (λ h. neither (nat_eq-other x v e) g (contains_cases x xs v h))

pub numbers_behind : (xs ys : List VarId) → numbers_of (xs ++ ys) ≡ numbers_of xs ++ numbers_of ys
numbers_behind xs ys = map-append (λ (v : VarId). v.0) xs ys

-- what was told before is so still
pub told_ahead : (before more after : List VarId) → after ≡ before ++ more → (v : ℕ) → Contains (numbers_of before) v → Contains (numbers_of after) v
told_ahead before more after e v h =
    subst (λ (ns : List ℕ). Contains ns v) (sym (ap numbers_of e ∙ numbers_behind before more)) (Contains-append_left (numbers_of before) (numbers_of more) v h)

pub joins_nothing : (l : List Constraint) (fixed : List VarId) → HaveJoined l [] l fixed fixed
joins_nothing l fixed = record { list = nothing l; solvable = λ h. h; still = λ v h. h; told = λ v q f g. absurd (g q f) } where
  nothing : (xs : List Constraint) → xs ≡ xs ++ []
  nothing [] = refl
  nothing (x ∷ xs) = ap (λ (ys : List Constraint). x ∷ ys) (nothing xs)

pub one_joins : (old new : List Constraint) (c : Constraint) (before after more : List VarId) → Solvable new × (new ≡ old ++ c ∷ []) → AreNewlyFixed old new (numbers_of more)
    → after ≡ before ++ more → HaveJoined old (c ∷ []) new before after
one_joins old new c before after more k f e = record {
  list = k.1;
  solvable = λ h. k.0;
  still = λ v h. subst (λ (xs : List VarId). Contains (numbers_of xs) v) (sym e) (subst (λ (xs : List ℕ). Contains xs v) (sym (numbers_behind before more)) (Contains-append_left (numbers_of before) (numbers_of more) v h));
  told = λ v q h g. subst (λ (xs : List VarId). Contains (numbers_of xs) v) (sym e)
      (subst (λ (xs : List ℕ). Contains xs v) (sym (numbers_behind before more))
      (Contains-append_right (numbers_of before) (numbers_of more) v (contains_of_has (numbers_of more) v ((f.each v).1 (record { value = q; fixed = h; not_before = g })))));
}

pub one_more_joins : (old mid new more : List Constraint) (c : Constraint) (first before after : List VarId) → HaveJoined old more mid first before
    → HaveJoined mid (c ∷ []) new before after → HaveJoined old (more ++ c ∷ []) new first after
one_more_joins old mid new more c first before after j k = record {
  list = k.list ∙ ap (λ (xs : List Constraint). xs ++ c ∷ []) j.list ∙ append_assoc old more (c ∷ []);
  solvable = λ h. k.solvable (j.solvable h);
  still = λ v h. k.still v (j.still v h);
  told = λ v q f g. found v q f g (contains_or_not (numbers_of after) v);
} where
  found : (v : ℕ) (q : ℚ) → Fixed new v q → ((r : ℚ) → Fixed old v r → ⊥) → Contains (numbers_of after) v ⊎ (Contains (numbers_of after) v → ⊥) → Contains (numbers_of after) v
  found v q f g (inl h) = h
  found v q f g (inr n) = absurd (n (k.told v q f (λ r h. n (k.still v (j.told v r h g)))))

-- some of the constraints have joined, and the next one stops
pub stops_at : (P : List Constraint → Constraint → Type 0) (old mid done left all : List Constraint) (c : Constraint) (first before : List VarId)
    → HaveJoined old done mid first before → all ≡ done ++ c ∷ left → P mid c → StopsAt P old all
stops_at P old mid done left all c first before j e h = record { done = done; next = c; left = left; split = e; here = subst (λ (l : List Constraint). P l c) j.list h }

-- a certificate shows that the constraint cannot join
pub cannot_join : (l : List Constraint) (c : Constraint) (cert : List (ℕ × ℚ)) → Refutes cert (l ++ c ∷ []) → CannotJoin l c
cannot_join l c cert h = refuted cert (l ++ c ∷ []) h

-- and the numeric variables that it fixes and that were unbound are bound
pub joins_and_binds : (c d : Contents) (row : Constraint) (before after fixed : List VarId) (values : ℕ → Option ℚ) → Solvable d.told × (d.told ≡ c.told ++ row ∷ [])
    → AreNewlyFixed c.told d.told (numbers_of fixed) → d.attrs ≡ c.attrs → BindsValues c.attrs d.told c.heap d.heap before after values
    → ((v : ℕ) (q : ℚ) → Contains (numbers_of fixed) v → is_numeric c.attrs v ≡ true → at c.heap.images v ≡ Var v → Fixed d.told v q → values v ≡ Some q)
    → JoinsAndBinds c row d before after
joins_and_binds c d row before after fixed values k f a b complete = record {
  list = k.1;
  solvable = k.0;
  attrs = a;
  values = values;
  binds = b;
  complete = λ v q n u h g. complete v q (contains_of_has (numbers_of fixed) v ((f.each v).1 (record { value = q; fixed = h; not_before = g }))) n u h;
}
