-- A variable eliminated from equations: a form of the other variables takes its place.
use Rattle.std.proofs.Common.{◌≡◌, ◌≢◌, ◌↔◌, ◌⊎◌, ℕ, List, [], ◌∷◌, map, Bool, true, false, cond, arith, pos, refl, ap, ap₂, sym, subst, ◌∙◌, inl, inr}
use Rattle.std.specs.Prelude.{◌==◌, ⊤}
use Rattle.spec_numbers.specs.Rational.{ℚ, 0ℚ, 1ℚ, ◌+ℚ◌, ◌*ℚ◌, ◌-ℚ◌, inv_ℚ}
use Rattle.spec_numbers.specs.Sums.{sum_at, when, unit, factor_of}
use Rattle.spec_numbers.proofs.Ring.{var, int, ◌⊕◌, ◌⊗◌, minus}
use Rattle.spec_numbers.proofs.RationalLemmas.{ring}
use Rattle.spec_numbers.proofs.Sign.{zero_or_not, times_inverse}
use Rattle.spec_numbers.proofs.Sums.{sum_at-plus, sum_at-times, sum_at-agrees, factor_of-is}
use Rattle.spec_linear.specs.Form.{Linear, value_at, variable_form, scaled_form, difference_form, substituted_form, changed_at}
use Rattle.spec_linear.specs.Solution.{Constraint, Meets, AreEquations, Satisfies, Has, MentionsOnly, equal_zero}
use Rattle.spec_linear.proofs.Values.{value_at-variable_form, value_at-scaled_form, value_at-difference_form, value_at-substituted_form}
use Rattle.spec_numbers.proofs.Tests.{nat_eq-same}
use Rattle.spec_linear.proofs.Denominators.{satisfies_agrees}
use Rattle.spec_linear.specs.Echelon.{AreDistinct}
use Rattle.spec_linear.proofs.Filled.{value_at-agrees}
use Rattle.spec_linear.proofs.Listed.{DependsOn, listed_form, listed-mentions, value_at-listed_form}

-- ---- another value of one variable

changed-there : (a : ℕ → ℚ) (v x : ℕ) (q : ℚ) → x ≡ v → changed_at v q a x ≡ q
changed-there a v x q e = let same : (v == x) ≡ true = grind arith in ap (λ (b : Bool). cond b q (a x)) same

changed-nothing : (a : ℕ → ℚ) (v : ℕ) (q : ℚ) → a v ≡ q → (x : ℕ) → changed_at v q a x ≡ a x
changed-nothing a v q e x = go (v == x) refl
  where
    go : (b : Bool) → (v == x) ≡ b → cond b q (a x) ≡ a x
    go true w = sym e ∙ ap a (nat_eq-same v x w)
    go false w = refl

-- where two assignments agree on the order, they do with the same change on one variable more
changed-alike : (v : ℕ) (order : List ℕ) (a b : ℕ → ℚ) (p q : ℚ) → p ≡ q → ((x : ℕ) → Has x order → a x ≡ b x) → (x : ℕ) → Has x (v ∷ order) → changed_at v p a x ≡ changed_at v q b x
changed-alike v order a b p q e h x k = go (v == x) refl k
  where
    go : (c : Bool) → (v == x) ≡ c → Has x (v ∷ order) → cond c p (a x) ≡ cond c q (b x)
    go true w k = e
    go false w (inl s) = absurd (grind arith)
    go false w (inr i) = h x i

-- a form changes by its factor
changed-value : (a : ℕ → ℚ) (v : ℕ) (q : ℚ) (f : Linear) → value_at (changed_at v q a) f ≡ value_at a f +ℚ factor_of v f.products *ℚ (q -ℚ a v)
changed-value a v q f =
    ap (λ r. f.constant +ℚ r)
    (sum_at-agrees (changed_at v q a) (λ x. a x +ℚ (q -ℚ a v) *ℚ unit v x) f.products (λ x m. at x (v == x) refl)
    ∙ sum_at-plus a (λ x. (q -ℚ a v) *ℚ unit v x) f.products
    ∙ ap (λ r. sum_at a f.products +ℚ r) (sum_at-times (q -ℚ a v) (unit v) f.products ∙ ap (λ r. (q -ℚ a v) *ℚ r) (sym (factor_of-is v f.products))))
    ∙ ring (f.constant ∷ sum_at a f.products ∷ (q -ℚ a v) ∷ factor_of v f.products ∷ []) (var 0 ⊕ (var 1 ⊕ var 2 ⊗ var 3)) ((var 0 ⊕ var 1) ⊕ var 3 ⊗ var 2) refl
  where
    at : (x : ℕ) (b : Bool) → (v == x) ≡ b → cond b q (a x) ≡ a x +ℚ (q -ℚ a v) *ℚ when b 1ℚ
    at x true w =
        ring (q ∷ a v ∷ []) (var 0) (var 1 ⊕ (var 0 ⊕ minus (var 1)) ⊗ int (pos 1)) refl
        ∙ ap (λ r. r +ℚ (q -ℚ a v) *ℚ 1ℚ) (ap a (nat_eq-same v x w))
    at x false w = ring (a x ∷ (q -ℚ a v) ∷ []) (var 0) (var 0 ⊕ var 1 ⊗ int (pos 0)) refl

-- ---- an equation solved for a variable

-- what v is where the form is zero
abbrev pub isolated : ℕ → Linear → Linear
isolated v f = difference_form (variable_form v) (scaled_form (inv_ℚ (factor_of v f.products)) f)

module _ (v : ℕ) (f : Linear) (n : factor_of v f.products ≢ 0ℚ) where
  abbrev k : ℚ
  k = factor_of v f.products

  value_at-isolated : (a : ℕ → ℚ) → value_at a (isolated v f) ≡ a v -ℚ inv_ℚ k *ℚ value_at a f
  value_at-isolated a =
      value_at-difference_form a (variable_form v) (scaled_form (inv_ℚ k) f)
      ∙ ap₂ (λ p q. p -ℚ q) (value_at-variable_form a v) (value_at-scaled_form a (inv_ℚ k) f)

  pub zero-solves : (a : ℕ → ℚ) → value_at a f ≡ 0ℚ → a v ≡ value_at a (isolated v f)
  zero-solves a e =
      ring (a v ∷ inv_ℚ k ∷ []) (var 0) (var 0 ⊕ minus (var 1 ⊗ int (pos 0))) refl
      ∙ ap (λ q. a v -ℚ inv_ℚ k *ℚ q) (sym e) ∙ sym (value_at-isolated a)

  -- what is solved for is not in the form
  unchanged : (a : ℕ → ℚ) (q : ℚ) → value_at (changed_at v q a) (isolated v f) ≡ value_at a (isolated v f)
  unchanged a q =
      value_at-isolated (changed_at v q a)
      ∙ ap₂ (λ p w. p -ℚ inv_ℚ k *ℚ w) (changed-there a v v q refl) (changed-value a v q f)
      ∙ ring (q ∷ inv_ℚ k ∷ value_at a f ∷ k ∷ a v ∷ [])
      (var 0 ⊕ minus (var 1 ⊗ (var 2 ⊕ var 3 ⊗ (var 0 ⊕ minus (var 4)))))
      (var 0 ⊕ minus (var 1 ⊗ var 2 ⊕ (var 3 ⊗ var 1) ⊗ (var 0 ⊕ minus (var 4)))) refl
      ∙ ap (λ w. q -ℚ (inv_ℚ k *ℚ value_at a f +ℚ w *ℚ (q -ℚ a v))) (times_inverse k n)
      ∙ ring (q ∷ (inv_ℚ k *ℚ value_at a f) ∷ a v ∷ [])
      (var 0 ⊕ minus (var 1 ⊕ int (pos 1) ⊗ (var 0 ⊕ minus (var 2)))) (var 2 ⊕ minus (var 1)) refl
      ∙ sym (value_at-isolated a)

  pub isolated-depends : (order : List ℕ) → DependsOn (v ∷ order) f → DependsOn order (isolated v f)
  isolated-depends order h a b e =
      sym (unchanged a (b v))
      ∙ value_at-isolated (changed_at v (b v) a)
      ∙ ap₂ (λ p w. p -ℚ inv_ℚ k *ℚ w) (changed-there a v v (b v) refl) (h (changed_at v (b v) a) b both)
      ∙ sym (value_at-isolated b)
    where
      both : (x : ℕ) → Has x (v ∷ order) → changed_at v (b v) a x ≡ b x
      both x i = changed-alike v order a b (b v) (b v) refl e x i ∙ changed-nothing b v (b v) refl x

-- ---- a list without the variable

abbrev pub eliminated : ℕ → List ℕ → Linear → List Constraint → List Constraint
eliminated v order g l = map (λ c. equal_zero (listed_form order (substituted_form v g c.form))) l

pub eliminated-equations : (v : ℕ) (order : List ℕ) (g : Linear) (l : List Constraint) → AreEquations (eliminated v order g l)
eliminated-equations v order g [] = tt
eliminated-equations v order g (c ∷ l) = (refl, eliminated-equations v order g l)

pub eliminated-known : (v : ℕ) (order : List ℕ) (g : Linear) (l : List Constraint) → MentionsOnly order (eliminated v order g l)
eliminated-known v order g [] x m = absurd m
eliminated-known v order g (c ∷ l) x (inl m) = (listed-mentions (λ y. factor_of y (substituted_form v g c.form).products) order x m).0
eliminated-known v order g (c ∷ l) x (inr m) = eliminated-known v order g l x m

-- constraints over the order have forms that depend on it alone
depends-first : (order : List ℕ) (c : Constraint) (l : List Constraint) → MentionsOnly order (c ∷ l) → DependsOn order c.form
depends-first order c l h a b e = value_at-agrees a b c.form (λ x m. e x (h x (inl m)))

module _ (v : ℕ) (order : List ℕ) (d : AreDistinct order) (g : Linear) (over : DependsOn order g) where
  eliminated-value : (a : ℕ → ℚ) (f : Linear) → DependsOn (v ∷ order) f → value_at a (listed_form order (substituted_form v g f)) ≡ value_at (changed_at v (value_at a g) a) f
  eliminated-value a f h = value_at-listed_form a order (substituted_form v g f) d depends ∙ value_at-substituted_form a v g f
    where
      depends : DependsOn order (substituted_form v g f)
      depends p q e =
          value_at-substituted_form p v g f
          ∙ h (changed_at v (value_at p g) p) (changed_at v (value_at q g) q) (changed-alike v order p q (value_at p g) (value_at q g) (over p q e) e)
          ∙ sym (value_at-substituted_form q v g f)

  -- the list where v has the form's value
  pub eliminated-says : (a : ℕ → ℚ) (l : List Constraint) → AreEquations l → MentionsOnly (v ∷ order) l → Satisfies a (eliminated v order g l) ↔ Satisfies (changed_at v (value_at a g) a) l
  eliminated-says a [] es h = ((λ s. tt), (λ s. tt))
  eliminated-says a (c ∷ l) es h =
      let e = eliminated-value a c.form (depends-first (v ∷ order) c l h) in
      let rest = eliminated-says a l es.1 (λ x m. h x (inr m)) in (
        (λ s. (subst (λ r. Meets r (value_at (changed_at v (value_at a g) a) c.form)) (sym es.0) (sym e ∙ s.0), rest.0 s.1)),
        (λ s. (e ∙ subst (λ r. Meets r (value_at (changed_at v (value_at a g) a) c.form)) es.0 s.0, rest.1 s.1)),
      )

  -- so it says with v = g what the list says
  pub pivot-says : (a : ℕ → ℚ) (l : List Constraint) → AreEquations l → MentionsOnly (v ∷ order) l → a v ≡ value_at a g → Satisfies a (eliminated v order g l) ↔ Satisfies a l
  pivot-says a l es h e =
      let says = eliminated-says a l es h in
      let same = changed-nothing a v (value_at a g) e in (
        (λ s. satisfies_agrees (changed_at v (value_at a g) a) a l (λ x m. same x) (says.0 s)),
        (λ s. says.1 (satisfies_agrees a (changed_at v (value_at a g) a) l (λ x m. sym (same x)) s)),
      )

-- ---- whether an equation has the variable

-- a form over the variables that solutions make zero, and that has a factor other than zero at v
pub record Pivot (v : ℕ) (order : List ℕ) (l : List Constraint) : Type 0 where
  pub form : Linear
  pub nonzero : factor_of v form.products ≢ 0ℚ
  pub depends : DependsOn (v ∷ order) form
  pub zero : (a : ℕ → ℚ) → Satisfies a l → value_at a form ≡ 0ℚ

-- no constraint's form has one
abbrev pub Lacks : ℕ → List Constraint → Type 0
Lacks v [] = ⊤
Lacks v (c ∷ l) = (factor_of v c.form.products ≡ 0ℚ) × Lacks v l

pub pivot_or_not : (v : ℕ) (order : List ℕ) (l : List Constraint) → AreEquations l → MentionsOnly (v ∷ order) l → Pivot v order l ⊎ Lacks v l
pivot_or_not v order [] es h = inr tt
pivot_or_not v order (c ∷ l) es h = go (zero_or_not (factor_of v c.form.products)) (pivot_or_not v order l es.1 (λ x m. h x (inr m)))
  where
    go : ((factor_of v c.form.products ≡ 0ℚ) ⊎ (factor_of v c.form.products ≢ 0ℚ)) → Pivot v order l ⊎ Lacks v l → Pivot v order (c ∷ l) ⊎ Lacks v (c ∷ l)
    go (inr n) r = inl (record {
      form = c.form;
      nonzero = n;
      depends = depends-first (v ∷ order) c l h;
      zero = λ a s. subst (λ r. Meets r (value_at a c.form)) es.0 s.0;
    })
    go (inl z) (inl p) = inl (record { form = p.form; nonzero = p.nonzero; depends = p.depends; zero = λ a s. p.zero a s.1 })
    go (inl z) (inr r) = inr (z, r)

-- a list that lacks v says the same at any value of it
pub lacking-says : (a : ℕ → ℚ) (v : ℕ) (q : ℚ) (l : List Constraint) → Lacks v l → Satisfies (changed_at v q a) l ↔ Satisfies a l
lacking-says a v q [] n = ((λ s. tt), (λ s. tt))
lacking-says a v q (c ∷ l) n =
    let rest = lacking-says a v q l n.1 in
    let e : value_at (changed_at v q a) c.form ≡ value_at a c.form =
    changed-value a v q c.form ∙ ap (λ k. value_at a c.form +ℚ k *ℚ (q -ℚ a v)) n.0
    ∙ ring (value_at a c.form ∷ (q -ℚ a v) ∷ []) (var 0 ⊕ int (pos 0) ⊗ var 1) (var 0) refl in (
      (λ s. (subst (Meets c.relation) e s.0, rest.0 s.1)),
      (λ s. (subst (Meets c.relation) (sym e) s.0, rest.1 s.1)),
    )
