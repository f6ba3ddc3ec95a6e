-- Equations over some variables have no solution, or a solved form in any order of these variables.
use Rattle.std.proofs.Common.{◌≡◌, ◌≢◌, ◌↔◌, ◌⊎◌, ℕ, List, [], ◌∷◌, Bool, true, false, cond, arith, Option, Some, None, refl, ap, ap₂, sym, subst, ◌∙◌, inl, inr}
use Rattle.std.specs.Prelude.{◌==◌}
use Rattle.spec_numbers.specs.Rational.{ℚ, 0ℚ, ◌+ℚ◌, ◌*ℚ◌}
use Rattle.spec_numbers.specs.Sums.{Monomial, Mentions, sum_at, unit, factor_of}
use Rattle.spec_numbers.proofs.Ring.{var, ◌⊕◌}
use Rattle.spec_numbers.proofs.RationalLemmas.{ring}
use Rattle.spec_numbers.proofs.Sign.{zero_or_not}
use Rattle.spec_numbers.proofs.Sums.{sum_at-nowhere, factor_of-is, unit-other}
use Rattle.spec_linear.specs.Form.{Linear, value_at, constant_form, variable_form, sum_form, scaled_form}
use Rattle.spec_linear.specs.Solution.{Constraint, Meets, Unsolvable, number, AreEquations, Satisfies, Has, MentionsOnly}
use Rattle.spec_linear.proofs.Values.{value_at-variable_form, value_at-sum_form, value_at-scaled_form}
use Rattle.spec_numbers.proofs.Tests.{nat_eq-same}
use Rattle.spec_linear.proofs.Points.{solves_same}
use Rattle.spec_linear.proofs.Denominators.{satisfies_agrees}
use Rattle.spec_linear.specs.Echelon.{AreDistinct, IsBefore, IsOver, variables}
use Rattle.spec_linear.specs.SolvedForm.{Agrees, IsSolvedForm}
use Rattle.spec_linear.proofs.Orders.{in_order-has, mentions-has}
use Rattle.spec_linear.proofs.Filled.{value_at-agrees, filled, filled_by}
use Rattle.spec_linear.proofs.SameProducts.{cancelled}
use Rattle.spec_linear.proofs.Listed.{DependsOn, listed_form, listed-ordered, listed-nonzero, listed-mentions, value_at-listed_form}
use Rattle.spec_linear.proofs.Elimination.{Pivot, Lacks, isolated, zero-solves, isolated-depends, eliminated, eliminated-equations, eliminated-known, eliminated-says, pivot-says, pivot_or_not, lacking-says}

-- ---- a form with the forms of variables in their places

abbrev form_in : Option Linear → ℕ → Linear
form_in None x = variable_form x
form_in (Some f) x = f

abbrev put_in : (ℕ → Option Linear) → ℚ → List Monomial → Linear
put_in solved c [] = constant_form c
put_in solved c (m ∷ s) = sum_form (scaled_form m.factor (form_in (solved m.variable) m.variable)) (put_in solved c s)

value_at-form_in : (a : ℕ → ℚ) (o : Option Linear) (x : ℕ) → value_at a (form_in o x) ≡ filled_by o a x
value_at-form_in a None x = value_at-variable_form a x
value_at-form_in a (Some f) x = refl

value_at-put_in : (solved : ℕ → Option Linear) (a : ℕ → ℚ) (c : ℚ) (s : List Monomial) → value_at a (put_in solved c s) ≡ c +ℚ sum_at (filled solved a) s
value_at-put_in solved a c [] = refl
value_at-put_in solved a c (m ∷ s) =
    let f : Linear = form_in (solved m.variable) m.variable in
    value_at-sum_form a (scaled_form m.factor f) (put_in solved c s)
    ∙ ap₂ (λ p q. p +ℚ q)
    (value_at-scaled_form a m.factor f ∙ ap (λ r. m.factor *ℚ r) (value_at-form_in a (solved m.variable) m.variable))
    (value_at-put_in solved a c s)
    ∙ ring ((m.factor *ℚ filled solved a m.variable) ∷ c ∷ sum_at (filled solved a) s ∷ []) (var 0 ⊕ (var 1 ⊕ var 2)) (var 1 ⊕ (var 0 ⊕ var 2)) refl

module _ (order : List ℕ) (l : List Constraint) (solved : ℕ → Option Linear) (s : IsSolvedForm order l solved) where
  in_order : (x : ℕ) (f : Linear) → solved x ≡ Some f → Has x order
  in_order x f e = in_order-has order (x ∷ variables f.products) (s.before x f e).ordered x (inl refl)

  over_order : (x : ℕ) (f : Linear) → solved x ≡ Some f → IsOver order f
  over_order x f e y m = in_order-has order (x ∷ variables f.products) (s.before x f e).ordered y (inr (mentions-has y f.products m))

  -- what fills in depends on the order alone
  filled-alike : (a b : ℕ → ℚ) → ((x : ℕ) → Has x order → a x ≡ b x) → (x : ℕ) → Has x order → filled solved a x ≡ filled solved b x
  filled-alike a b e x k = go (solved x) refl
    where
      go : (o : Option Linear) → solved x ≡ o → filled_by o a x ≡ filled_by o b x
      go None n = e x k
      go (Some f) w = value_at-agrees a b f (λ y m. e y (over_order x f w y m))

  -- it changes nothing where each variable has its form's value
  filled-nothing : (a : ℕ → ℚ) → Agrees a solved → (x : ℕ) → filled solved a x ≡ a x
  filled-nothing a g x = go (solved x) refl
    where
      go : (o : Option Linear) → solved x ≡ o → filled_by o a x ≡ a x
      go None n = refl
      go (Some f) w = sym (g x f w)

  -- and does not depend on a variable that is solved for
  filled-unit : (y : ℕ) (f : Linear) → solved y ≡ Some f → (x : ℕ) → filled solved (unit y) x ≡ filled solved (λ z. 0ℚ) x
  filled-unit y f w x = go (solved x) refl
    where
      not_free : (z : ℕ) → solved z ≡ None → y ≡ z → ⊥
      not_free z n e = let never : ◌≡◌ {A = Option Linear} None (Some f) = sym n ∙ ap solved (sym e) ∙ w in cc

      go : (o : Option Linear) → solved x ≡ o → filled_by o (unit y) x ≡ filled_by o (λ z. 0ℚ) x
      go None n = unit-other y x (not_free x n)
      go (Some g) e = value_at-agrees (unit y) (λ z. 0ℚ) g (λ z m. unit-other y z (not_free z (s.free x z g e m)))

  module _ (g : Linear) (over : DependsOn order g) where
    abbrev filled_form : Linear
    filled_form = put_in solved g.constant g.products

    filled_form-depends : DependsOn order filled_form
    filled_form-depends a b e =
        value_at-put_in solved a g.constant g.products
        ∙ over (filled solved a) (filled solved b) (filled-alike a b e)
        ∙ sym (value_at-put_in solved b g.constant g.products)

    -- the form's value where the variables that are solved for have theirs
    own-value : (a : ℕ → ℚ) → value_at a (listed_form order filled_form) ≡ value_at (filled solved a) g
    own-value a = value_at-listed_form a order filled_form s.distinct filled_form-depends ∙ value_at-put_in solved a g.constant g.products

    filled_form-lacks : (y : ℕ) (f : Linear) → solved y ≡ Some f → factor_of y filled_form.products ≡ 0ℚ
    filled_form-lacks y f w =
        factor_of-is y filled_form.products
        ∙ cancelled filled_form.constant (sum_at (unit y) filled_form.products) (sum_at (λ z. 0ℚ) filled_form.products)
        (value_at-put_in solved (unit y) g.constant g.products
        ∙ value_at-agrees (filled solved (unit y)) (filled solved (λ z. 0ℚ)) g (λ x m. filled-unit y f w x)
        ∙ sym (value_at-put_in solved (λ z. 0ℚ) g.constant g.products))
        ∙ sum_at-nowhere filled_form.products

    -- so its variables are free
    own-free : (y : ℕ) → factor_of y filled_form.products ≢ 0ℚ → solved y ≡ None
    own-free y n = go (solved y) refl
      where
        go : (o : Option Linear) → solved y ≡ o → solved y ≡ None
        go None e = e
        go (Some f) e = absurd (n (filled_form-lacks y f e))

-- ---- one variable more, which an equation is solved for

module _ (v : ℕ) (order : List ℕ) (d : AreDistinct (v ∷ order)) (l : List Constraint) (es : AreEquations l) (h : MentionsOnly (v ∷ order) l) (p : Pivot v order l) where
  abbrev pivot_form : Linear
  pivot_form = isolated v p.form

  over : DependsOn order pivot_form
  over = isolated-depends v p.form p.nonzero order p.depends

  abbrev others : List Constraint
  others = eliminated v order pivot_form l

  pivot-solves : (a : ℕ → ℚ) → Satisfies a l → a v ≡ value_at a pivot_form
  pivot-solves a sat = zero-solves v p.form p.nonzero a (p.zero a sat)

  others-say : (a : ℕ → ℚ) → a v ≡ value_at a pivot_form → Satisfies a others ↔ Satisfies a l
  others-say a e = pivot-says v order d.1 pivot_form over a l es h e

  module _ (solved : ℕ → Option Linear) (s : IsSolvedForm order others solved) where
    abbrev own : Linear
    own = listed_form order (put_in solved pivot_form.constant pivot_form.products)

    abbrev own_factor : ℕ → ℚ
    own_factor x = factor_of x (put_in solved pivot_form.constant pivot_form.products).products

    abbrev with_own : ℕ → Option Linear
    with_own x = cond (v == x) (Some own) (solved x)

    with_own-other : (x : ℕ) → Has x order → with_own x ≡ solved x
    with_own-other x k = go (v == x) refl
      where
        go : (b : Bool) → (v == x) ≡ b → cond b (Some own) (solved x) ≡ solved x
        go true w = absurd (d.0 (subst (λ z. Has z order) (sym (nat_eq-same v x w)) k))
        go false w = refl

    with_own-self : with_own v ≡ Some own
    with_own-self = let w : (v == v) ≡ true = grind arith in ap (λ (b : Bool). cond b (Some own) (solved v)) w

    -- what holds of v and of the others
    each_form : (P : ℕ → Linear → Type 0) → P v own → ((x : ℕ) (f : Linear) → solved x ≡ Some f → P x f) → (x : ℕ) (f : Linear) → with_own x ≡ Some f → P x f
    each_form P first rest x f e = go (v == x) refl e
      where
        go : (b : Bool) → (v == x) ≡ b → cond b (Some own) (solved x) ≡ Some f → P x f
        go true w k = let same : own ≡ f = cc in subst (P x) same (subst (λ y. P y own) (nat_eq-same v x w) first)
        go false w k = rest x f k

    own-agrees : (a : ℕ → ℚ) → Agrees a solved → value_at a own ≡ value_at a pivot_form
    own-agrees a g = own-value order others solved s pivot_form over a ∙ value_at-agrees (filled solved a) a pivot_form (λ x m. filled-nothing order others solved s a g x)

    inner : (a : ℕ → ℚ) → Agrees a with_own → Agrees a solved
    inner a g x f e = g x f (with_own-other x (in_order order others solved s x f e) ∙ e)

    pub with_pivot : IsSolvedForm (v ∷ order) l with_own
    with_pivot = record {
      distinct = d;
      known = h;
      before = each_form (λ x f. IsBefore (v ∷ order) x f.products)
          (record { ordered = inl (refl, listed-ordered own_factor order); nonzero = listed-nonzero own_factor order })
          (λ x f e. record { ordered = inr (s.before x f e).ordered; nonzero = (s.before x f e).nonzero });
      free = λ x y f e. each_form (λ z k. Mentions y k.products → with_own y ≡ None)
          (λ m. let k = listed-mentions own_factor order y m in with_own-other y k.0 ∙ own-free order others solved s pivot_form over y k.1)
          (λ z k w m. with_own-other y (over_order order others solved s z k w y m) ∙ s.free z y k w m) x f e;
      same = λ a. (
        (λ sat.
            let e = pivot-solves a sat in
            let g = (s.same a).0 ((others-say a e).1 sat) in
            each_form (λ x f. a x ≡ value_at a f) (e ∙ sym (own-agrees a g)) g),
        (λ g. (others-say a (g v own with_own-self ∙ own-agrees a (inner a g))).0 ((s.same a).1 (inner a g))),
      );
    }

-- ---- recursion over the order

abbrev HasSolvedForm : List ℕ → List Constraint → Type 0
HasSolvedForm order l = (solved : ℕ → Option Linear) × IsSolvedForm order l solved

-- a list is unsolvable, if another is that holds wherever it holds
unsolvable-back : (l k : List Constraint) → ((a : ℕ → ℚ) → Satisfies a l → Satisfies a k) → Unsolvable k → Unsolvable l
unsolvable-back l k to n p sol = n p ((solves_same p k).1 (to (number p) ((solves_same p l).0 sol)))

-- in an order of no variables each form is a constant
zero_satisfies : (l : List Constraint) → AreEquations l → Satisfies (λ x. 0ℚ) l ⊎ (Satisfies (λ x. 0ℚ) l → ⊥)
zero_satisfies [] es = inl tt
zero_satisfies (c ∷ l) es = go (zero_or_not (value_at (λ x. 0ℚ) c.form)) (zero_satisfies l es.1)
  where
    go : ((value_at (λ x. 0ℚ) c.form ≡ 0ℚ) ⊎ (value_at (λ x. 0ℚ) c.form ≢ 0ℚ)) → Satisfies (λ x. 0ℚ) l ⊎ (Satisfies (λ x. 0ℚ) l → ⊥)
        → Satisfies (λ x. 0ℚ) (c ∷ l) ⊎ (Satisfies (λ x. 0ℚ) (c ∷ l) → ⊥)
    go (inr n) r = inr (λ s. n (subst (λ r. Meets r (value_at (λ x. 0ℚ) c.form)) es.0 s.0))
    go (inl z) (inr n) = inr (λ s. n s.1)
    go (inl z) (inl s) = inl (subst (λ r. Meets r (value_at (λ x. 0ℚ) c.form)) (sym es.0) z, s)

of_constants : (l : List Constraint) → AreEquations l → MentionsOnly [] l → Unsolvable l ⊎ HasSolvedForm [] l
of_constants l es h = go (zero_satisfies l es)
  where
    none_some : {g : Linear} → None ≡ Some g → ⊥
    none_some {g} e = cc

    go : Satisfies (λ x. 0ℚ) l ⊎ (Satisfies (λ x. 0ℚ) l → ⊥) → Unsolvable l ⊎ HasSolvedForm [] l
    go (inr n) = inl (λ p sol. n (satisfies_agrees (number p) (λ x. 0ℚ) l (λ x m. absurd (h x m)) ((solves_same p l).0 sol)))
    go (inl s) = inr (
      (λ x. None),
      record {
        distinct = tt;
        known = h;
        before = λ x f e. absurd (none_some e);
        free = λ x y f e m. refl;
        same = λ a. ((λ sat x f e. absurd (none_some e)), (λ g. satisfies_agrees (λ x. 0ℚ) a l (λ x m. absurd (h x m)) s));
      },
    )

module _ (v : ℕ) (order : List ℕ) (d : AreDistinct (v ∷ order)) (l : List Constraint) (es : AreEquations l) (h : MentionsOnly (v ∷ order) l) where
  by_pivot : (p : Pivot v order l) → Unsolvable (others v order d l es h p) ⊎ HasSolvedForm order (others v order d l es h p) → Unsolvable l ⊎ HasSolvedForm (v ∷ order) l
  by_pivot p (inl n) = inl (unsolvable-back l (others v order d l es h p) (λ a sat. (others-say v order d l es h p a (pivot-solves v order d l es h p a sat)).1 sat) n)
  by_pivot p (inr r) = inr (with_own v order d l es h p r.0 r.1, with_pivot v order d l es h p r.0 r.1)

  -- no equation has v: 0 in its place changes nothing
  abbrev without_v : List Constraint
  without_v = eliminated v order (constant_form 0ℚ) l

  without_v-says : Lacks v l → (a : ℕ → ℚ) → Satisfies a without_v ↔ Satisfies a l
  without_v-says n a =
      let e = eliminated-says v order d.1 (constant_form 0ℚ) (λ p q w. refl) a l es h in
      let k = lacking-says a v (value_at a (constant_form 0ℚ)) l n in
      ((λ s. k.0 (e.0 s)), (λ s. e.1 (k.1 s)))

  without_pivot : Lacks v l → Unsolvable without_v ⊎ HasSolvedForm order without_v → Unsolvable l ⊎ HasSolvedForm (v ∷ order) l
  without_pivot n (inl u) = inl (unsolvable-back l without_v (λ a sat. (without_v-says n a).1 sat) u)
  without_pivot n (inr r) = inr (
    r.0,
    record {
      distinct = d;
      known = h;
      before = λ x f e. record { ordered = inr (r.1.before x f e).ordered; nonzero = (r.1.before x f e).nonzero };
      free = r.1.free;
      same = λ a. ((λ sat. (r.1.same a).0 ((without_v-says n a).1 sat)), (λ g. (without_v-says n a).0 ((r.1.same a).1 g)));
    },
  )

  one_more : ((k : List Constraint) → AreEquations k → MentionsOnly order k → Unsolvable k ⊎ HasSolvedForm order k) → Pivot v order l ⊎ Lacks v l → Unsolvable l ⊎ HasSolvedForm (v ∷ order) l
  one_more rest (inl p) = let g : Linear = isolated v p.form in by_pivot p (rest (eliminated v order g l) (eliminated-equations v order g l) (eliminated-known v order g l))
  one_more rest (inr n) = let g : Linear = constant_form 0ℚ in without_pivot n (rest (eliminated v order g l) (eliminated-equations v order g l) (eliminated-known v order g l))

pub solved_form_or_none : (order : List ℕ) (l : List Constraint) → AreDistinct order → AreEquations l → MentionsOnly order l → Unsolvable l ⊎ ((solved : ℕ → Option Linear) × IsSolvedForm order l solved)
solved_form_or_none [] l d es h = of_constants l es h
solved_form_or_none (v ∷ order) l d es h = one_more v order d l es h (λ k. solved_form_or_none order k d.1) (pivot_or_not v order l es h)
